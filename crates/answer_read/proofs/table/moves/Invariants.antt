use Rattle.std.proofs.Common.{◌≡◌, ◌-◌}
use Rattle.field_reading.specs.Reading.{items_at}
use Rattle.answer_read.specs.Tables.{move_at, moves_at}
use Rattle.field_reading.proofs.Loops.{fronts}
use Rattle.answer_read.proofs.table.moves.Given as goal

abbrev pub invariant-loop-number : goal.invariant-loop-number
invariant-loop-number l = fronts l.start.items l.hoist.items (items_at (move_at l.line) l.number (l.count - l.number) l.rest) ≡ moves_at l.line l.bytes
