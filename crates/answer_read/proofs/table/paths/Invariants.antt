use Rattle.std.proofs.Common.{◌≡◌, ◌-◌}
use Rattle.field_reading.specs.Reading.{items_at}
use Rattle.answer_read.specs.Tables.{path_at, paths_at}
use Rattle.field_reading.proofs.Loops.{with_joined}
use Rattle.answer_read.proofs.table.paths.Given as goal

abbrev pub invariant-loop-h : goal.invariant-loop-h
invariant-loop-h l = with_joined l.path.items (items_at (path_at l.period) l.h (l.hoists - l.h) l.rest) ≡ paths_at l.hoists l.period l.bytes
