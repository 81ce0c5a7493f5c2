use Rattle.std.proofs.Common.{◌≡◌, ◌-◌}
use Rattle.field_reading.specs.Reading.{items_at, with_front}
use Rattle.answer_read.specs.Tables.{choice_at, choices_at}
use Rattle.answer_read.proofs.table.choices.Given as goal

abbrev pub invariant-loop-number : goal.invariant-loop-number
invariant-loop-number l = with_front l.tanks.items (items_at (choice_at l.line) l.number (l.count - l.number) l.rest) ≡ choices_at l.line l.bytes
