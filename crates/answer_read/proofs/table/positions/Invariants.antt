use Rattle.std.proofs.Common.{◌≡◌, ◌-◌}
use Rattle.field_reading.specs.Reading.{items_at, with_front}
use Rattle.answer_read.specs.Tables.{position_at}
use Rattle.answer_read.proofs.table.positions.Given as goal

abbrev pub invariant-loop-t : goal.invariant-loop-t
invariant-loop-t l =
    with_front l.path.items (items_at (λ t. position_at) l.t (l.count - l.t) l.rest) ≡ with_front l.fn.path.items
    (items_at (λ t. position_at) 0 l.count l.bytes)
