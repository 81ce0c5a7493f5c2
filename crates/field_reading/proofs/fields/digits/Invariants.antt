use Rattle.std.proofs.Common.{◌≡◌, ◌<◌, ◌^◌, length}
use Rattle.field_reading.specs.Reading.{digits_at}
use Rattle.field_reading.proofs.fields.digits.Given as goal

abbrev pub invariant-loop-rest : goal.invariant-loop-rest
invariant-loop-rest l = (digits_at l.most l.value l.rest ≡ digits_at l.most l.n l.bytes) × (l.value < 2 ^ 32)

abbrev pub decreases-loop-rest : goal.decreases-loop-rest
decreases-loop-rest l = length l.rest
