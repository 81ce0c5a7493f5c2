use Rattle.std.proofs.Common.{◌≡◌, ◌≤◌, length, drop}
use Rattle.field_reading.specs.Reading.{kind_at}
use Rattle.field_reading.proofs.Loops.{at_most}
use Rattle.field_reading.proofs.fields.kind.Given as goal

abbrev pub invariant-loop-kind : goal.invariant-loop-kind
invariant-loop-kind g l =
    (at_most l.left (kind_at g.K.Worded.word (drop l.kind-index l.kinds) l.bytes) ≡ kind_at g.K.Worded.word l.kinds l.bytes) × (l.left ≤ length l.bytes)
