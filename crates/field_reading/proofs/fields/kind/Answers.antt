use Rattle.std.proofs.Common.{arith}
use Rattle.field_reading.proofs.Loops.{kind_begins, kind_ends}
use Rattle.field_reading.proofs.fields.kind.Goals as goal

pub loop-kind-init : goal.loop-kind-init
loop-kind-init g c = (kind_begins g.K.Worded.word c.args.kinds.now c.args.bytes.now, omega arith)

pub returns : goal.returns
returns g c =
    kind_ends g.K.Worded.word c.args.kinds.now c.args.bytes.now c.loop-kind.kind-index c.loop-kind.left _ c.loop-kind-test.false c.loop-kind.invariant.1
    c.loop-kind.invariant.0
