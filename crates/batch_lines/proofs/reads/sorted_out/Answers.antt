use Rattle.batch_lines.proofs.PartLemmas.{ready_more, refused_more}
use Rattle.batch_lines.proofs.reads.sorted_out.Goals as goal

pub loop-read-preserved-in-Continue-branch-4 : goal.loop-read-preserved-in-Continue-branch-4
loop-read-preserved-in-Continue-branch-4 c =
    rw (c.in_ok-push-in-Ready.ensures.items, c.in_ok-push-in-Ready-2.ensures.items, c.in-Ready.is)
    (ready_more c.loop-read.yielded c.in-Ready.line c.loop-read.lines.items c.loop-read.whys.items c.loop-read.invariant.0 c.loop-read.invariant.1)

pub loop-read-preserved : goal.loop-read-preserved
loop-read-preserved c =
    rw (c.in_ok-push-in-Refused.ensures.items, c.in-Refused.is)
    (refused_more c.loop-read.yielded c.in-Refused.why c.loop-read.lines.items c.loop-read.whys.items c.loop-read.invariant.0 c.loop-read.invariant.1)
