use Rattle.hoist_base.specs.LineData.{is_single}
use Rattle.cert_checker.proofs.TreeLemmas.{IsOnWay}
use Rattle.cert_checker.proofs.PassLemmas.{AreKept}
use Rattle.cert_checker.proofs.tree.first_flawed.Given as goal

abbrev pub ghost-split_flaw : goal.ghost-split_flaw
ghost-split_flaw g a = is_single a.line.now

abbrev pub invariant-loop-number : goal.invariant-loop-number
invariant-loop-number g l =
    IsOnWay l.line l.tree l.number l.at l.path.items l.waiting.items × AreKept l.line l.tree l.bound l.number l.leaves
