use Rattle.hoist_base.specs.LineData.{is_single}
use Rattle.cert_checker.proofs.passed.leaf_reason.Given as goal

abbrev pub ghost-node_reason : goal.ghost-node_reason
ghost-node_reason a = is_single a.line.now
