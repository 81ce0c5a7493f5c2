use Rattle.cert_checker.proofs.nodes.split_flaw.Given as goal

abbrev pub ghost-node_reason : goal.ghost-node_reason
ghost-node_reason g a = g.single
