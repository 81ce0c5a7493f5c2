use Rattle.solve_line.proofs.solve.Goals as goal

pub returns-clause-solution : goal.returns-clause-solution
returns-clause-solution g c = (c.in_ok-answer.ensures c.args.budget c.requires.budget c.in_ok-outcome.ensures).solution

pub returns-clause-claim : goal.returns-clause-claim
returns-clause-claim g c = (c.in_ok-answer.ensures c.args.budget c.requires.budget c.in_ok-outcome.ensures).claim

pub returns-clause-writable : goal.returns-clause-writable
returns-clause-writable g c = (c.in_ok-answer.ensures c.args.budget c.requires.budget c.in_ok-outcome.ensures).writable

pub returns-clause-accepted : goal.returns-clause-accepted
returns-clause-accepted g c = (c.in_ok-answer.ensures c.args.budget c.requires.budget c.in_ok-outcome.ensures).accepted

pub returns-clause-no_reason : goal.returns-clause-no_reason
returns-clause-no_reason g c = (c.in_ok-answer.ensures c.args.budget c.requires.budget c.in_ok-outcome.ensures).no_reason

pub returns-clause-tree : goal.returns-clause-tree
returns-clause-tree g c = (c.in_ok-answer.ensures c.args.budget c.requires.budget c.in_ok-outcome.ensures).tree

pub returns-clause-spent : goal.returns-clause-spent
returns-clause-spent g c = (c.in_ok-answer.ensures c.args.budget c.requires.budget c.in_ok-outcome.ensures).spent
