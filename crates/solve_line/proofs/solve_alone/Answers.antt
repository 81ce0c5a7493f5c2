use Rattle.solve_line.proofs.solve_alone.Goals as goal

pub returns-clause-valid : goal.returns-clause-valid
returns-clause-valid c = (c.in_ok-answer.ensures c.args.budget c.requires c.in_ok-outcome.ensures).valid

pub returns-clause-solution : goal.returns-clause-solution
returns-clause-solution c = (c.in_ok-answer.ensures c.args.budget c.requires c.in_ok-outcome.ensures).solution

pub returns-clause-claim : goal.returns-clause-claim
returns-clause-claim c = (c.in_ok-answer.ensures c.args.budget c.requires c.in_ok-outcome.ensures).claim

pub returns-clause-writable : goal.returns-clause-writable
returns-clause-writable c = (c.in_ok-answer.ensures c.args.budget c.requires c.in_ok-outcome.ensures).writable

pub returns-clause-accepted : goal.returns-clause-accepted
returns-clause-accepted c = (c.in_ok-answer.ensures c.args.budget c.requires c.in_ok-outcome.ensures).accepted

pub returns-clause-no_reason : goal.returns-clause-no_reason
returns-clause-no_reason c = (c.in_ok-answer.ensures c.args.budget c.requires c.in_ok-outcome.ensures).no_reason
