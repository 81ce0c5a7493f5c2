use Rattle.report_reason.proofs.Shown as lemmas
use Rattle.report_reason.proofs.laws.cases_prove.Goals as goal

pub returns-clause-shown : goal.returns-clause-shown
returns-clause-shown c = lemmas.shown

pub returns-clause-none : goal.returns-clause-none
returns-clause-none c = lemmas.none_proves

pub returns-clause-optimal : goal.returns-clause-optimal
returns-clause-optimal c = lemmas.optimal_shown
