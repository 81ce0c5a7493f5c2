use Rattle.line_gen.proofs.ValidLaws.{generated_single}
use Rattle.line_gen.proofs.generator.line_of.Goals as goal

pub returns-in_err-choices-clause-single : goal.returns-in_err-choices-clause-single
returns-in_err-choices-clause-single c = generated_single c.args.seed

pub returns-in_err-tanks_of-clause-single : goal.returns-in_err-tanks_of-clause-single
returns-in_err-tanks_of-clause-single c = generated_single c.args.seed

pub returns-in_err-stages_of-clause-single : goal.returns-in_err-stages_of-clause-single
returns-in_err-stages_of-clause-single c = generated_single c.args.seed

pub returns-clause-single : goal.returns-clause-single
returns-clause-single c = generated_single c.args.seed
