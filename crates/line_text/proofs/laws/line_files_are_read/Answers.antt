use Rattle.line_text.proofs.Documents as lemmas
use Rattle.line_text.proofs.laws.line_files_are_read.Goals as goal

pub returns : goal.returns
returns c = lemmas.line_files_are_read
