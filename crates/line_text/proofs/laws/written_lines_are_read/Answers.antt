use Rattle.line_text.proofs.WrittenRead as lemmas
use Rattle.line_text.proofs.laws.written_lines_are_read.Goals as goal

pub returns : goal.returns
returns c = lemmas.written_lines_are_read
