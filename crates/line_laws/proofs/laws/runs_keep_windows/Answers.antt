use Rattle.line_laws.proofs.RunLemmas as lemmas
use Rattle.line_laws.proofs.laws.runs_keep_windows.Goals as goal

pub returns : goal.returns
returns c = lemmas.runs_keep_windows
