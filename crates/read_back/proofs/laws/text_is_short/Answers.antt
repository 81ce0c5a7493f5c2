use Rattle.read_back.proofs.Lengths.{text_is_short}
use Rattle.read_back.proofs.laws.text_is_short.Goals as goal

pub returns : goal.returns
returns c = text_is_short
