use Rattle.read_back.proofs.Back.{text_is_read}
use Rattle.read_back.proofs.laws.text_is_read.Goals as goal

pub returns : goal.returns
returns c = text_is_read
