use Rattle.markup.proofs.Escapes.{nothing_raw}
use Rattle.markup.proofs.laws.nothing_is_raw.Goals as goal

pub returns : goal.returns
returns c = nothing_raw
