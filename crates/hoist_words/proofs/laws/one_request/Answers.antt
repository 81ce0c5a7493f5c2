use Rattle.hoist_words.proofs.RequestLemmas.{one_asked}
use Rattle.hoist_words.proofs.laws.one_request.Goals as goal

pub returns : goal.returns
returns c = one_asked
