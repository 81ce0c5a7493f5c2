use Rattle.longest_path.proofs.ValueLemmas.{is_value_from, from_stays}
use Rattle.longest_path.proofs.laws.round_laws.Goals as goal

pub returns : goal.returns
returns c = record { values = is_value_from; stay = from_stays }
