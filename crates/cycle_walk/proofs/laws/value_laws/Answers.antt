use Rattle.cycle_walk.proofs.ValueLemmas.{is_walk_value}
use Rattle.cycle_walk.proofs.LawLemmas.{feasible_where_still, stopping_is_exact}
use Rattle.cycle_walk.proofs.laws.value_laws.Goals as goal

pub returns : goal.returns
returns c = record { values = is_walk_value; feasible = feasible_where_still; stopping = stopping_is_exact }
