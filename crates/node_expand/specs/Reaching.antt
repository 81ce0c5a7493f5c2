-- Which move no hoist may reach, found once for a line.
use Rattle.std.specs.Prelude.{[], IsTrue, MatchOption}
use Rattle.hoist_base.specs.LineData.{LineData, IsSingle}
use Rattle.node_expand.specs.Expansion.{NoneStuck, IsFirstStuck}
use Rattle.node_expand.specs.declared.stuck.Reach.{Reach}

-- whether every stage has one tank, and the least move that no hoist may reach before any decision
pub record IsReachOf (l : LineData) (r : Reach) : Type 0 where
  pub single : IsTrue r.single → IsSingle l
  pub stuck : MatchOption r.stuck (NoneStuck l []) (λ m. IsFirstStuck l [] m)
