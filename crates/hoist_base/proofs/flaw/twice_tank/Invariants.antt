use Rattle.std.proofs.Common.{◌≡◌, length}
use Rattle.hoist_base.specs.PartsData.{data_of}
use Rattle.hoist_base.specs.Firsts.{first_some, numbers_from}
use Rattle.hoist_base.specs.Flaws.{twice_tank_at}
use Rattle.hoist_base.proofs.flaw.twice_tank.Given as goal

abbrev pub invariant-loop-k : goal.invariant-loop-k
invariant-loop-k l =
    first_some (twice_tank_at (data_of l.parts)) (numbers_from 0 (length l.parts.stages.items))
    ≡ first_some (twice_tank_at (data_of l.parts)) (numbers_from l.k (length l.parts.stages.items))
