use Rattle.std.proofs.Common.{◌≡◌, length}
use Rattle.hoist_base.specs.PartsData.{data_of}
use Rattle.hoist_base.specs.Firsts.{first_some, numbers_from}
use Rattle.hoist_base.specs.Flaws.{twice_named_with}
use Rattle.hoist_base.proofs.flaw.twice_named.Given as goal

abbrev pub invariant-loop-a : goal.invariant-loop-a
invariant-loop-a l =
    first_some (twice_named_with (data_of l.parts)) (numbers_from 0 (length l.parts.tanks.items))
    ≡ first_some (twice_named_with (data_of l.parts)) (numbers_from l.a (length l.parts.tanks.items))
