use Rattle.std.proofs.Common.{◌≡◌, ◌+◌, length}
use Rattle.hoist_base.specs.PartsData.{data_of}
use Rattle.hoist_base.specs.Firsts.{first_some, numbers_from}
use Rattle.hoist_base.specs.Flaws.{twice_named_at}
use Rattle.hoist_base.proofs.flaw.twice_named_with.Given as goal

abbrev pub invariant-loop-b : goal.invariant-loop-b
invariant-loop-b l =
    first_some (twice_named_at (data_of l.parts) l.a) (numbers_from (l.a + 1) (length l.parts.tanks.items))
    ≡ first_some (twice_named_at (data_of l.parts) l.a) (numbers_from l.b (length l.parts.tanks.items))
