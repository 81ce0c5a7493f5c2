use Rattle.std.proofs.Common.{◌≡◌, ◌+◌, length}
use Rattle.hoist_base.specs.PartsData.{data_of}
use Rattle.hoist_base.specs.Firsts.{first_some, numbers_from}
use Rattle.hoist_base.specs.Flaws.{same_place_at}
use Rattle.hoist_base.proofs.flaw.same_place_with.Given as goal

abbrev pub invariant-loop-later : goal.invariant-loop-later
invariant-loop-later l =
    first_some (same_place_at (data_of l.parts) l.first) (numbers_from (l.first + 1) (length l.parts.tanks.items))
    ≡ first_some (same_place_at (data_of l.parts) l.first) (numbers_from l.later (length l.parts.tanks.items))
