use Rattle.std.proofs.Common.{◌≡◌, length}
use Rattle.hoist_base.specs.PartsData.{data_of}
use Rattle.hoist_base.specs.Firsts.{first_some, numbers_from}
use Rattle.hoist_base.specs.Flaws.{bad_name_at}
use Rattle.hoist_base.proofs.flaw.bad_name.Given as goal

abbrev pub invariant-loop-i : goal.invariant-loop-i
invariant-loop-i l =
    first_some (bad_name_at (data_of l.parts)) (numbers_from 0 (length l.parts.tanks.items))
    ≡ first_some (bad_name_at (data_of l.parts)) (numbers_from l.i (length l.parts.tanks.items))
