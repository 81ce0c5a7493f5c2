use Rattle.std.proofs.Common.{◌≡◌, length}
use Rattle.std.specs.List.{list_any}
use Rattle.hoist_base.specs.Firsts.{numbers_from}
use Rattle.hoist_base.specs.Flaws.{is_repeated}
use Rattle.hoist_base.proofs.flaw.has_twice.Given as goal

abbrev pub invariant-loop-a : goal.invariant-loop-a
invariant-loop-a l =
    list_any (is_repeated l.tanks) (numbers_from 0 (length l.tanks))
    ≡ list_any (is_repeated l.tanks) (numbers_from l.a (length l.tanks))
