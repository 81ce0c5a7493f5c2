use Rattle.std.proofs.Common.{◌≡◌, ◌+◌, length}
use Rattle.std.specs.List.{list_any}
use Rattle.hoist_base.specs.Firsts.{numbers_from}
use Rattle.hoist_base.specs.Flaws.{has_at}
use Rattle.hoist_base.proofs.flaw.is_repeated.Given as goal

abbrev pub invariant-loop-b : goal.invariant-loop-b
invariant-loop-b l =
    list_any (has_at l.tanks l.a) (numbers_from (l.a + 1) (length l.tanks))
    ≡ list_any (has_at l.tanks l.a) (numbers_from l.b (length l.tanks))
