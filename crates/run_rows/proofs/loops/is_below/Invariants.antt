use Rattle.std.proofs.Common.{ℕ, ◌^◌, ◌<◌, None, IfSome, get_or}
use Rattle.tick_machine.specs.Rules.{RestBelow}
use Rattle.run_rows.proofs.loops.is_below.Given as goal

abbrev pub invariant-loop-i : goal.invariant-loop-i
invariant-loop-i l = (j : ℕ) → j < l.i → IfSome (get_or l.frame.hold.items j None) (λ x. RestBelow (2 ^ 61) x.rest)
