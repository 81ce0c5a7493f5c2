use Rattle.std.proofs.Common.{rules, ◌≡◌, [], subst, sym}
use Rattle.hoist_base.specs.LineData.{LineData}
use Rattle.path_constraints.specs.Places.{system_below}
use Rattle.branch_rounds.proofs.workers.Workers.new.Goals as goal

pub invariant_of-result : goal.invariant_of-result
invariant_of-result c =
    let B : LineData → Type 0 = λ l. c.in_ok-base.base ≡ system_below l [] in
    (subst B (sym c.in_ok-expander.ensures) c.in_ok-base.ensures, c.requires.0, c.requires.1, search rules)
