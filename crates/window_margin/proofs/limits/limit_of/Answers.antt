use Rattle.std.proofs.Common.{ℕ, ◌+◌, ◌<◌, sym, subst, arith}
use Rattle.longest_path.specs.System.{SystemData, IsReached}
use Rattle.cycle_walk.specs.Closed.{IsFeasible}
use Rattle.window_margin.specs.Arcs.{margin_system}
use Rattle.window_margin.specs.Limits.{Allows}
use Rattle.window_margin.proofs.limits.limit_of.Goals as goal

pub starts_at-requires-clause-reached : goal.starts_at-requires-clause-reached
starts_at-requires-clause-reached c =
    let P : SystemData → Type 0 = λ s. (i : ℕ) → i < s.nodes → IsReached s i in
    subst P (sym c.in_ok-system.ensures) c.requires.reached

pub walk_at-requires-clause-shut : goal.walk_at-requires-clause-shut
walk_at-requires-clause-shut c feasible =
    let l = c.args.line.now in
    let arcs = c.args.arcs.now in
    let n = c.in_ok-ticks.ticks in
    let P : SystemData → Type 0 = λ s. IsFeasible s (n + 2) in
    let Q : ℕ → Type 0 = λ m. IsFeasible (margin_system l arcs) m in
    let allows : Allows l arcs (n + 1) = subst Q (omega arith) (subst P c.in_ok-system.ensures feasible) in
    let le = c.in_ok-ticks.ensures.none_more (n + 1) allows in
    omega (arith, le)
