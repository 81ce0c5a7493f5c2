use Rattle.std.proofs.Common.{ℕ, ◌+◌, ◌<◌, ◌≤◌, sym, subst, arith}
use Rattle.longest_path.specs.System.{SystemData}
use Rattle.cycle_walk.specs.Closed.{IsFeasible}
use Rattle.cycle_walk.specs.Climb.{IsLeastFeasible}
use Rattle.cycle_walk.specs.declared.climbing.Climbed.{Climbed}
use Rattle.window_margin.proofs.LimitLemmas.{some_taken, greatest_is}
use Rattle.window_margin.proofs.limits.greatest.Goals as goal

pub climb-requires : goal.climb-requires
climb-requires c =
    let some = c.requires.bounded.below 0 c.requires.bounded.none in
    (omega (arith, some), omega (arith, c.requires.period))

pub unreachable-requires : goal.unreachable-requires
unreachable-requires c =
    let n = c.args.period in
    let s = c.in_ok-turned.turned in
    let some = c.requires.bounded.below 0 c.requires.bounded.none in
    let P : Climbed → Type 0 = λ x. IsLeastFeasible s (n + 1) x in
    let Q : SystemData → Type 0 = λ x. IsFeasible x n in
    let none = subst P c.in-Shut.is c.in_ok-climbed.ensures.least in
    none n (omega (arith, some)) (omega arith)
    (subst Q (sym c.in_ok-turned.ensures) (some_taken c.args.line.now n c.args.arcs.now c.requires.bounded).1)

pub returns : goal.returns
returns c =
    let l = c.args.line.now in
    let n = c.args.period in
    let s = c.in_ok-turned.turned in
    let P : Climbed → Type 0 = λ x. IsLeastFeasible s (n + 1) x in
    let Q : SystemData → Type 0 = λ x. IsLeastFeasible x (n + 1) c.in_ok-climbed.climbed in
    let least = subst (λ (x : SystemData). (1 ≤ c.in-Floor.taken) × (c.in-Floor.taken < n + 1) × IsFeasible x c.in-Floor.taken
    × ((t : ℕ) → 1 ≤ t → t < c.in-Floor.taken → IsFeasible x t → ⊥)) c.in_ok-turned.ensures (subst P c.in-Floor.is c.in_ok-climbed.ensures.least) in
    greatest_is l n c.in-Floor.taken c.args.arcs.now c.requires.bounded least.0 least.1 least.2 least.3
