-- A round begins under a cap that a climb may have, and takes less than it leaves.
use Rattle.std.proofs.Common.{⊎_elim, ◌≡◌, ℕ, zero, suc, ◌+◌, ◌-◌, ◌*◌, ◌<◌, ◌≤◌, List, [], ◌∷◌, ◌++◌, length, get_or, drop, refl, ap, arith, Some, None}
use Rattle.std.specs.Prelude.{Option, IfSome, map}
use Rattle.std.proofs.lemmas.Bool.{cases_eq}
use Rattle.std.proofs.lemmas.Int.{ints}
use Rattle.std.proofs.lemmas.List.{length-append, length-drop}
use Rattle.hoist_base.specs.LineData.{LineData, move_number}
use Rattle.hoist_base.specs.Valid.{IsLine}
use Rattle.hoist_base.specs.Routes.{route_tank}
use Rattle.line_model.specs.declared.motion.Motion.{Motion}
use Rattle.line_model.specs.Motion.{motion_between}
use Rattle.choice_tree.specs.declared.constraint.Constraint.TheVariants.{Repeat}
use Rattle.choice_tree.specs.Nodes.{node_at, IsLeft}
use Rattle.path_constraints.specs.Tanks.{least_of, there_and_back, back}
use Rattle.path_constraints.specs.Ticks.{tick_at}
use Rattle.path_constraints.proofs.Settled.{motions_are}
use Rattle.node_expand.specs.declared.solved.Solved as plans
use Rattle.node_expand.specs.declared.expanded.Expanded.{Expanded}
use Rattle.node_expand.specs.Plannable.{IsPlannable}
use Rattle.branch_rounds.specs.Grown.{Search, replaced, cap_of, after, round_size, IsRound}
use Rattle.branch_rounds.specs.Kept.{times, IsPlaced, IsKept, AreAnswers, AreNarrow}
use Rattle.branch_rounds.proofs.ListLemmas.{once, never, few_splits, length-replaced}
use Rattle.branch_rounds.proofs.PlacedLemmas.{is_left}
use Rattle.branch_rounds.proofs.KeptLemmas.{few_children, kept_all}

-- ---- the frontier

times_at : (is : List ℕ) (k : ℕ) → k < length is → 0 < times (get_or is k 0) is
times_at [] k lt = absurd (omega (arith, lt))
times_at (i ∷ is) zero lt = omega (arith, once i i is refl)
times_at (i ∷ is) (suc k) lt =
    let j = get_or is k 0 in
    let more = times_at is k (omega (arith, lt)) in
    ⊎_elim (λ e. omega (arith, once i j is e)) (λ ne. omega (arith, never i j is ne, more)) (cases_eq i j)

pub at_frontier : (s : Search) (k : ℕ) → IsPlaced s → k < length s.frontier
    → (get_or s.frontier k 0 < length s.tree) × IsLeft (node_at s.tree (get_or s.frontier k 0))
at_frontier s k p lt = is_left s.tree s.frontier (get_or s.frontier k 0) p.left (times_at s.frontier k lt)

-- ---- the cap

two_ticks : (l : LineData) (s : plans.Solved) → IsLine l → IsPlannable l s → 2 ≤ s.period
two_ticks l s line p =
    let two = line.limits.stages.0 in
    let first = p.settles.tank 0 0 (omega (arith, line.limits.degree), omega (arith, two)) in
    let second = p.settles.tank 0 (0 + 1) (omega (arith, line.limits.degree), omega (arith, two)) in
    let m = motion_between l 0 (route_tank l s.tanks 0 0) (route_tank l s.tanks 0 (0 + 1)) in
    let one : back l p.path 0 0 ≡ there_and_back m =
    ap (λ (ms : List Motion). least_of (map there_and_back ms))
    (motions_are l p.path 0 0 (route_tank l s.tanks 0 0) (route_tank l s.tanks 0 (0 + 1)) first second) in
    let keeps = p.constraints (Repeat 0 0) tt (omega (arith, line.limits.degree), omega arith) in
    let n = tick_at s.ticks (move_number l 0 0) in
    let step : 0 + 1 < length l.stages = omega (arith, two) in
    let lift = line.times.lift 0 step in
    let lower = line.times.lower 0 step in
    omega (arith, ints, keeps, one, lift, lower)

pub cap_range : (l : LineData) (best : Option plans.Solved) → IsLine l
    → IfSome best (λ b. IsPlannable l b × (b.period ≤ l.max_period))
    → (2 ≤ cap_of l best) × (cap_of l best ≤ l.max_period + 1) × (cap_of l best ≤ 20001)
cap_range l None line good = (omega (arith, line.limits.max_period), omega arith, omega (arith, line.limits.max_period))
cap_range l (Some b) line good = (two_ticks l b line good.0, omega (arith, good.1), omega (arith, good.1, line.limits.max_period))

-- ---- the answers

pub narrow : (l : LineData) (s : Search) (xs : List Expanded) → AreAnswers l s xs → AreNarrow xs
narrow l s xs answers = λ k x lt is. let a = answers k x lt is in few_children l a.path (cap_of l s.best) x a.shown

pub is_round : (l : LineData) (budget : ℕ) (s : Search) (xs : List Expanded) → 0 < length s.frontier → s.splits < budget
    → length xs ≡ round_size budget s
    → AreAnswers l s xs → IsRound l budget s xs
is_round l budget s xs some unspent count answers = record {
  some = some;
  unspent = unspent;
  count = count;
  each = λ k x lt is. let a = answers k x lt is in record { path = a.path; leads = a.leads; expansion = a.shown.expansion };
}

pub kept_round : (l : LineData) (s : Search) (xs : List Expanded) → IsLine l → IsKept l s → AreAnswers l s xs
    → length xs ≤ length s.frontier
    → s.splits + length xs ≤ 20000 → IsKept l (after s xs)
kept_round l s xs line k answers few room =
    kept_all l s.tree [] s.frontier s.best s.splits (cap_of l s.best) xs line k (cap_range l s.best line k.best).1 (omega arith)
    (λ n x lt is. let a = answers n x lt is in record { path = a.path; leads = a.leads; shown = a.shown }) few room

-- a round spends some of what the splits and the paths left come to
pub round_less : (budget : ℕ) (s : Search) (xs : List Expanded) → AreNarrow xs → 0 < length s.frontier
    → s.splits < budget → length xs ≡ round_size budget s
    → ((after s xs).splits ≤ budget) × (length (after s xs).frontier + 6 * (budget - (after s xs).splits) < length s.frontier + 6 * (budget - s.splits))
round_less budget s xs narrow some unspent count =
    let paths = length-replaced (length s.tree) xs narrow in
    let new : length (replaced (length s.tree) xs ++ drop (length xs) s.frontier) ≡ length (replaced (length s.tree) xs) + (length s.frontier - length xs) =
    omega (arith, length-append (replaced (length s.tree) xs) (drop (length xs) s.frontier), length-drop (length xs) s.frontier) in
    (omega (arith, few_splits xs, count), omega (arith, paths, new, few_splits xs, count))
