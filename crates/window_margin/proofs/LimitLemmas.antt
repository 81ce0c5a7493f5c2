-- The greatest margin, by systems in which other numbers stand in its place.
use Rattle.std.proofs.Common.{⊎_elim, ◌≡◌, ℕ, ◌+◌, ◌-◌, ◌<◌, ◌≤◌, List, length, map, All, refl, sym, ap, subst, arith, ℤ, pos, negsuc, ◌+ℤ◌, ◌-ℤ◌, ◌*ℤ◌, neg_ℤ}
use Rattle.std.proofs.lemmas.Int.{ints}
use Rattle.std.proofs.lemmas.Bool.{cases_lt}
use Rattle.std.proofs.lemmas.List.{get_or-map, length-map}
use Rattle.std.proofs.lemmas.List.Elements.{All-get_or, All-from_get_or}
use Rattle.hoist_base.specs.LineData.{LineData, move_count}
use Rattle.longest_path.specs.declared.systems.Arc.{Arc}
use Rattle.longest_path.specs.System.{SystemData, arc, weight, Solves}
use Rattle.cycle_walk.specs.Closed.{IsFeasible}
use Rattle.path_constraints.specs.Constraints.{no_arc, Keeps}
use Rattle.path_constraints.proofs.CoverTrackLemmas.{times_back}
use Rattle.window_margin.specs.Arcs.{from_one, turned, margin_system, turned_system}
use Rattle.window_margin.specs.Systems.{arc_at}
use Rattle.window_margin.specs.Limits.{Allows, AreBounded, IsGreatest}

times_sum : (q : ℤ) (a b : ℕ) → q *ℤ pos (a + b) ≡ q *ℤ pos a +ℤ q *ℤ pos b
times_sum (pos k) a b = omega (arith, ints)
times_sum (negsuc k) a b = omega (arith, ints)

-- ---- weights

pub from_one_weight : (a : Arc) (h : ℕ) → weight (from_one a) (h + 1) ≡ weight a h
from_one_weight a h = there a.w a.q (a.q *ℤ pos h) (a.q *ℤ pos (h + 1)) (a.q *ℤ pos 1) (times_sum a.q h 1) (omega (arith, ints))
  where
    there : (w q t u one : ℤ) → u ≡ t +ℤ one → one ≡ q → (w -ℤ q) +ℤ u ≡ w +ℤ t
    there w q t u one e f = omega (arith, ints, e, f)

turned_weight : (a : Arc) (n h : ℕ) → h ≤ n → weight (turned n a) (n - h) ≡ weight a h
turned_weight a n h le =
    let e : n - h + h ≡ n = omega (arith, le) in
    let split = times_sum a.q (n - h) h in
    let whole : a.q *ℤ pos (n - h + h) ≡ a.q *ℤ pos n = ap (λ (m : ℕ). a.q *ℤ pos m) e in
    there a.w (a.q *ℤ pos n) (a.q *ℤ pos (n - h + h)) (a.q *ℤ pos (n - h)) (a.q *ℤ pos h) (neg_ℤ a.q *ℤ pos (n - h)) whole split (times_back a.q (n - h))
  where
    there : (w all all' t u back : ℤ) → all' ≡ all → all' ≡ t +ℤ u → back ≡ neg_ℤ t → (w +ℤ all) +ℤ back ≡ w +ℤ u
    there w all all' t u back e f g = omega (arith, ints, e, f, g)

-- ---- solutions

same_keeps : (t : ℕ → ℤ) (g h : ℕ) (a b : Arc) → a.from ≡ b.from → a.to ≡ b.to → weight a g ≡ weight b h → Keeps t g a
    → Keeps t h b
same_keeps t g h a b e f w k = omega (arith, ints, ap t e, ap t f, w, k)

-- the system of arcs that are made from others one by one
abbrev made : LineData → (Arc → Arc) → List Arc → SystemData
made l f arcs = record { nodes = move_count l; arcs = map f arcs }

solves_made : (l : LineData) (f : Arc → Arc) (arcs : List Arc) (t : ℕ → ℤ) (g h : ℕ) → ((a : Arc) → (f a).from ≡ a.from)
    → ((a : Arc) → (f a).to ≡ a.to)
    → ((a : Arc) → weight (f a) g ≡ weight a h) → All (Keeps t h) arcs → Solves (made l f arcs) g t
solves_made l f arcs t g h from to same all k lt =
    let below : k < length arcs = omega (arith, lt, length-map arcs f) in
    let a = arc_at arcs k in
    let at : arc (made l f arcs) k ≡ f a = get_or-map f arcs k no_arc _ below in
    subst (λ (b : Arc). Keeps t g b) (sym at) (same_keeps t h g a (f a) (sym (from a)) (sym (to a)) (sym (same a))
    (All-get_or (Keeps t h) arcs k no_arc below all))

made_solves : (l : LineData) (f : Arc → Arc) (arcs : List Arc) (t : ℕ → ℤ) (g h : ℕ) → ((a : Arc) → (f a).from ≡ a.from)
    → ((a : Arc) → (f a).to ≡ a.to)
    → ((a : Arc) → weight (f a) g ≡ weight a h) → Solves (made l f arcs) g t → All (Keeps t h) arcs
made_solves l f arcs t g h from to same solves =
    All-from_get_or (Keeps t h) arcs no_arc
    (λ k below.
    let a = arc_at arcs k in
    let at : arc (made l f arcs) k ≡ f a = get_or-map f arcs k no_arc _ below in
    let kept : Keeps t g (f a) = subst (λ (b : Arc). Keeps t g b) at (solves k (omega (arith, below, length-map arcs f))) in
    same_keeps t g h (f a) a (from a) (to a) (same a) kept)

pub allows_kept : (l : LineData) (arcs : List Arc) (t : ℕ → ℤ) (h : ℕ) → All (Keeps t h) arcs
    → Solves (margin_system l arcs) (h + 1) t
allows_kept l arcs t h all = solves_made l from_one arcs t (h + 1) h (λ a. refl) (λ a. refl) (λ a. from_one_weight a h) all

pub kept_allows : (l : LineData) (arcs : List Arc) (t : ℕ → ℤ) (h : ℕ) → Solves (margin_system l arcs) (h + 1) t
    → All (Keeps t h) arcs
kept_allows l arcs t h solves = made_solves l from_one arcs t (h + 1) h (λ a. refl) (λ a. refl) (λ a. from_one_weight a h) solves

to_turned : (l : LineData) (arcs : List Arc) (n h : ℕ) → h ≤ n → Allows l arcs h
    → IsFeasible (turned_system l n arcs) (n - h)
to_turned l arcs n h le (t, solves) =
    (t, solves_made l (turned n) arcs t (n - h) h (λ a. refl) (λ a. refl) (λ a. turned_weight a n h le) (kept_allows l arcs t h solves))

from_turned : (l : LineData) (arcs : List Arc) (n h : ℕ) → h ≤ n → IsFeasible (turned_system l n arcs) (n - h)
    → Allows l arcs h
from_turned l arcs n h le (t, solves) =
    (t, allows_kept l arcs t h (made_solves l (turned n) arcs t (n - h) h (λ a. refl) (λ a. refl) (λ a. turned_weight a n h le) solves))

-- ---- the greatest margin

-- a number of ticks that is taken from the period at most, and at least
pub some_taken : (l : LineData) (period : ℕ) (arcs : List Arc) → AreBounded l period arcs
    → (period ≡ period - 0) × IsFeasible (turned_system l period arcs) period
some_taken l period arcs h =
    let e : period - 0 ≡ period = omega arith in
    (sym e, subst (λ (n : ℕ). IsFeasible (turned_system l period arcs) n) e (to_turned l arcs period 0 (omega arith) h.none))

pub greatest_is : (l : LineData) (period taken : ℕ) (arcs : List Arc) → AreBounded l period arcs → 1 ≤ taken
    → taken < period + 1
    → IsFeasible (turned_system l period arcs) taken
    → ((t : ℕ) → 1 ≤ t → t < taken → IsFeasible (turned_system l period arcs) t → ⊥)
    → IsGreatest l period arcs (period - taken)
greatest_is l period taken arcs bounded some few feasible none =
    let e : period - (period - taken) ≡ taken = omega (arith, few) in
    let here = from_turned l arcs period (period - taken) (omega arith) (subst (λ (n : ℕ). IsFeasible (turned_system l period arcs) n) (sym e) feasible) in
    record {
      allowed = here;
      none_more = λ more allows.
          let below = bounded.below more allows in
          ⊎_elim
          (λ lt. absurd (none (period - more) (omega (arith, below)) (omega (arith, lt, few)) (to_turned l arcs period more (omega (arith, below)) allows)))
          (λ le. le)
          (cases_lt (period - taken) more);
      below = bounded.below (period - taken) here;
    }
