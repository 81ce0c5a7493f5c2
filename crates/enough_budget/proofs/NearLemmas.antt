-- How far apart the ticks are that meet the constraints of a path which leaves each visit one tank, in periods.
use Rattle.std.proofs.Common.{⊎_elim, inl, ◌≡◌, ℕ, zero, suc, ◌+◌, ◌-◌, ◌*◌, ◌<◌, ◌≤◌, List, [], ◌∷◌, length, map, Bool, cond, eq-eqb, refl, sym, ◌∙◌, ap, subst, arith, ℤ, pos, Some, None}
use Rattle.std.specs.Prelude.{Option, IsSome, ◌+ℤ◌, ◌-ℤ◌, ◌≤ℤ◌, neg_ℤ, negsuc}
use Rattle.std.proofs.lemmas.Bool.{cases_eq, cases_lt, ne_eqb}
use Rattle.std.proofs.lemmas.Int.{ints}
use Rattle.std.proofs.lemmas.Nat.{mul-le}
use Rattle.hoist_base.specs.LineData.{LineData, stage, last_stage, last_step, move_number, IsMove, IsVisit}
use Rattle.hoist_base.specs.Valid.{IsLine}
use Rattle.hoist_base.specs.declared.ids.VisitId.{VisitId}
use Rattle.line_model.specs.declared.motion.Motion.{Motion}
use Rattle.line_model.specs.Motion.{motion_between, duration}
use Rattle.longest_path.specs.declared.systems.Arc.{Arc}
use Rattle.choice_tree.specs.declared.question.Question.{Question}
use Rattle.choice_tree.specs.declared.question.Question.TheVariants.{Choose}
use Rattle.choice_tree.specs.declared.question.Decision.{Decision}
use Rattle.choice_tree.specs.declared.constraint.Constraint.TheVariants.{Entry, Visit, Repeat}
use Rattle.path_constraints.specs.Tanks.{choice_of, tanks_by, tank_below, one_of, low, high, back, least_of, there_and_back}
use Rattle.path_constraints.specs.declared.holds.Moment.{Moment}
use Rattle.path_constraints.specs.Holds.{begin_of, end_of, tick_of}
use Rattle.path_constraints.specs.Constraints.{Keeps, entry_arc, visit_arc}
use Rattle.path_constraints.specs.Questions.{IsOpenVisit}
use Rattle.path_constraints.proofs.Settled.{motions_are, low_is, high_is}
use Rattle.path_constraints.proofs.TankLemmas.{one_by}
use Rattle.path_constraints.proofs.SpreadLemmas.{KeepsAll, at_move, carrier_spread, first_spread}
use Rattle.period_constraints.specs.Order.{kind_of, IsFirstQuestion}
use Rattle.node_expand.specs.Settled.{HasTanks}
use Rattle.node_expand.proofs.SettledLemmas.{some_is, some_one}

-- ---- tanks

-- where the first question isn't a choice of a tank, each visit has one
pub one_tank : (l : LineData) (path : List Decision) (s : ℕ → ℤ) (period : ℕ) (x : Question) → IsLine l
    → IsFirstQuestion l path s period (Some x)
    → 0 < kind_of x → HasTanks l path
one_tank l path s period x line first later c k visit =
    some_is (tank_below l path c k) _
    (one_by (stage l k).tanks (choice_of path c k) (line.stages.count k visit.1).0
    (λ free. ⊎_elim (λ lt. lt)
    (λ several.
    let v : VisitId = record { carrier = c; stage = k } in
    let open_yet : IsOpenVisit l path v = record { visit = visit; several = several; open_yet = free } in
    absurd (first.2 (Choose v) (record { stands = open_yet; fails = tt }) (inl later)))
    (cases_lt (length (stage l k).tanks) 2)))

-- ---- durations

-- a move lasts no longer than the period, and no shorter than its lift and its lower
record Lasts (l : LineData) (path : List Decision) (period c k : ℕ) : Type 0 where
  one : high l path c k ≡ low l path c k
  some : (stage l k).lift + (stage l (k + 1)).lower ≤ low l path c k
  most : low l path c k ≤ period

lasts : (l : LineData) (path : List Decision) (s : ℕ → ℤ) (period c k : ℕ) → HasTanks l path → KeepsAll l path s period
    → IsMove l c k
    → Lasts l path period c k
lasts l path s period c k tanks keeps move =
    let from = some_one (tank_below l path c k) (tanks c k (move.0, omega (arith, move.1))) in
    let to = some_one (tank_below l path c (k + 1)) (tanks c (k + 1) move) in
    let m = motion_between l k from.0 to.0 in
    let there : back l path c k ≡ there_and_back m =
    ap (λ (ms : List Motion). least_of (map there_and_back ms)) (motions_are l path c k from.0 to.0 from.1 to.1) in
    let at_least : low l path c k ≡ duration m = low_is l path c k from.0 to.0 from.1 to.1 in
    let at_most : high l path c k ≡ duration m = high_is l path c k from.0 to.0 from.1 to.1 in
    let kept = keeps (Repeat c k) (move.0, omega (arith, move.1)) in
    record { one = at_most ∙ sym at_least; some = omega (arith, at_least); most = omega (arith, ints, kept, there, at_least) }

-- so the period is no less than 1
pub some_period : (l : LineData) (path : List Decision) (s : ℕ → ℤ) (period c k : ℕ) → IsLine l → HasTanks l path
    → KeepsAll l path s period → IsMove l c k
    → 1 ≤ period
some_period l path s period c k line tanks keeps move =
    let long = lasts l path s period c k tanks keeps move in
    omega (arith, long.some, long.most, (line.times.lift k move.1).0)

-- ---- moves

step_near : (l : LineData) (path : List Decision) (s : ℕ → ℤ) (period c k : ℕ) → IsLine l → HasTanks l path
    → KeepsAll l path s period → c < l.degree
    → 1 ≤ k → k ≤ last_step l → at_move l s c k ≤ℤ (at_move l s c (k - 1) +ℤ pos (2 * period))
step_near l path s period c k line tanks keeps lt some few =
    let inner : k ≡ last_stage l → ⊥ = λ e. omega (arith, e, few, line.limits.stages.0) in
    let arc : Arc = record {
      from = move_number l c k;
      to = move_number l c (k - 1);
      w = pos ((stage l k).lift + (stage l k).lower) -ℤ pos (high l path c (k - 1));
      q = negsuc 0;
    } in
    let n = move_number l c (last_step l) in
    let other : Arc = record { from = n; to = n; w = pos ((stage l k).lower + l.unload); q = negsuc 0 } in
    let is : visit_arc l path c k ≡ arc = ap (λ (b : Bool). cond b other arc) (ne_eqb k (last_stage l) inner) in
    let P : Arc → Type 0 = λ a. Keeps s period a in
    let kept : Keeps s period arc = subst P is (keeps (Visit c k) (lt, some, omega (arith, few))) in
    let before = lasts l path s period c (k - 1) tanks keeps (lt, omega (arith, some, few, line.limits.stages.0)) in
    omega (arith, ints, kept, before.one, before.most)

carrier_near : (l : LineData) (path : List Decision) (s : ℕ → ℤ) (period c k : ℕ) → IsLine l → HasTanks l path
    → KeepsAll l path s period → c < l.degree
    → k ≤ last_step l → at_move l s c k ≤ℤ (at_move l s c 0 +ℤ pos (k * (2 * period)))
carrier_near l path s period c zero line tanks keeps lt few = omega (arith, ints)
carrier_near l path s period c (suc k) line tanks keeps lt few =
    let e : suc k - 1 ≡ k = omega arith in
    let same : at_move l s c (suc k - 1) ≡ at_move l s c k = ap (λ (j : ℕ). at_move l s c j) e in
    omega (
      arith,
      ints,
      carrier_near l path s period c k line tanks keeps lt (omega (arith, few)),
      same,
      step_near l path s period c (suc k) line tanks keeps lt (omega arith) few,
    )

-- every move starts at the first move or later, and not many periods later
pub move_near : (l : LineData) (path : List Decision) (s : ℕ → ℤ) (period c k : ℕ) → IsLine l → HasTanks l path
    → KeepsAll l path s period → IsMove l c k
    → (s 0 ≤ℤ at_move l s c k) × (at_move l s c k ≤ℤ (s 0 +ℤ pos (period + last_step l * (2 * period))))
move_near l path s period c k line tanks keeps move =
    let few : k ≤ last_step l = omega (arith, move.1) in
    let up = carrier_spread l path s period c k line keeps move.0 few in
    let down = carrier_near l path s period c k line tanks keeps move.0 few in
    let first = first_spread l path s period c keeps move.0 in
    let most = mul-le k (2 * period) (last_step l) (2 * period) few (omega arith) in
    (omega (arith, ints, up.0, first.0), omega (arith, ints, down, first.1, most))

-- ---- loads and unloads

load_small : (l : LineData) (path : List Decision) (s : ℕ → ℤ) (period : ℕ) → IsLine l → KeepsAll l path s period
    → l.load ≤ period
load_small l path s period line keeps =
    let c = l.degree - 1 in
    let e : c + 1 ≡ l.degree = omega (arith, line.limits.degree.0) in
    let arc : Arc = record { from = move_number l c 0; to = move_number l (c + 1) 0; w = pos (l.load + (stage l 0).lift); q = pos 0 } in
    let last : Arc = record { from = move_number l c 0; to = 0; w = pos (l.load + (stage l 0).lift); q = negsuc 0 } in
    let is : entry_arc l c ≡ last = ap (λ (b : Bool). cond b last arc) (eq-eqb (c + 1) l.degree e) in
    let P : Arc → Type 0 = λ a. Keeps s period a in
    let kept : Keeps s period last = subst P is (keeps (Entry c) (omega (arith, e))) in
    omega (arith, ints, kept, (first_spread l path s period c keeps (omega (arith, e))).0)

unload_small : (l : LineData) (path : List Decision) (s : ℕ → ℤ) (period : ℕ) → IsLine l → KeepsAll l path s period
    → l.unload ≤ period
unload_small l path s period line keeps =
    let k = last_stage l in
    let n = move_number l 0 (last_step l) in
    let last : Arc = record { from = n; to = n; w = pos ((stage l k).lower + l.unload); q = negsuc 0 } in
    let arc : Arc = record {
      from = move_number l 0 k;
      to = move_number l 0 (k - 1);
      w = pos ((stage l k).lift + (stage l k).lower) -ℤ pos (high l path 0 (k - 1));
      q = negsuc 0;
    } in
    let is : visit_arc l path 0 k ≡ last = ap (λ (b : Bool). cond b last arc) (eq-eqb k (last_stage l) refl) in
    let P : Arc → Type 0 = λ a. Keeps s period a in
    let kept : Keeps s period last =
    subst P is (keeps (Visit 0 k) (omega (arith, line.limits.degree.0), omega (arith, line.limits.stages.0), omega arith)) in
    omega (arith, ints, kept)

-- ---- holds

-- no hold begins more than a period before the first move
pub begin_near : (l : LineData) (path : List Decision) (s : ℕ → ℤ) (period c k : ℕ) → IsLine l → HasTanks l path
    → KeepsAll l path s period → IsVisit l c k
    → s 0 ≤ℤ (tick_of l s (begin_of l (low l path) c k) +ℤ pos period)
begin_near l path s period c k line tanks keeps visit =
    let at_load : Moment = record { carrier = c; step = 0; fixed = neg_ℤ (pos l.load) } in
    let later : Moment = record { carrier = c; step = k - 1; fixed = pos (low l path c (k - 1)) -ℤ pos (stage l k).lower } in
    let P : Moment → Type 0 = λ m. s 0 ≤ℤ (tick_of l s m +ℤ pos period) in
    ⊎_elim
    (λ e.
    let is : begin_of l (low l path) c k ≡ at_load = ap (λ (b : Bool). cond b at_load later) (eq-eqb k 0 e) in
    let near = (first_spread l path s period c keeps visit.0).0 in
    let here : P at_load = omega (arith, ints, near, load_small l path s period line keeps) in
    subst P (sym is) here)
    (λ ne.
    let is : begin_of l (low l path) c k ≡ later = ap (λ (b : Bool). cond b at_load later) (ne_eqb k 0 ne) in
    let e : k - 1 + 1 ≡ k = omega (arith, ne) in
    let move : IsMove l c (k - 1) = (visit.0, omega (arith, visit.1, ne)) in
    let long = lasts l path s period c (k - 1) tanks keeps move in
    let lower : (stage l (k - 1 + 1)).lower ≡ (stage l k).lower = ap (λ (j : ℕ). (stage l j).lower) e in
    let near = (move_near l path s period c (k - 1) line tanks keeps move).0 in
    let here : P later = omega (arith, ints, near, long.some, lower) in
    subst P (sym is) here)
    (cases_eq k 0)

-- and none ends many periods after it
pub end_near : (l : LineData) (path : List Decision) (s : ℕ → ℤ) (period c k : ℕ) → IsLine l → HasTanks l path
    → KeepsAll l path s period → IsVisit l c k
    → tick_of l s (end_of l (low l path) c k) ≤ℤ (s 0 +ℤ pos (3 * period + last_step l * (2 * period)))
end_near l path s period c k line tanks keeps visit =
    let at_unload : Moment = record { carrier = c; step = last_step l; fixed = pos (low l path c (last_step l) + l.unload) } in
    let earlier : Moment = record { carrier = c; step = k; fixed = pos (stage l k).lift } in
    let P : Moment → Type 0 = λ m. tick_of l s m ≤ℤ (s 0 +ℤ pos (3 * period + last_step l * (2 * period))) in
    ⊎_elim
    (λ e.
    let is : end_of l (low l path) c k ≡ at_unload = ap (λ (b : Bool). cond b at_unload earlier) (eq-eqb k (last_stage l) e) in
    let move : IsMove l c (last_step l) = (visit.0, omega (arith, line.limits.stages.0)) in
    let long = lasts l path s period c (last_step l) tanks keeps move in
    let near = (move_near l path s period c (last_step l) line tanks keeps move).1 in
    let here : P at_unload = omega (arith, ints, near, long.most, unload_small l path s period line keeps) in
    subst P (sym is) here)
    (λ ne.
    let is : end_of l (low l path) c k ≡ earlier = ap (λ (b : Bool). cond b at_unload earlier) (ne_eqb k (last_stage l) ne) in
    let move : IsMove l c k = (visit.0, omega (arith, visit.1, ne)) in
    let long = lasts l path s period c k tanks keeps move in
    let near = (move_near l path s period c k line tanks keeps move).1 in
    let here : P earlier = omega (arith, ints, near, long.some, long.most) in
    subst P (sym is) here)
    (cases_eq k (last_stage l))
