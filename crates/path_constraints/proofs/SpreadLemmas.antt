-- How far apart the ticks of two moves are that meet the constraints of a path at a period, so that a q that they leave
-- open is small.
use Rattle.std.proofs.Common.{⊎_elim, ◌≡◌, ℕ, zero, suc, ◌+◌, ◌-◌, ◌*◌, ◌<◌, ◌≤◌, List, [], ◌∷◌, ◌++◌, length, map, max, ap, subst, arith, pos, ℤ, Bool, cond, eq-eqb}
use Rattle.std.specs.Prelude.{flat_map, fold, ◌+ℤ◌, ◌-ℤ◌, ◌≤ℤ◌, negsuc}
use Rattle.std.proofs.lemmas.Bool.{cases_lt, ne_eqb}
use Rattle.std.proofs.lemmas.List.{get_or_past}
use Rattle.std.proofs.lemmas.Int.{ints}
use Rattle.std.proofs.lemmas.Nat.{mul-le}
use Rattle.hoist_base.specs.LineData.{LineData, stage, no_tank, position_of, last_stage, last_step, move_number, IsMove, IsStep}
use Rattle.hoist_base.specs.Valid.{IsLine}
use Rattle.hoist_base.specs.declared.tank.Tank.{Tank}
use Rattle.line_model.specs.declared.motion.Motion.{Motion}
use Rattle.line_model.specs.Motion.{motion_between, duration}
use Rattle.choice_tree.specs.declared.question.Decision.{Decision}
use Rattle.choice_tree.specs.declared.constraint.Constraint.{Constraint}
use Rattle.choice_tree.specs.declared.constraint.Constraint.TheVariants.{Min, Entry, Visit}
use Rattle.longest_path.specs.declared.systems.Arc.{Arc}
use Rattle.path_constraints.specs.Tanks.{tanks_below, motions_below, high, greatest_of}
use Rattle.longest_path.specs.System.{Solves}
use Rattle.path_constraints.specs.Constraints.{Keeps, IsConstraint, no_arc, arc_of, arcs_of, entry_arc, visit_arc, constraint_list}
use Rattle.path_constraints.specs.Places.{system_below}
use Rattle.path_constraints.proofs.NameLemmas.{in_list, in_map, place_in}

-- ---- no move lasts more than 2,000 ticks

abbrev Under : ℕ → List Motion → Type 0
Under n [] = Unit {0}
Under n (m ∷ ms) = (duration m ≤ n) × Under n ms

under-append : (n : ℕ) (xs ys : List Motion) → Under n xs → Under n ys → Under n (xs ++ ys)
under-append n [] ys h k = k
under-append n (x ∷ xs) ys h k = (h.0, under-append n xs ys h.1 k)

under_row : (n : ℕ) (row : ℕ → Motion) (ys : List ℕ) → ((j : ℕ) → duration (row j) ≤ n) → Under n (map row ys)
under_row n row [] h = tt
under_row n row (y ∷ ys) h = (h y, under_row n row ys h)

under_rows : (n : ℕ) (mb : ℕ → ℕ → Motion) (xs ys : List ℕ) → ((i j : ℕ) → duration (mb i j) ≤ n)
    → Under n (flat_map (λ i. map (λ j. mb i j) ys) xs)
under_rows n mb [] ys h = tt
under_rows n mb (x ∷ xs) ys h =
    under-append n (map (λ j. mb x j) ys) (flat_map (λ i. map (λ j. mb i j) ys) xs) (under_row n (λ j. mb x j) ys (h x)) (under_rows n mb xs ys h)

fold_under : (n a : ℕ) (ms : List Motion) → a ≤ n → Under n ms → fold max a (map duration ms) ≤ n
fold_under n a [] le h = le
fold_under n a (m ∷ ms) le h = fold_under n (max a (duration m)) ms (omega (arith, le, h.0)) h.1

greatest_under : (n : ℕ) (ms : List Motion) → Under n ms → greatest_of (map duration ms) ≤ n
greatest_under n [] h = omega arith
greatest_under n (m ∷ ms) h = fold_under n (duration m) ms h.0 h.1

place_small : (l : LineData) (i : ℕ) → IsLine l → position_of l i ≤ 1000
place_small l i line =
    ⊎_elim (λ lt. omega (arith, line.tanks.on_track i lt, line.limits.track.1))
    (λ past. let none : position_of l i ≡ 0 = ap (λ (t : Tank). t.at) (get_or_past l.tanks i no_tank past) in omega (arith, none))
    (cases_lt i (length l.tanks))

duration_small : (l : LineData) (k i j : ℕ) → IsLine l → IsStep l k → duration (motion_between l k i j) ≤ 2000
duration_small l k i j line step =
    omega (arith, place_small l i line, place_small l j line, (line.times.lift k step).1, (line.times.lower k step).1)

pub high_small : (l : LineData) (path : List Decision) (c k : ℕ) → IsLine l → IsStep l k → high l path c k ≤ 2000
high_small l path c k line step =
    greatest_under 2000 (motions_below l path c k)
    (under_rows 2000 (λ i j. motion_between l k i j) (tanks_below l path c k) (tanks_below l path c (k + 1)) (λ i j. duration_small l k i j line step))

-- ---- the ticks of one carrier

-- the ticks meet every constraint of the path at the period
abbrev pub KeepsAll : LineData → List Decision → (ℕ → ℤ) → ℕ → Type 0
KeepsAll l path s period = (t : Constraint) → IsConstraint l path t → Keeps s period (arc_of l path t)

-- those that solve its system do
pub keeps_all : (l : LineData) (path : List Decision) (s : ℕ → ℤ) (period : ℕ) → IsLine l
    → Solves (system_below l path) period s → KeepsAll l path s period
keeps_all l path s period line solves t is =
    let named = in_list l path t line.limits.stages.0 is in
    let at = place_in (arcs_of l path) (arc_of l path t) no_arc (in_map (arc_of l path) (constraint_list l path) t named) in
    let P : Arc → Type 0 = λ a. Keeps s period a in
    subst P at.2 (solves at.0 at.1)

abbrev pub at_move : LineData → (ℕ → ℤ) → ℕ → ℕ → ℤ
at_move l s c k = s (move_number l c k)

step_up : (l : LineData) (path : List Decision) (s : ℕ → ℤ) (period c k : ℕ) → KeepsAll l path s period → c < l.degree
    → 1 ≤ k → k ≤ last_step l
    → at_move l s c (k - 1) ≤ℤ at_move l s c k
step_up l path s period c k keeps lt some few = omega (arith, ints, keeps (Min c k) (lt, some, few))

step_down : (l : LineData) (path : List Decision) (s : ℕ → ℤ) (period c k : ℕ) → IsLine l → KeepsAll l path s period
    → c < l.degree → 1 ≤ k → k ≤ last_step l
    → at_move l s c k ≤ℤ (at_move l s c (k - 1) +ℤ pos (period + 2000))
step_down l path s period c k line keeps lt some few =
    let inner : k ≡ last_stage l → ⊥ = λ e. omega (arith, e, few, line.limits.stages.0) in
    let off = ne_eqb k (last_stage l) inner in
    let arc : Arc = record {
      from = move_number l c k;
      to = move_number l c (k - 1);
      w = pos ((stage l k).lift + (stage l k).lower) -ℤ pos (high l path c (k - 1));
      q = negsuc 0;
    } in
    let n = move_number l c (last_step l) in
    let other : Arc = record { from = n; to = n; w = pos ((stage l k).lower + l.unload); q = negsuc 0 } in
    let is : visit_arc l path c k ≡ arc = ap (λ (b : Bool). cond b other arc) off in
    let P : Arc → Type 0 = λ a. Keeps s period a in
    let kept : Keeps s period arc = subst P is (keeps (Visit c k) (lt, some, omega (arith, few))) in
    omega (arith, ints, kept, high_small l path c (k - 1) line (omega (arith, some, few, line.limits.stages.0)))

-- move k of a carrier starts not before its first, and at most so long after it
pub carrier_spread : (l : LineData) (path : List Decision) (s : ℕ → ℤ) (period c k : ℕ) → IsLine l
    → KeepsAll l path s period → c < l.degree → k ≤ last_step l
    → (at_move l s c 0 ≤ℤ at_move l s c k) × (at_move l s c k ≤ℤ (at_move l s c 0 +ℤ pos (k * (period + 2000))))
carrier_spread l path s period c zero line keeps lt few = (omega (arith, ints), omega (arith, ints))
carrier_spread l path s period c (suc k) line keeps lt few =
    let before = carrier_spread l path s period c k line keeps lt (omega (arith, few)) in
    let e : suc k - 1 ≡ k = omega arith in
    let same : at_move l s c (suc k - 1) ≡ at_move l s c k = ap (λ (j : ℕ). at_move l s c j) e in
    let up = step_up l path s period c (suc k) keeps lt (omega arith) few in
    let down = step_down l path s period c (suc k) line keeps lt (omega arith) few in
    (omega (arith, ints, before.0, same, up), omega (arith, ints, before.1, same, down))

-- ---- the first moves of the carriers

entry_up : (l : LineData) (path : List Decision) (s : ℕ → ℤ) (period c : ℕ) → KeepsAll l path s period
    → c + 1 < l.degree
    → at_move l s c 0 ≤ℤ at_move l s (c + 1) 0
entry_up l path s period c keeps lt =
    let inner : c + 1 ≡ l.degree → ⊥ = λ e. omega (arith, e, lt) in
    let arc : Arc = record { from = move_number l c 0; to = move_number l (c + 1) 0; w = pos (l.load + (stage l 0).lift); q = pos 0 } in
    let last : Arc = record { from = move_number l c 0; to = 0; w = pos (l.load + (stage l 0).lift); q = negsuc 0 } in
    let is : entry_arc l c ≡ arc = ap (λ (b : Bool). cond b last arc) (ne_eqb (c + 1) l.degree inner) in
    let P : Arc → Type 0 = λ a. Keeps s period a in
    let kept : Keeps s period arc = subst P is (keeps (Entry c) (omega (arith, lt))) in
    omega (arith, ints, kept)

entry_around : (l : LineData) (path : List Decision) (s : ℕ → ℤ) (period c : ℕ) → KeepsAll l path s period
    → c + 1 ≡ l.degree
    → at_move l s c 0 ≤ℤ (s 0 +ℤ pos period)
entry_around l path s period c keeps e =
    let arc : Arc = record { from = move_number l c 0; to = move_number l (c + 1) 0; w = pos (l.load + (stage l 0).lift); q = pos 0 } in
    let last : Arc = record { from = move_number l c 0; to = 0; w = pos (l.load + (stage l 0).lift); q = negsuc 0 } in
    let is : entry_arc l c ≡ last = ap (λ (b : Bool). cond b last arc) (eq-eqb (c + 1) l.degree e) in
    let P : Arc → Type 0 = λ a. Keeps s period a in
    let kept : Keeps s period last = subst P is (keeps (Entry c) (omega (arith, e))) in
    omega (arith, ints, kept)

first_up : (l : LineData) (path : List Decision) (s : ℕ → ℤ) (period c n : ℕ) → KeepsAll l path s period
    → c + n < l.degree
    → at_move l s c 0 ≤ℤ at_move l s (c + n) 0
first_up l path s period c zero keeps lt = let e : at_move l s (c + 0) 0 ≡ at_move l s c 0 = ap (λ (d : ℕ). at_move l s d 0) (omega arith) in omega
    (arith, ints, e)
first_up l path s period c (suc n) keeps lt =
    let e : at_move l s (c + n + 1) 0 ≡ at_move l s (c + suc n) 0 = ap (λ (d : ℕ). at_move l s d 0) (omega arith) in
    omega (arith, ints, first_up l path s period c n keeps (omega (arith, lt)), entry_up l path s period (c + n) keeps (omega (arith, lt)), e)

pub first_spread : (l : LineData) (path : List Decision) (s : ℕ → ℤ) (period c : ℕ) → KeepsAll l path s period
    → c < l.degree
    → (s 0 ≤ℤ at_move l s c 0) × (at_move l s c 0 ≤ℤ (s 0 +ℤ pos period))
first_spread l path s period c keeps lt =
    let first : at_move l s (0 + c) 0 ≡ at_move l s c 0 = ap (λ (d : ℕ). at_move l s d 0) (omega arith) in
    let zero_is : at_move l s 0 0 ≡ s 0 = ap s (omega arith) in
    let last : at_move l s (c + (l.degree - 1 - c)) 0 ≡ at_move l s (l.degree - 1) 0 = ap (λ (d : ℕ). at_move l s d 0) (omega (arith, lt)) in
    let up = first_up l path s period 0 c keeps (omega (arith, lt)) in
    let on = first_up l path s period c (l.degree - 1 - c) keeps (omega (arith, lt)) in
    let around = entry_around l path s period (l.degree - 1) keeps (omega (arith, lt)) in
    (omega (arith, ints, first, zero_is, up), omega (arith, ints, last, on, around))

-- ---- two moves

-- no two moves of a period start further apart
pub spread : (l : LineData) (path : List Decision) (s : ℕ → ℤ) (period c k c' k' : ℕ) → IsLine l
    → KeepsAll l path s period → IsMove l c k → IsMove l c' k'
    → at_move l s c k ≤ℤ (at_move l s c' k' +ℤ pos (32 * period + 62000))
spread l path s period c k c' k' line keeps m m' =
    let a = carrier_spread l path s period c k line keeps m.0 (omega (arith, m.1)) in
    let b = carrier_spread l path s period c' k' line keeps m'.0 (omega (arith, m'.1)) in
    let f = first_spread l path s period c keeps m.0 in
    let g = first_spread l path s period c' keeps m'.0 in
    let most = mul-le k (period + 2000) 31 (period + 2000) (omega (arith, m.1, line.limits.stages.1)) (omega arith) in
    omega (arith, ints, a.1, b.0, f.1, g.0, most)
