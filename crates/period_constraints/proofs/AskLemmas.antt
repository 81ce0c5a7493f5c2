-- The first question, from the first visits, pairs and moves by their numbers.
use Rattle.std.proofs.Common.{⊎_elim, inl, inr, ◌⊎◌, ◌≡◌, ℕ, suc, ◌+◌, ◌*◌, ◌/◌, ◌%◌, ◌<◌, ◌≤◌, List, [], ◌∷◌, length, sym, ◌∙◌, ap, subst, arith, ℤ, Some, None}
use Rattle.std.specs.Prelude.{unsigned_abs}
use Rattle.std.proofs.lemmas.Int.{ints}
use Rattle.std.proofs.lemmas.Nat.{mul-le, div-mul-add, mod-mul-add, div-add-mod'}
use Rattle.hoist_base.specs.LineData.{LineData, last_stage, IsMove, IsVisit, visit_at, move_at}
use Rattle.hoist_base.proofs.NumberLemmas.{move_below, move_named, visit_below, visit_named}
use Rattle.hoist_base.specs.declared.ids.MoveId.{MoveId}
use Rattle.hoist_base.specs.declared.ids.VisitId.{VisitId}
use Rattle.choice_tree.specs.declared.question.Question.{Question}
use Rattle.choice_tree.specs.declared.question.Question.TheVariants.{Assign, TankOrder, HoistOrder, Choose}
use Rattle.choice_tree.specs.declared.question.Decision.{Decision}
use Rattle.path_constraints.specs.Questions.{IsBefore, IsOpenVisit, IsOpenMove}
use Rattle.period_constraints.specs.Order.{NamesBefore, IsAsked, ComesBefore, IsFirstQuestion}
use Rattle.period_constraints.specs.Pairs.{Pair, IsOpenVisitAt, IsOpenMoveAt, IsFirstNumber, IsFirstPair, IsAskedTank, IsAskedHoist}

-- ---- numbers and names

before_numbers : (c k c' k' m : ℕ) → k < m → IsBefore c k c' k' → c * m + k < c' * m + k'
before_numbers c k c' k' m small before =
    ⊎_elim (λ lt. omega (arith, small, mul-le (suc c) m c' m lt (omega arith))) (λ same. omega (arith, same.1, ap (λ (x : ℕ). x * m) same.0)) before

pub same_number : (c k i m : ℕ) → c ≡ i / m → k ≡ i % m → c * m + k ≡ i
same_number c k i m e f = omega (arith, ap (λ (x : ℕ). x * m) e, f, div-add-mod' i m)

-- a name before another has a lower number
name_below : (c k i m : ℕ) → k < m → NamesBefore (c ∷ k ∷ []) (i / m ∷ i % m ∷ []) → c * m + k < i
name_below c k i m small before =
    ⊎_elim (λ lt. omega (arith, small, div-add-mod' i m, mul-le (suc c) m (i / m) m lt (omega arith)))
    (λ same.
    ⊎_elim (λ lt. omega (arith, lt, div-add-mod' i m, ap (λ (x : ℕ). x * m) same.0)) (λ last. absurd last.1) same.1)
    before

-- and so do the names of two
names_below : (c k c' k' i j m : ℕ) → k < m → k' < m
    → NamesBefore (c ∷ k ∷ c' ∷ k' ∷ []) (i / m ∷ i % m ∷ j / m ∷ j % m ∷ [])
    → (c * m + k < i) ⊎ ((c * m + k ≡ i) × (c' * m + k' < j))
names_below c k c' k' i j m small small' before =
    ⊎_elim (λ lt. inl (name_below c k i m small (inl lt)))
    (λ same.
    ⊎_elim (λ lt. inl (name_below c k i m small (inr (same.0, inl lt))))
    (λ both. inr (same_number c k i m same.0 both.0, name_below c' k' j m small' both.1))
    same.1)
    before

-- ---- what is asked of visits and moves is asked of their numbers

pub step_below : (l : LineData) (m : MoveId) → IsMove l m.carrier m.step → m.step < last_stage l
step_below l m there = omega (arith, there.1)

open_visit_at : (l : LineData) (path : List Decision) (v : VisitId) → IsOpenVisit l path v
    → IsOpenVisitAt l path (v.carrier * length l.stages + v.stage)
open_visit_at l path v h =
    let P : VisitId → Type 0 = λ w. IsOpenVisit l path w in
    (visit_below l v.carrier v.stage h.visit, subst P (sym (visit_named l v h.visit)) h)

open_move_at : (l : LineData) (path : List Decision) (m : MoveId) → IsOpenMove l path m
    → IsOpenMoveAt l path (m.carrier * last_stage l + m.step)
open_move_at l path m h =
    let P : MoveId → Type 0 = λ w. IsOpenMove l path w in
    (move_below l m.carrier m.step h.move, subst P (sym (move_named l m h.move)) h)

tank_at : (l : LineData) (path : List Decision) (s : ℕ → ℤ) (period : ℕ) (a b : VisitId) (q : ℤ)
    → IsAsked l path s period (TankOrder a b q)
    → IsAskedTank l path s period (a.carrier * length l.stages + a.stage) (b.carrier * length l.stages + b.stage) q
tank_at l path s period a b q h =
    let share = h.stands in
    let P1 : VisitId → Type 0 = λ x. IsAsked l path s period (TankOrder x b q) in
    let P2 : VisitId → Type 0 = λ x. IsAsked l path s period (TankOrder (visit_at l (a.carrier * length l.stages + a.stage)) x q) in
    record {
      before = before_numbers a.carrier a.stage b.carrier b.stage (length l.stages) share.first.1 share.before;
      there = visit_below l b.carrier b.stage share.second;
      asked = subst P2 (sym (visit_named l b share.second)) (subst P1 (sym (visit_named l a share.first)) h);
    }

hoist_at : (l : LineData) (path : List Decision) (s : ℕ → ℤ) (period : ℕ) (a b : MoveId) (q : ℤ)
    → IsAsked l path s period (HoistOrder a b q)
    → IsAskedHoist l path s period (a.carrier * last_stage l + a.step) (b.carrier * last_stage l + b.step) q
hoist_at l path s period a b q h =
    let clash = h.stands in
    let P1 : MoveId → Type 0 = λ x. IsAsked l path s period (HoistOrder x b q) in
    let P2 : MoveId → Type 0 = λ x. IsAsked l path s period (HoistOrder (move_at l (a.carrier * last_stage l + a.step)) x q) in
    record {
      before = before_numbers a.carrier a.step b.carrier b.step (last_stage l) (step_below l a clash.first) clash.before;
      there = move_below l b.carrier b.step clash.second;
      asked = subst P2 (sym (move_named l b clash.second)) (subst P1 (sym (move_named l a clash.first)) h);
    }

-- ---- the first question by kinds

-- no question of a kind is asked
abbrev pub NoChoice : LineData → List Decision → Type 0
NoChoice l path = IsFirstNumber (IsOpenVisitAt l path) None

abbrev pub NoTankOrder : LineData → List Decision → (ℕ → ℤ) → ℕ → Type 0
NoTankOrder l path s period = IsFirstPair (IsAskedTank l path s period) None

abbrev pub NoHoistOrder : LineData → List Decision → (ℕ → ℤ) → ℕ → Type 0
NoHoistOrder l path s period = IsFirstPair (IsAskedHoist l path s period) None

abbrev pub NoAssign : LineData → List Decision → Type 0
NoAssign l path = IsFirstNumber (IsOpenMoveAt l path) None

pub first_choice : (l : LineData) (path : List Decision) (s : ℕ → ℤ) (period i : ℕ) (v : VisitId) → v ≡ visit_at l i
    → IsFirstNumber (IsOpenVisitAt l path) (Some i)
    → IsFirstQuestion l path s period (Some (Choose v))
first_choice l path s period i v is first =
    let Q : VisitId → Type 0 = λ w. IsFirstQuestion l path s period (Some (Choose w)) in
    subst Q (sym is) (record { stands = first.0.1; small = omega (arith, ints) }, tt, never)
  where
    never : (x : Question) → IsAsked l path s period x → ComesBefore x (Choose (visit_at l i)) → ⊥
    never (Choose w) h before =
        let open_at = open_visit_at l path w h.stands in
        ⊎_elim (λ lt. omega (arith, lt))
        (λ same. ⊎_elim (λ names. first.1 (w.carrier * length l.stages + w.stage) (name_below w.carrier w.stage i (length l.stages) h.stands.visit.1 names)
        open_at) (λ later. omega (arith, ints, later.1)) same.1)
        before
    never (TankOrder a b q) h before = ⊎_elim (λ lt. omega (arith, lt)) (λ same. omega (arith, same.0)) before
    never (HoistOrder a b q) h before = ⊎_elim (λ lt. omega (arith, lt)) (λ same. omega (arith, same.0)) before
    never (Assign m) h before = ⊎_elim (λ lt. omega (arith, lt)) (λ same. omega (arith, same.0)) before

pub first_tank_order : (l : LineData) (path : List Decision) (s : ℕ → ℤ) (period : ℕ) (x : Pair) (a b : VisitId) (q : ℤ)
    → a ≡ visit_at l x.first → b ≡ visit_at l x.second → q ≡ x.shift → unsigned_abs x.shift ≤ 1000000000
    → NoChoice l path → IsFirstPair (IsAskedTank l path s period) (Some x)
    → IsFirstQuestion l path s period (Some (TankOrder a b q))
first_tank_order l path s period x a b q is_a is_b is_q small none first =
    let Q1 : VisitId → Type 0 = λ w. IsFirstQuestion l path s period (Some (TankOrder w b q)) in
    let Q2 : VisitId → Type 0 = λ w. IsFirstQuestion l path s period (Some (TankOrder (visit_at l x.first) w q)) in
    let Q3 : ℤ → Type 0 = λ z. IsFirstQuestion l path s period (Some (TankOrder (visit_at l x.first) (visit_at l x.second) z)) in
    subst Q1 (sym is_a) (subst Q2 (sym is_b) (subst Q3 (sym is_q) (record { stands = first.0.asked.stands; small = small }, first.0.asked.fails, never)))
  where
    never : (y : Question) → IsAsked l path s period y
        → ComesBefore y (TankOrder (visit_at l x.first) (visit_at l x.second) x.shift) → ⊥
    never (Choose w) h before = none (w.carrier * length l.stages + w.stage) (open_visit_at l path w h.stands)
    never (TankOrder c d r) h before =
        let m = length l.stages in
        let asked = tank_at l path s period c d r h in
        ⊎_elim (λ lt. omega (arith, lt))
        (λ same.
        ⊎_elim
        (λ names.
        first.1 (c.carrier * m + c.stage) (d.carrier * m + d.stage) r
        (⊎_elim (λ lt. inl lt) (λ rest. inr (rest.0, inl rest.1))
        (names_below c.carrier c.stage d.carrier d.stage x.first x.second m h.stands.first.1 h.stands.second.1 names)) asked)
        (λ later.
        let e1 : c.carrier ≡ x.first / m = let e = later.0 in cc in
        let e2 : c.stage ≡ x.first % m = let e = later.0 in cc in
        let e3 : d.carrier ≡ x.second / m = let e = later.0 in cc in
        let e4 : d.stage ≡ x.second % m = let e = later.0 in cc in
        first.1 (c.carrier * m + c.stage) (d.carrier * m + d.stage) r
        (inr (same_number c.carrier c.stage x.first m e1 e2, inr (same_number d.carrier d.stage x.second m e3 e4, later.1))) asked)
        same.1)
        before
    never (HoistOrder c d r) h before = ⊎_elim (λ lt. omega (arith, lt)) (λ same. omega (arith, same.0)) before
    never (Assign m) h before = ⊎_elim (λ lt. omega (arith, lt)) (λ same. omega (arith, same.0)) before

pub first_hoist_order : (l : LineData) (path : List Decision) (s : ℕ → ℤ) (period : ℕ) (x : Pair) (a b : MoveId) (q : ℤ)
    → a ≡ move_at l x.first → b ≡ move_at l x.second → q ≡ x.shift → unsigned_abs x.shift ≤ 1000000000
    → NoChoice l path → NoTankOrder l path s period → IsFirstPair (IsAskedHoist l path s period) (Some x)
    → IsFirstQuestion l path s period (Some (HoistOrder a b q))
first_hoist_order l path s period x a b q is_a is_b is_q small none no_tank first =
    let Q1 : MoveId → Type 0 = λ w. IsFirstQuestion l path s period (Some (HoistOrder w b q)) in
    let Q2 : MoveId → Type 0 = λ w. IsFirstQuestion l path s period (Some (HoistOrder (move_at l x.first) w q)) in
    let Q3 : ℤ → Type 0 = λ z. IsFirstQuestion l path s period (Some (HoistOrder (move_at l x.first) (move_at l x.second) z)) in
    subst Q1 (sym is_a) (subst Q2 (sym is_b) (subst Q3 (sym is_q) (record { stands = first.0.asked.stands; small = small }, first.0.asked.fails, never)))
  where
    never : (y : Question) → IsAsked l path s period y
        → ComesBefore y (HoistOrder (move_at l x.first) (move_at l x.second) x.shift) → ⊥
    never (Choose w) h before = none (w.carrier * length l.stages + w.stage) (open_visit_at l path w h.stands)
    never (TankOrder c d r) h before = no_tank (c.carrier * length l.stages + c.stage) (d.carrier * length l.stages + d.stage) r
        (tank_at l path s period c d r h)
    never (HoistOrder c d r) h before =
        let m = last_stage l in
        let asked = hoist_at l path s period c d r h in
        ⊎_elim (λ lt. omega (arith, lt))
        (λ same.
        ⊎_elim
        (λ names.
        first.1 (c.carrier * m + c.step) (d.carrier * m + d.step) r
        (⊎_elim (λ lt. inl lt) (λ rest. inr (rest.0, inl rest.1))
        (names_below c.carrier c.step d.carrier d.step x.first x.second m (step_below l c h.stands.first) (step_below l d h.stands.second) names)) asked)
        (λ later.
        let e1 : c.carrier ≡ x.first / m = let e = later.0 in cc in
        let e2 : c.step ≡ x.first % m = let e = later.0 in cc in
        let e3 : d.carrier ≡ x.second / m = let e = later.0 in cc in
        let e4 : d.step ≡ x.second % m = let e = later.0 in cc in
        first.1 (c.carrier * m + c.step) (d.carrier * m + d.step) r
        (inr (same_number c.carrier c.step x.first m e1 e2, inr (same_number d.carrier d.step x.second m e3 e4, later.1))) asked)
        same.1)
        before
    never (Assign m) h before = ⊎_elim (λ lt. omega (arith, lt)) (λ same. omega (arith, same.0)) before

pub first_assign : (l : LineData) (path : List Decision) (s : ℕ → ℤ) (period i : ℕ) (m : MoveId) → m ≡ move_at l i
    → NoChoice l path → NoTankOrder l path s period → NoHoistOrder l path s period
    → IsFirstNumber (IsOpenMoveAt l path) (Some i)
    → IsFirstQuestion l path s period (Some (Assign m))
first_assign l path s period i m is none no_tank no_hoist first =
    let Q : MoveId → Type 0 = λ w. IsFirstQuestion l path s period (Some (Assign w)) in
    subst Q (sym is) (record { stands = first.0.1; small = omega (arith, ints) }, tt, never)
  where
    never : (x : Question) → IsAsked l path s period x → ComesBefore x (Assign (move_at l i)) → ⊥
    never (Choose w) h before = none (w.carrier * length l.stages + w.stage) (open_visit_at l path w h.stands)
    never (TankOrder c d r) h before = no_tank (c.carrier * length l.stages + c.stage) (d.carrier * length l.stages + d.stage) r
        (tank_at l path s period c d r h)
    never (HoistOrder c d r) h before = no_hoist (c.carrier * last_stage l + c.step) (d.carrier * last_stage l + d.step) r (hoist_at l path s period c d r h)
    never (Assign w) h before =
        let open_at = open_move_at l path w h.stands in
        ⊎_elim (λ lt. omega (arith, lt))
        (λ same.
        ⊎_elim (λ names. first.1 (w.carrier * last_stage l + w.step) (name_below w.carrier w.step i (last_stage l) (step_below l w h.stands.move) names)
        open_at)
        (λ later. omega (arith, ints, later.1)) same.1)
        before

pub no_question : (l : LineData) (path : List Decision) (s : ℕ → ℤ) (period : ℕ) → NoChoice l path
    → NoTankOrder l path s period → NoHoistOrder l path s period
    → NoAssign l path
    → IsFirstQuestion l path s period None
no_question l path s period none no_tank no_hoist no_assign (Choose w) h = none (w.carrier * length l.stages + w.stage) (open_visit_at l path w h.stands)
no_question l path s period none no_tank no_hoist no_assign (TankOrder c d r) h = no_tank (c.carrier * length l.stages + c.stage)
    (d.carrier * length l.stages + d.stage) r (tank_at l path s period c d r h)
no_question l path s period none no_tank no_hoist no_assign (HoistOrder c d r) h = no_hoist (c.carrier * last_stage l + c.step)
    (d.carrier * last_stage l + d.step) r (hoist_at l path s period c d r h)
no_question l path s period none no_tank no_hoist no_assign (Assign w) h = no_assign (w.carrier * last_stage l + w.step) (open_move_at l path w h.stands)
