-- Which constraints a path has: the list holds exactly those that are named so.
use Rattle.std.proofs.Common.{⊎_elim, inl, inr, ◌⊎◌, ◌≡◌, ℕ, zero, suc, ◌+◌, ◌<◌, ◌≤◌, List, [], ◌∷◌, ◌++◌, length, get_or, map, Bool, true, false, cond, refl, sym, ◌∙◌, ap, subst, arith}
use Rattle.std.specs.Prelude.{filter, flat_map, is_some, IsSome, Contains}
use Rattle.std.proofs.lemmas.Bool.{cases_lt}
use Rattle.hoist_base.specs.LineData.{LineData, stage, last_stage, last_step}
use Rattle.choice_tree.specs.declared.question.Question.{Question}
use Rattle.choice_tree.specs.declared.question.Question.TheVariants.{Assign, TankOrder, HoistOrder, Choose}
use Rattle.choice_tree.specs.declared.question.Decision.{Decision}
use Rattle.choice_tree.specs.declared.constraint.Constraint.{Constraint}
use Rattle.choice_tree.specs.declared.constraint.Constraint.TheVariants.{Min, Max, Entry, Visit, Repeat, Decided}
use Rattle.choice_tree.specs.Nodes.{numbers_from}
use Rattle.path_constraints.specs.Tanks.{decision_at}
use Rattle.path_constraints.specs.Constraints.{IsOrder, IsConstraint, steps, inner_stages, later_stages, by_carrier, undecided_list, decided_by, decided_list, constraint_list}

-- ---- elements of a list, by cases

abbrev pub In : {A : Type 0} → List A → A → Type 0
In [] x = ⊥
In (y ∷ ys) x = (y ≡ x) ⊎ In ys x

pub in_left : {A : Type 0} (xs ys : List A) (x : A) → In xs x → In (xs ++ ys) x
in_left [] ys x h = absurd h
in_left (y ∷ xs) ys x h = ⊎_elim (λ e. inl e) (λ more. inr (in_left xs ys x more)) h

pub in_right : {A : Type 0} (xs ys : List A) (x : A) → In ys x → In (xs ++ ys) x
in_right [] ys x h = h
in_right (y ∷ xs) ys x h = inr (in_right xs ys x h)

pub in_either : {A : Type 0} (xs ys : List A) (x : A) → In (xs ++ ys) x → In xs x ⊎ In ys x
in_either [] ys x h = inr h
in_either (y ∷ xs) ys x h =
    ⊎_elim (λ e. inl (inl e)) (λ more. ⊎_elim (λ a. inl (inr a)) (λ b. inr b) (in_either xs ys x more)) h

pub in_flat_map : {A B : Type 0} (f : A → List B) (xs : List A) (x : A) (t : B) → In xs x → In (f x) t
    → In (flat_map f xs) t
in_flat_map f [] x t h k = absurd h
in_flat_map {A = A} f (y ∷ ys) x t h k =
    ⊎_elim
    (λ e. let P : A → Type 0 = λ a. In (f a) t in in_left (f y) (flat_map f ys) t (subst P (sym e) k))
    (λ more. in_right (f y) (flat_map f ys) t (in_flat_map f ys x t more k)) h

pub from_flat_map : {A B : Type 0} (f : A → List B) (xs : List A) (t : B) → In (flat_map f xs) t
    → (x : A) × In xs x × In (f x) t
from_flat_map f [] t h = absurd h
from_flat_map f (y ∷ ys) t h =
    ⊎_elim (λ here. (y, inl refl, here))
    (λ later. let r = from_flat_map f ys t later in (r.0, inr r.1, r.2)) (in_either (f y) (flat_map f ys) t h)

pub in_map : {A B : Type 0} (f : A → B) (xs : List A) (x : A) → In xs x → In (map f xs) (f x)
in_map f [] x h = absurd h
in_map f (y ∷ ys) x h = ⊎_elim (λ e. inl (ap f e)) (λ more. inr (in_map f ys x more)) h

pub from_map : {A B : Type 0} (f : A → B) (xs : List A) (t : B) → In (map f xs) t → (x : A) × In xs x × (f x ≡ t)
from_map f [] t h = absurd h
from_map f (y ∷ ys) t h =
    ⊎_elim (λ e. (y, inl refl, e)) (λ more. let r = from_map f ys t more in (r.0, inr r.1, r.2)) h

pub in_filter : {A : Type 0} (test : A → Bool) (xs : List A) (x : A) → In xs x → test x ≡ true → In (filter test xs) x
in_filter test [] x h e = absurd h
in_filter {A = A} test (y ∷ ys) x h e =
    ⊎_elim
    (λ here.
    let P : Bool → Type 0 = λ b. In (cond b (y ∷ filter test ys) (filter test ys)) x in
    subst P (sym (ap test here ∙ e)) (inl here))
    (λ more. either (test y) (filter test ys) (in_filter test ys x more e))
    h
  where
    either : (b : Bool) (zs : List A) → In zs x → In (cond b (y ∷ zs) zs) x
    either true zs k = inr k
    either false zs k = k

pub in_numbers : (first count x : ℕ) → first ≤ x → x < first + count → In (numbers_from first count) x
in_numbers first zero x le lt = absurd (omega (arith, le, lt))
in_numbers first (suc count) x le lt =
    ⊎_elim (λ e. inl e) (λ ne. inr (in_numbers (first + 1) count x (omega (arith, le, ne)) (omega (arith, lt)))) (cases_le first x le)
  where
    cases_le : (a b : ℕ) → a ≤ b → (a ≡ b) ⊎ (a < b)
    cases_le a b le = ⊎_elim (λ lt. inr lt) (λ ge. inl (omega (arith, le, ge))) (cases_lt a b)

pub from_numbers : (first count x : ℕ) → In (numbers_from first count) x → (first ≤ x) × (x < first + count)
from_numbers first zero x h = absurd h
from_numbers first (suc count) x h =
    ⊎_elim (λ e. (omega (arith, e), omega (arith, e)))
    (λ more. let r = from_numbers (first + 1) count x more in (omega (arith, r.0), omega (arith, r.1))) h

-- with the place of an element
pub place_in : {A : Type 0} (xs : List A) (x d : A) → In xs x → (k : ℕ) × (k < length xs) × (get_or xs k d ≡ x)
place_in [] x d h = absurd h
place_in (y ∷ ys) x d h =
    ⊎_elim (λ e. (0, omega arith, e)) (λ more. let r = place_in ys x d more in (suc r.0, omega (arith, r.1), r.2)) h

pub in_at : {A : Type 0} (xs : List A) (k : ℕ) (d : A) → k < length xs → In xs (get_or xs k d)
in_at [] k d lt = absurd (omega (arith, lt))
in_at (y ∷ ys) zero d lt = inl refl
in_at (y ∷ ys) (suc k) d lt = inr (in_at ys k d (omega (arith, lt)))

pub contains_in : {A : Type 0} (xs : List A) (x : A) → In xs x → Contains xs x
contains_in xs x h = place_in xs x x h

pub in_contains : {A : Type 0} (xs : List A) (x : A) → Contains xs x → In xs x
in_contains {A = A} xs x (k, lt, e) = let P : A → Type 0 = λ y. In xs y in subst P e (in_at xs k x lt)

-- ---- the constraints

in_if : (b : Bool) (x : Constraint) → b ≡ true → In (cond b (x ∷ []) []) x
in_if true x e = inl refl
in_if false x e = cc

from_if : (b : Bool) (x t : Constraint) → In (cond b (x ∷ []) []) t → (b ≡ true) × (x ≡ t)
from_if true x t h = ⊎_elim (λ e. (refl, e)) (λ none. absurd none) h
from_if false x t h = absurd h

in_carrier : (l : LineData) (row : ℕ → List Constraint) (c : ℕ) (t : Constraint) → c < l.degree → In (row c) t
    → In (by_carrier l row) t
in_carrier l row c t lt h = in_flat_map row (numbers_from 0 l.degree) c t (in_numbers 0 l.degree c (omega arith) (omega (arith, lt))) h

from_carrier : (l : LineData) (row : ℕ → List Constraint) (t : Constraint) → In (by_carrier l row) t
    → (c : ℕ) × (c < l.degree) × In (row c) t
from_carrier l row t h =
    let r = from_flat_map row (numbers_from 0 l.degree) t h in
    let lt = from_numbers 0 l.degree r.0 r.1 in
    (r.0, omega (arith, lt.1), r.2)

abbrev mins : LineData → List Constraint
mins l = by_carrier l (λ c. map (λ k. Min c k) (inner_stages l))

abbrev maxes : LineData → List Constraint
maxes l = by_carrier l (λ c. flat_map (λ k. cond (is_some (stage l k).max) (Max c k ∷ []) []) (inner_stages l))

abbrev entries : LineData → List Constraint
entries l = by_carrier l (λ c. Entry c ∷ [])

abbrev visits : LineData → List Constraint
visits l = by_carrier l (λ c. map (λ k. Visit c k) (later_stages l))

abbrev repeats : LineData → List Constraint
repeats l = by_carrier l (λ c. map (λ k. Repeat c k) (steps l))

abbrev pub IsListed : LineData → Constraint → Type 0
IsListed l t = In (undecided_list l) t

pub in_mins : (l : LineData) (c k : ℕ) → c < l.degree → 1 ≤ k → k ≤ last_step l → IsListed l (Min c k)
in_mins l c k lt some few =
    let here = in_carrier l (λ c. map (λ k. Min c k) (inner_stages l)) c (Min c k) lt
    (in_map (λ k. Min c k) (inner_stages l) k (in_numbers 1 (last_step l) k some (omega (arith, few)))) in
    in_left (mins l ++ maxes l ++ entries l ++ visits l) (repeats l) (Min c k)
    (in_left (mins l ++ maxes l ++ entries l) (visits l) (Min c k)
    (in_left (mins l ++ maxes l) (entries l) (Min c k) (in_left (mins l) (maxes l) (Min c k) here)))

pub in_maxes : (l : LineData) (c k : ℕ) → c < l.degree → 1 ≤ k → k ≤ last_step l → IsSome (stage l k).max
    → IsListed l (Max c k)
in_maxes l c k lt some few there =
    let here = in_carrier l (λ c. flat_map (λ k. cond (is_some (stage l k).max) (Max c k ∷ []) []) (inner_stages l)) c (Max c k) lt
    (in_flat_map (λ k. cond (is_some (stage l k).max) (Max c k ∷ []) []) (inner_stages l) k (Max c k)
    (in_numbers 1 (last_step l) k some (omega (arith, few))) (in_if (is_some (stage l k).max) (Max c k) there)) in
    in_left (mins l ++ maxes l ++ entries l ++ visits l) (repeats l) (Max c k)
    (in_left (mins l ++ maxes l ++ entries l) (visits l) (Max c k)
    (in_left (mins l ++ maxes l) (entries l) (Max c k) (in_right (mins l) (maxes l) (Max c k) here)))

pub in_entries : (l : LineData) (c : ℕ) → c < l.degree → IsListed l (Entry c)
in_entries l c lt =
    let here = in_carrier l (λ c. Entry c ∷ []) c (Entry c) lt (inl refl) in
    in_left (mins l ++ maxes l ++ entries l ++ visits l) (repeats l) (Entry c)
    (in_left (mins l ++ maxes l ++ entries l) (visits l) (Entry c) (in_right (mins l ++ maxes l) (entries l) (Entry c) here))

pub in_visits : (l : LineData) (c k : ℕ) → c < l.degree → 1 ≤ k → k ≤ last_stage l → IsListed l (Visit c k)
in_visits l c k lt some few =
    let here = in_carrier l (λ c. map (λ k. Visit c k) (later_stages l)) c (Visit c k) lt
    (in_map (λ k. Visit c k) (later_stages l) k (in_numbers 1 (last_stage l) k some (omega (arith, few)))) in
    in_left (mins l ++ maxes l ++ entries l ++ visits l) (repeats l) (Visit c k)
    (in_right (mins l ++ maxes l ++ entries l) (visits l) (Visit c k) here)

pub in_repeats : (l : LineData) (c k : ℕ) → 2 ≤ length l.stages → c < l.degree → k ≤ last_step l
    → IsListed l (Repeat c k)
in_repeats l c k two lt few =
    let here = in_carrier l (λ c. map (λ k. Repeat c k) (steps l)) c (Repeat c k) lt
    (in_map (λ k. Repeat c k) (steps l) k (in_numbers 0 (last_stage l) k (omega arith) (omega (arith, few, two)))) in
    in_right (mins l ++ maxes l ++ entries l ++ visits l) (repeats l) (Repeat c k) here

-- ---- back

abbrev Named : LineData → List Decision → Constraint → Type 0
Named l path t = IsConstraint l path t

from_mins : (l : LineData) (path : List Decision) (t : Constraint) → In (mins l) t → Named l path t
from_mins l path t h =
    let r = from_carrier l (λ c. map (λ k. Min c k) (inner_stages l)) t h in
    let s = from_map (λ k. Min r.0 k) (inner_stages l) t r.2 in
    let n = from_numbers 1 (last_step l) s.0 s.1 in
    let is : Named l path (Min r.0 s.0) = (r.1, n.0, omega (arith, n.1)) in
    let P : Constraint → Type 0 = λ x. Named l path x in subst P s.2 is

from_maxes : (l : LineData) (path : List Decision) (t : Constraint) → In (maxes l) t → Named l path t
from_maxes l path t h =
    let r = from_carrier l (λ c. flat_map (λ k. cond (is_some (stage l k).max) (Max c k ∷ []) []) (inner_stages l)) t h in
    let s = from_flat_map (λ k. cond (is_some (stage l k).max) (Max r.0 k ∷ []) []) (inner_stages l) t r.2 in
    let n = from_numbers 1 (last_step l) s.0 s.1 in
    let e = from_if (is_some (stage l s.0).max) (Max r.0 s.0) t s.2 in
    let is : Named l path (Max r.0 s.0) = (r.1, n.0, omega (arith, n.1), e.0) in
    let P : Constraint → Type 0 = λ x. Named l path x in subst P e.1 is

from_entries : (l : LineData) (path : List Decision) (t : Constraint) → In (entries l) t → Named l path t
from_entries l path t h =
    let r = from_carrier l (λ c. Entry c ∷ []) t h in
    let is : Named l path (Entry r.0) = r.1 in
    let P : Constraint → Type 0 = λ x. Named l path x in
    ⊎_elim (λ e. subst P e is) (λ none. absurd none) r.2

from_visits : (l : LineData) (path : List Decision) (t : Constraint) → In (visits l) t → Named l path t
from_visits l path t h =
    let r = from_carrier l (λ c. map (λ k. Visit c k) (later_stages l)) t h in
    let s = from_map (λ k. Visit r.0 k) (later_stages l) t r.2 in
    let n = from_numbers 1 (last_stage l) s.0 s.1 in
    let is : Named l path (Visit r.0 s.0) = (r.1, n.0, omega (arith, n.1)) in
    let P : Constraint → Type 0 = λ x. Named l path x in subst P s.2 is

from_repeats : (l : LineData) (path : List Decision) (t : Constraint) → In (repeats l) t → Named l path t
from_repeats l path t h =
    let r = from_carrier l (λ c. map (λ k. Repeat c k) (steps l)) t h in
    let s = from_map (λ k. Repeat r.0 k) (steps l) t r.2 in
    let n = from_numbers 0 (last_stage l) s.0 s.1 in
    let is : Named l path (Repeat r.0 s.0) = (r.1, omega (arith, n.1)) in
    let P : Constraint → Type 0 = λ x. Named l path x in subst P s.2 is

pub from_undecided : (l : LineData) (path : List Decision) (t : Constraint) → IsListed l t → IsConstraint l path t
from_undecided l path t h =
    ⊎_elim
    (λ h4.
    ⊎_elim
    (λ h3.
    ⊎_elim (λ h2. ⊎_elim (λ h1. from_mins l path t h1) (λ h1. from_maxes l path t h1) (in_either (mins l) (maxes l) t h2)) (λ h2. from_entries l path t h2)
    (in_either (mins l ++ maxes l) (entries l) t h3))
    (λ h3. from_visits l path t h3) (in_either (mins l ++ maxes l ++ entries l) (visits l) t h4))
    (λ h4. from_repeats l path t h4) (in_either (mins l ++ maxes l ++ entries l ++ visits l) (repeats l) t h)

-- ---- decided constraints

in_decided_by : (q : Question) (i : ℕ) → IsOrder q → In (decided_by q i) (Decided i)
in_decided_by (Assign m) i h = absurd h
in_decided_by (TankOrder a b q) i h = inl refl
in_decided_by (HoistOrder a b q) i h = inl refl
in_decided_by (Choose v) i h = absurd h

from_decided_by : (q : Question) (i : ℕ) (t : Constraint) → In (decided_by q i) t → IsOrder q × (Decided i ≡ t)
from_decided_by (Assign m) i t h = absurd h
from_decided_by (TankOrder a b q) i t h = ⊎_elim (λ e. (tt, e)) (λ none. absurd none) h
from_decided_by (HoistOrder a b q) i t h = ⊎_elim (λ e. (tt, e)) (λ none. absurd none) h
from_decided_by (Choose v) i t h = absurd h

in_decided : (i : ℕ) (ds : List Decision) (j : ℕ) → j < length ds → IsOrder (decision_at ds j).question
    → In (decided_list i ds) (Decided (i + j))
in_decided i [] j lt order = absurd (omega (arith, lt))
in_decided i (d ∷ ds) zero lt order =
    let e : i ≡ i + 0 = omega arith in
    let P : ℕ → Type 0 = λ n. In (decided_list i (d ∷ ds)) (Decided n) in
    subst P e (in_left (decided_by d.question i) (decided_list (i + 1) ds) (Decided i) (in_decided_by d.question i order))
in_decided i (d ∷ ds) (suc j) lt order =
    let e : i + 1 + j ≡ i + suc j = omega arith in
    let P : ℕ → Type 0 = λ n. In (decided_list i (d ∷ ds)) (Decided n) in
    subst P e (in_right (decided_by d.question i) (decided_list (i + 1) ds) (Decided (i + 1 + j)) (in_decided (i + 1) ds j (omega (arith, lt)) order))

-- the decision that a decided constraint names
pub record Named_at (i : ℕ) (ds : List Decision) (t : Constraint) : Type 0 where
  pub number : ℕ
  pub there : number < length ds
  pub order : IsOrder (decision_at ds number).question
  pub is : t ≡ Decided (i + number)

pub from_decided : (i : ℕ) (ds : List Decision) (t : Constraint) → In (decided_list i ds) t → Named_at i ds t
from_decided i [] t h = absurd h
from_decided i (d ∷ ds) t h =
    ⊎_elim
    (λ here.
    let r = from_decided_by d.question i t here in
    let e : i ≡ i + 0 = omega arith in
    let found : Named_at i (d ∷ ds) t = record { number = 0; there = omega arith; order = r.0; is = sym r.1 ∙ ap (λ n. Decided n) e } in
    found)
    (λ later.
    let r = from_decided (i + 1) ds t later in
    let e : i + 1 + r.number ≡ i + suc r.number = omega arith in
    let found : Named_at i (d ∷ ds) t = record { number = suc r.number; there = omega (arith, r.there); order = r.order; is = r.is ∙ ap (λ n. Decided n) e } in
    found)
    (in_either (decided_by d.question i) (decided_list (i + 1) ds) t h)

-- ---- the list holds exactly the constraints of the path

pub in_list : (l : LineData) (path : List Decision) (t : Constraint) → 2 ≤ length l.stages → IsConstraint l path t
    → In (constraint_list l path) t
in_list l path (Min c k) two h = in_left (undecided_list l) (decided_list 0 path) (Min c k) (in_mins l c k h.0 h.1 h.2)
in_list l path (Max c k) two h = in_left (undecided_list l) (decided_list 0 path) (Max c k) (in_maxes l c k h.0 h.1 h.2 h.3)
in_list l path (Entry c) two h = in_left (undecided_list l) (decided_list 0 path) (Entry c) (in_entries l c h)
in_list l path (Visit c k) two h = in_left (undecided_list l) (decided_list 0 path) (Visit c k) (in_visits l c k h.0 h.1 h.2)
in_list l path (Repeat c k) two h = in_left (undecided_list l) (decided_list 0 path) (Repeat c k) (in_repeats l c k two h.0 h.1)
in_list l path (Decided i) two h =
    let e : 0 + i ≡ i = omega arith in
    let P : ℕ → Type 0 = λ n. In (constraint_list l path) (Decided n) in
    subst P e (in_right (undecided_list l) (decided_list 0 path) (Decided (0 + i)) (in_decided 0 path i h.0 h.1))

pub from_list : (l : LineData) (path : List Decision) (t : Constraint) → In (constraint_list l path) t
    → IsConstraint l path t
from_list l path t h =
    ⊎_elim (λ undecided. from_undecided l path t undecided)
    (λ decided.
    let r = from_decided 0 path t decided in
    let e : 0 + r.number ≡ r.number = omega arith in
    let is : IsConstraint l path (Decided r.number) = (r.there, r.order) in
    let P : Constraint → Type 0 = λ x. IsConstraint l path x in
    subst P (sym (r.is ∙ ap (λ n. Decided n) e)) is)
    (in_either (undecided_list l) (decided_list 0 path) t h)

pub listed : (l : LineData) (path : List Decision) (t : Constraint) → 2 ≤ length l.stages → IsConstraint l path t
    → Contains (constraint_list l path) t
listed l path t two h = contains_in (constraint_list l path) t (in_list l path t two h)

pub named : (l : LineData) (path : List Decision) (t : Constraint) → Contains (constraint_list l path) t
    → IsConstraint l path t
named l path t h = from_list l path t (in_contains (constraint_list l path) t h)
