-- Where the constraints stand in the list.
use Rattle.std.proofs.Common.{◌≡◌, ℕ, zero, suc, ◌+◌, ◌-◌, ◌*◌, ◌<◌, ◌≤◌, List, [], ◌∷◌, ◌++◌, length, get_or, map, Bool, true, false, cond, refl, sym, ◌∙◌, ap, subst, arith}
use Rattle.std.specs.Prelude.{flat_map, filter, is_some}
use Rattle.std.proofs.lemmas.List.{length-append}
use Rattle.hoist_base.specs.LineData.{LineData, stage, last_stage, last_step}
use Rattle.choice_tree.specs.declared.constraint.Constraint.{Constraint}
use Rattle.choice_tree.specs.declared.constraint.Constraint.TheVariants.{Min, Max, Entry, Visit, Repeat, Decided}
use Rattle.choice_tree.specs.Nodes.{numbers_from}
use Rattle.choice_tree.proofs.NodeLemmas.{length-numbers_from, numbers_from-push}
use Rattle.choice_tree.specs.declared.question.Decision.{Decision}
use Rattle.path_constraints.specs.Constraints.{IsConstraint, steps, inner_stages, later_stages, by_carrier, undecided_list}
use Rattle.path_constraints.specs.Places.{maxes_before, maxes, place, undecided_count, IsUndecided}
use Rattle.path_constraints.proofs.RideLemmas.{count_end_yes, count_end_no}
use Rattle.path_constraints.proofs.NameLemmas.{place_in, IsListed, in_mins, in_maxes, in_entries, in_visits, in_repeats}

-- the constraints have the numbers from a on, in their order
abbrev Numbered : (Constraint → ℕ) → ℕ → List Constraint → Type 0
Numbered f a [] = Unit {0}
Numbered f a (x ∷ xs) = (f x ≡ a) × Numbered f (a + 1) xs

numbered-append : (f : Constraint → ℕ) (a b : ℕ) (xs ys : List Constraint) → b ≡ a + length xs → Numbered f a xs
    → Numbered f b ys → Numbered f a (xs ++ ys)
numbered-append f a b [] ys e h k = let P : ℕ → Type 0 = λ n. Numbered f n ys in let same : b ≡ a = omega (arith, e) in subst P same k
numbered-append f a b (x ∷ xs) ys e h k = (h.0, numbered-append f (a + 1) b xs ys (omega (arith, e)) h.1 k)

numbered_at : (f : Constraint → ℕ) (a : ℕ) (xs : List Constraint) (i : ℕ) (d : Constraint) → Numbered f a xs
    → i < length xs → f (get_or xs i d) ≡ a + i
numbered_at f a [] i d h lt = absurd (omega (arith, lt))
numbered_at f a (x ∷ xs) zero d h lt = omega (arith, h.0)
numbered_at f a (x ∷ xs) (suc i) d h lt = omega (arith, numbered_at f (a + 1) xs i d h.1 (omega (arith, lt)))

-- a row of constraints by stage or step
numbered_row : (f : Constraint → ℕ) (g : ℕ → Constraint) (first count a : ℕ)
    → ((k : ℕ) → first ≤ k → f (g k) ≡ a + (k - first))
    → Numbered f a (map g (numbers_from first count))
numbered_row f g first zero a h = tt
numbered_row f g first (suc count) a h = (
  omega (arith, h first (omega arith)),
  numbered_row f g (first + 1) count (a + 1) (λ k le. omega (arith, le, h k (omega (arith, le)))),
)

-- rows of one width by carrier
numbered_carriers : (f : Constraint → ℕ) (row : ℕ → List Constraint) (base width first count : ℕ)
    → ((c : ℕ) → length (row c) ≡ width)
    → ((c : ℕ) → Numbered f (base + c * width) (row c))
    → Numbered f (base + first * width) (flat_map row (numbers_from first count))
numbered_carriers f row base width first zero wide h = tt
numbered_carriers f row base width first (suc count) wide h =
    let next : base + (first + 1) * width ≡ base + first * width + length (row first) = omega (arith, wide first) in
    numbered-append f (base + first * width) (base + (first + 1) * width) (row first) (flat_map row (numbers_from (first + 1) count)) next (h first)
    (numbered_carriers f row base width (first + 1) count wide h)

length_carriers : (row : ℕ → List Constraint) (width first count : ℕ) → ((c : ℕ) → length (row c) ≡ width)
    → length (flat_map row (numbers_from first count)) ≡ count * width
length_carriers row width first zero wide = omega arith
length_carriers row width first (suc count) wide =
    omega (arith, length-append (row first) (flat_map row (numbers_from (first + 1) count)), wide first, length_carriers row width (first + 1) count wide)

by_carriers : (f : Constraint → ℕ) (l : LineData) (row : ℕ → List Constraint) (base width : ℕ)
    → ((c : ℕ) → length (row c) ≡ width)
    → ((c : ℕ) → Numbered f (base + c * width) (row c)) → Numbered f base (by_carrier l row)
by_carriers f l row base width wide h =
    let e : base + 0 * width ≡ base = omega arith in
    let P : ℕ → Type 0 = λ n. Numbered f n (by_carrier l row) in
    subst P e (numbered_carriers f row base width 0 l.degree wide h)

length_row : (g : ℕ → Constraint) (first count : ℕ) → length (map g (numbers_from first count)) ≡ count
length_row g first zero = refl
length_row g first (suc count) = ap (λ (n : ℕ). suc n) (length_row g (first + 1) count)

-- ---- the stages with a greatest dwell

abbrev has_max : LineData → ℕ → Bool
has_max l k = is_some (stage l k).max

abbrev max_row : LineData → ℕ → ℕ → List Constraint
max_row l c k = cond (has_max l k) (Max c k ∷ []) []

pub max_yes : (l : LineData) (k : ℕ) → 1 ≤ k → has_max l k ≡ true → maxes_before l (k + 1) ≡ maxes_before l k + 1
max_yes l k some e =
    let P : ℕ → Bool = λ j. is_some (stage l j).max in
    let here : k + 1 - 1 ≡ suc (k - 1) = omega (arith, some) in
    let at : 1 + (k - 1) ≡ k = omega (arith, some) in
    ap (λ (n : ℕ). length (filter P (numbers_from 1 n))) here
    ∙ ap (λ (xs : List ℕ). length (filter P xs)) (numbers_from-push 1 (k - 1) ∙ ap (λ (n : ℕ). numbers_from 1 (k - 1) ++ n ∷ []) at)
    ∙ count_end_yes P (numbers_from 1 (k - 1)) k e

pub max_no : (l : LineData) (k : ℕ) → 1 ≤ k → has_max l k ≡ false → maxes_before l (k + 1) ≡ maxes_before l k
max_no l k some e =
    let P : ℕ → Bool = λ j. is_some (stage l j).max in
    let here : k + 1 - 1 ≡ suc (k - 1) = omega (arith, some) in
    let at : 1 + (k - 1) ≡ k = omega (arith, some) in
    ap (λ (n : ℕ). length (filter P (numbers_from 1 n))) here
    ∙ ap (λ (xs : List ℕ). length (filter P xs)) (numbers_from-push 1 (k - 1) ∙ ap (λ (n : ℕ). numbers_from 1 (k - 1) ++ n ∷ []) at)
    ∙ count_end_no P (numbers_from 1 (k - 1)) k e

numbered_max : (l : LineData) (c base first count : ℕ) → 1 ≤ first
    → ((k : ℕ) → place l (Max c k) ≡ base + maxes_before l k)
    → Numbered (place l) (base + maxes_before l first) (flat_map (max_row l c) (numbers_from first count))
numbered_max l c base first zero some h = tt
numbered_max l c base first (suc count) some h =
    at_head (has_max l first) refl (numbered_max l c base (first + 1) count (omega (arith, some)) h)
  where
    at_head : (b : Bool) → has_max l first ≡ b
        → Numbered (place l) (base + maxes_before l (first + 1)) (flat_map (max_row l c) (numbers_from (first + 1) count))
        → Numbered (place l) (base + maxes_before l first) (flat_map (max_row l c) (numbers_from first (suc count)))
    at_head true e rest =
        let row : max_row l c first ≡ Max c first ∷ [] = ap (λ (b : Bool). cond b (Max c first ∷ []) []) e in
        let next : base + maxes_before l (first + 1) ≡ base + maxes_before l first + 1 = omega (arith, max_yes l first some e) in
        let P : List Constraint → Type 0 = λ xs. Numbered (place l) (base + maxes_before l first)
        (xs ++ flat_map (max_row l c) (numbers_from (first + 1) count)) in
        let Q : ℕ → Type 0 = λ n. Numbered (place l) n (flat_map (max_row l c) (numbers_from (first + 1) count)) in
        subst P (sym row) (h first, subst Q next rest)
    at_head false e rest =
        let row : max_row l c first ≡ [] = ap (λ (b : Bool). cond b (Max c first ∷ []) []) e in
        let next : base + maxes_before l (first + 1) ≡ base + maxes_before l first = omega (arith, max_no l first some e) in
        let P : List Constraint → Type 0 = λ xs. Numbered (place l) (base + maxes_before l first)
        (xs ++ flat_map (max_row l c) (numbers_from (first + 1) count)) in
        let Q : ℕ → Type 0 = λ n. Numbered (place l) n (flat_map (max_row l c) (numbers_from (first + 1) count)) in
        subst P (sym row) (subst Q next rest)

length_max : (l : LineData) (c : ℕ) (ks : List ℕ)
    → length (flat_map (max_row l c) ks) ≡ length (filter (λ j. is_some (stage l j).max) ks)
length_max l c [] = refl
length_max l c (k ∷ ks) = at_head (has_max l k) refl (length_max l c ks)
  where
    at_head : (b : Bool) → has_max l k ≡ b
        → length (flat_map (max_row l c) ks) ≡ length (filter (λ j. is_some (stage l j).max) ks)
        → length (flat_map (max_row l c) (k ∷ ks)) ≡ length (filter (λ j. is_some (stage l j).max) (k ∷ ks))
    at_head true e same =
        let left = ap (λ (b : Bool). length (cond b (Max c k ∷ []) [] ++ flat_map (max_row l c) ks)) e in
        let right = ap (λ (b : Bool). length (cond b (k ∷ filter (λ j. is_some (stage l j).max) ks) (filter (λ j. is_some (stage l j).max) ks))) e in
        omega (arith, left, right, same)
    at_head false e same =
        let left = ap (λ (b : Bool). length (cond b (Max c k ∷ []) [] ++ flat_map (max_row l c) ks)) e in
        let right = ap (λ (b : Bool). length (cond b (k ∷ filter (λ j. is_some (stage l j).max) ks) (filter (λ j. is_some (stage l j).max) ks))) e in
        omega (arith, left, right, same)

-- at most one for each stage before
pub few_maxes : (l : LineData) (k : ℕ) → maxes_before l k ≤ k - 1
few_maxes l k = omega (arith, few (λ j. is_some (stage l j).max) (numbers_from 1 (k - 1)), length-numbers_from 1 (k - 1))
  where
    few : (p : ℕ → Bool) (xs : List ℕ) → length (filter p xs) ≤ length xs
    few p [] = omega arith
    few p (x ∷ xs) = at_head (p x) (few p xs)
      where
        at_head : (b : Bool) → length (filter p xs) ≤ length xs
            → length (cond b (x ∷ filter p xs) (filter p xs)) ≤ length (x ∷ xs)
        at_head true le = omega (arith, le)
        at_head false le = omega (arith, le)

maxes_all : (l : LineData) → length (filter (λ j. is_some (stage l j).max) (inner_stages l)) ≡ maxes l
maxes_all l =
    let e : last_step l ≡ last_stage l - 1 = omega arith in
    ap (λ (n : ℕ). length (filter (λ j. is_some (stage l j).max) (numbers_from 1 n))) e

-- ---- the list

abbrev mins : LineData → List Constraint
mins l = by_carrier l (λ c. map (λ k. Min c k) (inner_stages l))

abbrev max_list : LineData → List Constraint
max_list l = by_carrier l (λ c. flat_map (max_row l c) (inner_stages l))

abbrev entries : LineData → List Constraint
entries l = by_carrier l (λ c. Entry c ∷ [])

abbrev visits : LineData → List Constraint
visits l = by_carrier l (λ c. map (λ k. Visit c k) (later_stages l))

abbrev repeats : LineData → List Constraint
repeats l = by_carrier l (λ c. map (λ k. Repeat c k) (steps l))

length_mins : (l : LineData) → length (mins l) ≡ l.degree * last_step l
length_mins l = length_carriers (λ c. map (λ k. Min c k) (inner_stages l)) (last_step l) 0 l.degree (λ c. length_row (λ k. Min c k) 1 (last_step l))

length_max_list : (l : LineData) → length (max_list l) ≡ l.degree * maxes l
length_max_list l = length_carriers (λ c. flat_map (max_row l c) (inner_stages l)) (maxes l) 0 l.degree (λ c. length_max l c (inner_stages l) ∙ maxes_all l)

length_entries : (l : LineData) → length (entries l) ≡ l.degree * 1
length_entries l = length_carriers (λ c. Entry c ∷ []) 1 0 l.degree (λ c. refl)

length_visits : (l : LineData) → length (visits l) ≡ l.degree * last_stage l
length_visits l = length_carriers (λ c. map (λ k. Visit c k) (later_stages l)) (last_stage l) 0 l.degree (λ c. length_row (λ k. Visit c k) 1 (last_stage l))

length_repeats : (l : LineData) → length (repeats l) ≡ l.degree * last_stage l
length_repeats l = length_carriers (λ c. map (λ k. Repeat c k) (steps l)) (last_stage l) 0 l.degree (λ c. length_row (λ k. Repeat c k) 0 (last_stage l))

pub length_undecided : (l : LineData) → length (undecided_list l) ≡ undecided_count l
length_undecided l =
    let e1 = length-append (mins l) (max_list l) in
    let e2 = length-append (mins l ++ max_list l) (entries l) in
    let e3 = length-append (mins l ++ max_list l ++ entries l) (visits l) in
    let e4 = length-append (mins l ++ max_list l ++ entries l ++ visits l) (repeats l) in
    omega (arith, e1, e2, e3, e4, length_mins l, length_max_list l, length_entries l, length_visits l, length_repeats l)

numbered_list : (l : LineData) → Numbered (place l) 0 (undecided_list l)
numbered_list l =
    let a = l.degree * last_step l in
    let b = l.degree * last_step l + l.degree * maxes l in
    let d = l.degree * last_step l + (l.degree * maxes l + l.degree) in
    let e = l.degree * last_step l + (l.degree * maxes l + (l.degree + l.degree * last_stage l)) in
    let n1 : Numbered (place l) 0 (mins l) = by_carriers (place l) l (λ c. map (λ k. Min c k) (inner_stages l)) 0 (last_step l)
    (λ c. length_row (λ k. Min c k) 1 (last_step l))
    (λ c. numbered_row (place l) (λ k. Min c k) 1 (last_step l) (0 + c * last_step l) (λ k le. omega arith)) in
    let n2 : Numbered (place l) a (max_list l) = by_carriers (place l) l (λ c. flat_map (max_row l c) (inner_stages l)) a (maxes l)
    (λ c. length_max l c (inner_stages l) ∙ maxes_all l)
    (λ c.
    let base = a + c * maxes l in
    let none : maxes_before l 1 ≡ 0 = refl in
    let same : base + maxes_before l 1 ≡ base = omega (arith, none) in
    let P : ℕ → Type 0 = λ n. Numbered (place l) n (flat_map (max_row l c) (inner_stages l)) in
    subst P same (numbered_max l c base 1 (last_step l) (omega arith) (λ k. omega arith))) in
    let n3 : Numbered (place l) b (entries l) = by_carriers (place l) l (λ c. Entry c ∷ []) b 1 (λ c. refl) (λ c. (omega arith, tt)) in
    let n4 : Numbered (place l) d (visits l) = by_carriers (place l) l (λ c. map (λ k. Visit c k) (later_stages l)) d (last_stage l)
    (λ c. length_row (λ k. Visit c k) 1 (last_stage l))
    (λ c. numbered_row (place l) (λ k. Visit c k) 1 (last_stage l) (d + c * last_stage l) (λ k le. omega arith)) in
    let n5 : Numbered (place l) e (repeats l) = by_carriers (place l) l (λ c. map (λ k. Repeat c k) (steps l)) e (last_stage l)
    (λ c. length_row (λ k. Repeat c k) 0 (last_stage l))
    (λ c. numbered_row (place l) (λ k. Repeat c k) 0 (last_stage l) (e + c * last_stage l) (λ k le. omega arith)) in
    let e1 = length-append (mins l) (max_list l) in
    let e2 = length-append (mins l ++ max_list l) (entries l) in
    let e3 = length-append (mins l ++ max_list l ++ entries l) (visits l) in
    let m2 = numbered-append (place l) 0 a (mins l) (max_list l) (omega (arith, length_mins l)) n1 n2 in
    let m3 = numbered-append (place l) 0 b (mins l ++ max_list l) (entries l) (omega (arith, e1, length_mins l, length_max_list l)) m2 n3 in
    let m4 = numbered-append (place l) 0 d (mins l ++ max_list l ++ entries l) (visits l)
    (omega (arith, e1, e2, length_mins l, length_max_list l, length_entries l)) m3 n4 in
    numbered-append (place l) 0 e (mins l ++ max_list l ++ entries l ++ visits l) (repeats l)
    (omega (arith, e1, e2, e3, length_mins l, length_max_list l, length_entries l, length_visits l)) m4 n5

-- the constraint at a place stands there
pub place_at : (l : LineData) (i : ℕ) (d : Constraint) → i < undecided_count l
    → place l (get_or (undecided_list l) i d) ≡ i
place_at l i d lt =
    omega (arith, numbered_at (place l) 0 (undecided_list l) i d (numbered_list l) (omega (arith, lt, length_undecided l)))

pub is_listed : (l : LineData) (path : List Decision) (t : Constraint) → 2 ≤ length l.stages → IsUndecided t
    → IsConstraint l path t → IsListed l t
is_listed l path (Min c k) two u h = in_mins l c k h.0 h.1 h.2
is_listed l path (Max c k) two u h = in_maxes l c k h.0 h.1 h.2 h.3
is_listed l path (Entry c) two u h = in_entries l c h
is_listed l path (Visit c k) two u h = in_visits l c k h.0 h.1 h.2
is_listed l path (Repeat c k) two u h = in_repeats l c k two h.0 h.1
is_listed l path (Decided i) two u h = absurd u

-- where a constraint stands there is that one
pub record Placed (l : LineData) (t d : Constraint) : Type 0 where
  pub there : place l t < undecided_count l
  pub is : get_or (undecided_list l) (place l t) d ≡ t

pub placed : (l : LineData) (path : List Decision) (t d : Constraint) → 2 ≤ length l.stages → IsUndecided t
    → IsConstraint l path t → Placed l t d
placed l path t d two u h =
    let r = place_in (undecided_list l) t d (is_listed l path t two u h) in
    let lt : r.0 < undecided_count l = omega (arith, r.1, length_undecided l) in
    let same : place l t ≡ r.0 = sym (ap (place l) r.2) ∙ place_at l r.0 d lt in
    record { there = omega (arith, same, lt); is = ap (λ (n : ℕ). get_or (undecided_list l) n d) same ∙ r.2 }

-- no two stand at one place
pub place_once : (l : LineData) (path : List Decision) (t u : Constraint) → 2 ≤ length l.stages → IsUndecided t
    → IsUndecided u → IsConstraint l path t
    → IsConstraint l path u → place l t ≡ place l u → t ≡ u
place_once l path t u two a b h k e =
    let p = placed l path t t two a h in
    let q = placed l path u t two b k in
    sym p.is ∙ ap (λ (n : ℕ). get_or (undecided_list l) n t) e ∙ q.is
