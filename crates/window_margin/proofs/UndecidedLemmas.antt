-- The constraints that stand on every path: first those of the dwells, in each of which the margin stands once.
use Rattle.std.proofs.Common.{⊎_elim, ◌≡◌, ℕ, zero, suc, ◌+◌, ◌-◌, ◌*◌, ◌<◌, ◌≤◌, List, [], ◌∷◌, ◌++◌, length, get_or, map, All, refl, sym, ◌∙◌, ap, arith, ℤ, pos, Bool, cond, true, false}
use Rattle.std.specs.Prelude.{flat_map, is_some, nat_lt, if◌then◌else◌}
use Rattle.std.proofs.lemmas.Bool.{cases_lt, lt-ltb, le-ltb}
use Rattle.std.proofs.lemmas.List.{append_assoc, append-nil, length-append, length-map, ext_get_or, get_or-map, get_or_append_left, get_or-append_right}
use Rattle.std.proofs.lemmas.List.Elements.{All-append, All-nil, All-cons, All-map, All-get_or, All-from_get_or}
use Rattle.hoist_base.specs.LineData.{LineData, stage, last_stage}
use Rattle.longest_path.specs.declared.systems.Arc.{Arc}
use Rattle.choice_tree.specs.declared.question.Decision.{Decision}
use Rattle.choice_tree.specs.declared.constraint.Constraint.{Constraint}
use Rattle.choice_tree.specs.declared.constraint.Constraint.TheVariants.{Min, Max, Entry, Visit, Repeat}
use Rattle.choice_tree.specs.Nodes.{numbers_from}
use Rattle.choice_tree.proofs.NodeLemmas.{length-numbers_from}
use Rattle.path_constraints.specs.Constraints.{no_arc, arc_of, arcs_of, by_carrier, inner_stages, later_stages, steps, undecided_list}
use Rattle.window_margin.specs.Arcs.{share_of, at_period, undecided_arcs}
use Rattle.window_margin.specs.Chosen.{DecidesNoOrder}
use Rattle.window_margin.specs.Systems.{arc_at, AreShared}
use Rattle.window_margin.proofs.ChosenLemmas.{none_decided}

abbrev HasShare : ℤ → Constraint → Type 0
HasShare share t = share_of t ≡ share

all_rows : (P : Constraint → Type 0) (row : ℕ → List Constraint) (xs : List ℕ) → ((x : ℕ) → All P (row x))
    → All P (flat_map row xs)
all_rows P row [] h = All-nil P
all_rows P row (x ∷ xs) h = All-append P (row x) (flat_map row xs) (h x) (all_rows P row xs h)

all_in : (P : Constraint → Type 0) (f : ℕ → Constraint) (xs : List ℕ) → ((x : ℕ) → P (f x)) → All P (map f xs)
all_in P f xs h = All-map P f xs (All-from_get_or (λ x. P (f x)) xs 0 (λ i lt. h (get_or xs i 0)))

one_or_none : (P : Constraint → Type 0) (b : Bool) (t : Constraint) → P t → All P (cond b (t ∷ []) [])
one_or_none P true t h = All-cons P t [] h (All-nil P)
one_or_none P false t h = All-nil P

abbrev dwells : LineData → List Constraint
dwells l =
    by_carrier l (λ c. map (λ k. Min c k) (inner_stages l))
    ++ by_carrier l (λ c. flat_map (λ k. cond (is_some (stage l k).max) (Max c k ∷ []) []) (inner_stages l))

abbrev others : LineData → List Constraint
others l =
    by_carrier l (λ c. Entry c ∷ [])
    ++ (by_carrier l (λ c. map (λ k. Visit c k) (later_stages l)) ++ by_carrier l (λ c. map (λ k. Repeat c k) (steps l)))

in_two : (l : LineData) → undecided_list l ≡ dwells l ++ others l
in_two l =
    let a = dwells l in
    let b = by_carrier l (λ c. Entry c ∷ []) in
    let v = by_carrier l (λ c. map (λ k. Visit c k) (later_stages l)) in
    let r = by_carrier l (λ c. map (λ k. Repeat c k) (steps l)) in
    append_assoc (a ++ b) v r ∙ append_assoc a b (v ++ r)

dwells_share : (l : LineData) → All (HasShare (pos 1)) (dwells l)
dwells_share l =
    let P = HasShare (pos 1) in
    All-append P (by_carrier l (λ c. map (λ k. Min c k) (inner_stages l)))
    (by_carrier l (λ c. flat_map (λ k. cond (is_some (stage l k).max) (Max c k ∷ []) []) (inner_stages l)))
    (all_rows P (λ c. map (λ k. Min c k) (inner_stages l)) (numbers_from 0 l.degree) (λ c. all_in P (λ k. Min c k) (inner_stages l) (λ k. refl)))
    (all_rows P (λ c. flat_map (λ k. cond (is_some (stage l k).max) (Max c k ∷ []) []) (inner_stages l)) (numbers_from 0 l.degree)
    (λ c. all_rows P (λ k. cond (is_some (stage l k).max) (Max c k ∷ []) []) (inner_stages l) (λ k. one_or_none P (is_some (stage l k).max) (Max c k) refl)))

others_share : (l : LineData) → All (HasShare (pos 0)) (others l)
others_share l =
    let P = HasShare (pos 0) in
    All-append P (by_carrier l (λ c. Entry c ∷ []))
    (by_carrier l (λ c. map (λ k. Visit c k) (later_stages l)) ++ by_carrier l (λ c. map (λ k. Repeat c k) (steps l)))
    (all_rows P (λ c. Entry c ∷ []) (numbers_from 0 l.degree) (λ c. All-cons P (Entry c) [] refl (All-nil P)))
    (All-append P (by_carrier l (λ c. map (λ k. Visit c k) (later_stages l))) (by_carrier l (λ c. map (λ k. Repeat c k) (steps l)))
    (all_rows P (λ c. map (λ k. Visit c k) (later_stages l)) (numbers_from 0 l.degree) (λ c. all_in P (λ k. Visit c k) (later_stages l) (λ k. refl)))
    (all_rows P (λ c. map (λ k. Repeat c k) (steps l)) (numbers_from 0 l.degree) (λ c. all_in P (λ k. Repeat c k) (steps l) (λ k. refl))))

length_rows : (row : ℕ → List Constraint) (width first count : ℕ) → ((c : ℕ) → length (row c) ≡ width)
    → length (flat_map row (numbers_from first count)) ≡ count * width
length_rows row width first zero wide = omega arith
length_rows row width first (suc count) wide =
    omega (arith, length-append (row first) (flat_map row (numbers_from (first + 1) count)), wide first, length_rows row width (first + 1) count wide)

length_others : (l : LineData) → length (others l) ≡ l.degree * (2 * last_stage l + 1)
length_others l =
    let b = by_carrier l (λ c. Entry c ∷ []) in
    let v = by_carrier l (λ c. map (λ k. Visit c k) (later_stages l)) in
    let r = by_carrier l (λ c. map (λ k. Repeat c k) (steps l)) in
    let eb : length b ≡ l.degree * 1 = length_rows (λ c. Entry c ∷ []) 1 0 l.degree (λ c. refl) in
    let ev : length v ≡ l.degree * last_stage l =
    length_rows (λ c. map (λ k. Visit c k) (later_stages l)) (last_stage l) 0 l.degree
    (λ c. length-map (later_stages l) (λ k. Visit c k) ∙ length-numbers_from 1 (last_stage l)) in
    let er : length r ≡ l.degree * last_stage l =
    length_rows (λ c. map (λ k. Repeat c k) (steps l)) (last_stage l) 0 l.degree
    (λ c. length-map (steps l) (λ k. Repeat c k) ∙ length-numbers_from 0 (last_stage l)) in
    omega (arith, length-append b (v ++ r), length-append v r, eb, ev, er)

-- how many are of dwells
pub dwell_count : (l : LineData) (n m : ℕ) → n ≡ length (undecided_list l) → m ≡ l.degree * (2 * last_stage l + 1)
    → (m ≤ n) × (n - m ≡ length (dwells l))
dwell_count l n m e f =
    let all : length (undecided_list l) ≡ length (dwells l) + length (others l) = ap
    (λ (ts : List Constraint). length ts) (in_two l) ∙ length-append (dwells l) (others l) in
    (omega (arith, all, length_others l, e, f), omega (arith, all, length_others l, e, f))

share_is : (l : LineData) (k : ℕ) → k < length (undecided_list l)
    → share_of (get_or (undecided_list l) k (Entry 0)) ≡ (if nat_lt k (length (dwells l)) then pos 1 else pos 0)
share_is l k lt =
    let all : length (undecided_list l) ≡ length (dwells l) + length (others l) = ap
    (λ (ts : List Constraint). length ts) (in_two l) ∙ length-append (dwells l) (others l) in
    let split = ap (λ (ts : List Constraint). share_of (get_or ts k (Entry 0))) (in_two l) in
    ⊎_elim
    (λ below.
    split ∙ ap (λ (t : Constraint). share_of t) (get_or_append_left (dwells l) (others l) (Entry 0) k below)
    ∙ All-get_or (HasShare (pos 1)) (dwells l) k (Entry 0) below (dwells_share l)
    ∙ ap (λ (b : Bool). cond b (pos 1) (pos 0)) (sym (lt-ltb k (length (dwells l)) below)))
    (λ past.
    split ∙ ap (λ (t : Constraint). share_of t) (get_or-append_right (dwells l) (others l) (length (dwells l)) k (Entry 0) refl past)
    ∙ All-get_or (HasShare (pos 0)) (others l) (k - length (dwells l)) (Entry 0) (omega (arith, lt, past, all)) (others_share l)
    ∙ ap (λ (b : Bool). cond b (pos 1) (pos 0)) (sym (le-ltb k (length (dwells l)) past)))
    (cases_lt k (length (dwells l)))

-- the names of a path without orders
pub names_are : (l : LineData) (path : List Decision) → DecidesNoOrder path
    → arcs_of l path ≡ map (arc_of l path) (undecided_list l)
names_are l path free =
    ap (λ (ts : List Constraint). map (arc_of l path) (undecided_list l ++ ts)) (none_decided 0 path free)
    ∙ ap (λ (ts : List Constraint). map (arc_of l path) ts) (append-nil (undecided_list l))

pub undecided_are : (l : LineData) (path : List Decision) (n m period : ℕ) (arcs shared : List Arc)
    → DecidesNoOrder path
    → arcs ≡ arcs_of l path → n ≡ length arcs → m ≡ l.degree * (2 * last_stage l + 1)
    → AreShared (n - m) period arcs shared → shared ≡ undecided_arcs l path period
undecided_are l path n m period arcs shared free is count rest (same, each) =
    let u = undecided_list l in
    let are : arcs ≡ map (arc_of l path) u = is ∙ names_are l path free in
    let long : length arcs ≡ length u = ap (λ (xs : List Arc). length xs) are ∙ length-map u (arc_of l path) in
    let first = (dwell_count l n m (count ∙ long) rest).1 in
    let f : Constraint → Arc = λ t. at_period period (share_of t) (arc_of l path t) in
    ext_get_or no_arc shared (map f u) (same ∙ long ∙ sym (length-map u f))
    (λ k lt.
    let below : k < length arcs = omega (arith, lt, same) in
    let below' : k < length u = omega (arith, below, long) in
    let t = get_or u k (Entry 0) in
    let arc : arc_at arcs k ≡ arc_of l path t = ap (λ (xs : List Arc). arc_at xs k) are ∙ get_or-map (arc_of l path) u k (Entry 0) no_arc below' in
    let share : (if nat_lt k (n - m) then pos 1 else pos 0) ≡ share_of t =
    ap (λ (d : ℕ). if nat_lt k d then pos 1 else pos 0) first ∙ sym (share_is l k below') in
    each k below ∙ ap (λ (z : ℤ). at_period period z (arc_at arcs k)) share ∙ ap (λ (a : Arc). at_period period (share_of t) a) arc
    ∙ sym (get_or-map f u k (Entry 0) no_arc below'))

pub others_few : (l : LineData) (path : List Decision) (m : ℕ) (arcs : List Arc) → DecidesNoOrder path
    → arcs ≡ arcs_of l path
    → m ≡ l.degree * (2 * last_stage l + 1) → m ≤ length arcs
others_few l path m arcs free is rest =
    let long : length arcs ≡ length (undecided_list l) =
    ap (λ (xs : List Arc). length xs) (is ∙ names_are l path free) ∙ length-map (undecided_list l) (arc_of l path) in
    (dwell_count l (length arcs) m long rest).0

-- the product as the code reckons it
pub others_are : (d n : ℕ) (l : LineData) → d ≡ l.degree → n + 2 ≡ length l.stages
    → d * (2 * n + 3) ≡ l.degree * (2 * last_stage l + 1)
others_are d n l e f =
    let inner : 2 * n + 3 ≡ 2 * last_stage l + 1 = omega (arith, f) in
    ap (λ (x : ℕ). x * (2 * n + 3)) e ∙ ap (λ (x : ℕ). l.degree * x) inner
