-- What a path settles where no question is left, and how many children a question has.
use Rattle.std.proofs.Common.{⊎_elim, inl, inr, ◌≡◌, ◌≢◌, ℕ, zero, suc, ◌+◌, ◌-◌, ◌*◌, ◌/◌, ◌%◌, ◌<◌, ◌≤◌, List, [], ◌∷◌, ◌++◌, length, get_or, take, Bool, true, false, cond, refl, sym, ◌∙◌, ap, subst, arith, Some, None, ℤ}
use Rattle.std.specs.Prelude.{Option, IsSome, slice_get, filter, Contains, option_map}
use Rattle.std.proofs.lemmas.List.{length-append, get_or_append_left, get_or-append_right}
use Rattle.std.proofs.lemmas.List.Elements.{Contains-get_or}
use Rattle.std.proofs.lemmas.List.Sums.{length-filter, count_by-le-length}
use Rattle.std.proofs.lemmas.Bool.{cases_lt, cases_eq}
use Rattle.std.proofs.lemmas.Nat.{mul-le, div-mul-add, mod-mul-add}
use Rattle.hoist_base.specs.LineData.{LineData, stage, position_of, IsMove, Serves}
use Rattle.hoist_base.specs.Valid.{IsLine}
use Rattle.line_model.specs.declared.motion.Motion.{Motion}
use Rattle.line_model.specs.Motion.{motion_between, Reaches, ReachesMotion}
use Rattle.choice_tree.specs.declared.question.Question.{Question}
use Rattle.choice_tree.specs.declared.question.Question.TheVariants.{Assign, TankOrder, HoistOrder, Choose}
use Rattle.choice_tree.specs.declared.question.Decision.{Decision}
use Rattle.choice_tree.specs.Nodes.{numbers_from}
use Rattle.choice_tree.proofs.NodeLemmas.{length-numbers_from}
use Rattle.path_constraints.specs.Tanks.{decision_at, choice_of, tanks_by, tanks_below, one_of, tank_below, motion_below}
use Rattle.path_constraints.specs.Hoists.{assigned_of, reaches_motion, hoists_reaching, hoist_by, hoists_by, hoists_below}
use Rattle.path_constraints.specs.Questions.{Stands, Fits, FitsPath, IsOpenMove, IsOpenVisit, child_count}
use Rattle.period_constraints.specs.Order.{IsFirstQuestion}
use Rattle.path_constraints.proofs.Choices.{assigned}
use Rattle.path_constraints.proofs.Settled.{tanks_are, motion_is, motion_stays, settled_motion, ride_is}
use Rattle.path_constraints.proofs.TankLemmas.{choice_there, one_by}
use Rattle.path_constraints.proofs.NameLemmas.{In, in_filter, in_numbers, in_contains}
use Rattle.path_constraints.proofs.RideLemmas.{reaches_yes}
use Rattle.node_expand.specs.Expansion.{NoneStuck}
use Rattle.node_expand.specs.Settled.{HasTanks, HasHoists}

pub some_is : {A : Type 0} (o : Option A) (x : A) → o ≡ Some x → IsSome o
some_is None x e = cc
some_is (Some y) x e = refl

pub some_one : {A : Type 0} (o : Option A) → IsSome o → (x : A) × (o ≡ Some x)
some_one None h = cc
some_one (Some x) h = (x, refl)

-- ---- tanks

pub tanks_settled : (l : LineData) (path : List Decision) (s : ℕ → ℤ) (period : ℕ) → IsLine l
    → IsFirstQuestion l path s period None → HasTanks l path
tanks_settled l path s period line none c k visit =
    some_is (tank_below l path c k) _
    (one_by (stage l k).tanks (choice_of path c k) (line.stages.count k visit.1).0
    (λ free. ⊎_elim (λ lt. lt)
    (λ several.
    let open_yet : IsOpenVisit l path (record { carrier = c; stage = k }) = record { visit = visit; several = several; open_yet = free } in
    absurd (none (Choose (record { carrier = c; stage = k })) (record { stands = open_yet; fails = tt })))
    (cases_lt (length (stage l k).tanks) 2)))

-- the first tank as the code reads it
pub tank_read : (l : LineData) (path : List Decision) (c k : ℕ) (ts : List ℕ) → ts ≡ tanks_below l path c k
    → IsSome (tank_below l path c k)
    → tank_below l path c k ≡ Some (get_or ts 0 0)
tank_read l path c k ts is some =
    let t = some_one (tank_below l path c k) some in
    let one = tanks_are l path c k t.0 t.1 in
    t.1 ∙ ap (λ (n : ℕ). Some n) (sym (ap (λ (xs : List ℕ). get_or xs 0 0) (is ∙ one)))

serve_by : (tanks : List ℕ) (o : Option ℕ) (t : ℕ) → one_of (tanks_by tanks o) ≡ Some t
    → ((n : ℕ) → o ≡ Some n → n < length tanks) → Contains tanks t
serve_by tanks (Some n) t e there =
    let same : get_or tanks n 0 ≡ t = cc in
    let P : ℕ → Type 0 = λ i. Contains tanks i in
    subst P same (Contains-get_or tanks n 0 (there n refl))
serve_by [] None t e there = cc
serve_by (x ∷ []) None t e there = let same : x ≡ t = cc in (0, omega arith, same)
serve_by (x ∷ y ∷ ys) None t e there = cc

pub tank_serves : (l : LineData) (path : List Decision) (c k t : ℕ) → FitsPath l path → tank_below l path c k ≡ Some t
    → Serves l t k
tank_serves l path c k t fits e = serve_by (stage l k).tanks (choice_of path c k) t e (λ n h. choice_there l path c k n fits h)

-- ---- motions and hoists

some_map : {A B : Type 0} (f : A → B) (o : Option A) (x : A) → o ≡ Some x → IsSome (option_map f o)
some_map f None x e = cc
some_map f (Some y) x e = refl

got : (xs : List ℕ) (n : ℕ) → n < length xs → IsSome (slice_get xs n)
got [] n lt = absurd (omega (arith, lt))
got (x ∷ xs) zero lt = refl
got (x ∷ xs) (suc n) lt = got xs n (omega (arith, lt))

some_by : (hs : List ℕ) (o : Option ℕ) → (o ≡ None → length hs ≡ 1) → ((n : ℕ) → o ≡ Some n → n < length hs)
    → IsSome (hoist_by hs o)
some_by [] None one there = absurd (omega (arith, one refl))
some_by [] (Some n) one there = absurd (omega (arith, there n refl))
some_by (h ∷ []) o one there = refl
some_by (h ∷ g ∷ hs) None one there = absurd (omega (arith, one refl))
some_by (h ∷ g ∷ hs) (Some n) one there = got (h ∷ g ∷ hs) n (there n refl)

-- the hoist of an Assign is one of those that reach the move
assigned_there : (l : LineData) (path : List Decision) (c k n : ℕ) (m : Motion) → FitsPath l path
    → assigned_of path c k ≡ Some n
    → motion_below l path c k ≡ Some m → n < length (hoists_reaching l m)
assigned_there l path c k n m fits e is =
    let r = assigned path c k n e in
    let above = take r.place path in
    let d = decision_at path r.place in
    let P : Question → Type 0 = λ q. Stands l above q in
    let Q : Question → Type 0 = λ q. d.child < child_count l above q in
    let open_move : IsOpenMove l above r.move = subst P r.question (fits r.place r.there).question.stands in
    let here : d.child < length (hoists_below l above r.move.carrier r.move.step) = subst Q r.question (fits r.place r.there).child in
    let found = some_one (motion_below l above r.move.carrier r.move.step) open_move.motion in
    let stays = motion_stays l path r.place r.move.carrier r.move.step found.0 fits found.1 in
    let same : Some found.0 ≡ Some m =
    sym stays ∙ ap (λ (a : ℕ). motion_below l path a r.move.step) r.carrier ∙ ap (λ (j : ℕ). motion_below l path c j) r.step ∙ is in
    let list : hoists_below l above r.move.carrier r.move.step ≡ hoists_reaching l m = ap (λ (o : Option Motion). hoists_by l o) (found.1 ∙ same) in
    omega (arith, here, ap (λ (hs : List ℕ). length hs) list, r.child)

pub hoists_settled : (l : LineData) (path : List Decision) (s : ℕ → ℤ) (period : ℕ) → IsLine l → FitsPath l path
    → IsFirstQuestion l path s period None
    → HasHoists l path
hoists_settled l path s period line fits none c k move =
    let tanks = tanks_settled l path s period line none in
    let from = some_one (tank_below l path c k) (tanks c k (move.0, omega (arith, move.1))) in
    let to = some_one (tank_below l path c (k + 1)) (tanks c (k + 1) move) in
    let m = motion_between l k from.0 to.0 in
    let is : motion_below l path c k ≡ Some m = motion_is l path c k from.0 to.0 from.1 to.1 in
    let list : hoists_below l path c k ≡ hoists_reaching l m = ap (λ (o : Option Motion). hoists_by l o) is in
    let hoist = some_one (hoist_by (hoists_reaching l m) (assigned_of path c k))
    (some_by (hoists_reaching l m) (assigned_of path c k)
    (λ free. ⊎_elim (λ e. e)
    (λ several.
    let ne : length (hoists_below l path c k) ≢ 1 = λ e. several (ap (λ (hs : List ℕ). length hs) (sym list) ∙ e) in
    let open_yet : IsOpenMove l path (record { carrier = c; step = k }) =
    record { move = move; motion = some_is (motion_below l path c k) m is; open_yet = free; several = ne } in
    absurd (none (Assign (record { carrier = c; step = k })) (record { stands = open_yet; fails = tt })))
    (cases_eq (length (hoists_reaching l m)) 1))
    (λ n e. assigned_there l path c k n m fits e is)) in
    some_map _ _ _ (ride_is l path c k (record { motion = m; hoist = hoist.0 }) (record { motion = is; hoist = hoist.1 }))

-- ---- children

some_in : (xs : List ℕ) (x : ℕ) → In xs x → 1 ≤ length xs
some_in [] x h = absurd h
some_in (y ∷ ys) x h = omega arith

-- some hoist reaches a move with one motion that some hoist may reach
reached_by_some : (l : LineData) (path : List Decision) (c k : ℕ) (m : Motion) → NoneStuck l path → IsMove l c k
    → motion_below l path c k ≡ Some m
    → length (hoists_reaching l m) ≡ 0 → ⊥
reached_by_some l path c k m free move is zero_is =
    let r = settled_motion l path c k m is in
    let from = tanks_are l path c k r.from r.first in
    let to = tanks_are l path c (k + 1) r.to r.second in
    let P : ℕ → Type 0 = λ j. j < l.hoists in
    free c k move (λ h lt reach.
    let only_from : r.from ≡ reach.0.0 = the_one (tanks_below l path c k) r.from reach.0.0 from reach.0.1 in
    let only_to : r.to ≡ reach.1.0 = the_one (tanks_below l path c (k + 1)) r.to reach.1.0 to reach.1.1 in
    let S : ℕ → Type 0 = λ i. Reaches l h (position_of l i) in
    let both : ReachesMotion l h (motion_between l k r.from r.to) = (subst S (sym only_from) reach.0.2, subst S (sym only_to) reach.1.2) in
    let M : Motion → Type 0 = λ x. ReachesMotion l h x in
    let yes = reaches_yes l h m (subst M (sym r.is) both) in
    let there = in_filter (λ g. reaches_motion l g m) (numbers_from 0 l.hoists) h (in_numbers 0 l.hoists h (omega arith) (omega (arith, lt))) yes in
    omega (arith, zero_is, some_in (hoists_reaching l m) h there))
  where
    the_one : (xs : List ℕ) (t i : ℕ) → xs ≡ t ∷ [] → Contains xs i → t ≡ i
    the_one xs t i e there =
        let P : List ℕ → Type 0 = λ ys. In ys i in
        ⊎_elim (λ same. same) (λ none. absurd none) (subst P e (in_contains xs i there))

pub some_children : (l : LineData) (path : List Decision) (q : Question) → IsLine l → NoneStuck l path → Fits l path q
    → (2 ≤ child_count l path q) × (child_count l path q ≤ 6)
some_children l path (Assign m) line free f =
    let found = some_one (motion_below l path m.carrier m.step) f.stands.motion in
    let list : hoists_below l path m.carrier m.step ≡ hoists_reaching l found.0 = ap (λ (o : Option Motion). hoists_by l o) found.1 in
    let count = ap (λ (hs : List ℕ). length hs) list in
    let some : length (hoists_reaching l found.0) ≡ 0 → ⊥ = reached_by_some l path m.carrier m.step found.0 free f.stands.move found.1 in
    let several = f.stands.several in
    let reaches : ℕ → Bool = λ g. reaches_motion l g found.0 in
    let hoists = numbers_from 0 l.hoists in
    let few : length (filter reaches hoists) ≤ length hoists = omega (arith, length-filter reaches hoists, count_by-le-length reaches hoists) in
    let all = length-numbers_from 0 l.hoists in
    (omega (arith, count, some, several), omega (arith, count, few, all, line.limits.hoists.1))
some_children l path (TankOrder a b q) line free f = (omega arith, omega arith)
some_children l path (HoistOrder a b q) line free f = (omega arith, omega arith)
some_children l path (Choose v) line free f = (f.stands.several, omega (arith, (line.stages.count v.stage f.stands.visit.1).1))

-- ---- lists by number

-- what is noted for each number below a count is noted for each carrier and stage or step
pub by_number : (P : ℕ → ℕ → ℕ → Type 0) (d m n : ℕ) (xs : List ℕ) → n ≡ d * m
    → ((j : ℕ) → j < n → P (j / m) (j % m) (get_or xs j 0)) → (c k : ℕ) → c < d
    → k < m → P c k (get_or xs (c * m + k) 0)
by_number P d m n xs count all c k lt lt' =
    let step = mul-le (c + 1) m d m (omega (arith, lt)) (omega arith) in
    let h = all (c * m + k) (omega (arith, count, step, lt')) in
    let Q : ℕ → Type 0 = λ a. P a ((c * m + k) % m) (get_or xs (c * m + k) 0) in
    let R : ℕ → Type 0 = λ b. P c b (get_or xs (c * m + k) 0) in
    subst R (mod-mul-add c m k lt') (subst Q (div-mul-add c m k lt') h)

-- one number more is noted
pub noted_more : (F : ℕ → Option ℕ) (xs ys : List ℕ) (n t : ℕ) → length xs ≡ n
    → ((j : ℕ) → j < n → F j ≡ Some (get_or xs j 0)) → F n ≡ Some t
    → ys ≡ xs ++ t ∷ []
    → (length ys ≡ n + 1) × ((j : ℕ) → j < n + 1 → F j ≡ Some (get_or ys j 0))
noted_more F xs ys n t count all is pushed = (
  omega (arith, ap (λ (zs : List ℕ). length zs) pushed, length-append xs (t ∷ []), count),
  λ j lt.
      ⊎_elim
      (λ below. all j below ∙ ap (λ (m : ℕ). Some m)
      (sym (ap (λ (zs : List ℕ). get_or zs j 0) pushed ∙ get_or_append_left xs (t ∷ []) 0 j (omega (arith, below, count)))))
      (λ past.
      let e : j ≡ n = omega (arith, lt, past) in
      let first : j - n ≡ 0 = omega (arith, e) in
      ap F e ∙ is ∙ ap (λ (m : ℕ). Some m)
      (sym (ap (λ (zs : List ℕ). get_or zs j 0) pushed ∙ get_or-append_right xs (t ∷ []) n j 0 count past ∙ ap (λ (i : ℕ). get_or (t ∷ []) i 0) first)))
      (cases_lt j n),
)
