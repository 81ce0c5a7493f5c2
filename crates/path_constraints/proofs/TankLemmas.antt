-- The tanks of a visit below a path, as the code reads them.
use Rattle.std.proofs.Common.{⊎_elim, ◌⊎◌, ◌≡◌, ◌≢◌, ℕ, zero, suc, ◌+◌, ◌<◌, List, [], ◌∷◌, ◌++◌, length, get_or, take, drop, map, refl, sym, ◌∙◌, ap, subst, arith, Some, None}
use Rattle.std.specs.Prelude.{Option, flat_map, fold, unwrap_or}
use Rattle.std.proofs.lemmas.List.{drop_more, map-append, get_or_default}
use Rattle.std.proofs.lemmas.List.Elements.{Contains-get_or}
use Rattle.std.proofs.lemmas.List.Sums.{fold-append}
use Rattle.hoist_base.specs.LineData.{LineData, stage, no_stage}
use Rattle.hoist_base.specs.declared.stage.Stage.{Stage}
use Rattle.hoist_base.specs.Valid.{IsLine}
use Rattle.line_model.specs.declared.motion.Motion.{Motion}
use Rattle.choice_tree.specs.declared.question.Question.{Question}
use Rattle.choice_tree.specs.declared.question.Decision.{Decision}
use Rattle.path_constraints.specs.Tanks.{decision_at, choice_of, tanks_by, tanks_below, one_of}
use Rattle.path_constraints.specs.Questions.{FitsPath, child_count}
use Rattle.path_constraints.proofs.Choices.{chosen}
use Rattle.path_constraints.proofs.Settled.{choice_several}

none_if : (o : Option ℕ) → ((n : ℕ) → o ≡ Some n → ⊥) → o ≡ None
none_if None h = refl
none_if (Some n) h = absurd (h n refl)

-- where a stage has one tank no choice is made
pub no_choice : (l : LineData) (path : List Decision) (c k : ℕ) → FitsPath l path → length (stage l k).tanks < 2
    → choice_of path c k ≡ None
no_choice l path c k fits few = none_if (choice_of path c k) (λ n e. omega (arith, few, choice_several l path c k n fits e))

-- a choice is one of the stage's tanks
pub choice_there : (l : LineData) (path : List Decision) (c k n : ℕ) → FitsPath l path → choice_of path c k ≡ Some n
    → n < length (stage l k).tanks
choice_there l path c k n fits e =
    let r = chosen path c k n e in
    let d = decision_at path r.place in
    let P : Question → Type 0 = λ q. d.child < child_count l (take r.place path) q in
    let here : d.child < length (stage l r.visit.stage).tanks = subst P r.question (fits r.place r.there).child in
    let S : ℕ → Type 0 = λ j. d.child < length (stage l j).tanks in
    omega (arith, subst S r.stage here, r.child)

-- a stage's tanks are the line's
pub tank_there : (l : LineData) (k i : ℕ) → IsLine l → i < length (stage l k).tanks
    → get_or (stage l k).tanks i 0 < length l.tanks
tank_there l k i line lt = line.stages.there k (get_or (stage l k).tanks i 0) (Contains-get_or (stage l k).tanks i 0 lt)

-- a visit whose tank is chosen, or whose stage has one tank, has one tank
pub one_by : (tanks : List ℕ) (o : Option ℕ) → 0 < length tanks → (o ≡ None → length tanks < 2)
    → one_of (tanks_by tanks o) ≡ Some (get_or tanks (unwrap_or o 0) 0)
one_by tanks (Some n) some few = refl
one_by [] None some few = absurd (omega (arith, some))
one_by (x ∷ []) None some few = refl
one_by (x ∷ y ∷ ys) None some few = absurd (omega (arith, few refl))

-- one element of a list
pub one_at : (xs : List ℕ) (n : ℕ) → n < length xs → take 1 (drop n xs) ≡ get_or xs n 0 ∷ []
one_at [] n lt = absurd (omega arith)
one_at (x ∷ xs) zero lt = refl
one_at (x ∷ xs) (suc n) lt = one_at xs n (omega arith)

-- a fold over the motions from one tank, and then from those behind it
pub fold_row : (h : ℕ → ℕ → ℕ) (g : Motion → ℕ) (row : ℕ → List Motion) (xs : List ℕ) (i x d a b n : ℕ) → i < length xs
    → x ≡ get_or xs i d
    → b ≡ fold h a (map g (row x)) → fold h a (map g (flat_map row (drop i xs))) ≡ n
    → fold h b (map g (flat_map row (drop (i + 1) xs))) ≡ n
fold_row h g row xs i x d a b n lt read is all =
    let rest = flat_map row (drop (i + 1) xs) in
    let split : drop i xs ≡ x ∷ drop (i + 1) xs = drop_more xs i d lt ∙ ap (λ (y : ℕ). y ∷ drop (i + 1) xs) (sym read) in
    let apart : fold h a (map g (flat_map row (drop i xs))) ≡ fold h a (map g (row x) ++ map g rest) =
    ap (λ (ys : List ℕ). fold h a (map g (flat_map row ys))) split ∙ ap (λ (ys : List ℕ). fold h a ys) (map-append g (row x) rest) in
    let step : fold h a (map g (flat_map row (drop i xs))) ≡ fold h b (map g rest) =
    apart ∙ fold-append h a (map g (row x)) (map g rest) ∙ ap (λ (z : ℕ). fold h z (map g rest)) (sym is) in
    sym step ∙ all

-- the code's reading of a stage's tanks
pub tanks_read : (l : LineData) (k : ℕ) (s : Stage) (xs : List Stage) (ts : List ℕ) → xs ≡ l.stages
    → k < length l.stages → ts ≡ (get_or xs k s).tanks
    → ts ≡ (stage l k).tanks
tanks_read l k s xs ts all lt is =
    let lt' : k < length xs = omega (arith, lt, ap (λ (ys : List Stage). length ys) all) in
    let here : get_or xs k s ≡ get_or xs k no_stage = get_or_default xs k s no_stage lt' in
    is ∙ ap (λ (t : Stage). t.tanks) here ∙ ap (λ (ys : List Stage). (get_or ys k no_stage).tanks) all

-- a stage with one tank has that one below every path
pub few_tanks : (l : LineData) (path : List Decision) (c k : ℕ) (ts : List ℕ) → FitsPath l path → ts ≡ (stage l k).tanks
    → length ts < 2
    → ts ≡ tanks_below l path c k
few_tanks l path c k ts fits is few =
    let few' : length (stage l k).tanks < 2 = omega (arith, few, ap (λ (ys : List ℕ). length ys) is) in
    is ∙ ap (λ (o : Option ℕ). tanks_by (stage l k).tanks o) (sym (no_choice l path c k fits few'))

pub tanks_there : (l : LineData) (k : ℕ) (ts : List ℕ) → IsLine l → ts ≡ (stage l k).tanks → (i : ℕ) → i < length ts
    → get_or ts i 0 < length l.tanks
tanks_there l k ts line is i lt =
    let lt' : i < length (stage l k).tanks = omega (arith, lt, ap (λ (ys : List ℕ). length ys) is) in
    omega (arith, tank_there l k i line lt', ap (λ (ys : List ℕ). get_or ys i 0) is)

one_there : (n : ℕ) (ts us : List ℕ) (x : ℕ) → us ≡ x ∷ [] → x < n → (i : ℕ) → i < length us → get_or us i 0 < n
one_there n ts us x is lt zero in_it = omega (arith, lt, ap (λ (ys : List ℕ). get_or ys 0 0) is)
one_there n ts us x is lt (suc i) in_it = absurd (omega (arith, in_it, ap (λ (ys : List ℕ). length ys) is))

pub chosen_there : (l : LineData) (k n m : ℕ) (ts : List ℕ) → IsLine l → ts ≡ (stage l k).tanks → n < length ts → m ≡ 1
    → (i : ℕ)
    → i < length (take m (drop n ts)) → get_or (take m (drop n ts)) i 0 < length l.tanks
chosen_there l k n m ts line is lt one =
    one_there (length l.tanks) ts (take m (drop n ts)) (get_or ts n 0)
    (ap (λ (j : ℕ). take j (drop n ts)) one ∙ one_at ts n lt) (tanks_there l k ts line is n lt)

-- a fold of a test that keeps equal numbers may begin with the first element, as the least and the greatest of all do
pub fold_first : (h : ℕ → ℕ → ℕ) (of_all : List ℕ → ℕ) (mb : ℕ → ℕ → Motion) (g : Motion → ℕ) (xs ys xs' ys' : List ℕ) (d : ℕ)
    → ((n : ℕ) → h n n ≡ n) → ((n : ℕ) (ns : List ℕ) → of_all (n ∷ ns) ≡ fold h n ns)
    → 0 < length xs → 0 < length ys → d ≡ g (mb (get_or xs 0 0) (get_or ys 0 0)) → xs ≡ xs' → ys ≡ ys'
    → fold h d (map g (flat_map (λ i. map (λ j. mb i j) ys) xs)) ≡ of_all (map g (flat_map (λ i. map (λ j. mb i j) ys') xs'))
fold_first h of_all mb g xs ys xs' ys' d keeps is_all some some' is ex ey =
    from_first xs ys some some' is
    ∙ ap (λ (zs : List ℕ). of_all (map g (flat_map (λ i. map (λ j. mb i j) ys) zs))) ex
    ∙ ap (λ (zs : List ℕ). of_all (map g (flat_map (λ i. map (λ j. mb i j) zs) xs'))) ey
  where
    from_first : (us vs : List ℕ) → 0 < length us → 0 < length vs → d ≡ g (mb (get_or us 0 0) (get_or vs 0 0))
        → fold h d (map g (flat_map (λ i. map (λ j. mb i j) vs) us)) ≡ of_all (map g (flat_map (λ i. map (λ j. mb i j) vs) us))
    from_first [] vs few few' e = absurd (omega (arith, few))
    from_first (u ∷ us) [] few few' e = absurd (omega (arith, few'))
    from_first (u ∷ us) (v ∷ vs) few few' e =
        let rest = map g (map (λ j. mb u j) vs ++ flat_map (λ i. map (λ j. mb i j) (v ∷ vs)) us) in
        ap (λ (n : ℕ). fold h (h n (g (mb u v))) rest) e ∙ ap (λ (n : ℕ). fold h n rest) (keeps (g (mb u v))) ∙ sym (is_all (g (mb u v)) rest)

-- several motions are not one
pub not_one : (mb : ℕ → ℕ → Motion) (xs ys : List ℕ) → 0 < length xs → 0 < length ys → (length xs ≢ 1) ⊎ (length ys ≢ 1)
    → one_of (flat_map (λ i. map (λ j. mb i j) ys) xs) ≡ None
not_one mb [] ys some some' several = absurd (omega (arith, some))
not_one mb (x ∷ xs) [] some some' several = absurd (omega (arith, some'))
not_one mb (x ∷ []) (y ∷ []) some some' several = absurd (⊎_elim (λ ne. ne refl) (λ ne. ne refl) several)
not_one mb (x ∷ []) (y ∷ z ∷ zs) some some' several = refl
not_one mb (x ∷ x' ∷ xs) (y ∷ []) some some' several = refl
not_one mb (x ∷ x' ∷ xs) (y ∷ z ∷ zs) some some' several = refl
