-- The rounds lead to one state, and it has one bound.
use Rattle.std.proofs.Common.{⊎_elim, ◌≡◌, ℕ, zero, suc, ◌<◌, ◌≤◌, List, [], ◌∷◌, length, get_or, refl, sym, ◌∙◌, ap, subst, arith}
use Rattle.std.specs.Prelude.{Option}
use Rattle.std.proofs.lemmas.Bool.{cases_eq, cases_order}
use Rattle.hoist_base.specs.LineData.{LineData}
use Rattle.hoist_base.specs.Valid.{IsLine}
use Rattle.choice_tree.specs.declared.question.Decision.{Decision}
use Rattle.choice_tree.specs.declared.node.Node.{Node}
use Rattle.choice_tree.proofs.PathLemmas.{one_path}
use Rattle.node_expand.specs.declared.solved.Solved as plans
use Rattle.node_expand.specs.declared.expanded.Expanded.{Expanded}
use Rattle.node_expand.specs.Expansion.{IsExpansion}
use Rattle.branch_rounds.specs.declared.outcome.Outcome.{Outcome}
use Rattle.branch_rounds.specs.Grown.{Search, after, best_of, cap_of, IsResult, IsRound, IsReached, IsBound, IsGrown}
use Rattle.branch_rounds.specs.Kept.{IsPlaced, AreNarrow}
use Rattle.branch_rounds.specs.Laws.{SearchIsOne}
use Rattle.branch_rounds.proofs.PlacedLemmas.{placed_all}
use Rattle.branch_rounds.proofs.OutcomeLemmas.{kept_start}
use Rattle.branch_rounds.specs.ExpansionLemmas.{expansion_is_one, few_below}

-- ---- the states

pub narrow_round : (l : LineData) (budget : ℕ) (s : Search) (xs : List Expanded) → IsLine l → IsRound l budget s xs
    → AreNarrow xs
narrow_round l budget s xs line round = λ k x lt is. let r = round.each k x lt is in few_below l r.path (cap_of l s.best) x line r.expansion

placed_after : (l : LineData) (budget : ℕ) (s : Search) (xs : List Expanded) → IsLine l → budget ≤ 20000 → IsPlaced s
    → IsRound l budget s xs
    → IsPlaced (after s xs)
placed_after l budget s xs line small placed round =
    (placed_all s.tree [] s.frontier s.best (best_of s.best xs) s.splits xs placed (narrow_round l budget s xs line round) (omega (arith, round.count))
    (omega (arith, round.count, round.unspent, small))).0

pub placed_reached : (l : LineData) (budget rounds : ℕ) (s : Search) → IsLine l → budget ≤ 20000
    → IsReached l budget rounds s → IsPlaced s
placed_reached l budget zero s line small e = let P : Search → Type 0 = λ x. IsPlaced x in subst P (sym e) (kept_start l).placed
placed_reached l budget (suc rounds) s line small (before, xs, reached, round, e) =
    let P : Search → Type 0 = λ x. IsPlaced x in
    subst P (sym e) (placed_after l budget before xs line small (placed_reached l budget rounds before line small reached) round)

-- ---- a round

result_is_one : (l : LineData) (s : Search) (k : ℕ) (x y : Expanded) → IsLine l → IsPlaced s → IsResult l s k x
    → IsResult l s k y → x ≡ y
result_is_one l s k x y line placed a b =
    let same : a.path ≡ b.path = one_path s.tree (get_or s.frontier k 0) a.path b.path placed.tree a.leads b.leads in
    let P : List Decision → Type 0 = λ ds. IsExpansion l ds (cap_of l s.best) y in
    expansion_is_one l a.path (cap_of l s.best) x y line a.expansion (subst P (sym same) b.expansion)

abbrev AreSame : List Expanded → List Expanded → Type 0
AreSame xs ys = (k : ℕ) (x y : Expanded) → k < length xs → k < length ys → x ≡ get_or xs k x → y ≡ get_or ys k y → x ≡ y

same_list : (xs ys : List Expanded) → length xs ≡ length ys → AreSame xs ys → xs ≡ ys
same_list [] [] e h = refl
same_list [] (y ∷ ys) e h = absurd (omega (arith, e))
same_list (x ∷ xs) [] e h = absurd (omega (arith, e))
same_list (x ∷ xs) (y ∷ ys) e h =
    let head : x ≡ y = h zero x y (omega arith) (omega arith) refl refl in
    ap (λ (z : Expanded). z ∷ xs) head
    ∙ ap (λ (zs : List Expanded). y ∷ zs)
    (same_list xs ys (omega (arith, e)) (λ k a b lt lt' is is'. h (suc k) a b (omega (arith, lt)) (omega (arith, lt')) is is'))

round_is_one : (l : LineData) (budget : ℕ) (s : Search) (xs ys : List Expanded) → IsLine l → IsPlaced s
    → IsRound l budget s xs → IsRound l budget s ys
    → xs ≡ ys
round_is_one l budget s xs ys line placed a b =
    same_list xs ys (a.count ∙ sym b.count) (λ k x y lt lt' is is'. result_is_one l s k x y line placed (a.each k x lt is) (b.each k y lt' is'))

state_is_one : (l : LineData) (budget rounds : ℕ) (s s' : Search) → IsLine l → budget ≤ 20000
    → IsReached l budget rounds s → IsReached l budget rounds s'
    → s ≡ s'
state_is_one l budget zero s s' line small e e' = e ∙ sym e'
state_is_one l budget (suc rounds) s s' line small (before, xs, reached, round, e) (before', xs', reached', round', e') =
    let same : before ≡ before' = state_is_one l budget rounds before before' line small reached reached' in
    let R : Search → Type 0 = λ x. IsRound l budget x xs' in
    let list : xs ≡ xs' =
    round_is_one l budget before xs xs' line (placed_reached l budget rounds before line small reached) round (subst R (sym same) round') in
    e ∙ ap (λ (ys : List Expanded). after before ys) list ∙ ap (λ (x : Search). after x xs') same ∙ sym e'

-- ---- the last round

-- before the last of more rounds a state was reached after these, and a round led on
goes_on : (l : LineData) (budget rounds more : ℕ) (s : Search) → rounds < more → IsReached l budget more s
    → (b : Search) × (xs : List Expanded) × IsReached l budget rounds b × IsRound l budget b xs
goes_on l budget rounds zero s lt reached = absurd (omega (arith, lt))
goes_on l budget rounds (suc more) s lt (before, xs, reached, round, e) =
    ⊎_elim
    (λ same. let P : ℕ → Type 0 = λ n. IsReached l budget n before in (before, xs, subst P (sym same) reached, round))
    (λ ne. goes_on l budget rounds more before (omega (arith, lt, ne)) reached)
    (cases_eq rounds more)

-- where the search ends no round leads on
ends_first : (l : LineData) (budget : ℕ) (o o' : Outcome) (g : IsGrown l budget o) (g' : IsGrown l budget o') → IsLine l
    → budget ≤ 20000 → g.rounds < g'.rounds
    → ⊥
ends_first l budget o o' g g' line small lt =
    let (b, xs, reached, round) = goes_on l budget g.rounds g'.rounds g'.end lt g'.reached in
    let same : b ≡ g.end = state_is_one l budget g.rounds b g.end line small reached g.reached in
    let R : Search → Type 0 = λ x. IsRound l budget x xs in
    let on = subst R same round in
    ⊎_elim (λ none. omega (arith, none, on.some)) (λ spent. omega (arith, spent, on.unspent)) g.done

-- ---- the bound

bound_not_less : (l : LineData) (s : Search) (bound bound' : ℕ) → IsBound l s bound → IsBound l s bound'
    → bound < bound' → ⊥
bound_not_less l s bound bound' b b' lt =
    ⊎_elim
    (λ cap. omega (arith, cap, lt, b'.most))
    (λ open_yet. open_yet.4 (b'.refuted open_yet.0 open_yet.1 bound open_yet.2 open_yet.3 b.some lt))
    b.met

bound_is_one : (l : LineData) (s : Search) (bound bound' : ℕ) → IsBound l s bound → IsBound l s bound' → bound ≡ bound'
bound_is_one l s bound bound' b b' =
    ⊎_elim
    (λ e. e)
    (λ differ. ⊎_elim (λ lt. absurd (bound_not_less l s bound bound' b b' lt)) (λ gt. absurd (bound_not_less l s bound' bound b' b gt)) differ)
    (cases_order bound bound')

-- ---- the outcome

abbrev outcome_by : List Node → Option plans.Solved → ℕ → ℕ → ℕ → Outcome
outcome_by tree best bound splits left = record { tree = tree; best = best; bound = bound; splits = splits; left = left }

outcome_of : (l : LineData) (budget : ℕ) (o : Outcome) (s : Search) (g : IsGrown l budget o) → g.end ≡ s
    → o ≡ outcome_by s.tree s.best o.bound s.splits (length s.frontier)
outcome_of l budget o s g e =
    ap (λ (t : List Node). outcome_by t o.best o.bound o.splits o.left) g.tree ∙ ap
    (λ (b : Option plans.Solved). outcome_by g.end.tree b o.bound o.splits o.left) g.best
    ∙ ap (λ (n : ℕ). outcome_by g.end.tree g.end.best o.bound n o.left) g.splits ∙ ap
    (λ (n : ℕ). outcome_by g.end.tree g.end.best o.bound g.end.splits n) g.left
    ∙ ap (λ (x : Search). outcome_by x.tree x.best o.bound x.splits (length x.frontier)) e

same_outcome : (l : LineData) (budget : ℕ) (o o' : Outcome) (g : IsGrown l budget o) (g' : IsGrown l budget o')
    → IsLine l → budget ≤ 20000
    → g.rounds ≡ g'.rounds → o ≡ o'
same_outcome l budget o o' g g' line small rounds =
    let P : ℕ → Type 0 = λ n. IsReached l budget n g'.end in
    let end : g'.end ≡ g.end = state_is_one l budget g.rounds g'.end g.end line small (subst P (sym rounds) g'.reached) g.reached in
    let B : Search → Type 0 = λ s. IsBound l s o'.bound in
    let bound : o.bound ≡ o'.bound = bound_is_one l g.end o.bound o'.bound g.bound (subst B end g'.bound) in
    outcome_of l budget o g.end g refl ∙ ap (λ (n : ℕ). outcome_by g.end.tree g.end.best n g.end.splits (length g.end.frontier)) bound ∙ sym
    (outcome_of l budget o' g.end g' end)

pub search_is_one : SearchIsOne
search_is_one l budget o o' line small g g' =
    ⊎_elim
    (λ same. same_outcome l budget o o' g g' line small same)
    (λ differ. ⊎_elim (λ lt. absurd (ends_first l budget o o' g g' line small lt)) (λ gt. absurd (ends_first l budget o' o g' g line small gt)) differ)
    (cases_order g.rounds g'.rounds)
