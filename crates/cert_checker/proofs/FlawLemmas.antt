-- A node that shows what it is to show has no flaw.
use Rattle.std.proofs.Common.{⊎_elim, inl, inr, ◌⊎◌, ◌≡◌, ℕ, zero, suc, ◌+◌, ◌-◌, ◌<◌, ◌≤◌, List, [], ◌∷◌, ◌++◌, length, Option, Some, None, refl, sym, ◌∙◌, ap, subst, arith}
use Rattle.std.specs.Prelude.{Contains, option_to_list, flat_map}
use Rattle.std.proofs.lemmas.Bool.{cases_lt}
use Rattle.std.proofs.lemmas.List.Elements.{Contains-append_right}
use Rattle.std.proofs.lemmas.List.{get_or_append_left, get_or-append_right, length-append, append-nil}
use Rattle.hoist_base.specs.LineData.{LineData}
use Rattle.hoist_base.specs.declared.ids.MoveId.{MoveId}
use Rattle.choice_tree.specs.declared.question.Decision.{Decision}
use Rattle.choice_tree.specs.declared.constraint.Constraint.{Constraint}
use Rattle.choice_tree.specs.declared.constraint.Constraint.TheVariants.{Min}
use Rattle.choice_tree.specs.declared.node.Node.{Node}
use Rattle.choice_tree.specs.declared.node.Node.TheVariants as nodes
use Rattle.path_constraints.specs.Tanks.{IsStuck}
use Rattle.hoist_base.specs.LineData.{IsMove}
use Rattle.path_constraints.specs.Constraints.{IsConstraint, arc_of}
use Rattle.path_constraints.specs.Proves.{Walks, IsClosedWalk, RefuteBelow, Shows}
use Rattle.cert_checker.specs.declared.reason.Reason.{Reason}
use Rattle.cert_checker.specs.declared.reason.Reason.TheVariants as reasons
use Rattle.cert_checker.specs.Walks.{HasWalks, low_of, high_of, walks_of, joined, followers, tokens_of, token_at}
use Rattle.cert_checker.specs.Flaws.{IsUnfit, IsFree, IsStray, IsLoose, HasFlaw}
use Rattle.list_facts.proofs.Elements.{contains_first}

-- ---- the two walks of a leaf, one behind the other

abbrev pub words : Option (List Constraint) → List Constraint
words None = []
words (Some walk) = walk

abbrev pub nexts : Option (List Constraint) → List Constraint
nexts None = []
nexts (Some walk) = followers walk

pub length-followers : (walk : List Constraint) → length (followers walk) ≡ length walk
length-followers [] = refl
length-followers (t ∷ ts) = omega (arith, length-append ts (t ∷ []))

pub length-nexts : (o : Option (List Constraint)) → length (nexts o) ≡ length (words o)
length-nexts None = refl
length-nexts (Some walk) = length-followers walk

pub words_are : (low high : Option (List Constraint))
    → joined (option_to_list low ++ option_to_list high) ≡ words low ++ words high
words_are None None = refl
words_are None (Some b) = append-nil b
words_are (Some a) None = refl
words_are (Some a) (Some b) = ap (λ (xs : List Constraint). a ++ xs) (append-nil b)

pub nexts_are : (low high : Option (List Constraint))
    → flat_map followers (option_to_list low ++ option_to_list high) ≡ nexts low ++ nexts high
nexts_are None None = refl
nexts_are None (Some b) = append-nil (followers b)
nexts_are (Some a) None = refl
nexts_are (Some a) (Some b) = ap (λ (xs : List Constraint). followers a ++ xs) (append-nil (followers b))

-- constraint j of both walks is one of the first, or of the second
pub word_cases : (low high : Option (List Constraint)) (j : ℕ)
    → j < length (joined (option_to_list low ++ option_to_list high))
    → (j < length (words low)) ⊎ ((length (words low) ≤ j) × (j - length (words low) < length (words high)))
word_cases low high j lt =
    let size = ap (λ (xs : List Constraint). length xs) (words_are low high) in
    ⊎_elim (λ below. inl below) (λ above. inr (above, omega (arith, lt, above, size, length-append (words low) (words high)))) (cases_lt j (length (words low)))

pub word_low : (low high : Option (List Constraint)) (j : ℕ) → j < length (words low)
    → token_at (joined (option_to_list low ++ option_to_list high)) j ≡ token_at (words low) j
word_low low high j lt =
    ap (λ (xs : List Constraint). token_at xs j) (words_are low high) ∙ get_or_append_left (words low) (words high) (Min 0 0) j lt

pub next_low : (low high : Option (List Constraint)) (j : ℕ) → j < length (words low)
    → token_at (flat_map followers (option_to_list low ++ option_to_list high)) j ≡ token_at (nexts low) j
next_low low high j lt =
    ap (λ (xs : List Constraint). token_at xs j) (nexts_are low high) ∙ get_or_append_left (nexts low) (nexts high) (Min 0 0) j
    (omega (arith, lt, length-nexts low))

pub word_high : (low high : Option (List Constraint)) (j k : ℕ) → j ≡ length (words low) + k
    → token_at (joined (option_to_list low ++ option_to_list high)) j ≡ token_at (words high) k
word_high low high j k at =
    let e : j - length (words low) ≡ k = omega (arith, at) in
    ap (λ (xs : List Constraint). token_at xs j) (words_are low high)
    ∙ get_or-append_right (words low) (words high) (length (words low)) j (Min 0 0) refl (omega (arith, at))
    ∙ ap (λ (n : ℕ). token_at (words high) n) e

pub next_high : (low high : Option (List Constraint)) (j k : ℕ) → j ≡ length (words low) + k
    → token_at (flat_map followers (option_to_list low ++ option_to_list high)) j ≡ token_at (nexts high) k
next_high low high j k at =
    let e : j - length (words low) ≡ k = omega (arith, at) in
    ap (λ (xs : List Constraint). token_at xs j) (nexts_are low high)
    ∙ get_or-append_right (nexts low) (nexts high) (length (words low)) j (Min 0 0) (length-nexts low) (omega (arith, at))
    ∙ ap (λ (n : ℕ). token_at (nexts high) n) e

-- ---- a closed walk has no stray and no loose constraint

abbrev pub IsTiedIn : LineData → List Decision → Option (List Constraint) → ℕ → Type 0
IsTiedIn l path o j = (arc_of l path (token_at (words o) j)).to ≡ (arc_of l path (token_at (nexts o) j)).from

pub record IsSound (l : LineData) (path : List Decision) (o : Option (List Constraint)) : Type 0 where
  pub there : (k : ℕ) → k < length (words o) → IsConstraint l path (token_at (words o) k)
  pub tied : (k : ℕ) → k < length (words o) → IsTiedIn l path o k

-- a walk up to node (arc_of l path e).from, each constraint with the next one
walk_there : (l : LineData) (path : List Decision) (i : ℕ) (ts : List Constraint) (j : ℕ) → Walks l path i ts j
    → (k : ℕ) → k < length ts
    → IsConstraint l path (token_at ts k)
walk_there l path i [] j w k lt = absurd (omega (arith, lt))
walk_there l path i (t ∷ ts) j w zero lt = w.0
walk_there l path i (t ∷ ts) j w (suc k) lt = walk_there l path (arc_of l path t).to ts j w.2 k (omega (arith, lt))

walk_tied : (l : LineData) (path : List Decision) (i : ℕ) (t : Constraint) (ts : List Constraint) (j : ℕ) (e : Constraint)
    → Walks l path i (t ∷ ts) j
    → j ≡ (arc_of l path e).from
    → (k : ℕ) → k < length (t ∷ ts)
    → (arc_of l path (token_at (t ∷ ts) k)).to ≡ (arc_of l path (token_at (ts ++ e ∷ []) k)).from
walk_tied l path i t [] j e w last zero lt = w.2 ∙ last
walk_tied l path i t [] j e w last (suc k) lt = absurd (omega (arith, lt))
walk_tied l path i t (u ∷ ts) j e w last zero lt = sym w.2.1
walk_tied l path i t (u ∷ ts) j e w last (suc k) lt = walk_tied l path (arc_of l path t).to u ts j e w.2 last k (omega (arith, lt))

closed_is_sound : (l : LineData) (path : List Decision) (walk : List Constraint) → IsClosedWalk l path walk
    → IsSound l path (Some walk)
closed_is_sound l path [] closed = absurd closed
closed_is_sound l path (t ∷ ts) closed = record {
  there = walk_there l path (arc_of l path t).from (t ∷ ts) (arc_of l path t).from closed;
  tied = walk_tied l path (arc_of l path t).from t ts (arc_of l path t).from t closed refl;
}

low_sound : (l : LineData) (path : List Decision) (low high : Option (List Constraint))
    → ((walk : List Constraint) → Contains (option_to_list low ++ option_to_list high) walk → IsClosedWalk l path walk)
    → IsSound l path low
low_sound l path None high closed = record { there = λ k lt. absurd (omega (arith, lt)); tied = λ k lt. absurd (omega (arith, lt)) }
low_sound l path (Some a) high closed = closed_is_sound l path a (closed a (contains_first a (option_to_list high)))

high_sound : (l : LineData) (path : List Decision) (low high : Option (List Constraint))
    → ((walk : List Constraint) → Contains (option_to_list low ++ option_to_list high) walk → IsClosedWalk l path walk)
    → IsSound l path high
high_sound l path low None closed = record { there = λ k lt. absurd (omega (arith, lt)); tied = λ k lt. absurd (omega (arith, lt)) }
high_sound l path low (Some b) closed = closed_is_sound l path b (closed b (Contains-append_right (option_to_list low) (b ∷ []) b (contains_first b [])))

-- two sound walks have no stray constraint, and no loose one
pub none_stray : (l : LineData) (path : List Decision) (low high : Option (List Constraint)) → IsSound l path low
    → IsSound l path high → (j : ℕ)
    → j < length (joined (option_to_list low ++ option_to_list high))
    → IsConstraint l path (token_at (joined (option_to_list low ++ option_to_list high)) j)
none_stray l path low high a b j lt =
    let P : Constraint → Type 0 = λ t. IsConstraint l path t in
    ⊎_elim
    (λ below. subst P (sym (word_low low high j below)) (a.there j below))
    (λ above. let k = j - length (words low) in subst P (sym (word_high low high j k (omega (arith, above.0)))) (b.there k above.1))
    (word_cases low high j lt)

pub none_loose : (l : LineData) (path : List Decision) (low high : Option (List Constraint)) → IsSound l path low
    → IsSound l path high → (j : ℕ)
    → j < length (joined (option_to_list low ++ option_to_list high))
    → (arc_of l path (token_at (joined (option_to_list low ++ option_to_list high)) j)).to
    ≡ (arc_of l path (token_at (flat_map followers (option_to_list low ++ option_to_list high)) j)).from
none_loose l path low high a b j lt =
    let to : Constraint → ℕ = λ t. (arc_of l path t).to in
    let from : Constraint → ℕ = λ t. (arc_of l path t).from in
    ⊎_elim
    (λ below. ap to (word_low low high j below) ∙ a.tied j below ∙ sym (ap from (next_low low high j below)))
    (λ above.
    let k = j - length (words low) in
    let at : j ≡ length (words low) + k = omega (arith, above.0) in
    ap to (word_high low high j k at) ∙ b.tied k above.1 ∙ sym (ap from (next_high low high j k at)))
    (word_cases low high j lt)

-- ---- nodes

leaf_refutes : (l : LineData) (path : List Decision) (node : Node) (bound : ℕ) → HasWalks node → Shows l path node bound
    → RefuteBelow l path (walks_of node) bound
leaf_refutes l path (nodes.Split question children) bound w shows = absurd w
leaf_refutes l path (nodes.Closed low high) bound w shows = shows
leaf_refutes l path (nodes.Stuck m) bound w shows = absurd w
leaf_refutes l path (nodes.Solved low) bound w shows = shows
leaf_refutes l path (nodes.Left low) bound w shows =
    let P : List (List Constraint) → Type 0 = λ ws. RefuteBelow l path ws bound in
    subst P (sym (append-nil (option_to_list low))) shows

-- a node without walks has no constraints
no_words : (node : Node) (j : ℕ) → (HasWalks node → ⊥) → j < length (tokens_of node) → ⊥
no_words (nodes.Split question children) j w lt = omega (arith, lt)
no_words (nodes.Closed low high) j w lt = w tt
no_words (nodes.Stuck m) j w lt = omega (arith, lt)
no_words (nodes.Solved low) j w lt = w tt
no_words (nodes.Left low) j w lt = w tt

walks_or_not : (node : Node) → HasWalks node ⊎ (HasWalks node → ⊥)
walks_or_not (nodes.Split question children) = inr (λ h. h)
walks_or_not (nodes.Closed low high) = inl tt
walks_or_not (nodes.Stuck m) = inr (λ h. h)
walks_or_not (nodes.Solved low) = inl tt
walks_or_not (nodes.Left low) = inl tt

fit_shown : (l : LineData) (path : List Decision) (node : Node) (bound : ℕ) → Shows l path node bound
    → IsUnfit l path node → ⊥
fit_shown l path (nodes.Split question children) bound shows unfit = unfit shows
fit_shown l path (nodes.Closed low high) bound shows unfit = unfit
fit_shown l path (nodes.Stuck m) bound shows unfit = unfit
fit_shown l path (nodes.Solved low) bound shows unfit = unfit
fit_shown l path (nodes.Left low) bound shows unfit = unfit

stuck_shown : (l : LineData) (path : List Decision) (node : Node) (bound : ℕ) (m : MoveId) → Shows l path node bound
    → IsFree l path node m → ⊥
stuck_shown l path (nodes.Split question children) bound m shows free = free
stuck_shown l path (nodes.Closed low high) bound m shows free = free
stuck_shown l path (nodes.Stuck named) bound m shows free =
    let P : MoveId → Type 0 = λ x. IsMove l x.carrier x.step × IsStuck l path x.carrier x.step in
    free.1 (subst P (sym free.0) shows)
stuck_shown l path (nodes.Solved low) bound m shows free = free
stuck_shown l path (nodes.Left low) bound m shows free = free

stray_shown : (l : LineData) (path : List Decision) (node : Node) (bound j : ℕ) → Shows l path node bound
    → IsStray l path node j → ⊥
stray_shown l path node bound j shows stray =
    ⊎_elim
    (λ w.
    let closed = (leaf_refutes l path node bound w shows).closed in
    stray.1 (none_stray l path (low_of node) (high_of node) (low_sound l path (low_of node) (high_of node) closed)
    (high_sound l path (low_of node) (high_of node) closed) j stray.0))
    (λ none. no_words node j none stray.0)
    (walks_or_not node)

loose_shown : (l : LineData) (path : List Decision) (node : Node) (bound j : ℕ) → Shows l path node bound
    → IsLoose l path node j → ⊥
loose_shown l path node bound j shows loose =
    ⊎_elim
    (λ w.
    let closed = (leaf_refutes l path node bound w shows).closed in
    loose.1 (none_loose l path (low_of node) (high_of node) (low_sound l path (low_of node) (high_of node) closed)
    (high_sound l path (low_of node) (high_of node) closed) j loose.0))
    (λ none. no_words node j none loose.0)
    (walks_or_not node)

pub no_flaw_shown : (l : LineData) (path : List Decision) (node : Node) (bound : ℕ) (r : Reason)
    → Shows l path node bound → HasFlaw l path node bound r → ⊥
no_flaw_shown l path node bound reasons.TimetableMissing shows flaw = flaw
no_flaw_shown l path node bound reasons.TimetableExtra shows flaw = flaw
no_flaw_shown l path node bound (reasons.Bound seen want) shows flaw = flaw
no_flaw_shown l path node bound (reasons.Splits seen count) shows flaw = flaw
no_flaw_shown l path node bound (reasons.LeftNode n) shows flaw = flaw
no_flaw_shown l path node bound reasons.NoLeft shows flaw = flaw
no_flaw_shown l path node bound (reasons.Fault f) shows flaw = flaw
no_flaw_shown l path node bound (reasons.Question n) shows flaw = fit_shown l path node bound shows flaw
no_flaw_shown l path node bound (reasons.Stuck n m) shows flaw = stuck_shown l path node bound m shows flaw
no_flaw_shown l path node bound (reasons.Token n j) shows flaw = stray_shown l path node bound j shows flaw
no_flaw_shown l path node bound (reasons.Joint n j) shows flaw = loose_shown l path node bound j shows flaw
no_flaw_shown l path node bound (reasons.Period n period low high) shows flaw =
    let open_there = flaw.0 in
    let r = (leaf_refutes l path node bound open_there.walks shows).refuted period open_there.within.0 open_there.within.1 in
    open_there.is_open r.0 r.1 r.2
