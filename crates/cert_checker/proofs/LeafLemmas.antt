-- The first flaw of a leaf whose walks were followed.
use Rattle.std.proofs.Common.{⊎_elim, ◌⊎◌, ◌≡◌, ℕ, suc, ◌+◌, ◌-◌, ◌<◌, ◌≤◌, List, [], ◌∷◌, ◌++◌, length, ℤ, pos, Option, Some, None, refl, sym, ◌∙◌, ap, subst, arith}
use Rattle.std.specs.Prelude.{Contains, option_to_list, option_map, IfSome}
use Rattle.std.specs.Option.{option_or}
use Rattle.std.proofs.lemmas.Int.{ints}
use Rattle.std.proofs.lemmas.Bool.{cases_lt}
use Rattle.std.proofs.lemmas.List.{length-append, append-nil}
use Rattle.std.proofs.lemmas.List.Elements.{Contains-append_left, Contains-append_right, Contains-append_cases}
use Rattle.hoist_base.specs.LineData.{LineData}
use Rattle.hoist_base.specs.declared.ids.MoveId.{MoveId}
use Rattle.timetable.specs.Faults.{IsLess}
use Rattle.choice_tree.specs.declared.question.Decision.{Decision}
use Rattle.choice_tree.specs.declared.constraint.Constraint.{Constraint}
use Rattle.choice_tree.specs.declared.node.Node.{Node}
use Rattle.choice_tree.specs.declared.node.Node.TheVariants as nodes
use Rattle.path_constraints.specs.Constraints.{IsConstraint, arc_of}
use Rattle.path_constraints.specs.Proves.{Walks, IsClosedWalk, RefutesPeriod, RefuteBelow, Shows}
use Rattle.list_facts.proofs.Elements.{contains_first, contains_only}
use Rattle.cycle_walk.specs.declared.sums.Sums.{Sums}
use Rattle.cert_checker.specs.declared.reason.Reason.{Reason}
use Rattle.cert_checker.specs.declared.reason.Reason.TheVariants as reasons
use Rattle.cert_checker.specs.declared.walks.Followed.{Followed}
use Rattle.cert_checker.specs.Walks.{HasWalks, low_of, high_of, walks_of, joined, tokens_of, followers_of, token_at}
use Rattle.cert_checker.specs.Flaws.{IsUnfit, IsFree, IsStray, IsLoose, IsLeastOpen, sums_of, HasFlaw}
use Rattle.cert_checker.specs.Followed.{Gives, AllGiven, IsLeastUngiven, IsTied, IsFollowedOr, IsFirstStrayOr}
use Rattle.cert_checker.specs.Judged.{named, rank_of, IsFirstFlaw, IsJudged, own_loose, count_of, sums_in, first_loose, AreUsable}
use Rattle.cert_checker.proofs.FollowLemmas.{FirstFail}
use Rattle.cert_checker.proofs.FlawLemmas.{words, words_are, word_cases, word_low, next_low, word_high, next_high, IsTiedIn}

-- ---- the first of some numbers that fails

fail_map : (T S : ℕ → Type 0) (n : ℕ) (o : Option ℕ) → ((k : ℕ) → k < n → T k → S k) → ((k : ℕ) → k < n → S k → T k)
    → FirstFail T n o → FirstFail S n o
fail_map T S n None to from all = λ k lt. to k lt (all k lt)
fail_map T S n (Some j) to from (lt, bad, good) = (lt, λ s. bad (from j lt s), λ k below. to k (omega (arith, below, lt)) (good k below))

fail-append : (T : ℕ → Type 0) (m n : ℕ) (o p : Option ℕ) → FirstFail T m o → FirstFail (λ k. T (m + k)) n p
    → FirstFail T (m + n) (option_or o (option_map (λ (j : ℕ). m + j) p))
fail-append T m n (Some j) p (lt, bad, good) second = (omega (arith, lt), bad, good)
fail-append T m n None (Some j) first (lt, bad, good) = (
  omega (arith, lt),
  bad,
  λ k below.
      ⊎_elim (λ less. first k less)
      (λ ge. let e : m + (k - m) ≡ k = omega (arith, ge) in subst T e (good (k - m) (omega (arith, below, ge))))
      (cases_lt k m),
)
fail-append T m n None None first second = λ k below.
    ⊎_elim (λ less. first k less)
    (λ ge. let e : m + (k - m) ≡ k = omega (arith, ge) in subst T e (second (k - m) (omega (arith, below, ge))))
    (cases_lt k m)

-- ---- what following tells of a walk that may be there

followed_there : (l : LineData) (path : List Decision) (o : Option (List Constraint)) (f : Option Followed)
    → IsFollowedOr l path o f → (k : ℕ)
    → k < length (words o) → IsConstraint l path (token_at (words o) k)
followed_there l path None None h k lt = absurd (omega (arith, lt))
followed_there l path None (Some f) h k lt = absurd h
followed_there l path (Some walk) None h k lt = absurd h
followed_there l path (Some walk) (Some f) h k lt = h.there k lt

followed_count : (l : LineData) (path : List Decision) (o : Option (List Constraint)) (f : Option Followed)
    → IsFollowedOr l path o f
    → count_of f ≡ length (words o)
followed_count l path None None h = refl
followed_count l path None (Some f) h = absurd h
followed_count l path (Some walk) None h = absurd h
followed_count l path (Some walk) (Some f) h = h.count

followed_fail : (l : LineData) (path : List Decision) (o : Option (List Constraint)) (f : Option Followed)
    → IsFollowedOr l path o f
    → FirstFail (IsTiedIn l path o) (length (words o)) (own_loose f)
followed_fail l path None None h = λ k lt. absurd (omega (arith, lt))
followed_fail l path None (Some f) h = absurd h
followed_fail l path (Some walk) None h = absurd h
followed_fail l path (Some walk) (Some f) h = h.loose

followed_sums : (l : LineData) (path : List Decision) (o : Option (List Constraint)) (f : Option Followed)
    → IsFollowedOr l path o f
    → sums_in f ≡ option_map (sums_of l path) o
followed_sums l path None None h = refl
followed_sums l path None (Some f) h = absurd h
followed_sums l path (Some walk) None h = absurd h
followed_sums l path (Some walk) (Some f) h = ap (λ (s : Sums). Some s) h.sums

if_small : (o : Option ℕ) (T : ℕ → Type 0) (n : ℕ) → n ≤ 1000 → FirstFail T n o → IfSome o (λ j. j ≤ 1000)
if_small None T n few fail = tt
if_small (Some j) T n few fail = omega (arith, fail.0, few)

pub followed_usable : (l : LineData) (path : List Decision) (o : Option (List Constraint)) (f : Option Followed)
    → IsFollowedOr l path o f → AreUsable f
followed_usable l path None None h = record { count = omega arith; loose = tt; sums = tt }
followed_usable l path None (Some f) h = absurd h
followed_usable l path (Some walk) None h = absurd h
followed_usable l path (Some walk) (Some f) h = record {
  count = h.few;
  loose = if_small f.loose (IsTied l path walk) (length walk) (omega (arith, h.few, h.count)) h.loose;
  sums = h.small;
}

-- ---- closed walks

walks_to : (l : LineData) (path : List Decision) (t : Constraint) (ts : List Constraint) (e : Constraint)
    → ((k : ℕ) → k < length (t ∷ ts) → IsConstraint l path (token_at (t ∷ ts) k))
    → ((k : ℕ) → k < length (t ∷ ts) → (arc_of l path (token_at (t ∷ ts) k)).to ≡ (arc_of l path (token_at (ts ++ e ∷ []) k)).from)
    → Walks l path (arc_of l path t).from (t ∷ ts) (arc_of l path e).from
walks_to l path t [] e there tied = (there 0 (omega arith), refl, tied 0 (omega arith))
walks_to l path t (u ∷ ts) e there tied =
    let rest = walks_to l path u ts e (λ k lt. there (suc k) (omega (arith, lt))) (λ k lt. tied (suc k) (omega (arith, lt))) in
    let P : ℕ → Type 0 = λ i. Walks l path i (u ∷ ts) (arc_of l path e).from in
    (there 0 (omega arith), refl, subst P (sym (tied 0 (omega arith))) rest)

sound_is_closed : (l : LineData) (path : List Decision) (walk : List Constraint) → 1 ≤ length walk
    → ((k : ℕ) → k < length walk → IsConstraint l path (token_at walk k))
    → ((k : ℕ) → k < length walk → IsTied l path walk k) → IsClosedWalk l path walk
sound_is_closed l path [] some there tied = absurd (omega (arith, some))
sound_is_closed l path (t ∷ ts) some there tied = walks_to l path t ts t there tied

followed_closed : (l : LineData) (path : List Decision) (o : Option (List Constraint)) (f : Option Followed)
    → IsFollowedOr l path o f → own_loose f ≡ None
    → (walk : List Constraint) → Contains (option_to_list o) walk → IsClosedWalk l path walk
followed_closed l path None None h none walk c = absurd (omega (arith, c.1))
followed_closed l path None (Some f) h none walk c = absurd h
followed_closed l path (Some w) None h none walk c = absurd h
followed_closed l path (Some w) (Some f) h none walk c =
    let F : Option ℕ → Type 0 = λ o. FirstFail (IsTied l path w) (length w) o in
    let P : List Constraint → Type 0 = λ x. IsClosedWalk l path x in
    subst P (contains_only w walk c) (sound_is_closed l path w h.some h.there (subst F none h.loose))

-- ---- periods

given_walk : (l : LineData) (path : List Decision) (o : Option (List Constraint)) (f : Option Followed) (t : ℕ)
    → IsFollowedOr l path o f → Gives (sums_in f) t
    → (walk : List Constraint) × Contains (option_to_list o) walk × RefutesPeriod l path t walk
given_walk l path None None t h g = absurd g
given_walk l path None (Some f) t h g = absurd h
given_walk l path (Some w) None t h g = absurd h
given_walk l path (Some w) (Some f) t h g =
    let P : Sums → Type 0 = λ s. Gives (Some s) t in
    (w, contains_first w [], subst P h.sums g)

ungiven_walk : (l : LineData) (path : List Decision) (o : Option (List Constraint)) (f : Option Followed) (t : ℕ)
    → IsFollowedOr l path o f
    → (Gives (sums_in f) t → ⊥) → (walk : List Constraint) → Contains (option_to_list o) walk
    → RefutesPeriod l path t walk → ⊥
ungiven_walk l path None None t h shut walk c refutes = omega (arith, c.1)
ungiven_walk l path None (Some f) t h shut walk c refutes = h
ungiven_walk l path (Some w) None t h shut walk c refutes = h
ungiven_walk l path (Some w) (Some f) t h shut walk c refutes =
    let P : Sums → Type 0 = λ s. Gives (Some s) t in
    let R : List Constraint → Type 0 = λ x. RefutesPeriod l path t x in
    shut (subst P (sym h.sums) (subst R (sym (contains_only w walk c)) refutes))

either_walk : (l : LineData) (path : List Decision) (a b : Option (List Constraint)) (f g : Option Followed) (t : ℕ)
    → IsFollowedOr l path a f
    → IsFollowedOr l path b g → Gives (sums_in f) t ⊎ Gives (sums_in g) t
    → (walk : List Constraint) × Contains (option_to_list a ++ option_to_list b) walk × RefutesPeriod l path t walk
either_walk l path a b f g t h k given =
    ⊎_elim
    (λ low. let r = given_walk l path a f t h low in (r.0, Contains-append_left (option_to_list a) (option_to_list b) r.0 r.1, r.2))
    (λ high. let r = given_walk l path b g t k high in (r.0, Contains-append_right (option_to_list a) (option_to_list b) r.0 r.1, r.2))
    given

neither_walk : (l : LineData) (path : List Decision) (a b : Option (List Constraint)) (f g : Option Followed) (t : ℕ)
    → IsFollowedOr l path a f
    → IsFollowedOr l path b g → (Gives (sums_in f) t → ⊥) → (Gives (sums_in g) t → ⊥)
    → (walk : List Constraint) → Contains (option_to_list a ++ option_to_list b) walk → RefutesPeriod l path t walk → ⊥
neither_walk l path a b f g t h k low high walk c refutes =
    ⊎_elim (λ x. ungiven_walk l path a f t h low walk x refutes) (λ y. ungiven_walk l path b g t k high walk y refutes)
    (Contains-append_cases (option_to_list a) (option_to_list b) walk c)

-- ---- the order of flaws of a leaf

leaf_fits : (l : LineData) (path : List Decision) (leaf : Node) → HasWalks leaf → IsUnfit l path leaf → ⊥
leaf_fits l path (nodes.Split question children) w unfit = w
leaf_fits l path (nodes.Closed low high) w unfit = unfit
leaf_fits l path (nodes.Stuck m) w unfit = unfit
leaf_fits l path (nodes.Solved low) w unfit = unfit
leaf_fits l path (nodes.Left low) w unfit = unfit

leaf_not_stuck : (l : LineData) (path : List Decision) (leaf : Node) (m : MoveId) → HasWalks leaf → IsFree l path leaf m
    → ⊥
leaf_not_stuck l path (nodes.Split question children) m w free = free
leaf_not_stuck l path (nodes.Closed low high) m w free = free
leaf_not_stuck l path (nodes.Stuck named) m w free = w
leaf_not_stuck l path (nodes.Solved low) m w free = free
leaf_not_stuck l path (nodes.Left low) m w free = free

none_earlier : (l : LineData) (path : List Decision) (leaf : Node) (bound : ℕ) (limit : List ℤ) → HasWalks leaf
    → ((j : ℕ) → IsStray l path leaf j → IsLess (pos 2 ∷ pos j ∷ []) limit → ⊥)
    → ((j : ℕ) → IsLoose l path leaf j → IsLess (pos 3 ∷ pos j ∷ []) limit → ⊥)
    → (IsLess (pos 4 ∷ []) limit → ⊥) → (s : Reason) → HasFlaw l path leaf bound s → IsLess (rank_of s) limit → ⊥
none_earlier l path leaf bound limit w stray loose period reasons.TimetableMissing flaw less = flaw
none_earlier l path leaf bound limit w stray loose period reasons.TimetableExtra flaw less = flaw
none_earlier l path leaf bound limit w stray loose period (reasons.Bound _ _) flaw less = flaw
none_earlier l path leaf bound limit w stray loose period (reasons.Splits _ _) flaw less = flaw
none_earlier l path leaf bound limit w stray loose period (reasons.LeftNode _) flaw less = flaw
none_earlier l path leaf bound limit w stray loose period reasons.NoLeft flaw less = flaw
none_earlier l path leaf bound limit w stray loose period (reasons.Fault _) flaw less = flaw
none_earlier l path leaf bound limit w stray loose period (reasons.Question n) flaw less = leaf_fits l path leaf w flaw
none_earlier l path leaf bound limit w stray loose period (reasons.Stuck n m) flaw less = leaf_not_stuck l path leaf m w flaw
none_earlier l path leaf bound limit w stray loose period (reasons.Token n j) flaw less = stray j flaw less
none_earlier l path leaf bound limit w stray loose period (reasons.Joint n j) flaw less = loose j flaw less
none_earlier l path leaf bound limit w stray loose period (reasons.Period n p a b) flaw less = period less

-- ---- constraints off the path

first_token : (l : LineData) (path : List Decision) (leaf : Node) (bound n j : ℕ) → HasWalks leaf
    → IsStray l path leaf j
    → ((k : ℕ) → k < j → IsConstraint l path (token_at (tokens_of leaf) k))
    → IsFirstFlaw l path leaf bound n (reasons.Token n j)
first_token l path leaf bound n j w stray before = record {
  has = stray;
  names = refl;
  first =
      none_earlier l path leaf bound (pos 2 ∷ pos j ∷ []) w
      (λ k off less. ⊎_elim (λ lt. omega (arith, ints, lt)) (λ same. ⊎_elim (λ lt. off.1 (before k (omega (arith, ints, lt)))) (λ last. last.1) same.1) less)
      (λ k off less. ⊎_elim (λ lt. omega (arith, ints, lt)) (λ same. omega (arith, ints, same.0)) less)
      (λ less. ⊎_elim (λ lt. omega (arith, ints, lt)) (λ same. omega (arith, ints, same.0)) less);
}

low_size : (a b : Option (List Constraint)) (j : ℕ) → j < length (words a)
    → j < length (joined (option_to_list a ++ option_to_list b))
low_size a b j lt = omega (arith, lt, ap (λ (xs : List Constraint). length xs) (words_are a b), length-append (words a) (words b))

stray_low : (l : LineData) (path : List Decision) (a b : Option (List Constraint)) (leaf : Node) (bound n j : ℕ)
    → a ≡ low_of leaf → b ≡ high_of leaf
    → HasWalks leaf → (j < length (words a)) → (IsConstraint l path (token_at (words a) j) → ⊥)
    → ((k : ℕ) → k < j → IsConstraint l path (token_at (words a) k))
    → IsFirstFlaw l path leaf bound n (reasons.Token n j)
stray_low l path a b leaf bound n j is_a is_b w lt off before =
    let P : Constraint → Type 0 = λ t. IsConstraint l path t in
    let T : Option (List Constraint) → Option (List Constraint) → List Constraint = λ x y. joined (option_to_list x ++ option_to_list y) in
    let e : T a b ≡ tokens_of leaf = ap (λ (x : Option (List Constraint)). T x b) is_a ∙ ap (λ (y : Option (List Constraint)). T (low_of leaf) y) is_b in
    let at : (k : ℕ) → token_at (T a b) k ≡ token_at (tokens_of leaf) k = λ k. ap (λ (xs : List Constraint). token_at xs k) e in
    first_token l path leaf bound n j w
    (omega (arith, low_size a b j lt, ap (λ (xs : List Constraint). length xs) e), λ h. off (subst P (sym (at j) ∙ word_low a b j lt) h))
    (λ k below. subst P (sym (word_low a b k (omega (arith, below, lt))) ∙ at k) (before k below))

pub token_low : (l : LineData) (path : List Decision) (leaf : Node) (bound n j : ℕ) → HasWalks leaf
    → IsFirstStrayOr l path (low_of leaf) j
    → IsFirstFlaw l path leaf bound n (reasons.Token n j)
token_low l path leaf bound n j w stray = by_low (low_of leaf) refl stray
  where
    by_low : (a : Option (List Constraint)) → a ≡ low_of leaf → IsFirstStrayOr l path a j
        → IsFirstFlaw l path leaf bound n (reasons.Token n j)
    by_low None e h = absurd h
    by_low (Some walk) e h = stray_low l path (Some walk) (high_of leaf) leaf bound n j e refl w h.0 h.1 h.2

high_stray : (l : LineData) (path : List Decision) (b : Option (List Constraint)) (j : ℕ) → IsFirstStrayOr l path b j
    → (j < length (words b)) × (IsConstraint l path (token_at (words b) j) → ⊥) × ((k : ℕ) → k < j → IsConstraint l path (token_at (words b) k))
high_stray l path None j h = absurd h
high_stray l path (Some walk) j h = h

pub token_high : (l : LineData) (path : List Decision) (leaf : Node) (f : Option Followed) (bound n j p : ℕ)
    → HasWalks leaf
    → IsFollowedOr l path (low_of leaf) f → IsFirstStrayOr l path (high_of leaf) j → p ≡ count_of f + j
    → IsFirstFlaw l path leaf bound n (reasons.Token n p)
token_high l path leaf f bound n j p w followed stray at =
    let a = low_of leaf in
    let b = high_of leaf in
    let count = followed_count l path a f followed in
    let r = high_stray l path b j stray in
    let P : Constraint → Type 0 = λ t. IsConstraint l path t in
    let place : p ≡ length (words a) + j = omega (arith, at, count) in
    first_token l path leaf bound n p w (
      omega (arith, place, r.0, ap (λ (xs : List Constraint). length xs) (words_are a b), length-append (words a) (words b)),
      λ h. r.1
          (subst P (word_high a b p j place) h),
    )
    (λ k below.
    ⊎_elim
    (λ less. subst P (sym (word_low a b k less)) (followed_there l path a f followed k less))
    (λ ge.
    let i = k - length (words a) in
    let here : k ≡ length (words a) + i = omega (arith, ge) in
    subst P (sym (word_high a b k i here)) (r.2 i (omega (arith, below, here, place))))
    (cases_lt k (length (words a))))

-- ---- two walks that were followed

-- what both walks say of a leaf
record Both (l : LineData) (path : List Decision) (leaf : Node) (f g : Option Followed) : Type 0 where
  walks : HasWalks leaf
  low : IsFollowedOr l path (low_of leaf) f
  high : IsFollowedOr l path (high_of leaf) g

abbrev IsTiedAt : LineData → List Decision → Node → ℕ → Type 0
IsTiedAt l path leaf j = (arc_of l path (token_at (tokens_of leaf) j)).to ≡ (arc_of l path (token_at (followers_of leaf) j)).from

all_there : (l : LineData) (path : List Decision) (leaf : Node) (f g : Option Followed) → Both l path leaf f g → (j : ℕ)
    → j < length (tokens_of leaf)
    → IsConstraint l path (token_at (tokens_of leaf) j)
all_there l path leaf f g both j lt =
    let a = low_of leaf in
    let b = high_of leaf in
    let P : Constraint → Type 0 = λ t. IsConstraint l path t in
    ⊎_elim
    (λ below. subst P (sym (word_low a b j below)) (followed_there l path a f both.low j below))
    (λ above. let k = j - length (words a) in subst P (sym (word_high a b j k (omega (arith, above.0)))) (followed_there l path b g both.high k above.1))
    (word_cases a b j lt)

first_fails : (l : LineData) (path : List Decision) (leaf : Node) (f g : Option Followed) → Both l path leaf f g
    → FirstFail (IsTiedAt l path leaf) (length (tokens_of leaf)) (first_loose f g)
first_fails l path leaf f g both =
    let a = low_of leaf in
    let b = high_of leaf in
    let m = count_of f in
    let count = followed_count l path a f both.low in
    let to : Constraint → ℕ = λ t. (arc_of l path t).to in
    let from : Constraint → ℕ = λ t. (arc_of l path t).from in
    let low_fail =
    fail_map (IsTiedIn l path a) (IsTiedAt l path leaf) (length (words a)) (own_loose f)
    (λ k lt tied. ap to (word_low a b k lt) ∙ tied ∙ sym (ap from (next_low a b k lt)))
    (λ k lt tied. sym (ap to (word_low a b k lt)) ∙ tied ∙ ap from (next_low a b k lt))
    (followed_fail l path a f both.low) in
    let high_fail =
    fail_map (IsTiedIn l path b) (λ k. IsTiedAt l path leaf (m + k)) (length (words b)) (own_loose g)
    (λ k lt tied. let at : m + k ≡ length (words a) + k = omega (arith, count) in ap to (word_high a b (m + k) k at) ∙ tied ∙ sym
    (ap from (next_high a b (m + k) k at)))
    (λ k lt tied. let at : m + k ≡ length (words a) + k = omega (arith, count) in sym (ap to (word_high a b (m + k) k at)) ∙ tied ∙ ap from
    (next_high a b (m + k) k at))
    (followed_fail l path b g both.high) in
    let L : ℕ → Type 0 = λ k. FirstFail (IsTiedAt l path leaf) k (own_loose f) in
    let size : m + length (words b) ≡ length (tokens_of leaf) =
    omega (arith, count, ap (λ (xs : List Constraint). length xs) (words_are a b), length-append (words a) (words b)) in
    let S : ℕ → Type 0 = λ k. FirstFail (IsTiedAt l path leaf) k (first_loose f g) in
    subst S size (fail-append (IsTiedAt l path leaf) m (length (words b)) (own_loose f) (own_loose g) (subst L (sym count) low_fail) high_fail)

judged_joint : (l : LineData) (path : List Decision) (leaf : Node) (f g : Option Followed) (bound n j : ℕ)
    → first_loose f g ≡ Some j → Both l path leaf f g
    → IsFirstFlaw l path leaf bound n (reasons.Joint n j)
judged_joint l path leaf f g bound n j is both =
    let F : Option ℕ → Type 0 = λ o. FirstFail (IsTiedAt l path leaf) (length (tokens_of leaf)) o in
    let fails = subst F is (first_fails l path leaf f g both) in
    record {
      has = (fails.0, fails.1);
      names = refl;
      first =
          none_earlier l path leaf bound (pos 3 ∷ pos j ∷ []) both.walks
          (λ k off less. off.1 (all_there l path leaf f g both k off.0))
          (λ k loose less. ⊎_elim (λ lt. omega (arith, ints, lt))
          (λ same. ⊎_elim (λ lt. loose.1 (fails.2 k (omega (arith, ints, lt)))) (λ last. last.1) same.1) less)
          (λ less. ⊎_elim (λ lt. omega (arith, ints, lt)) (λ same. omega (arith, ints, same.0)) less);
    }

pub judge_joint : (f g : Option Followed) (bound n j : ℕ) → first_loose f g ≡ Some j
    → IsJudged f g bound n (Some (reasons.Joint n j))
judge_joint f g bound n j is = λ l path leaf w low high. judged_joint l path leaf f g bound n j is (record { walks = w; low = low; high = high })

none_both : (o p : Option ℕ) (m : ℕ) → option_or o (option_map (λ (j : ℕ). m + j) p) ≡ None → (o ≡ None) × (p ≡ None)
none_both None None m e = (refl, refl)
none_both None (Some j) m e = cc
none_both (Some j) p m e = cc

shows_leaf : (l : LineData) (path : List Decision) (leaf : Node) (bound : ℕ) → HasWalks leaf
    → RefuteBelow l path (walks_of leaf) bound
    → Shows l path leaf bound
shows_leaf l path (nodes.Split question children) bound w refute = absurd w
shows_leaf l path (nodes.Closed low high) bound w refute = refute
shows_leaf l path (nodes.Stuck m) bound w refute = absurd w
shows_leaf l path (nodes.Solved low) bound w refute = refute
shows_leaf l path (nodes.Left low) bound w refute =
    let P : List (List Constraint) → Type 0 = λ ws. RefuteBelow l path ws bound in
    subst P (append-nil (option_to_list low)) refute

judged_shows : (l : LineData) (path : List Decision) (leaf : Node) (f g : Option Followed) (bound : ℕ)
    → first_loose f g ≡ None
    → AllGiven (sums_in f) (sums_in g) bound → Both l path leaf f g → Shows l path leaf bound
judged_shows l path leaf f g bound is given both =
    let a = low_of leaf in
    let b = high_of leaf in
    let none = none_both (own_loose f) (own_loose g) (count_of f) is in
    let refute : RefuteBelow l path (walks_of leaf) bound = record {
      closed = λ walk c.
          ⊎_elim (λ x. followed_closed l path a f both.low none.0 walk x) (λ y. followed_closed l path b g both.high none.1 walk y)
          (Contains-append_cases (option_to_list a) (option_to_list b) walk c);
      refuted = λ t some lt. either_walk l path a b f g t both.low both.high (given t some lt);
    } in
    shows_leaf l path leaf bound both.walks refute

pub judge_shows : (f g : Option Followed) (bound n : ℕ) → first_loose f g ≡ None
    → IsLeastUngiven (sums_in f) (sums_in g) bound None → IsJudged f g bound n None
judge_shows f g bound n is given = λ l path leaf w low high. judged_shows l path leaf f g bound is given (record { walks = w; low = low; high = high })

judged_open : (l : LineData) (path : List Decision) (leaf : Node) (f g : Option Followed) (bound n p : ℕ)
    → first_loose f g ≡ None
    → IsLeastUngiven (sums_in f) (sums_in g) bound (Some p) → Both l path leaf f g
    → IsFirstFlaw l path leaf bound n (reasons.Period n p (sums_in f) (sums_in g))
judged_open l path leaf f g bound n p is (some, lt, low, high, before) both =
    let a = low_of leaf in
    let b = high_of leaf in
    let F : Option ℕ → Type 0 = λ o. FirstFail (IsTiedAt l path leaf) (length (tokens_of leaf)) o in
    let tied = subst F is (first_fails l path leaf f g both) in
    let least : IsLeastOpen l path leaf bound p = record {
      walks = both.walks;
      within = (some, lt);
      is_open = λ walk c refutes. neither_walk l path a b f g p both.low both.high low high walk c refutes;
      least = λ t some' lt' open_there. let r = either_walk l path a b f g t both.low both.high (before t some' lt') in open_there r.0 r.1 r.2;
    } in
    record {
      has = (least, followed_sums l path a f both.low, followed_sums l path b g both.high);
      names = refl;
      first =
          none_earlier l path leaf bound (pos 4 ∷ []) both.walks
          (λ k off less. off.1 (all_there l path leaf f g both k off.0))
          (λ k loose less. loose.1 (tied k loose.0))
          (λ less. ⊎_elim (λ lt. omega (arith, ints, lt)) (λ same. same.1) less);
    }

pub judge_open : (f g : Option Followed) (bound n p : ℕ) → first_loose f g ≡ None
    → IsLeastUngiven (sums_in f) (sums_in g) bound (Some p)
    → IsJudged f g bound n (Some (reasons.Period n p (sums_in f) (sums_in g)))
judge_open f g bound n p is least = λ l path leaf w low high. judged_open l path leaf f g bound n p is least (record { walks = w; low = low; high = high })
