-- What holds of a state holds after one expansion more.
use Rattle.std.proofs.Common.{⊎_elim, ◌≡◌, ℕ, zero, suc, ◌+◌, ◌<◌, ◌≤◌, List, [], ◌∷◌, ◌++◌, length, get_or, drop, refl, sym, ◌∙◌, ap, subst, arith, Some, None}
use Rattle.std.specs.Prelude.{Option, IfSome, Contains, nat_lt, option_to_list}
use Rattle.std.proofs.lemmas.Bool.{cases_lt, cases_eq, cond-true, cond-false, lt-ltb, le-ltb}
use Rattle.std.proofs.lemmas.List.{append-nil, length-append}
use Rattle.hoist_base.specs.LineData.{LineData, is_single}
use Rattle.hoist_base.specs.Valid.{IsLine}
use Rattle.choice_tree.specs.declared.question.Question.{Question}
use Rattle.choice_tree.specs.declared.question.Decision.{Decision}
use Rattle.choice_tree.specs.declared.constraint.Constraint.{Constraint}
use Rattle.choice_tree.specs.declared.node.Node.{Node}
use Rattle.choice_tree.specs.declared.node.Node.TheVariants as nodes
use Rattle.choice_tree.specs.Nodes.{node_at, IsPathTo, numbers_from}
use Rattle.choice_tree.specs.Trees.{IsTree}
use Rattle.choice_tree.proofs.NodeLemmas.{length-numbers_from}
use Rattle.choice_tree.proofs.PathLemmas.{one_path}
use Rattle.path_constraints.specs.Questions as Questions
use Rattle.path_constraints.specs.Questions.{FitsPath, FitsDecision}
use Rattle.path_constraints.specs.Proves as Proves
use Rattle.path_constraints.specs.Proves.{RefuteBelow, Shows}
use Rattle.path_constraints.proofs.CoverTreeLemmas.{fits_more}
use Rattle.node_expand.specs.declared.solved.Solved as plans
use Rattle.node_expand.specs.declared.expanded.Expanded.{Expanded}
use Rattle.node_expand.specs.declared.expanded.Expanded.TheVariants.{Stuck, Closed, Solved, Split}
use Rattle.node_expand.specs.Plannable.{IsPlannable}
use Rattle.answer_text.specs.Nodes.{IsNodeText}
use Rattle.branch_rounds.specs.Grown.{result_at, taken, child_count, replaced, split_count, splits_of, less, better, best_of, cap_of}
use Rattle.branch_rounds.specs.Kept.{shown_below, IsKept, IsShown}
use Rattle.branch_rounds.proofs.TreeLemmas.{Grows, NewChild, path_kept, path_from}
use Rattle.branch_rounds.proofs.StayLemmas.{closed_stays}
use Rattle.branch_rounds.proofs.TextLemmas.{node_text, low_text, only}
use Rattle.branch_rounds.proofs.ListLemmas.{one_split}
use Rattle.branch_rounds.proofs.PlacedLemmas.{node_of, low_of, placed_at, one_on, placed_step, on_more}

-- ---- bounds

fewer : (l : LineData) (path : List Decision) (walks : List (List Constraint)) (bound bound' : ℕ) → bound' ≤ bound
    → RefuteBelow l path walks bound
    → RefuteBelow l path walks bound'
fewer l path walks bound bound' le r = record { closed = r.closed; refuted = λ period some lt. r.refuted period some (omega (arith, lt, le)) }

-- a node that isn't left shows the same of fewer periods; one that is left shows none
pub shows_fewer : (l : LineData) (path : List Decision) (n : Node) (cap cap' : ℕ) → cap' ≤ cap
    → Shows l path n (shown_below n cap)
    → Shows l path n (shown_below n cap')
shows_fewer l path (nodes.Split question children) cap cap' le s = s
shows_fewer l path (nodes.Closed low high) cap cap' le s = fewer l path (option_to_list low ++ option_to_list high) cap cap' le s
shows_fewer l path (nodes.Stuck m) cap cap' le s = s
shows_fewer l path (nodes.Solved low) cap cap' le s = fewer l path (low ∷ []) cap cap' le s
shows_fewer l path (nodes.Left low) cap cap' le s = s

-- ---- the best

less_first : (best s : plans.Solved) → s.period < best.period → less (Some best) s ≡ s
less_first best s lt = cond-true (nat_lt s.period best.period) s best (lt-ltb s.period best.period lt)

less_best : (best s : plans.Solved) → best.period ≤ s.period → less (Some best) s ≡ best
less_best best s le = cond-false (nat_lt s.period best.period) s best (le-ltb s.period best.period le)

less_period : (l : LineData) (best : Option plans.Solved) (s : plans.Solved) → s.period ≤ l.max_period
    → ((less best s).period ≤ s.period) × ((less best s).period ≤ cap_of l best)
less_period l None s le = (omega arith, omega (arith, le))
less_period l (Some best) s le =
    ⊎_elim
    (λ lt. let e = ap (λ (x : plans.Solved). x.period) (less_first best s lt) in (omega (arith, e), omega (arith, e, lt)))
    (λ ge. let e = ap (λ (x : plans.Solved). x.period) (less_best best s ge) in (omega (arith, e, ge), omega (arith, e)))
    (cases_lt s.period best.period)

-- the caps only fall
pub cap_falls : (l : LineData) (path : List Decision) (best : Option plans.Solved) (cap : ℕ) (x : Expanded)
    → cap ≤ l.max_period + 1 → IsShown l path cap x
    → cap_of l (better best x) ≤ cap_of l best
cap_falls l path best cap (Stuck m) le s = omega arith
cap_falls l path best cap (Closed low high) le s = omega arith
cap_falls l path best cap (Solved solved low) le s = (less_period l best solved (omega (arith, le, s.shows.1))).1
cap_falls l path best cap (Split question children period low) le s = omega arith

abbrev IsGood : LineData → Option plans.Solved → Type 0
IsGood l best = IfSome best (λ b. IsPlannable l b × (b.period ≤ l.max_period))

less_good : (l : LineData) (best : Option plans.Solved) (s : plans.Solved) → IsGood l best → IsPlannable l s
    → s.period ≤ l.max_period
    → IsGood l (Some (less best s))
less_good l None s good plan le = (plan, le)
less_good l (Some best) s good plan le =
    let P : plans.Solved → Type 0 = λ x. IsPlannable l x × (x.period ≤ l.max_period) in
    ⊎_elim (λ lt. subst P (sym (less_first best s lt)) (plan, le)) (λ ge. subst P (sym (less_best best s ge)) good) (cases_lt s.period best.period)

better_good : (l : LineData) (path : List Decision) (best : Option plans.Solved) (cap : ℕ) (x : Expanded)
    → cap ≤ l.max_period + 1 → IsShown l path cap x
    → IsGood l best → IsGood l (better best x)
better_good l path best cap (Stuck m) le s good = good
better_good l path best cap (Closed low high) le s good = good
better_good l path best cap (Solved solved low) le s good = less_good l best solved good s.shows.2 (omega (arith, le, s.shows.1))
better_good l path best cap (Split question children period low) le s good = good

-- ---- what the new node shows

node_shows : (l : LineData) (path : List Decision) (best : Option plans.Solved) (cap first : ℕ) (x : Expanded)
    → cap ≤ l.max_period + 1 → cap_of l best ≤ cap
    → IsShown l path cap x
    → Shows l path (node_of first x) (shown_below (node_of first x) (cap_of l (better best x)))
node_shows l path best cap first (Stuck m) le falls s = s.shows
node_shows l path best cap first (Closed low high) le falls s = fewer l path (option_to_list low ++ option_to_list high) cap (cap_of l best) falls s.shows
node_shows l path best cap first (Solved solved low) le falls s =
    fewer l path (low ∷ []) solved.period (less best solved).period (less_period l best solved (omega (arith, le, s.shows.1))).0 s.shows.0
node_shows l path best cap first (Split question children period low) le falls s =
    record { fits = s.shows.3; count = omega (arith, length-numbers_from first children, s.shows.4) }

-- ---- the new children

-- a question of which the node is a split, and its low
record IsSplitOn (l : LineData) (path : List Decision) (cap : ℕ) (x : Expanded) (d : Decision) : Type 0 where
  fits : FitsDecision l path d
  low : RefuteBelow l path (low_of x ∷ []) 1
  one : split_count x ≡ 1

split_on : (l : LineData) (path : List Decision) (cap first : ℕ) (x : Expanded) (d : Decision) (children : List ℕ)
    → IsShown l path cap x
    → node_of first x ≡ nodes.Split d.question children → d.child < child_count x → IsSplitOn l path cap x d
split_on l path cap first (Stuck m) d children s e lt = absurd cc
split_on l path cap first (Closed low high) d children s e lt = absurd cc
split_on l path cap first (Solved solved low) d children s e lt = absurd cc
split_on l path cap first (Split question count period low) d children s e lt =
    let same : question ≡ d.question = cc in
    let count_is : count ≡ Questions.child_count l path d.question = s.shows.4 ∙ ap (λ (q : Question). Questions.child_count l path q) same in
    let F : Question → Type 0 = λ q. Questions.Fits l path q in
    record {
      fits = record { question = subst F same s.shows.3; child = omega (arith, lt, count_is) };
      low = fewer l path (low ∷ []) period 1 s.shows.1 s.shows.0;
      one = refl;
    }

child_shows : (l : LineData) (path : List Decision) (d : Decision) (low : List Constraint) → IsLine l
    → FitsPath l (path ++ d ∷ [])
    → RefuteBelow l path (low ∷ []) 1 → Shows l (path ++ d ∷ []) (nodes.Left (Some low)) 1
child_shows l path d low line fits r = record {
  closed = λ walk there.
      let same : low ≡ walk = only_one low walk there in
      subst (λ (w : List Constraint). Proves.IsClosedWalk l (path ++ d ∷ []) w) same
      (closed_stays l path d low fits line.limits.stages.0 (r.closed low (only low)));
  refuted = λ period some lt. absurd (omega (arith, some, lt));
}
  where
    only_one : {A : Type 0} (x y : A) → Contains (x ∷ []) y → x ≡ y
    only_one x y (zero, lt, is) = is
    only_one x y (suc k, lt, is) = absurd (omega (arith, lt))

-- ---- one expansion more

-- node i, at this path, is the first of the rest, and x is its expansion
record IsNext (l : LineData) (tree : List Node) (i : ℕ) (path : List Decision) (best : Option plans.Solved) (cap : ℕ) (x : Expanded) : Type 0 where
  leads : IsPathTo tree i path
  shown : IsShown l path cap x
  cap_most : cap ≤ l.max_period + 1
  cap_falls : cap_of l best ≤ cap

-- what holds of a new child's path
record IsOn (l : LineData) (path : List Decision) (cap first : ℕ) (x : Expanded) (d : Decision) (ds : List Decision) (j : ℕ) : Type 0 where
  is : ds ≡ path ++ d ∷ []
  split : IsSplitOn l path cap x d
  at : j ≡ first + d.child
  child : d.child < child_count x

new_child : (l : LineData) (tree : List Node) (i : ℕ) (path : List Decision) (best : Option plans.Solved) (cap : ℕ) (x : Expanded) (ds : List Decision) (j : ℕ)
    → IsTree tree → IsNext l tree i path best cap x → NewChild tree i (node_of (length tree) x) (child_count x) 0 ds j
    → (d : Decision) × IsOn l path cap (length tree) x d ds j
new_child l tree i path best cap x ds j is next c =
    let same : c.before ≡ path = one_path tree i c.before path is c.leads next.leads in (
      c.last,
      record {
        is = c.is ∙ ap (λ (es : List Decision). es ++ c.last ∷ []) same;
        split = split_on l path cap (length tree) x c.last c.children next.shown c.asks c.child;
        at = c.at;
        child = c.child;
      },
    )

kept_fits : (l : LineData) (tree new : List Node) (i : ℕ) (path : List Decision) (best : Option plans.Solved) (cap splits : ℕ) (x : Expanded)
    → IsNext l tree i path best cap x → Grows tree new i (node_of (length tree) x) (child_count x) (low_of x)
    → ((j : ℕ) (ds : List Decision) → IsPathTo tree j ds → FitsPath l ds × (length ds ≤ splits))
    → (j : ℕ) (ds : List Decision) → IsPathTo new j ds
    → FitsPath l ds × (length ds ≤ splits + split_count x)
kept_fits l tree new i path best cap splits x next g fits j ds leads =
    ⊎_elim
    (λ old. let f = fits j ds old.1 in (f.0, omega (arith, f.1)))
    (λ c.
    let (d, on) = new_child l tree i path best cap x ds j g.was next c in
    let f = fits i path next.leads in
    let P : List Decision → Type 0 = λ es. FitsPath l es × (length es ≤ splits + split_count x) in
    subst P (sym on.is) (fits_more l path d f.0 on.split.fits, omega (arith, f.1, on.split.one, length-append path (d ∷ []))))
    (path_from tree new i (node_of (length tree) x) (child_count x) (low_of x) 0 ds j g g.was.root leads)

kept_shows : (l : LineData) (tree new : List Node) (i : ℕ) (path : List Decision) (best : Option plans.Solved) (cap splits : ℕ) (x : Expanded)
    → IsLine l
    → IsNext l tree i path best cap x → Grows tree new i (node_of (length tree) x) (child_count x) (low_of x)
    → ((j : ℕ) (ds : List Decision) → IsPathTo tree j ds → FitsPath l ds × (length ds ≤ splits))
    → ((j : ℕ) (ds : List Decision) → j < length tree → IsPathTo tree j ds → Shows l ds (node_at tree j) (shown_below (node_at tree j) (cap_of l best)))
    → (j : ℕ) (ds : List Decision) → IsPathTo new j ds
    → Shows l ds (node_at new j) (shown_below (node_at new j) (cap_of l (better best x)))
kept_shows l tree new i path best cap splits x line next g fits shows j ds leads =
    let now = cap_of l (better best x) in
    let falls = cap_falls l path best cap x next.cap_most next.shown in
    ⊎_elim
    (λ old.
    ⊎_elim
    (λ e.
    let there : node_at new j ≡ node_of (length tree) x = ap (λ (k : ℕ). node_at new k) e ∙ g.here in
    let P : ℕ → Type 0 = λ k. IsPathTo tree k ds in
    let same : path ≡ ds = one_path tree i path ds g.was next.leads (subst P e old.1) in
    let S : Node → Type 0 = λ n. Shows l ds n (shown_below n now) in
    let D : List Decision → Type 0 = λ es. Shows l es (node_of (length tree) x) (shown_below (node_of (length tree) x) now) in
    subst S (sym there) (subst D same (node_shows l path best cap (length tree) x next.cap_most next.cap_falls next.shown)))
    (λ ne.
    let S : Node → Type 0 = λ n. Shows l ds n (shown_below n now) in
    subst S (sym (g.kept j ne old.0)) (shows_fewer l ds (node_at tree j) (cap_of l best) now falls (shows j ds old.0 old.1)))
    (cases_eq j i))
    (λ c.
    let (d, on) = new_child l tree i path best cap x ds j g.was next c in
    let f = fits i path next.leads in
    let there : node_at new j ≡ nodes.Left (Some (low_of x)) = g.fresh j (omega (arith, on.at)) (omega (arith, on.at, on.child, g.size)) in
    let S : Node → Type 0 = λ n. Shows l ds n (shown_below n now) in
    let D : List Decision → Type 0 = λ es. Shows l es (nodes.Left (Some (low_of x))) 1 in
    subst S (sym there) (subst D (sym on.is) (child_shows l path d (low_of x) line (fits_more l path d f.0 on.split.fits) on.split.low)))
    (path_from tree new i (node_of (length tree) x) (child_count x) (low_of x) 0 ds j g g.was.root leads)

fresh_text : (l : LineData) (path : List Decision) (cap : ℕ) (x : Expanded) → IsLine l → length path ≤ 20000
    → IsShown l path cap x → 0 < child_count x
    → IsNodeText (is_single l) (nodes.Left (Some (low_of x)))
fresh_text l path cap (Stuck m) line short s some = absurd (omega (arith, some))
fresh_text l path cap (Closed low high) line short s some = absurd (omega (arith, some))
fresh_text l path cap (Solved solved low) line short s some = absurd (omega (arith, some))
fresh_text l path cap (Split question children period low) line short s some = low_text l path cap question children period low line short s

kept_texts : (l : LineData) (tree new : List Node) (i : ℕ) (path : List Decision) (best : Option plans.Solved) (cap : ℕ) (x : Expanded)
    → IsLine l
    → IsNext l tree i path best cap x → Grows tree new i (node_of (length tree) x) (child_count x) (low_of x)
    → FitsPath l path → length path ≤ 20000
    → ((j : ℕ) → j < length tree → IsNodeText (is_single l) (node_at tree j)) → (j : ℕ) → j < length new
    → IsNodeText (is_single l) (node_at new j)
kept_texts l tree new i path best cap x line next g fits short texts j lt =
    let T : Node → Type 0 = λ n. IsNodeText (is_single l) n in
    ⊎_elim
    (λ below.
    ⊎_elim
    (λ e.
    let there : node_at new j ≡ node_of (length tree) x = ap (λ (k : ℕ). node_at new k) e ∙ g.here in
    subst T (sym there) (node_text l path cap (length tree) x line fits short next.shown))
    (λ ne. subst T (sym (g.kept j ne below)) (texts j below))
    (cases_eq j i))
    (λ behind. subst T (sym (g.fresh j behind lt)) (fresh_text l path cap x line short next.shown (omega (arith, behind, lt, g.size))))
    (cases_lt j (length tree))

-- at most six children
pub few_children : (l : LineData) (path : List Decision) (cap : ℕ) (x : Expanded) → IsShown l path cap x
    → child_count x ≤ 6
few_children l path cap (Stuck m) s = omega arith
few_children l path cap (Closed low high) s = omega arith
few_children l path cap (Solved solved low) s = omega arith
few_children l path cap (Split question children period low) s = s.shows.6

kept_step : (l : LineData) (tree : List Node) (done : List ℕ) (i : ℕ) (rest : List ℕ) (best : Option plans.Solved) (splits cap : ℕ) (x : Expanded)
    (path : List Decision)
    → IsLine l → IsKept l (placed_at tree (done ++ i ∷ rest) best splits) → splits < 20000
    → IsNext l tree i path best cap x
    → Grows tree (result_at tree i x) i (node_of (length tree) x) (child_count x) (low_of x) × IsKept l (one_on tree done i rest (better best x) splits x)
kept_step l tree done i rest best splits cap x path line k room next =
    let few = few_children l path cap x next.shown in
    let (g, placed) = placed_step tree done i rest best (better best x) splits x k.placed few room in
    let new = result_at tree i x in
    let f = k.fits i path next.leads in (
      g,
      record {
        placed = placed;
        fits = kept_fits l tree new i path best cap splits x next g k.fits;
        shows = λ j ds lt leads. kept_shows l tree new i path best cap splits x line next g k.fits k.shows j ds leads;
        texts = kept_texts l tree new i path best cap x line next g f.0 (omega (arith, f.1, room)) k.texts;
        best = better_good l path best cap x next.cap_most next.shown k.best;
      },
    )

-- ---- the expansions of the first paths

-- x is the expansion under the cap of the path to a node
pub record IsAnswerAt (l : LineData) (tree : List Node) (cap i : ℕ) (x : Expanded) : Type 0 where
  pub path : List Decision
  pub leads : IsPathTo tree i path
  pub shown : IsShown l path cap x

abbrev pub AreAnswersAt : LineData → List Node → ℕ → List ℕ → List Expanded → Type 0
AreAnswersAt l tree cap is xs = (k : ℕ) (x : Expanded) → k < length xs → x ≡ get_or xs k x → IsAnswerAt l tree cap (get_or is k 0) x

pub kept_all : (l : LineData) (tree : List Node) (done rest : List ℕ) (best : Option plans.Solved) (splits cap : ℕ) (xs : List Expanded)
    → IsLine l
    → IsKept l (placed_at tree (done ++ rest) best splits) → cap ≤ l.max_period + 1 → cap_of l best ≤ cap
    → AreAnswersAt l tree cap rest xs
    → length xs ≤ length rest → splits + length xs ≤ 20000
    → IsKept l (placed_at (taken tree rest xs) ((done ++ replaced (length tree) xs) ++ drop (length xs) rest) (best_of best xs) (splits + splits_of xs))
kept_all l tree done rest best splits cap [] line k most falls answers few room =
    let F : List ℕ → Type 0 = λ ns. IsKept l (placed_at tree (ns ++ rest) best splits) in
    let N : ℕ → Type 0 = λ n. IsKept l (placed_at tree ((done ++ []) ++ rest) best n) in
    let e : splits ≡ splits + 0 = omega arith in
    subst N e (subst F (sym (append-nil done)) k)
kept_all l tree done [] best splits cap (x ∷ xs) line k most falls answers few room = absurd (omega (arith, few))
kept_all l tree done (i ∷ is) best splits cap (x ∷ xs) line k most falls answers few room =
    let a = answers 0 x (omega arith) refl in
    let next : IsNext l tree i a.path best cap x = record { leads = a.leads; shown = a.shown; cap_most = most; cap_falls = falls } in
    let (g, one) = kept_step l tree done i is best splits cap x a.path line k (omega (arith, room)) next in
    let new = result_at tree i x in
    let front = numbers_from (length tree) (child_count x) in
    let later : AreAnswersAt l new cap is xs = λ n y lt same.
    let b = answers (suc n) y (omega (arith, lt)) same in
    record {
      path = b.path;
      leads = path_kept tree new i (node_of (length tree) x) (child_count x) (low_of x) 0 b.path
          (get_or is n 0) g b.leads;
      shown = b.shown;
    } in
    let r =
    kept_all l new (done ++ front) is (better best x) (splits + split_count x) cap xs line one most
    (omega (arith, falls, cap_falls l a.path best cap x most a.shown)) later (omega (arith, few)) (omega (arith, room, one_split x)) in
    let last = best_of (better best x) xs in
    let F : List ℕ → Type 0 = λ ns. IsKept l (placed_at (taken new is xs) ns last (splits + split_count x + splits_of xs)) in
    let R : ℕ → Type 0 =
    λ n. IsKept l (placed_at (taken new is xs) ((done ++ (front ++ replaced n xs)) ++ drop (length xs) is) last (splits + split_count x + splits_of xs)) in
    let N : ℕ → Type 0 =
    λ n. IsKept l (placed_at (taken new is xs) ((done ++ (front ++ replaced (length tree + child_count x) xs)) ++ drop (length xs) is) last n) in
    let e : splits + split_count x + splits_of xs ≡ splits + (split_count x + splits_of xs) = omega arith in
    let on = on_more done (length new) front (replaced (length new) xs) (drop (length xs) is) in
    subst N e (subst R g.size (subst F on r))
