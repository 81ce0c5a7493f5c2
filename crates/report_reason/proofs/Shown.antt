-- What the branch that is shown proves, and what it proves that there is none.
use Rattle.std.proofs.Common.{
  ⊎_elim,
  ◌≡◌,
  ℕ,
  ◌+◌,
  ◌-◌,
  ◌<◌,
  ◌≤◌,
  List,
  [],
  length,
  Option,
  Some,
  None,
  sym,
  ap,
  subst,
  ◌∙◌,
  arith,
}
use Rattle.std.specs.Prelude.{option_to_list, Contains, IfSome}
use Rattle.std.proofs.lemmas.Bool.{cases_lt}
use Rattle.std.proofs.lemmas.List.{append-nil}
use Rattle.std.proofs.lemmas.List.Elements.{All-get_or}
use Rattle.hoist_base.specs.LineData.{LineData}
use Rattle.timetable.specs.TimetableData.{TimetableData, timetable_of}
use Rattle.line_model.specs.Legal.{IsLegal, NoneBelow}
use Rattle.choice_tree.specs.declared.question.Decision.{Decision}
use Rattle.choice_tree.specs.declared.constraint.Constraint.{Constraint}
use Rattle.choice_tree.specs.declared.node.Node.{Node}
use Rattle.choice_tree.specs.declared.node.Node.TheVariants.{Split, Closed, Stuck, Solved, Left}
use Rattle.choice_tree.specs.Nodes.{node_at, IsPathTo, IsLeaf}
use Rattle.choice_tree.specs.Trees.{IsTree, preorder}
use Rattle.choice_tree.proofs.PathLemmas.{one_path}
use Rattle.path_constraints.specs.Proves.{RefutesPeriod, RefuteBelow, Shows, sum_w, sum_q}
use Rattle.path_constraints.proofs.CoverTreeLemmas.{proof_bounds}
use Rattle.answer_text.specs.declared.answer.Answer.{Answer}
use Rattle.answer_text.specs.declared.answer.Verdict.{Verdict}
use Rattle.answer_text.specs.declared.answer.Verdict.TheVariants.{Optimal, Nothing, Unfinished}
use Rattle.answer_text.proofs.OrderLemmas.{preorder_there}
use Rattle.markup.specs.Forms.{Form}
use Rattle.cert_checker.specs.Walks.{HasWalks, walks_of}
use Rattle.cert_checker.specs.Flaws.{IsOpen}
use Rattle.cert_checker.specs.Reasons.{StandsAt}
use Rattle.cert_checker.specs.Rules.{IsClaim}
use Rattle.cert_checker.proofs.DistinctLemmas.{place_of_path}
use Rattle.report_reason.specs.Nearest.{setting_walk, Sets, NoneSets}
use Rattle.report_reason.specs.Reason.{branch_section, ShowsBranch}
use Rattle.report_reason.specs.Laws.{OneReason, ShownIsProof, IsShut, NoneIsProof, OptimalIsShown}
use Rattle.report_reason.proofs.Setting.{setting, refuted_or_open, set_there, refuted_before}

-- ---- one reason

same_walk : (x y : List Constraint) → Some x ≡ Some y → x ≡ y
same_walk x y e = cc

same_branch : (l : LineData) (a : Answer) (n : ℕ) (path path' : List Decision) (walk walk' : List Constraint)
    → IsTree a.tree → Sets l a n path walk
    → Sets l a n path' walk' → branch_section l a.bound path walk ≡ branch_section l a.bound path' walk'
same_branch l a n path path' walk walk' tree s s' =
    let node : s.node ≡ s'.node = sym s.stands.is ∙ s'.stands.is in
    let ways : path ≡ path' = one_path a.tree s'.node path path' tree
    (subst (λ i. IsPathTo a.tree i path) node s.stands.leads) s'.stands.leads in
    let walks : walk ≡ walk' =
    same_walk walk walk'
    (sym s.is ∙ ap (λ i. setting_walk l path a.bound (node_at a.tree i)) node ∙ ap
    (λ ds. setting_walk l ds a.bound (node_at a.tree s'.node)) ways ∙ s'.is) in
    ap (λ ds. branch_section l a.bound ds walk) ways ∙ ap (branch_section l a.bound path') walks

same_number : (l : LineData) (a : Answer) (e f : Form) (b : ShowsBranch l a e) (b' : ShowsBranch l a f)
    → b.number ≡ b'.number
same_number l a e f b b' =
    ⊎_elim
    (λ lt. absurd (b'.nearest.first b.number b.path b.walk lt b.nearest.sets))
    (λ ge.
    ⊎_elim (λ lt. absurd (b.nearest.first b'.number b'.path b'.walk lt b'.nearest.sets)) (λ ge'. omega (arith, ge, ge'))
    (cases_lt b'.number b.number))
    (cases_lt b.number b'.number)

pub one_reason : OneReason
one_reason l a e f tree this other =
    ⊎_elim
    (λ b.
    ⊎_elim
    (λ b'.
    b.is
    ∙ same_branch l a b'.number b.path b'.path b.walk b'.walk tree
    (subst (λ n. Sets l a n b.path b.walk) (same_number l a e f b b') b.nearest.sets)
    b'.nearest.sets
    ∙ sym b'.is)
    (λ none'. absurd (none'.0 b.number b.path b.walk b.nearest.sets))
    other)
    (λ none.
    ⊎_elim (λ b'. absurd (none.0 b'.number b'.path b'.walk b'.nearest.sets)) (λ none'. none.1 ∙ sym none'.1) other)
    this

-- ---- the branch that is shown

-- a node that stands in the tree is one of it
pub stands_there : (nodes : List Node) (n i : ℕ) (path : List Decision) → IsTree nodes → StandsAt nodes n i path
    → i < length nodes
stands_there nodes n i path tree s =
    omega (arith, s.is, All-get_or (λ j. j < length nodes) (preorder nodes) n 0 s.there (preorder_there nodes tree))

no_walk : (walk : List Constraint) → Contains [] walk → ⊥
no_walk walk (k, lt, is) = omega (arith, lt)

has_walks : (node : Node) (walk : List Constraint) → Contains (walks_of node) walk → HasWalks node
has_walks (Split question children) walk c = absurd (no_walk walk c)
has_walks (Closed low high) walk c = tt
has_walks (Stuck m) walk c = absurd (no_walk walk c)
has_walks (Solved low) walk c = tt
has_walks (Left low) walk c = tt

-- what a leaf with walks shows
shows_walks : (l : LineData) (path : List Decision) (node : Node) (bound : ℕ) → HasWalks node → Shows l path node bound
    → RefuteBelow l path (walks_of node) bound
shows_walks l path (Split question children) bound w shows = absurd w
shows_walks l path (Closed low high) bound w shows = shows
shows_walks l path (Stuck m) bound w shows = absurd w
shows_walks l path (Solved low) bound w shows = shows
shows_walks l path (Left low) bound w shows = subst (λ ws. RefuteBelow l path ws bound)
    (sym (append-nil (option_to_list low))) shows

pub shown : ShownIsProof
shown l a n path walk line tree kept some s =
    let node = node_at a.tree s.node in
    let set = setting l path a.bound node walk s.is in
    let w = has_walks node walk set.there in
    let there = stands_there a.tree n s.node path tree s.stands in
    let shows = shows_walks l path node a.bound w (kept.proves s.node path there s.stands.leads) in
    record {
      walks = w;
      closed = shows.closed walk set.there;
      refuted =
          λ t lt. refuted_before (sum_w l path walk) (sum_q l path walk) t (a.bound - 1) a.bound (omega (arith, lt))
          (omega arith) set.refutes
          (λ gains. set.is_open walk set.there gains);
      is_open = set.is_open;
    }

-- ---- no branch

-- a leaf with walks that leaves the bound open has one that sets the bound
walk_sets : (l : LineData) (a : Answer) (i : ℕ) (path : List Decision) → IsTree a.tree → 2 ≤ a.bound → NoneSets l a
    → IsPathTo a.tree i path
    → RefuteBelow l path (walks_of (node_at a.tree i)) a.bound
    → (walk : List Constraint) × Contains (walks_of (node_at a.tree i)) walk × RefutesPeriod l path a.bound walk
walk_sets l a i path tree some none lead shows =
    let node = node_at a.tree i in
    let (n, there, is) = place_of_path a.tree tree i path lead in
    ⊎_elim
    (λ refuted. refuted)
    (λ open_there.
    let (walk, c, gains) = shows.refuted (a.bound - 1) (omega (arith, some)) (omega (arith, some)) in
    let (x, sets) = set_there l path a.bound node walk open_there.0 open_there.1 c gains in
    absurd (none n path x (record { node = i; stands = record { there = there; is = is; leads = lead }; is = sets })))
    (refuted_or_open l path node a.bound)

-- a leaf whose walks refute the bound isn't open there
shut_by : (l : LineData) (path : List Decision) (node : Node) (bound : ℕ)
    → (walk : List Constraint) × Contains (walks_of node) walk
    × RefutesPeriod l path bound walk → IsOpen l path node bound → ⊥
shut_by l path node bound (walk, c, gains) is_open = is_open walk c gains

leaf_shut : (l : LineData) (path : List Decision) (node : Node) (bound : ℕ) → IsLeaf node → Shows l path node bound
    → (RefuteBelow l path (walks_of node) bound → (walk : List Constraint) × Contains (walks_of node) walk
    × RefutesPeriod l path bound walk)
    → IsShut l path node bound
leaf_shut l path (Split question children) bound leaf shows f = absurd leaf
leaf_shut l path (Closed low high) bound leaf shows f = shut_by l path (Closed low high) bound
    (f (shows_walks l path (Closed low high) bound tt shows))
leaf_shut l path (Stuck m) bound leaf shows f = shows
leaf_shut l path (Solved low) bound leaf shows f = shut_by l path (Solved low) bound
    (f (shows_walks l path (Solved low) bound tt shows))
leaf_shut l path (Left low) bound leaf shows f = shut_by l path (Left low) bound
    (f (shows_walks l path (Left low) bound tt shows))

pub none_proves : NoneIsProof
none_proves l a i path tree kept some none there lead leaf =
    leaf_shut l path (node_at a.tree i) a.bound leaf (kept.proves i path there lead)
    (walk_sets l a i path tree some none lead)

-- ---- an optimal answer

refute_more : (l : LineData) (path : List Decision) (walks : List (List Constraint)) (bound : ℕ)
    → RefuteBelow l path walks bound
    → (walk : List Constraint) × Contains walks walk
    × RefutesPeriod l path bound walk → RefuteBelow l path walks (bound + 1)
refute_more l path walks bound shows more = record {
  closed = shows.closed;
  refuted =
      λ t some lt. ⊎_elim (λ below. shows.refuted t some below)
      (λ ge.
      let here : bound ≡ t = omega (arith, lt, ge) in
      subst (λ p. (walk : List Constraint) × Contains walks walk × RefutesPeriod l path p walk) here more)
      (cases_lt t bound);
}

shows_more : (l : LineData) (path : List Decision) (node : Node) (bound : ℕ) → Shows l path node bound
    → (RefuteBelow l path (walks_of node) bound → (walk : List Constraint) × Contains (walks_of node) walk
    × RefutesPeriod l path bound walk)
    → Shows l path node (bound + 1)
shows_more l path (Split question children) bound shows f = shows
shows_more l path (Closed low high) bound shows f = refute_more l path (walks_of (Closed low high)) bound shows
    (f shows)
shows_more l path (Stuck m) bound shows f = shows
shows_more l path (Solved low) bound shows f = refute_more l path (walks_of (Solved low)) bound shows (f shows)
shows_more l path (Left low) bound shows f =
    let refute = shows_walks l path (Left low) bound tt shows in
    subst (λ ws. RefuteBelow l path ws (bound + 1)) (append-nil (option_to_list low))
    (refute_more l path (walks_of (Left low)) bound refute (f refute))

claimed : (l : LineData) (v : Verdict) (t : Option TimetableData) (bound : ℕ) → v ≡ Optimal → IsClaim l v t bound
    → IfSome t (λ d. IsLegal l (timetable_of d)) → NoneBelow l (bound + 1) → ⊥
claimed l Optimal None bound e claim legal below = claim
claimed l Optimal (Some t) bound e claim legal below = let le = below (timetable_of t) legal in omega (arith, claim, le)
claimed l Nothing t bound e claim legal below = cc
claimed l Unfinished t bound e claim legal below = cc

pub optimal_shown : OptimalIsShown
optimal_shown l a line tree kept optimal some none =
    claimed l a.verdict a.timetable a.bound optimal kept.claim kept.legal
    (proof_bounds l a.tree (a.bound + 1) line tree
    (λ i path there lead.
    shows_more l path (node_at a.tree i) a.bound (kept.proves i path there lead)
    (walk_sets l a i path tree some none lead)))
