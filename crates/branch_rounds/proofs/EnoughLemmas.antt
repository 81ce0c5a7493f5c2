-- A budget that is enough leaves nothing: the tree of a search stays above the line's depth.
use Rattle.std.proofs.Common.{⊎_elim, ◌⊎◌, ◌≡◌, ℕ, zero, suc, ◌+◌, ◌-◌, ◌<◌, ◌≤◌, List, [], ◌∷◌, ◌++◌, length, get_or, refl, sym, ◌∙◌, ap, subst, arith}
use Rattle.std.specs.Prelude.{Option}
use Rattle.std.proofs.lemmas.List.{length-append}
use Rattle.hoist_base.specs.LineData.{LineData}
use Rattle.hoist_base.specs.Valid.{IsLine}
use Rattle.choice_tree.specs.declared.question.Question.{Question}
use Rattle.choice_tree.specs.declared.question.Decision.{Decision}
use Rattle.choice_tree.specs.declared.constraint.Constraint.{Constraint}
use Rattle.choice_tree.specs.declared.node.Node.{Node}
use Rattle.choice_tree.specs.declared.node.Node.TheVariants as nodes
use Rattle.choice_tree.specs.Nodes.{IsPathTo, numbers_from}
use Rattle.choice_tree.proofs.PathLemmas.{one_path}
use Rattle.path_constraints.specs.Questions as questions
use Rattle.node_expand.specs.declared.solved.Solved as plans
use Rattle.node_expand.specs.declared.expanded.Expanded.{Expanded}
use Rattle.node_expand.specs.declared.expanded.Expanded.TheVariants.{Stuck, Closed, Solved, Split}
use Rattle.node_expand.specs.Expansion.{IsExpansion}
use Rattle.enough_budget.specs.Depth.{depth, most_children, enough_budget}
use Rattle.enough_budget.specs.Asked.{IsAskedBelow, IsAskedDecision, IsAskedPath}
use Rattle.enough_budget.proofs.PathLemmas.{asked_more, stays_above, has_few_children}
use Rattle.branch_rounds.specs.Grown.{Search, start, result_at, taken, child_count, cap_of, IsReached}
use Rattle.branch_rounds.specs.Kept.{IsPlaced, AreNarrow}
use Rattle.branch_rounds.proofs.ListLemmas.{one_split, narrow_first, narrow_rest}
use Rattle.branch_rounds.proofs.LoadLemmas.{most_splits, fewer_splits, load, splits_loaded, deeper, deeper_old, deeper_new, load_leaf, load_split}
use Rattle.branch_rounds.proofs.OneLemmas.{narrow_round, placed_reached}
use Rattle.branch_rounds.proofs.OutcomeLemmas.{root_path}
use Rattle.branch_rounds.proofs.PlacedLemmas.{node_of, low_of, placed_at, placed_step}
use Rattle.branch_rounds.proofs.TreeLemmas.{Grows, path_kept, path_from}

-- every path of the tree is one that a search asks, and the splits that there are and may come are few
record IsShallow (l : LineData) (tree : List Node) : Type 0 where
  depth_of : ℕ → ℕ
  depths : (j : ℕ) (path : List Decision) → IsPathTo tree j path → length path ≡ depth_of j
  asked : (j : ℕ) (path : List Decision) → IsPathTo tree j path → IsAskedPath l path
  load : load (most_children l) (depth l) depth_of 0 tree ≤ most_splits (most_children l) (depth l)

-- ---- one expansion

-- the question of an expansion that splits is asked below the path
asked_below : (l : LineData) (path : List Decision) (cap : ℕ) (question : Question) (children period : ℕ) (low : List Constraint)
    → IsExpansion l path cap (Split question children period low) → IsAskedBelow l path question
asked_below l path cap question children period low x =
    record { free = x.0; period = period; ticks = x.2.0; solution = x.2.1; first = x.2.2 }

asked_on : (l : LineData) (path : List Decision) (cap first : ℕ) (x : Expanded) (d : Decision) (children : List ℕ)
    → IsExpansion l path cap x
    → node_of first x ≡ nodes.Split d.question children → d.child < child_count x → IsAskedDecision l path d
asked_on l path cap first (Stuck m) d children is e lt = absurd cc
asked_on l path cap first (Closed low high) d children is e lt = absurd cc
asked_on l path cap first (Solved solved low) d children is e lt = absurd cc
asked_on l path cap first (Split question count period low) d children is e lt =
    let same : question ≡ d.question = cc in
    let A : Question → Type 0 = λ q. IsAskedBelow l path q in
    let count_is : count ≡ questions.child_count l path d.question =
    is.3 ∙ ap (λ (q : Question). questions.child_count l path q) same in
    record { asked = subst A same (asked_below l path cap question count period low is); child = omega (arith, lt, count_is) }

-- the load doesn't grow
load_on : (l : LineData) (tree : List Node) (i : ℕ) (path : List Decision) (cap : ℕ) (x : Expanded) → IsLine l
    → IsShallow l tree
    → Grows tree (result_at tree i x) i (node_of (length tree) x) (child_count x) (low_of x) → IsPathTo tree i path
    → IsExpansion l path cap x
    → (depth_of : ℕ → ℕ) → ((j : ℕ) (ds : List Decision) → IsPathTo tree j ds → length ds ≡ depth_of j)
    → load (most_children l) (depth l) (deeper depth_of (length tree) i) 0 (result_at tree i x)
    ≤ load (most_children l) (depth l) depth_of 0 tree
load_on l tree i path cap (Stuck m) line s g leads is depth_of depths =
    load_leaf (most_children l) (depth l) depth_of tree i (nodes.Stuck m) g.there refl
load_on l tree i path cap (Closed low high) line s g leads is depth_of depths =
    load_leaf (most_children l) (depth l) depth_of tree i (nodes.Closed low high) g.there refl
load_on l tree i path cap (Solved solved low) line s g leads is depth_of depths =
    load_leaf (most_children l) (depth l) depth_of tree i (nodes.Solved low) g.there refl
load_on l tree i path cap (Split question count period low) line s g leads is depth_of depths =
    let below = asked_below l path cap question count period low is in
    let path_asked = s.asked i path leads in
    let above = stays_above l path question line path_asked below in
    let few = (has_few_children l path question line path_asked below).1 in
    load_split (most_children l) (depth l) depth_of tree i question count low g.there g.left (omega (arith, above, depths i path leads))
    (omega (arith, few, is.3))

shallow_step : (l : LineData) (tree : List Node) (i : ℕ) (path : List Decision) (cap : ℕ) (x : Expanded) → IsLine l
    → IsShallow l tree
    → Grows tree (result_at tree i x) i (node_of (length tree) x) (child_count x) (low_of x) → IsPathTo tree i path
    → IsExpansion l path cap x
    → IsShallow l (result_at tree i x)
shallow_step l tree i path cap x line s g leads is =
    let new = result_at tree i x in
    let node = node_of (length tree) x in
    record {
      depth_of = deeper s.depth_of (length tree) i;
      depths = λ j ds to.
          ⊎_elim
          (λ old. s.depths j ds old.1 ∙ sym (deeper_old s.depth_of (length tree) i j old.0))
          (λ c.
          let at = s.depths i c.before c.leads in
          let now = deeper_new s.depth_of (length tree) i j (omega (arith, c.at)) in
          omega (arith, ap (λ (es : List Decision). length es) c.is, length-append c.before (c.last ∷ []), at, now))
          (path_from tree new i node (child_count x) (low_of x) 0 ds j g g.was.root to);
      asked = λ j ds to.
          ⊎_elim
          (λ old. s.asked j ds old.1)
          (λ c.
          let same : path ≡ c.before = one_path tree i path c.before g.was leads c.leads in
          let D : List Decision → Type 0 = λ es. IsAskedDecision l es c.last in
          let P : List Decision → Type 0 = λ es. IsAskedPath l es in
          let last = subst D same (asked_on l path cap (length tree) x c.last c.children is c.asks c.child) in
          subst P (sym c.is) (asked_more l c.before c.last (s.asked i c.before c.leads) last))
          (path_from tree new i node (child_count x) (low_of x) 0 ds j g g.was.root to);
      load = omega (arith, load_on l tree i path cap x line s g leads is s.depth_of s.depths, s.load);
    }

-- ---- the expansions of a round

-- x is the expansion under the cap of the path to a node
record IsResultAt (l : LineData) (tree : List Node) (cap i : ℕ) (x : Expanded) : Type 0 where
  path : List Decision
  leads : IsPathTo tree i path
  expansion : IsExpansion l path cap x

abbrev AreResultsAt : LineData → List Node → ℕ → List ℕ → List Expanded → Type 0
AreResultsAt l tree cap is xs = (k : ℕ) (x : Expanded) → k < length xs → x ≡ get_or xs k x → IsResultAt l tree cap (get_or is k 0) x

shallow_all : (l : LineData) (tree : List Node) (done rest : List ℕ) (best : Option plans.Solved) (splits cap : ℕ) (xs : List Expanded)
    → IsLine l
    → IsShallow l tree → IsPlaced (placed_at tree (done ++ rest) best splits) → AreNarrow xs
    → AreResultsAt l tree cap rest xs
    → length xs ≤ length rest → splits + length xs ≤ 20000 → IsShallow l (taken tree rest xs)
shallow_all l tree done rest best splits cap [] line s placed narrow results few room = s
shallow_all l tree done [] best splits cap (x ∷ xs) line s placed narrow results few room = absurd (omega (arith, few))
shallow_all l tree done (i ∷ is) best splits cap (x ∷ xs) line s placed narrow results few room =
    let r = results 0 x (omega arith) refl in
    let (g, one) = placed_step tree done i is best best splits x placed (narrow_first x xs narrow) (omega (arith, room)) in
    let new = result_at tree i x in
    let front = numbers_from (length tree) (child_count x) in
    let later : AreResultsAt l new cap is xs = λ n y lt same.
    let b = results (suc n) y (omega (arith, lt)) same in
    record {
      path = b.path;
      leads = path_kept tree new i (node_of (length tree) x) (child_count x) (low_of x) 0 b.path (get_or is n 0) g b.leads;
      expansion = b.expansion;
    } in
    shallow_all l new (done ++ front) is best _ cap xs line (shallow_step l tree i r.path cap x line s g r.leads r.expansion) one
    (narrow_rest x xs narrow) later (omega (arith, few)) (omega (arith, room, one_split x))

-- ---- all rounds

shallow_start : (l : LineData) → IsShallow l start.tree
shallow_start l = record {
  depth_of = λ j. 0;
  depths = λ j path leads. ap (λ (ds : List Decision). length ds) (root_path j path leads);
  asked = λ j path leads.
      let P : List Decision → Type 0 = λ ds. IsAskedPath l ds in
      subst P (sym (root_path j path leads)) (λ i lt. absurd (omega (arith, lt)));
  load =
      let e : depth l - 0 ≡ depth l = omega arith in
      omega (arith, ap (λ (n : ℕ). most_splits (most_children l) n) e);
}

shallow_reached : (l : LineData) (budget rounds : ℕ) (s : Search) → IsLine l → budget ≤ 20000
    → IsReached l budget rounds s → IsShallow l s.tree
shallow_reached l budget zero s line small e = let P : Search → Type 0 = λ x. IsShallow l x.tree in subst P (sym e) (shallow_start l)
shallow_reached l budget (suc rounds) s line small (before, xs, reached, round, e) =
    let P : Search → Type 0 = λ x. IsShallow l x.tree in
    let results : AreResultsAt l before.tree (cap_of l before.best) before.frontier xs = λ k x lt is.
    let r = round.each k x lt is in record { path = r.path; leads = r.leads; expansion = r.expansion } in
    let all =
    shallow_all l before.tree [] before.frontier before.best before.splits (cap_of l before.best) xs line
    (shallow_reached l budget rounds before line small reached) (placed_reached l budget rounds before line small reached)
    (narrow_round l budget before xs line round) results (omega (arith, round.count)) (omega (arith, round.count, round.unspent, small)) in
    subst P (sym e) all

-- so many splits are fewer than the budget
few_splits : (l : LineData) (budget rounds : ℕ) (s : Search) → IsLine l → budget ≤ 20000 → IsReached l budget rounds s
    → s.splits < enough_budget l
few_splits l budget rounds s line small reached =
    let shallow = shallow_reached l budget rounds s line small reached in
    let counted = (placed_reached l budget rounds s line small reached).counted in
    let loaded = splits_loaded (most_children l) (depth l) shallow.depth_of 0 s.tree in
    omega (arith, shallow.load, counted, loaded, fewer_splits (most_children l) (depth l) (omega arith))

-- where the rounds end within a budget that is enough, no path is left
pub enough_leaves_none : (l : LineData) (budget rounds : ℕ) (s : Search) → IsLine l → budget ≤ 20000
    → IsReached l budget rounds s
    → (length s.frontier ≡ 0) ⊎ (budget ≤ s.splits) → enough_budget l ≤ budget → length s.frontier ≡ 0
enough_leaves_none l budget rounds s line small reached done enough =
    ⊎_elim (λ none. none) (λ spent. absurd (omega (arith, spent, enough, few_splits l budget rounds s line small reached))) done
