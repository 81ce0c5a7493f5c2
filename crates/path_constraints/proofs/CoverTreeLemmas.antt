-- From the root of a tree a legal timetable goes down to a leaf, whose walks refute its period or whose move no hoist
-- reaches.
use Rattle.std.proofs.Common.{⊎_elim, ◌≡◌, ℕ, zero, suc, ◌+◌, ◌<◌, ◌≤◌, List, [], ◌∷◌, ◌++◌, length, get_or, take, refl, sym, ap, subst, ℤ, pos, ◌+ℤ◌, ◌*ℤ◌, ◌<ℤ◌, ◌≤ℤ◌, arith}
use Rattle.std.specs.Prelude.{option_to_list}
use Rattle.std.proofs.lemmas.Bool.{cases_lt}
use Rattle.std.proofs.lemmas.Int.{ints}
use Rattle.std.proofs.lemmas.List.{take-append-le, length-append}
use Rattle.std.proofs.Math.Seq.{take-append_seam, get_or-append_seam}
use Rattle.std.proofs.Math.ListN.{get_or-append}
use Rattle.list_facts.proofs.Products.{times_add}
use Rattle.hoist_base.specs.LineData.{LineData, IsMove}
use Rattle.hoist_base.specs.Valid.{IsLine}
use Rattle.line_model.specs.Timetable.{Timetable}
use Rattle.line_model.specs.Legal.{IsLegal}
use Rattle.choice_tree.specs.declared.question.Question.{Question}
use Rattle.choice_tree.specs.declared.question.Decision.{Decision}
use Rattle.choice_tree.specs.declared.constraint.Constraint.{Constraint}
use Rattle.choice_tree.specs.declared.node.Node.{Node}
use Rattle.choice_tree.specs.declared.node.Node.TheVariants.{Split, Closed, Stuck, Solved, Left}
use Rattle.choice_tree.specs.Nodes.{node_at, Branches, IsPathTo}
use Rattle.choice_tree.specs.Trees.{IsTree}
use Rattle.choice_tree.proofs.PathLemmas.{branch_later, leads_on}
use Rattle.path_constraints.specs.Tanks.{no_decision, decision_at, IsStuck}
use Rattle.path_constraints.specs.Constraints.{IsConstraint, arc_of, Keeps}
use Rattle.path_constraints.specs.Questions.{FitsDecision, FitsPath}
use Rattle.path_constraints.specs.Meets.{ticks_of, Meets, MeetsPath}
use Rattle.path_constraints.specs.Proves.{Walks, IsClosedWalk, sum_w, sum_q, RefutesPeriod, RefuteBelow, IsWholeSplit, Shows, Proves}
use Rattle.path_constraints.specs.Laws.{ProofBounds}
use Rattle.path_constraints.proofs.CoverTankLemmas.{tank_open, visit_before, visit_after}
use Rattle.path_constraints.proofs.CoverLemmas.{cover}

-- ---- walks

-- what ticks that keep all constraints say of the sums along a walk
pub walk_bound : (l : LineData) (path : List Decision) (t : ℕ → ℤ) (period i : ℕ) (walk : List Constraint) (j : ℕ)
    → ((x : Constraint) → IsConstraint l path x → Keeps t period (arc_of l path x)) → Walks l path i walk j
    → (t i +ℤ (sum_w l path walk +ℤ sum_q l path walk *ℤ pos period)) ≤ℤ t j
walk_bound l path t period i [] j keeps e = let same : t i ≡ t j = ap t e in omega (arith, ints, same)
walk_bound l path t period i (x ∷ xs) j keeps h =
    let from : t (arc_of l path x).from ≡ t i = ap t h.1 in
    step (t i) (t (arc_of l path x).from) (t (arc_of l path x).to) (t j) (arc_of l path x).w (sum_w l path xs) ((arc_of l path x).q *ℤ pos period)
    (sum_q l path xs *ℤ pos period)
    (((arc_of l path x).q +ℤ sum_q l path xs) *ℤ pos period) (times_add (arc_of l path x).q (sum_q l path xs) period) from (keeps x h.0)
    (walk_bound l path t period (arc_of l path x).to xs j keeps h.2)
  where
    step : (s s' s'' s''' w ws q qs all : ℤ) → all ≡ q +ℤ qs → s' ≡ s → (s' +ℤ (w +ℤ q)) ≤ℤ s''
        → (s'' +ℤ (ws +ℤ qs)) ≤ℤ s'''
        → (s +ℤ ((w +ℤ ws) +ℤ all)) ≤ℤ s'''
    step s s' s'' s''' w ws q qs all e f g h = omega (arith, ints)

-- a closed walk that refutes a period leaves no such ticks
pub refuted : (l : LineData) (path : List Decision) (t : ℕ → ℤ) (period : ℕ) (walk : List Constraint)
    → ((x : Constraint) → IsConstraint l path x → Keeps t period (arc_of l path x)) → IsClosedWalk l path walk
    → RefutesPeriod l path period walk → ⊥
refuted l path t period [] keeps closed gains = absurd closed
refuted l path t period (x ∷ xs) keeps closed gains =
    let i : ℕ = (arc_of l path x).from in
    gained (t i) (sum_w l path (x ∷ xs) +ℤ sum_q l path (x ∷ xs) *ℤ pos period) (walk_bound l path t period i (x ∷ xs) i keeps closed) gains
  where
    gained : (s w : ℤ) → (s +ℤ w) ≤ℤ s → pos 0 <ℤ w → ⊥
    gained s w le lt = omega (arith, ints)

-- ---- one decision more

-- one more decision at a path's end
pub fits_more : (l : LineData) (path : List Decision) (d : Decision) → FitsPath l path → FitsDecision l path d
    → FitsPath l (path ++ d ∷ [])
fits_more l path d fits last = λ i lt.
    ⊎_elim
    (λ below.
    let same : decision_at (path ++ d ∷ []) i ≡ decision_at path i = get_or-append path (d ∷ []) no_decision i below in
    let part : take i (path ++ d ∷ []) ≡ take i path = take-append-le i path (d ∷ []) (omega (arith, below)) in
    let P : List Decision → Type 0 = λ ds. FitsDecision l ds (decision_at (path ++ d ∷ []) i) in
    let Q : Decision → Type 0 = λ x. FitsDecision l (take i path) x in
    subst P (sym part) (subst Q (sym same) (fits i below)))
    (λ above.
    let at : length path ≡ i = omega (arith, lt, above, length-append path (d ∷ [])) in
    let R : ℕ → Type 0 = λ n. FitsDecision l (take n (path ++ d ∷ [])) (decision_at (path ++ d ∷ []) n) in
    let same : decision_at (path ++ d ∷ []) (length path) ≡ d = get_or-append_seam path d [] no_decision in
    let part : take (length path) (path ++ d ∷ []) ≡ path = take-append_seam path (d ∷ []) in
    let P : List Decision → Type 0 = λ ds. FitsDecision l ds (decision_at (path ++ d ∷ []) (length path)) in
    let Q : Decision → Type 0 = λ x. FitsDecision l path x in
    subst R at (subst P (sym part) (subst Q (sym same) last)))
    (cases_lt i (length path))

pub meets_more : (l : LineData) (p : Timetable) (path : List Decision) (d : Decision) → MeetsPath l p path
    → Meets l p d.question d.child
    → MeetsPath l p (path ++ d ∷ [])
meets_more l p path d meets last = λ i lt.
    let Q : Decision → Type 0 = λ x. Meets l p x.question x.child in
    ⊎_elim
    (λ below.
    let same : decision_at (path ++ d ∷ []) i ≡ decision_at path i = get_or-append path (d ∷ []) no_decision i below in
    subst Q (sym same) (meets i below))
    (λ above.
    let at : length path ≡ i = omega (arith, lt, above, length-append path (d ∷ [])) in
    let R : ℕ → Type 0 = λ n. Q (decision_at (path ++ d ∷ []) n) in
    let same : decision_at (path ++ d ∷ []) (length path) ≡ d = get_or-append_seam path d [] no_decision in
    subst R at (subst Q (sym same) last))
    (cases_lt i (length path))

-- ---- the leaves

leaf_refuted : (l : LineData) (path : List Decision) (p : Timetable) (walks : List (List Constraint)) (bound : ℕ)
    → IsLine l → FitsPath l path → IsLegal l p
    → MeetsPath l p path → p.period < bound → RefuteBelow l path walks bound → ⊥
leaf_refuted l path p walks bound line fits legal meets lt shows =
    let r = shows.refuted p.period legal.period lt in
    refuted l path (ticks_of l p) p.period r.0 (cover l path p line fits legal meets).constraints (shows.closed r.0 r.1) r.2

-- the hoist of a move reaches the timetable's own tanks
not_stuck : (l : LineData) (path : List Decision) (p : Timetable) (c k : ℕ) → IsLine l → FitsPath l path → IsLegal l p
    → MeetsPath l p path → IsMove l c k
    → IsStuck l path c k → ⊥
not_stuck l path p c k line fits legal meets move stuck =
    let reach = (cover l path p line fits legal meets).reach c k move in
    stuck (p.hoist c k) (legal.carried.hoist c k move) (
      (p.tank c k, tank_open l path p c k legal meets (visit_before l c k move), reach.0),
      (p.tank c (k + 1), tank_open l path p c (k + 1) legal meets (visit_after l c k move), reach.1),
    )

-- ---- the descent

-- a timetable that stands at a node
pub record StandsAt (l : LineData) (p : Timetable) (nodes : List Node) (i : ℕ) (path : List Decision) : Type 0 where
  pub leads : IsPathTo nodes i path
  pub fits : FitsPath l path
  pub meets : MeetsPath l p path

-- stands at a child where the node is a split
abbrev StandsBelow : LineData → Timetable → List Node → ℕ → Type 0
StandsBelow l p nodes i = (j : ℕ) × (path : List Decision) × (i < j) × (j < length nodes) × StandsAt l p nodes j path

goes_down : (l : LineData) (p : Timetable) (nodes : List Node) (i : ℕ) (path : List Decision) (question : Question) (children : List ℕ)
    → IsLine l → IsLegal l p
    → IsTree nodes → StandsAt l p nodes i path → node_at nodes i ≡ Split question children
    → IsWholeSplit l path question children → StandsBelow l p nodes i
goes_down l p nodes i path question children line legal tree at split whole =
    let r = (cover l path p line at.fits legal at.meets).child question whole.fits in
    let d : Decision = record { question = question; child = r.0 } in
    let j : ℕ = get_or children r.0 0 in
    let branch : Branches nodes i d j = record { children = children; split = split; there = omega (arith, r.1, whole.count); child = refl } in
    let later = branch_later nodes i d j tree branch in
    let below : StandsAt l p nodes j (path ++ d ∷ []) = record {
      leads = leads_on nodes 0 i j path d at.leads branch;
      fits = fits_more l path d at.fits (record { question = whole.fits; child = r.1 });
      meets = meets_more l p path d at.meets r.2;
    } in
    (j, path ++ d ∷ [], later.0, later.1, below)

-- what a node shows refutes the timetable, or the timetable goes down
at_node : (l : LineData) (p : Timetable) (nodes : List Node) (i : ℕ) (path : List Decision) (bound : ℕ) (node : Node)
    → IsLine l → IsLegal l p → IsTree nodes
    → p.period < bound → StandsAt l p nodes i path → node_at nodes i ≡ node → Shows l path node bound
    → StandsBelow l p nodes i
at_node l p nodes i path bound (Split question children) line legal tree lt at e shows = goes_down l p nodes i path question children line legal tree at e shows
at_node l p nodes i path bound (Closed low high) line legal tree lt at e shows = absurd
    (leaf_refuted l path p (option_to_list low ++ option_to_list high) bound line at.fits legal at.meets lt shows)
at_node l p nodes i path bound (Stuck m) line legal tree lt at e shows = absurd
    (not_stuck l path p m.carrier m.step line at.fits legal at.meets shows.0 shows.1)
at_node l p nodes i path bound (Solved low) line legal tree lt at e shows = absurd (leaf_refuted l path p (low ∷ []) bound line at.fits legal at.meets lt shows)
at_node l p nodes i path bound (Left low) line legal tree lt at e shows = absurd
    (leaf_refuted l path p (option_to_list low) bound line at.fits legal at.meets lt shows)

descends : (l : LineData) (p : Timetable) (nodes : List Node) (bound fuel i : ℕ) (path : List Decision) → IsLine l
    → IsLegal l p → IsTree nodes
    → Proves l nodes bound → p.period < bound → i < length nodes → length nodes ≤ i + fuel → StandsAt l p nodes i path
    → ⊥
descends l p nodes bound zero i path line legal tree proves lt there enough at = absurd (omega (arith, there, enough))
descends l p nodes bound (suc fuel) i path line legal tree proves lt there enough at =
    let (j, longer, later, inside, below) = at_node l p nodes i path bound (node_at nodes i) line legal tree lt at refl (proves i path there at.leads) in
    descends l p nodes bound fuel j longer line legal tree proves lt inside (omega (arith, later, enough)) below

-- no legal timetable has a period below what a tree proves
pub proof_bounds : ProofBounds
proof_bounds l nodes bound line tree proves p legal =
    ⊎_elim
    (λ lt. absurd (descends l p nodes bound (length nodes) 0 [] line legal tree proves lt tree.root (omega arith)
    (record { leads = refl; fits = λ i no. absurd (omega (arith, no)); meets = λ i no. absurd (omega (arith, no)) })))
    (λ le. le)
    (cases_lt p.period bound)
