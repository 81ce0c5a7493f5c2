-- Nodes, and what the decisions of a path name.
use Rattle.std.proofs.Common.{◌≡◌, ℕ, ◌+◌, ◌-◌, ◌*◌, ◌<◌, ◌≤◌, List, length, get_or, take, sym, ◌∙◌, ap, subst, arith, Bool, cond, Some, None, ℤ}
use Rattle.std.specs.Prelude.{Option, IfSome, unwrap_or, neg_ℤ, ◌-ℤ◌}
use Rattle.std.proofs.lemmas.Bool.{ne_eqb}
use Rattle.std.proofs.lemmas.List.{get_or_default}
use Rattle.hoist_base.specs.declared.stage.Stage.{Stage}
use Rattle.std.proofs.lemmas.Nat.{mul-le}
use Rattle.hoist_base.specs.LineData.{LineData, stage, no_stage, last_step, move_number, IsStep}
use Rattle.hoist_base.specs.Valid.{IsLine}
use Rattle.hoist_base.specs.declared.ids.VisitId.{VisitId}
use Rattle.longest_path.specs.declared.systems.Arc.{Arc}
use Rattle.choice_tree.specs.declared.question.Question.{Question}
use Rattle.choice_tree.specs.declared.question.Question.TheVariants.{Assign, TankOrder, HoistOrder, Choose}
use Rattle.choice_tree.specs.declared.question.Decision.{Decision}
use Rattle.path_constraints.specs.Tanks.{decision_at, low}
use Rattle.path_constraints.specs.Holds.{Moment, begin_of, end_of}
use Rattle.path_constraints.specs.Constraints.{moment_arc, tank_arc}
use Rattle.path_constraints.specs.Places.{NamesOrder}
use Rattle.path_constraints.specs.Questions.{Fits, FitsPath}

-- a line has few moves
pub few_nodes : (d m : ℕ) → d ≤ 4 → m ≤ 31 → d * m ≤ 124
few_nodes d m a b = mul-le d m 4 31 a b

-- a question that fits names visits or moves of the line
pub names_order : (l : LineData) (path : List Decision) (q : Question) → Fits l path q → NamesOrder l q
names_order l path (Assign m) f = tt
names_order l path (TankOrder a b q) f = (f.stands.first, f.stands.second, f.small)
names_order l path (HoistOrder a b q) f = (f.stands.first, f.stands.second, f.small)
names_order l path (Choose v) f = tt

pub decision_names : (l : LineData) (path : List Decision) (i : ℕ) → FitsPath l path → i < length path
    → NamesOrder l (decision_at path i).question
decision_names l path i fits lt = names_order l (take i path) (decision_at path i).question (fits i lt).question

-- ---- bounds on the line's numbers

small_or : (o : Option ℕ) (a n : ℕ) → IfSome o (λ m. (a ≤ m) × (m ≤ n)) → unwrap_or o 0 ≤ n
small_or None a n h = omega arith
small_or (Some m) a n h = h.1

pub max_small : (l : LineData) (k : ℕ) → IsLine l → 1 ≤ k → k ≤ last_step l → unwrap_or (stage l k).max 0 ≤ 20000
max_small l k line some few =
    let e : k - 1 + 1 ≡ k = omega (arith, some) in
    let P : ℕ → Type 0 = λ j. IfSome (stage l j).max (λ m. ((stage l j).min ≤ m) × (m ≤ 20000)) in
    small_or (stage l k).max (stage l k).min 20000 (subst P e (line.times.greatest (k - 1) (omega (arith, some, few))))

pub lower_small : (l : LineData) (k : ℕ) → IsLine l → IsStep l k → (stage l (k + 1)).lower ≤ 500
lower_small l k line step = (line.times.lower k step).1

-- child 1 of a TankOrder
pub second_arc : (l : LineData) (path : List Decision) (a b : VisitId) (q q' : ℤ) (child : ℕ) (x y : Moment) (r : Arc)
    → (child ≡ 0 → ⊥)
    → x ≡ end_of l (low l path) b.carrier b.stage → y ≡ begin_of l (low l path) a.carrier a.stage → q' ≡ neg_ℤ q
    → r ≡ moment_arc l x y q' → r ≡ tank_arc l path a b q child
second_arc l path a b q q' child x y r not ex ey eq is =
    let e = end_of l (low l path) b.carrier b.stage in
    is ∙ ap (λ (m : Moment). moment_arc l m y q') ex ∙ ap (λ (m : Moment). moment_arc l e m q') ey ∙ ap
    (λ (z : ℤ). moment_arc l e (begin_of l (low l path) a.carrier a.stage) z) eq
    ∙ sym (ap (λ (t : Bool). cond t (moment_arc l (end_of l (low l path) a.carrier a.stage) (begin_of l (low l path) b.carrier b.stage) q)
    (moment_arc l e (begin_of l (low l path) a.carrier a.stage) (neg_ℤ q))) (ne_eqb child 0 not))

-- the code's reading of a stage
pub stage_read : (l : LineData) (k : ℕ) (s : Stage) (xs : List Stage) → xs ≡ l.stages → k < length l.stages
    → get_or xs k s ≡ stage l k
stage_read l k s xs all lt =
    let lt' : k < length xs = omega (arith, lt, ap (λ (ys : List Stage). length ys) all) in
    get_or_default xs k s no_stage lt' ∙ ap (λ (ys : List Stage). get_or ys k no_stage) all

abbrev arc_by : ℕ → ℕ → ℤ → ℤ → Arc
arc_by from to w q = record { from = from; to = to; w = w; q = q }

pub moment_is : (l : LineData) (x y : Moment) (q : ℤ) (from to : ℕ) (w q' : ℤ) → from ≡ move_number l x.carrier x.step
    → to ≡ move_number l y.carrier y.step
    → w ≡ x.fixed -ℤ y.fixed → q' ≡ neg_ℤ q
    → arc_by from to w q' ≡ moment_arc l x y q
moment_is l x y q from to w q' e f g h =
    let f' = move_number l x.carrier x.step in
    let t' = move_number l y.carrier y.step in
    ap (λ (n : ℕ). arc_by n to w q') e ∙ ap (λ (n : ℕ). arc_by f' n w q') f ∙ ap (λ (z : ℤ). arc_by f' t' z q') g ∙ ap
    (λ (z : ℤ). arc_by f' t' (x.fixed -ℤ y.fixed) z) h
