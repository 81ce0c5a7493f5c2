-- Least periods that are known: what they show, and that decisions on hoists leave them as they are.
use Rattle.std.proofs.Common.{⊎_elim, ◌≡◌, ℕ, zero, suc, ◌+◌, ◌-◌, ◌<◌, ◌≤◌, List, [], ◌∷◌, ◌++◌, length, take, map, get_or, refl, sym, ◌∙◌, ap, subst, arith, Some, Vec, Global}
use Rattle.std.specs.Prelude.{All}
use Rattle.std.proofs.lemmas.List.{append-nil, take_all}
use Rattle.std.proofs.lemmas.Bool.{cases_lt}
use Rattle.std.proofs.lemmas.List.Elements.{All-get_or}
use Rattle.hoist_base.specs.LineData.{LineData}
use Rattle.hoist_base.specs.Valid.{IsLine}
use Rattle.hoist_base.specs.declared.ids.MoveId.{MoveId}
use Rattle.longest_path.specs.System.{SystemData, IsLeastSolution}
use Rattle.cycle_walk.specs.Closed.{IsClosedWalk}
use Rattle.cycle_walk.specs.Climb.{climbed}
use Rattle.cycle_walk.specs.declared.climbing.Climbed.{Climbed}
use Rattle.cycle_walk.specs.declared.climbing.Climbed.TheVariants.{Floor}
use Rattle.choice_tree.specs.declared.question.Question.{Question}
use Rattle.choice_tree.specs.declared.question.Question.TheVariants.{Assign, TankOrder, HoistOrder, Choose}
use Rattle.choice_tree.specs.declared.question.Decision.{Decision}
use Rattle.choice_tree.specs.declared.constraint.Constraint.{Constraint}
use Rattle.choice_tree.specs.declared.constraint.Constraint.TheVariants.{Entry}
use Rattle.path_constraints.specs.Tanks.{decision_at}
use Rattle.path_constraints.specs.Constraints.{constraint_list, arcs_of, decided_by}
use Rattle.path_constraints.specs.Questions.{FitsPath}
use Rattle.path_constraints.specs.Places.{system_below}
use Rattle.path_constraints.specs.Proves.{RefuteBelow}
use Rattle.path_constraints.proofs.GrowLemmas.{assigned_same}
use Rattle.node_expand.specs.Climbs.{IsAssign, EndsInHoists, IsLeastPeriodOf, AreClimbs, IsClimbOf}
use Rattle.node_expand.specs.declared.least_period.LeastPeriod.{LeastPeriod}
use Rattle.node_expand.specs.declared.climbs.Climb.{Climb}
use Rattle.node_expand.specs.declared.climbs.Climbs.{Climbs}
use Rattle.node_expand.proofs.WalkLemmas.{refute_one}
use Rattle.node_expand.proofs.PathLemmas.{names_more, system_same}

-- ---- what a least period shows

pub least_refutes : (l : LineData) (path : List Decision) (least : LeastPeriod) → IsLeastPeriodOf l path least
    → RefuteBelow l path (least.low ∷ []) least.period
least_refutes l path least h =
    let P : List Constraint → Type 0 = λ ts. RefuteBelow l path (ts ∷ []) least.period in
    subst P (sym h.names) (refute_one l path h.walk least.period h.walk_closed h.gives)

-- ---- what a climb is

pub climb_is : (l : LineData) (path : List Decision) (cap : ℕ) (s : SystemData) (x y : Climbed)
    → s ≡ system_below l path → x ≡ climbed s cap → x ≡ y
    → climbed (system_below l path) cap ≡ y
climb_is l path cap s x y e climb is = ap (λ (b : SystemData). climbed b cap) (sym e) ∙ sym climb ∙ is

-- ---- decisions on hoists

an_assign : (q : Question) → IsAssign q → (m : MoveId) × (q ≡ Assign m)
an_assign (Assign m) h = (m, refl)
an_assign (TankOrder a b q) h = absurd h
an_assign (HoistOrder a b q) h = absurd h
an_assign (Choose v) h = absurd h

pub hoists_from : (path : List Decision) (n : ℕ) → EndsInHoists path (n + 1) → IsAssign (decision_at path n).question
    → EndsInHoists path n
hoists_from path n later here i le lt =
    ⊎_elim (λ (less : n < i). later i (omega (arith, less)) lt)
    (λ (more : i ≤ n).
    let same : n ≡ i = omega (arith, le, more) in
    let P : ℕ → Type 0 = λ j. IsAssign (decision_at path j).question in
    subst P same here)
    (cases_lt n i)

abbrev SameBelow : LineData → List Decision → List Decision → Type 0
SameBelow l p p' = (arcs_of l p ≡ arcs_of l p') × (constraint_list l p ≡ constraint_list l p')

hoist_same : (l : LineData) (path : List Decision) (n : ℕ) → FitsPath l path → 2 ≤ length l.stages → n < length path
    → IsAssign (decision_at path n).question
    → SameBelow l (take n path) (take (n + 1) path)
hoist_same l path n fits two lt here =
    let (m, is) = an_assign (decision_at path n).question here in (
      sym (assigned_same l path n m fits two lt is),
      sym (names_more l path n lt ∙ ap (λ (q : Question). constraint_list l (take n path) ++ decided_by q n) is ∙ append-nil (constraint_list l (take n path))),
    )

hoists_same : (l : LineData) (path : List Decision) (k n : ℕ) → FitsPath l path → 2 ≤ length l.stages
    → n + k ≡ length path → EndsInHoists path n
    → SameBelow l (take n path) path
hoists_same l path zero n fits two count ends =
    let e = take_all n path (omega (arith, count)) in
    (ap (λ (ds : List Decision). arcs_of l ds) e, ap (λ (ds : List Decision). constraint_list l ds) e)
hoists_same l path (suc k) n fits two count ends =
    let lt : n < length path = omega (arith, count) in
    let one = hoist_same l path n fits two lt (ends n (omega arith) lt) in
    let more = hoists_same l path k (n + 1) fits two (omega (arith, count)) (λ i le. ends i (omega (arith, le))) in
    (one.0 ∙ more.0, one.1 ∙ more.1)

-- paths with the same constraints have the same least period
same_least : (l : LineData) (p p' : List Decision) (least : LeastPeriod) → SameBelow l p p' → IsLeastPeriodOf l p least
    → IsLeastPeriodOf l p' least
same_least l p p' least same h =
    let e : system_below l p ≡ system_below l p' = system_same l p p' same.0 in
    let C : SystemData → Type 0 = λ s. IsClosedWalk s h.walk in
    let F : SystemData → Type 0 = λ s. (cap : ℕ) → least.period < cap → climbed s cap ≡ Floor least.period (Some h.walk) in
    let S : SystemData → Type 0 = λ s. IsLeastSolution s least.period least.ticks in
    record {
      walk = h.walk;
      some = h.some;
      walk_closed = subst C e h.walk_closed;
      gives = h.gives;
      climb = subst F e h.climb;
      names = h.names ∙ ap (λ (ts : List Constraint). map (λ k. get_or ts k (Entry 0)) h.walk.arcs) same.1;
      solution = subst S e h.solution;
      ticks = h.ticks;
    }

pub least_below : (l : LineData) (path : List Decision) (n : ℕ) (least : LeastPeriod) → FitsPath l path → IsLine l
    → n ≤ length path → EndsInHoists path n
    → IsLeastPeriodOf l (take n path) least → IsLeastPeriodOf l path least
least_below l path n least fits line le ends h =
    same_least l (take n path) path least (hoists_same l path (length path - n) n fits line.limits.stages.0 (omega (arith, le)) ends) h

-- a climb that is found for a path is that of the path without its decisions on hoists at the end
pub least_found : (l : LineData) (path : List Decision) (cap k n : ℕ) (old new : Climbs) (climb : Climb)
    → FitsPath l path → IsLine l → AreClimbs l old
    → new.kept ≡ old.kept → n ≤ length path → EndsInHoists path n
    → IsClimbOf (take n path) cap new k → climb ≡ get_or new.kept.items k climb
    → IsLeastPeriodOf l path climb.least × (climb.least.period < cap)
least_found l path cap k n old new climb fits line climbs same le ends (lt, of_path) is =
    let P : Vec Climb Global → Type 0 = λ kept. All (λ (x : Climb). IsLeastPeriodOf l x.path.items x.least) kept.items in
    let Q : Climb → Type 0 = λ x. IsLeastPeriodOf l x.path.items x.least in
    let here : IsLeastPeriodOf l climb.path.items climb.least = subst Q (sym is) (All-get_or Q new.kept.items k climb lt (subst P (sym same) climbs.each)) in
    let at = of_path climb is in
    let R : List Decision → Type 0 = λ ds. IsLeastPeriodOf l ds climb.least in
    (least_below l path n climb.least fits line le ends (subst R at.0 here), at.1)
