-- Where every stage has one tank, every path leaves the same moves to the hoists.
use Rattle.std.proofs.Common.{◌≡◌, ℕ, ◌+◌, List, [], sym, ap, subst, arith, Some, None}
use Rattle.std.specs.Prelude.{Option, MatchOption, Contains}
use Rattle.hoist_base.specs.LineData.{LineData, stage, position_of, IsSingle, IsStageOf, IsStep}
use Rattle.hoist_base.specs.declared.ids.MoveId.{MoveId}
use Rattle.choice_tree.specs.declared.question.Decision.{Decision}
use Rattle.line_model.specs.Motion.{Reaches}
use Rattle.path_constraints.specs.Tanks.{tanks_by, tanks_below, MayServe, IsStuck}
use Rattle.path_constraints.specs.Questions.{FitsPath}
use Rattle.path_constraints.proofs.TankLemmas.{no_choice}
use Rattle.node_expand.specs.Expansion.{NoneStuck, IsFirstStuck}

tanks_same : (l : LineData) (path : List Decision) (c k : ℕ) → IsSingle l → FitsPath l path → IsStageOf l k
    → tanks_below l path c k ≡ tanks_below l [] c k
tanks_same l path c k single fits there =
    ap (λ (o : Option ℕ). tanks_by (stage l k).tanks o) (no_choice l path c k fits (omega (arith, single k there)))

serves_same : (l : LineData) (path : List Decision) (h c k : ℕ) → IsSingle l → FitsPath l path → IsStageOf l k
    → MayServe l path h c k → MayServe l [] h c k
serves_same l path h c k single fits there serve =
    let P : List ℕ → Type 0 = λ ts. (i : ℕ) × Contains ts i × Reaches l h (position_of l i) in
    subst P (tanks_same l path c k single fits there) serve

serves_back : (l : LineData) (path : List Decision) (h c k : ℕ) → IsSingle l → FitsPath l path → IsStageOf l k
    → MayServe l [] h c k → MayServe l path h c k
serves_back l path h c k single fits there serve =
    let P : List ℕ → Type 0 = λ ts. (i : ℕ) × Contains ts i × Reaches l h (position_of l i) in
    subst P (sym (tanks_same l path c k single fits there)) serve

stuck_on : (l : LineData) (path : List Decision) (c k : ℕ) → IsSingle l → FitsPath l path → IsStep l k
    → IsStuck l [] c k → IsStuck l path c k
stuck_on l path c k single fits step stuck h lt reach =
    stuck h lt (serves_same l path h c k single fits (omega (arith, step)) reach.0, serves_same l path h c (k + 1) single fits step reach.1)

stuck_back : (l : LineData) (path : List Decision) (c k : ℕ) → IsSingle l → FitsPath l path → IsStep l k
    → IsStuck l path c k → IsStuck l [] c k
stuck_back l path c k single fits step stuck h lt reach =
    stuck h lt (serves_back l path h c k single fits (omega (arith, step)) reach.0, serves_back l path h c (k + 1) single fits step reach.1)

pub stuck_same : (l : LineData) (path : List Decision) (o : Option MoveId) → IsSingle l → FitsPath l path
    → MatchOption o (NoneStuck l []) (λ m. IsFirstStuck l [] m)
    → MatchOption o (NoneStuck l path) (λ m. IsFirstStuck l path m)
stuck_same l path None single fits none = λ c k move stuck. none c k move (stuck_back l path c k single fits move.1 stuck)
stuck_same l path (Some m) single fits first = record {
  move = first.move;
  stuck = stuck_on l path m.carrier m.step single fits first.move.1 first.stuck;
  first = λ c k move before stuck. first.first c k move before (stuck_back l path c k single fits move.1 stuck);
}
