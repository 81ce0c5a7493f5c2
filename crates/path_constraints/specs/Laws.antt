-- That no legal timetable falls between the branches of a tree.
use Rattle.std.specs.Prelude.{ℕ, ◌<◌, List}
use Rattle.hoist_base.specs.LineData.{LineData, IsMove}
use Rattle.hoist_base.specs.Valid.{IsLine}
use Rattle.line_model.specs.Motion.{ReachesMotion}
use Rattle.line_model.specs.Timetable.{Timetable, motion}
use Rattle.line_model.specs.Legal.{IsLegal, NoneBelow}
use Rattle.choice_tree.specs.declared.question.Question.{Question}
use Rattle.choice_tree.specs.declared.question.Decision.{Decision}
use Rattle.choice_tree.specs.declared.constraint.Constraint.{Constraint}
use Rattle.choice_tree.specs.declared.node.Node.{Node}
use Rattle.choice_tree.specs.Trees.{IsTree}
use Rattle.path_constraints.specs.Constraints.{IsConstraint, arc_of, Keeps}
use Rattle.path_constraints.specs.Questions.{Fits, FitsPath, child_count}
use Rattle.path_constraints.specs.Meets.{ticks_of, Meets, MeetsPath}
use Rattle.path_constraints.specs.Proves.{Proves}

-- the timetable goes on below the path: it meets the path's constraints at its period, its hoists reach its moves, and
-- it meets some child of every question that fits
pub record GoesOn (l : LineData) (path : List Decision) (p : Timetable) : Type 0 where
  pub constraints : (t : Constraint) → IsConstraint l path t → Keeps (ticks_of l p) p.period (arc_of l path t)
  pub reach : (c k : ℕ) → IsMove l c k → ReachesMotion l (p.hoist c k) (motion l p c k)
  pub child : (question : Question) → Fits l path question
      → (child : ℕ) × (child < child_count l path question) × Meets l p question child

-- every legal timetable, of any period, goes on below every path that fits the line and whose decisions it meets
abbrev pub Cover : Type 0
Cover =
    (l : LineData) (path : List Decision) (p : Timetable) → IsLine l → FitsPath l path → IsLegal l p → MeetsPath l p path
    → GoesOn l path p

-- so no legal timetable has a period below what a tree proves
abbrev pub ProofBounds : Type 0
ProofBounds = (l : LineData) (nodes : List Node) (bound : ℕ) → IsLine l → IsTree nodes → Proves l nodes bound → NoneBelow l bound
