-- A legal timetable goes on below every path that fits the line and whose decisions it meets.
use Rattle.std.proofs.Common.{List}
use Rattle.hoist_base.specs.LineData.{LineData}
use Rattle.hoist_base.specs.Valid.{IsLine}
use Rattle.line_model.specs.Timetable.{Timetable}
use Rattle.line_model.specs.Legal.{IsLegal}
use Rattle.choice_tree.specs.declared.question.Decision.{Decision}
use Rattle.choice_tree.specs.declared.constraint.Constraint.{Constraint}
use Rattle.choice_tree.specs.declared.constraint.Constraint.TheVariants.{Min, Max, Entry, Visit, Repeat, Decided}
use Rattle.path_constraints.specs.Constraints.{IsConstraint, arc_of, Keeps}
use Rattle.path_constraints.specs.Questions.{FitsPath}
use Rattle.path_constraints.specs.Meets.{ticks_of, MeetsPath}
use Rattle.path_constraints.specs.Laws.{Cover}
use Rattle.path_constraints.proofs.CoverTrackLemmas.{reaches_moves}
use Rattle.path_constraints.proofs.CoverRowLemmas.{min_row, max_row, entry_row, visit_row, repeat_row}
use Rattle.path_constraints.proofs.CoverDecidedLemmas.{decided_row}
use Rattle.path_constraints.proofs.CoverQuestionLemmas.{meets_child}

keeps_all : (l : LineData) (path : List Decision) (p : Timetable) (t : Constraint) → IsLine l → FitsPath l path
    → IsLegal l p → MeetsPath l p path
    → IsConstraint l path t → Keeps (ticks_of l p) p.period (arc_of l path t)
keeps_all l path p (Min c k) line fits legal meets is = min_row l path p c k line legal meets is.0 is.1 is.2
keeps_all l path p (Max c k) line fits legal meets is = max_row l path p c k line legal meets is.0 is.1 is.2 is.3
keeps_all l path p (Entry c) line fits legal meets is = entry_row l p c line legal is
keeps_all l path p (Visit c k) line fits legal meets is = visit_row l path p c k line legal meets is.0 is.1 is.2
keeps_all l path p (Repeat c k) line fits legal meets is = repeat_row l path p c k line legal meets is.0 is.1
keeps_all l path p (Decided i) line fits legal meets is = decided_row l path p i line fits legal meets is.0 is.1

pub cover : Cover
cover l path p line fits legal meets =
    record {
      constraints = λ t is. keeps_all l path p t line fits legal meets is;
      reach = λ c k move. reaches_moves l p c k legal move;
      child = λ question fitting. meets_child l path p question line legal meets fitting.stands;
    }
