use Rattle.std.proofs.Common.{subst, sym}
use Rattle.hoist_base.specs.LineData.{last_stage}
use Rattle.line_model.specs.Legal.{IsLegal}
use Rattle.timetable.specs.TimetableData.{timetable_of}
use Rattle.timetable.specs.PartsData.{data_of}
use Rattle.planning.proofs.PlanData.{plan_is_legal}
use Rattle.planning.proofs.planner.plan.Goals as goal

pub returns-clause-legal : goal.returns-clause-legal
returns-clause-legal c =
    let l = c.args.line.now in
    let d = data_of (last_stage l) c.in_ok-parts.parts in
    subst (λ t. IsLegal l (timetable_of t)) (sym c.new.ensures)
    (plan_is_legal l c.args.solved.now d c.in_ok-parts.ensures.valid c.requires c.in_ok-parts.ensures.fits.fits.steps c.in_ok-parts.ensures.plan)
