use Rattle.std.proofs.Common.{◌≡◌, ◌<◌, sym, ap, ◌∙◌, arith}
use Rattle.std.specs.Prelude.{is_some}
use Rattle.hoist_base.specs.LineData.{last_stage}
use Rattle.timetable.specs.TimetableData.{TimetableData}
use Rattle.startup_rundown.specs.Runner as runners
use Rattle.startup_rundown.proofs.Picks.{pick_first}
use Rattle.startup_rundown.proofs.RunnerLaw.{kept}
use Rattle.startup_rundown.proofs.runner.Runner.is_loaded_with.Goals as goal

pub returns-then-carries : goal.returns-then-carries
returns-then-carries c =
    let r = c.args.self.now in
    let view = c.self.view_is in
    let d : c.self.inside.timetable.now ≡ r.timetable = ap (λ (x : runners.RunnerData). x.timetable) view in
    let steps : c.self.inside.timetable.now.steps ≡ r.timetable.steps = ap (λ (x : TimetableData). x.steps) d in
    let is = kept _ _ view c.self.invariant.0 in
    let lt : c.loop-step.step < last_stage r.line = omega (arith, c.loop-step-test.true, c.moves-step-end.ensures.value, is.fits.steps) in
    let first = pick_first (last_stage r.line) c.loop-step.step (runners.carries_into r c.args.tick c.args.h c.args.c)
    (λ k. c.args.c) lt c.loop-step.invariant (sym c.carries.ensures ∙ c.if-carries.true) in
    sym (ap is_some first)
