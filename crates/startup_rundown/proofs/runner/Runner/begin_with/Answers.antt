use Rattle.std.proofs.Common.{◌≡◌, ℕ, ◌+◌, ◌<◌, Some, sym, ap, ◌∙◌, arith}
use Rattle.hoist_base.specs.LineData.{last_stage}
use Rattle.timetable.specs.TimetableData.{TimetableData, timetable_of}
use Rattle.startup_rundown.specs.Runner as runners
use Rattle.startup_rundown.proofs.Picks.{pick_first}
use Rattle.startup_rundown.proofs.RunnerLaw.{kept}
use Rattle.startup_rundown.proofs.runner.Runner.begin_with.Goals as goal

pub returns-then-begins : goal.returns-then-begins
returns-then-begins c =
    let r = c.args.self.now in
    let view = c.self.view_is in
    let d : c.self.inside.timetable.now ≡ r.timetable = ap (λ (x : runners.RunnerData). x.timetable) view in
    let steps : c.self.inside.timetable.now.steps ≡ r.timetable.steps = ap (λ (x : TimetableData). x.steps) d in
    let is = kept _ _ view c.self.invariant.0 in
    let lt : c.loop-step.step < last_stage r.line = omega (arith, c.loop-step-test.true, c.moves-step-end.ensures.value, is.fits.steps) in
    let first = pick_first (last_stage r.line) c.loop-step.step (runners.begins_at r c.args.tick c.args.h c.args.c)
    (λ k. (timetable_of r.timetable).tank c.args.c (k + 1)) lt c.loop-step.invariant
    (sym c.begins.ensures ∙ c.if-begins.true) in
    ap (λ (i : ℕ). Some i) c.tank.ensures.value ∙ ap (λ (x : TimetableData). Some ((timetable_of x).tank c.args.c (c.loop-step.step + 1))) d ∙ sym first
