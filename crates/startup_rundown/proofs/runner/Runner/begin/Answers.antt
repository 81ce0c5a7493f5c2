use Rattle.std.proofs.Common.{◌+◌, ◌<◌, sym, ap, arith}
use Rattle.hoist_base.specs.LineData.{last_stage}
use Rattle.timetable.specs.TimetableData.{timetable_of}
use Rattle.startup_rundown.specs.Picks.{pick}
use Rattle.startup_rundown.specs.Runner as runners
use Rattle.startup_rundown.proofs.Picks.{lowest_first}
use Rattle.startup_rundown.proofs.runner.Runner.begin.Goals as goal

pub returns-in-Some : goal.returns-in-Some
returns-in-Some c =
    let r = c.args.self.now in
    let last = last_stage r.line in
    let degree = ap (λ (x : runners.RunnerData). x.line.degree) c.self.view_is in
    let lt : c.loop-c.c < r.line.degree = omega (arith, c.loop-c-test.true, c.degree-c-end.ensures.value, degree) in
    sym (lowest_first r.line.degree c.loop-c.c (λ d. pick last (runners.begins_at r c.args.tick c.args.h d)
    (λ k. (timetable_of r.timetable).tank d (k + 1))) c.in-Some.tank lt c.loop-c.invariant (sym c.in-Some.ensures))
