use Rattle.std.proofs.Common.{◌<◌, sym, ap, ◌∙◌, arith}
use Rattle.std.specs.Prelude.{is_some}
use Rattle.hoist_base.specs.LineData.{last_stage}
use Rattle.startup_rundown.specs.Picks.{pick}
use Rattle.startup_rundown.specs.Runner as runners
use Rattle.startup_rundown.proofs.Picks.{lowest_first}
use Rattle.startup_rundown.proofs.DriveLaw.{some_of}
use Rattle.startup_rundown.proofs.runner.Runner.is_loaded.Goals as goal

pub returns-then-is_loaded_with : goal.returns-then-is_loaded_with
returns-then-is_loaded_with c =
    let r = c.args.self.now in
    let last = last_stage r.line in
    let degree = ap (λ (x : runners.RunnerData). x.line.degree) c.self.view_is in
    let lt : c.loop-c.c < r.line.degree = omega (arith, c.loop-c-test.true, c.degree-c-end.ensures.value, degree) in
    let here = some_of (pick last (runners.carries_into r c.args.tick c.args.h c.loop-c.c) (λ k. c.loop-c.c))
    (sym c.is_loaded_with.ensures ∙ c.if-is_loaded_with.true) in
    let first = lowest_first r.line.degree c.loop-c.c (λ d. pick last (runners.carries_into r c.args.tick c.args.h d)
    (λ k. d)) here.0 lt c.loop-c.invariant here.1 in
    sym (ap is_some first)
