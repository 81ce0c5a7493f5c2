use Rattle.std.proofs.Common.{rules, ℕ, ◌<◌, None, ap, arith}
use Rattle.tick_machine.specs.declared.order.Go.TheVariants.{Stay}
use Rattle.startup_rundown.specs.Runner as runners
use Rattle.startup_rundown.proofs.RunnerLaw.{kept, order_is, written}
use Rattle.startup_rundown.proofs.runner.RunnerDriver.order.Goals as goal

pub loop-h-preserved : goal.loop-h-preserved
loop-h-preserved c =
    let r = c.args.self.now in
    let into = c.loop-h.into in
    let inv = c.loop-h.invariant in
    let view = ap (λ (x : runners.RunnerData). x.line.hoists) c.self.view_is in
    let lt : c.loop-h.h < r.line.hoists = omega (arith, c.loop-h-test.true, c.hoists-h-end.ensures.value, view) in (
      search rules,
      written (runners.go_of r c.args.tick) into.go.items c.loop-h.h c.go.result Stay (omega (arith, inv.0.go)) c.go.ensures inv.1,
      written (runners.begin_of r c.args.tick) into.begin.items c.loop-h.h c.begin.result None (omega (arith, inv.0.begin)) c.begin.ensures inv.2,
    )

pub returns-clause-command : goal.returns-clause-command
returns-clause-command c =
    let r = c.args.self.now in
    let into = c.loop-h.into in
    let inv = c.loop-h.invariant in
    let view = ap (λ (x : runners.RunnerData). x.line.hoists) c.self.view_is in
    let done : (h : ℕ) → h < r.line.hoists → h < c.loop-h.h = λ h lt. omega (arith, c.loop-h-test.false, c.hoists-h-end.ensures.value, view) in
    order_is r c.args.tick (record {
      go = into.go;
      begin = into.begin;
      off = c.takes_off-into.result;
      put = c.puts_on-into.result;
    }) (kept _ _ c.self.view_is c.self.invariant.0)
    (record { go = inv.0.go; begin = inv.0.begin })
    (λ h lt. inv.1 h (done h lt)) (λ h lt. inv.2 h (done h lt)) c.takes_off-into.ensures c.puts_on-into.ensures
