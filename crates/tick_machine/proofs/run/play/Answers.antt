use Rattle.std.proofs.Common.{◌≡◌, ℕ, ◌+◌, ◌-◌, List, [], Option, Ok, sym, ap, subst, ◌∙◌, arith}
use Rattle.hoist_base.specs.LineData.{LineData}
use Rattle.tick_machine.specs.declared.breach.Breach.{Breach}
use Rattle.tick_machine.specs.declared.event.Event.{Event}
use Rattle.tick_machine.specs.declared.frame.Frame.{Frame}
use Rattle.tick_machine.specs.Layout.{layout_of}
use Rattle.tick_machine.specs.Scene.{Scene, scene_of}
use Rattle.tick_machine.specs.Rules.{IsFrame}
use Rattle.tick_machine.specs.Play.{Reached, Stop, empty_scene, next_step, reached_or, run}
use Rattle.tick_machine.specs.Playing.{reached}
use Rattle.tick_machine.proofs.Plays.{done, done_next, run_refused, run_done, step_at}
use Rattle.tick_machine.proofs.run.play.Goals as goal

pub loop-tick-init : goal.loop-tick-init
loop-tick-init g c =
    let l = layout_of c.args.line.now in
    let start : Reached = record { frame = empty_scene l (g.D.Driver.place c.args.driver.now); log = [] } in
    let first = c.first-first.result in
    let zero_done : first - first ≡ 0 = omega arith in
    record {
      reached = ap (done l (g.D.Driver.command c.args.driver.now) first start) zero_done
          ∙ ap (λ (f : Scene). Ok (record { frame = f; log = [] })) (sym c.in_ok-playing.ensures.frame)
          ∙ ap (λ (es : List Event). Ok (reached c.in_ok-playing.playing es)) (sym c.new-log.ensures.items);
      line = c.in_ok-playing.ensures.line;
      tick = c.in_ok-playing.ensures.tick ∙ sym c.first-first.ensures;
    }

pub returns-in-Some-clause-run : goal.returns-in-Some-clause-run
returns-in-Some-clause-run g c =
    let line = c.args.line.now in
    let l = layout_of line in
    let command = g.D.Driver.command c.args.driver.now in
    let place = g.D.Driver.place c.args.driver.now in
    let t = c.loop-tick.tick in
    let start : Reached = record { frame = empty_scene l place; log = [] } in
    let before : Reached = reached c.loop-tick.playing c.loop-tick.log.items in
    let after : Reached = reached c.advance.new.self c.advance.new.log.items in
    let stop : Stop = record { tick = t; breach = c.in-Some.breach } in
    let next = step_at c.loop-tick.playing line t command c.in_ok-breach.field-0 before after c.loop-tick.invariant.line
    c.loop-tick.invariant.tick c.in_ok-breach.ensures.step
    ∙ ap (λ (b : Option Breach). reached_or t b after) c.in-Some.is in
    ap (λ (n : ℕ). run l place command n (g.D.Driver.last_tick c.args.driver.now)) (sym c.first-first.ensures)
    ∙ ap (run l place command c.first-first.result) (sym c.last-last.ensures)
    ∙ run_refused l command c.first-first.result t c.last-last.result start (Ok before) stop (omega arith) (omega arith) c.loop-tick.invariant.reached next

pub loop-tick-preserved : goal.loop-tick-preserved
loop-tick-preserved g c =
    let line = c.args.line.now in
    let l = layout_of line in
    let command = g.D.Driver.command c.args.driver.now in
    let t = c.loop-tick.tick in
    let start : Reached = record { frame = empty_scene l (g.D.Driver.place c.args.driver.now); log = [] } in
    let before : Reached = reached c.loop-tick.playing c.loop-tick.log.items in
    let after : Reached = reached c.advance.new.self c.advance.new.log.items in
    let next : next_step l t (command t) (Ok before) ≡ Ok after =
    step_at c.loop-tick.playing line t command c.in_ok-breach.field-0 before after c.loop-tick.invariant.line
    c.loop-tick.invariant.tick c.in_ok-breach.ensures.step
    ∙ ap (λ (b : Option Breach). reached_or t b after) c.in_default.is in
    record {
      reached = done_next l command c.first-first.result t start (Ok before) (Ok after) (omega arith) c.loop-tick.invariant.reached next;
      line = c.in_ok-breach.ensures.line ∙ c.loop-tick.invariant.line;
      tick = c.in_ok-breach.ensures.tick c.in_default.is ∙ ap (λ (n : ℕ). n + 1) c.loop-tick.invariant.tick;
    }

pub returns-clause-run : goal.returns-clause-run
returns-clause-run g c =
    let l = layout_of c.args.line.now in
    let command = g.D.Driver.command c.args.driver.now in
    let place = g.D.Driver.place c.args.driver.now in
    let first = c.first-first.result in
    let last = c.last-last.result in
    let start : Reached = record { frame = empty_scene l place; log = [] } in
    let end : Reached = reached c.loop-tick.playing c.loop-tick.log.items in
    let all : last + 1 - first ≡ c.loop-tick.tick - first = omega arith in
    ap (λ (n : ℕ). run l place command n (g.D.Driver.last_tick c.args.driver.now)) (sym c.first-first.ensures)
    ∙ ap (run l place command first) (sym c.last-last.ensures)
    ∙ run_done l command first last start end (omega arith) (ap (done l command first start) all ∙ c.loop-tick.invariant.reached)
    ∙ ap (λ (f : Frame). Ok (record { frame = scene_of f; log = c.loop-tick.log.items })) (sym c.into_frame.ensures.frame)

pub returns-clause-end : goal.returns-clause-end
returns-clause-end g c =
    subst (λ (l : LineData). IsFrame l c.into_frame.result) c.loop-tick.invariant.line c.into_frame.ensures.rules
