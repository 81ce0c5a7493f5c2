use Rattle.std.proofs.Common.{◌≡◌, ◌+◌, List, [], ◌++◌, flat_map, Option, Ok, sym, ap, ◌∙◌, arith}
use Rattle.tick_machine.specs.declared.breach.Breach.{Breach}
use Rattle.tick_machine.specs.declared.event.Event.{Event}
use Rattle.tick_machine.specs.Layout.{layout_of}
use Rattle.tick_machine.specs.Scene.{scene_of}
use Rattle.tick_machine.specs.Play.{Stop, reached_or}
use Rattle.tick_machine.specs.Playing.{reached}
use Rattle.timetable.specs.TimetableData.{timetable_of}
use Rattle.startup_rundown.specs.Driving.{order_into}
use Rattle.startup_rundown.specs.RunLog.{first_tick, last_tick}
use Rattle.startup_rundown.specs.Runner as runners
use Rattle.run_text.specs.RunText.{event_line}
use Rattle.run_text.proofs.Ticks.{start, begun, played, next_on, not_next_on, not_done, log_is, lines_more, none_yet}
use Rattle.tick_machine.proofs.Plays.{done_next}
use Rattle.run_text.proofs.run.push_run.Goals as goal

pub loop-tick-init : goal.loop-tick-init
loop-tick-init c =
    let l = c.args.line.now in
    let p = timetable_of c.args.t.now in
    record {
      line = c.in_ok-playing.ensures.line;
      tick = c.in_ok-playing.ensures.tick ∙ sym c.first-tick.ensures;
      so_far = (
        [],
        begun l c.args.t.now c.args.carriers c.drive-runner.result c.in_ok-playing.playing c.first-tick.result
            c.drive-runner.ensures.runner c.in_ok-playing.ensures.frame c.first-tick.ensures,
        none_yet c.args.text.now.items,
      );
    }

pub unreachable-requires : goal.unreachable-requires
unreachable-requires c =
    let l = c.args.line.now in
    let p = timetable_of c.args.t.now in
    let n = c.args.carriers in
    let t = c.loop-tick._tick in
    let m = c.loop-tick.playing in
    let so_far = c.loop-tick.invariant.so_far in
    let order = c.drive-runner.ensures.ready.in_order in
    let first : c.first-tick.result ≡ first_tick l p = c.first-tick.ensures ∙ ap runners.first_tick c.drive-runner.ensures.runner in
    let last : c.last-tick-end.result ≡ last_tick l p n = c.last-tick-end.ensures ∙ ap runners.last_tick c.drive-runner.ensures.runner in
    let stop : Stop = record { tick = t; breach = c.in-Some.field-0 } in
    let step = played c.args.line.now c.args.t.now n c.drive-runner.result m c.advance.new.self t
    c.in_ok-advance.field-0 c.clear.new.self.items c.advance.new.log.items
    c.drive-runner.ensures.runner c.loop-tick.invariant.line c.loop-tick.invariant.tick c.clear.ensures.items c.in_ok-advance.ensures.step
    ∙ ap (λ (b : Option Breach). reached_or t b (reached c.advance.new.self c.advance.new.log.items)) c.in-Some.is in
    not_done l p n t (reached m so_far.0) stop (omega (arith, first, last, order)) (omega (arith, first, last, order)) c.drive-runner.ensures.run so_far.1
    (not_next_on (layout_of l) t (order_into l p n t) (scene_of m.frame) so_far.0 stop step)

pub loop-tick-preserved : goal.loop-tick-preserved
loop-tick-preserved c =
    let l = c.args.line.now in
    let p = timetable_of c.args.t.now in
    let n = c.args.carriers in
    let t = c.loop-tick._tick in
    let m = c.loop-tick.playing in
    let so_far = c.loop-tick.invariant.so_far in
    let order = c.drive-runner.ensures.ready.in_order in
    let first : c.first-tick.result ≡ first_tick l p = c.first-tick.ensures ∙ ap runners.first_tick c.drive-runner.ensures.runner in
    let last : c.last-tick-end.result ≡ last_tick l p n = c.last-tick-end.ensures ∙ ap runners.last_tick c.drive-runner.ensures.runner in
    let new = c.advance.new.self in
    let more = c.advance.new.log.items in
    let step = played c.args.line.now c.args.t.now n c.drive-runner.result m new t c.in_ok-advance.field-0 c.clear.new.self.items more
    c.drive-runner.ensures.runner c.loop-tick.invariant.line c.loop-tick.invariant.tick c.clear.ensures.items c.in_ok-advance.ensures.step
    ∙ ap (λ (b : Option Breach). reached_or t b (reached new more)) c.in-None.is in
    let on = next_on (layout_of l) t (order_into l p n t) (scene_of m.frame) (scene_of new.frame) so_far.0 more step in
    record {
      line = c.in_ok-advance.ensures.line ∙ c.loop-tick.invariant.line;
      tick = c.in_ok-advance.ensures.tick c.in-None.is ∙ ap (λ k. k + 1) c.loop-tick.invariant.tick;
      so_far = (
        so_far.0 ++ more,
        done_next (layout_of l) (order_into l p n) (first_tick l p) t (start l p) (Ok (reached m so_far.0))
            (Ok (reached new (so_far.0 ++ more))) (omega (arith, first, last, order)) so_far.1 on,
        lines_more c.args.text.now.items c.loop-tick.text.items c.push_events.new.text.items so_far.0 more so_far.2
            (c.in_ok-push_events-in-None.ensures ∙ ap (λ (es : List Event). c.loop-tick.text.items ++ flat_map event_line es) c.as_slice.ensures.value),
      );
    }

pub returns : goal.returns
returns c =
    let l = c.args.line.now in
    let p = timetable_of c.args.t.now in
    let n = c.args.carriers in
    let so_far = c.loop-tick.invariant.so_far in
    let order = c.drive-runner.ensures.ready.in_order in
    let first : c.first-tick.result ≡ first_tick l p = c.first-tick.ensures ∙ ap runners.first_tick c.drive-runner.ensures.runner in
    let last : c.last-tick-end.result ≡ last_tick l p n = c.last-tick-end.ensures ∙ ap runners.last_tick c.drive-runner.ensures.runner in
    let all : c.loop-tick._tick ≡ last_tick l p n + 1 = omega (
      arith,
      first,
      last,
      order,
      c.loop-tick-test.false,
      c.loop-tick.auto._tick,
      c.loop-tick.auto._tick-end,
    ) in
    so_far.2 ∙ ap (λ (es : List Event). c.args.text.now.items ++ flat_map event_line es)
    (log_is l p n c.loop-tick._tick (scene_of c.loop-tick.playing.frame) so_far.0 c.drive-runner.ensures.ready.in_order all c.drive-runner.ensures.run so_far.1)
