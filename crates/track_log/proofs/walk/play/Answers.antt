use Rattle.std.proofs.Common.{◌+◌, ◌-◌, inl, inr, sym, subst, arith}
use Rattle.std.proofs.lemmas.Result.{err_from_is_err_and}
use Rattle.tick_machine.specs.declared.frame.Frame.{Frame}
use Rattle.tick_machine.specs.Layout.{layout_of}
use Rattle.tick_machine.specs.Scene.{Scene, scene_of, IsSized}
use Rattle.tick_machine.specs.Rules.{IsBelow, IsFrame}
use Rattle.tick_machine.proofs.EmptyScenes.{empty_below}
use Rattle.track_log.specs.Logs.{most_ticks}
use Rattle.track_log.specs.Reading.{lines_at, line_of}
use Rattle.track_log.specs.Following.{place}
use Rattle.track_log.proofs.Tails.{has_few}
use Rattle.track_log.proofs.Spaced.{are_apart, order_fits}
use Rattle.track_log.proofs.Walked.{Walked, past_first, walk_starts, walk_more, walk_departs, walk_ends, walk_breaks, walk_stops, walk_fails}
use Rattle.track_log.proofs.walk.play.Goals as goal

pub empty-requires-clause-apart : goal.empty-requires-clause-apart
empty-requires-clause-apart c = are_apart (layout_of c.args.line.now) (place c.args.at.now) c.requires.spaced

pub empty-requires-2-clause-apart : goal.empty-requires-2-clause-apart
empty-requires-2-clause-apart c = are_apart (layout_of c.args.line.now) (place c.args.at.now) c.requires.spaced

pub loop-tick-init : goal.loop-tick-init
loop-tick-init c =
    let l = c.args.line.now in
    let scene = c.in_ok-frame.ensures.scene in
    record {
      walked = walk_starts l c.args.at.now c.args.bytes.now (scene_of c.in_ok-frame.frame) scene;
      frame = c.in_ok-frame.ensures.frame;
      next = c.in_ok-next.ensures.frame.sized;
      below = subst (λ (f : Scene). IsBelow 1 f) (sym scene) (empty_below (layout_of l) (place c.args.at.now));
    }

pub returns-in_err-rest-clause-broken : goal.returns-in_err-rest-clause-broken
returns-in_err-rest-clause-broken c =
    let l = c.args.line.now in
    let p = err_from_is_err_and c.from_residual-in_err-rest.result c.from_residual-in_err-rest.ensures.1 in
    rw (p.1, p.2) (walk_stops l c.args.at.now (lines_at l 0 most_ticks c.args.bytes.now) c.loop-tick.tick c.loop-tick.rest.now (scene_of c.loop-tick.frame)
    c.in_err-rest.field-0.0 c.loop-tick.invariant.walked (inl (sym c.if-at_end.ensures)) c.in_err-rest.ensures)

pub returns-then-at_end-clause-played : goal.returns-then-at_end-clause-played
returns-then-at_end-clause-played c =
    let l = c.args.line.now in
    walk_ends l c.args.at.now (lines_at l 0 most_ticks c.args.bytes.now) c.loop-tick.tick (c.loop-tick.tick - 1) c.loop-tick.rest.now c.in_ok-rest.rest.now
    c.loop-tick.frame c.requires.spaced c.loop-tick.invariant.walked (inl (sym c.if-at_end.ensures))
    (past_first c.loop-tick.tick c.loop-tick.rest.now (sym c.if-at_end.ensures)) c.in_ok-rest.ensures

pub returns-in_err-rest-2-clause-broken : goal.returns-in_err-rest-2-clause-broken
returns-in_err-rest-2-clause-broken c =
    let l = c.args.line.now in
    let p = err_from_is_err_and c.from_residual-in_err-rest-2.result c.from_residual-in_err-rest-2.ensures.1 in
    rw (p.1, p.2) (walk_breaks l c.args.at.now (lines_at l 0 most_ticks c.args.bytes.now) c.loop-tick.tick c.loop-tick.rest.now (scene_of c.loop-tick.frame)
    c.in_err-rest-2.field-0.0 c.loop-tick.invariant.walked (omega (arith, c.loop-tick-test.true)) (sym c.if-at_end.ensures) c.in_err-rest-2.ensures)

pub step-requires-clause-order : goal.step-requires-clause-order
step-requires-clause-order c =
    order_fits c.args.line.now c.loop-tick.tick c.loop-tick.rest.now c.in_ok-rest-2.rest.now c.tick_line.new.order (has_few c.args.line.now c.requires.valid)
    c.in_ok-rest-2.ensures

pub returns-in_err-rest-in-Err-clause-broken : goal.returns-in_err-rest-in-Err-clause-broken
returns-in_err-rest-in-Err-clause-broken c =
    let l = c.args.line.now in
    let p = err_from_is_err_and c.from_residual-in_err-rest-in-Err.result c.from_residual-in_err-rest-in-Err.ensures.1 in
    rw (p.1, p.2) (walk_fails l c.args.at.now (lines_at l 0 most_ticks c.args.bytes.now) c.loop-tick.tick c.loop-tick.rest.now (scene_of c.loop-tick.frame)
    (line_of c.tick_line.new.order) c.in_ok-rest-2.rest.now c.in_err-rest-in-Err.field-0.0 c.loop-tick.invariant.walked (omega (arith, c.loop-tick-test.true))
    (sym c.if-at_end.ensures) c.in_ok-rest-2.ensures c.in_err-rest-in-Err.ensures)

pub returns-in-Err-clause-played : goal.returns-in-Err-clause-played
returns-in-Err-clause-played c =
    let l = c.args.line.now in
    walk_departs l c.args.at.now (lines_at l 0 most_ticks c.args.bytes.now) c.loop-tick.tick c.loop-tick.rest.now (scene_of c.loop-tick.frame)
    (line_of c.tick_line.new.order) c.in_ok-rest-2.rest.now c.in-Err.breach c.in_ok-rest-in-Err.rest.now c.requires.spaced c.loop-tick.invariant.walked
    (omega (arith, c.loop-tick-test.true)) (sym c.if-at_end.ensures) c.in_ok-rest-2.ensures c.in-Err.ensures.step c.in_ok-rest-in-Err.ensures

pub loop-tick-preserved : goal.loop-tick-preserved
loop-tick-preserved c =
    let l = c.args.line.now in
    let n = c.loop-tick.tick + 1 in
    let total = lines_at l 0 most_ticks c.args.bytes.now in
    let more = walk_more l c.args.at.now total c.loop-tick.tick c.loop-tick.rest.now (scene_of c.loop-tick.frame) (scene_of c.step.new.new)
    (line_of c.tick_line.new.order) c.in_ok-rest-2.rest.now c.loop-tick.invariant.walked (omega (arith, c.loop-tick-test.true)) (sym c.if-at_end.ensures)
    c.in_ok-rest-2.ensures c.in-Ok.ensures.step in
    record {
      walked = subst (λ (f : Frame). Walked l c.args.at.now total n c.in_ok-rest-2.rest.now (scene_of f)) (sym c.swap.ensures.x_after) more;
      frame = subst (λ (f : Frame). IsFrame l f) (sym c.swap.ensures.x_after) c.in-Ok.ensures.frame;
      next = subst (λ (f : Frame). IsSized l f) (sym c.swap.ensures.y_after) c.loop-tick.invariant.frame.sized;
      below = subst (λ (f : Frame). IsBelow (n + 1) (scene_of f)) (sym c.swap.ensures.x_after) (c.in-Ok.ensures.grows n c.loop-tick.invariant.below);
    }

pub returns-in_err-rest-3-clause-broken : goal.returns-in_err-rest-3-clause-broken
returns-in_err-rest-3-clause-broken c =
    let l = c.args.line.now in
    let p = err_from_is_err_and c.from_residual-in_err-rest-3.result c.from_residual-in_err-rest-3.ensures.1 in
    rw (p.1, p.2) (walk_stops l c.args.at.now (lines_at l 0 most_ticks c.args.bytes.now) c.loop-tick.tick c.loop-tick.rest.now (scene_of c.loop-tick.frame)
    c.in_err-rest-3.field-0.0 c.loop-tick.invariant.walked (inr (omega (arith, c.loop-tick-test.false))) c.in_err-rest-3.ensures)

pub returns-clause-played : goal.returns-clause-played
returns-clause-played c =
    let l = c.args.line.now in
    walk_ends l c.args.at.now (lines_at l 0 most_ticks c.args.bytes.now) c.loop-tick.tick 99999 c.loop-tick.rest.now c.in_ok-rest-3.rest.now
    c.loop-tick.frame c.requires.spaced c.loop-tick.invariant.walked (inr (omega (arith, c.loop-tick-test.false)))
    (omega (arith, c.loop-tick-test.false, c.loop-tick.auto.tick-end)) c.in_ok-rest-3.ensures
