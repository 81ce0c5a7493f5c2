use Rattle.std.proofs.Common.{◌-◌, inl, inr, sym, arith}
use Rattle.std.proofs.lemmas.Result.{err_from_is_err_and}
use Rattle.track_log.specs.Logs.{most_ticks}
use Rattle.track_log.specs.Reading.{lines_at, behind, line_of}
use Rattle.track_log.proofs.Walked.{behind_next, behind_breaks, behind_ends}
use Rattle.track_log.proofs.walk.read_on.Goals as goal

pub returns-then-at_end : goal.returns-then-at_end
returns-then-at_end c =
    let l = c.args.line.now in
    let total = behind (lines_at l c.args.first (most_ticks - c.args.first) c.args.bytes.now) in
    rw (behind_ends l c.loop-tick.tick c.loop-tick.rest.now total (inl (sym c.if-at_end.ensures)) c.loop-tick.invariant) c.log_end.ensures

pub returns-in_err-rest : goal.returns-in_err-rest
returns-in_err-rest c =
    let l = c.args.line.now in
    let total = behind (lines_at l c.args.first (most_ticks - c.args.first) c.args.bytes.now) in
    let p = err_from_is_err_and c.from_residual.result c.from_residual.ensures.1 in
    rw (p.1, p.2) (behind_breaks l c.loop-tick.tick c.loop-tick.rest.now c.in_err-rest.field-0.0 total (omega (arith, c.loop-tick-test.true))
    (sym c.if-at_end.ensures) c.in_err-rest.ensures c.loop-tick.invariant)

pub loop-tick-preserved : goal.loop-tick-preserved
loop-tick-preserved c =
    let l = c.args.line.now in
    let total = behind (lines_at l c.args.first (most_ticks - c.args.first) c.args.bytes.now) in
    behind_next l c.loop-tick.tick c.loop-tick.rest.now (line_of c.tick_line.new.order) c.in_ok-rest.rest.now total (omega (arith, c.loop-tick-test.true))
    (sym c.if-at_end.ensures) c.in_ok-rest.ensures c.loop-tick.invariant

pub returns : goal.returns
returns c =
    let l = c.args.line.now in
    let total = behind (lines_at l c.args.first (most_ticks - c.args.first) c.args.bytes.now) in
    rw (behind_ends l c.loop-tick.tick c.loop-tick.rest.now total
    (inr (omega (arith, c.loop-tick-test.false, c.requires))) c.loop-tick.invariant) c.log_end-2.ensures
