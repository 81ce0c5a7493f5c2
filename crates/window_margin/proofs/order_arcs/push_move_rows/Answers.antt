use Rattle.std.proofs.Common.{ℕ, arith}
use Rattle.hoist_base.specs.LineData.{move_count}
use Rattle.timetable.specs.TimetableData.{timetable_of}
use Rattle.window_margin.specs.Arcs.{rows_below, move_row}
use Rattle.window_margin.proofs.PairLemmas.{rows_step, rows_done}
use Rattle.window_margin.proofs.order_arcs.push_move_rows.Goals as goal

pub loop-i-preserved : goal.loop-i-preserved
loop-i-preserved c = rows_step (λ (i : ℕ). rows_below (move_row c.args.line.now (timetable_of c.args.t.now) i)
    (move_count c.args.line.now)) c.loop-i.i _ _ _ c.loop-i.invariant c.in_ok-push_move_row.ensures

pub returns : goal.returns
returns c =
    rows_done (λ (i : ℕ). rows_below (move_row c.args.line.now (timetable_of c.args.t.now) i)
    (move_count c.args.line.now)) c.loop-i.i (move_count c.args.line.now) _ _
    (omega (arith, c.loop-i-test.false, c.loop-i.auto.i-end, c.move_count-i-end.ensures.value)) c.loop-i.invariant
