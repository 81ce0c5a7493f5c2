use Rattle.std.proofs.lemmas.Result.{err_from_is_err_and}
use Rattle.answer_read.specs.Tables.{move_at, moves_at}
use Rattle.field_reading.proofs.Loops.{pair_more, pair_breaks, pairs_done}
use Rattle.answer_read.proofs.table.moves.Goals as goal

pub returns-in_err-tick : goal.returns-in_err-tick
returns-in_err-tick c =
    let p = err_from_is_err_and c.from_residual-in_err-tick.result c.from_residual-in_err-tick.ensures.1 in
    rw (p.1, p.2) (pair_breaks (move_at c.args.line.now) c.in_err-tick.field-0.0 c.loop-number.start.items c.loop-number.hoist.items c.move_count-count.result
    c.loop-number.number c.loop-number.rest.now
    (moves_at c.args.line.now c.args.bytes.now) c.loop-number-test.true c.in_err-tick.ensures c.loop-number.invariant)

pub loop-number-preserved : goal.loop-number-preserved
loop-number-preserved c =
    rw (c.in_ok-push.ensures.items, c.in_ok-push-2.ensures.items)
    (pair_more (move_at c.args.line.now) c.loop-number.start.items c.loop-number.hoist.items c.move_count-count.result c.loop-number.number
    c.loop-number.rest.now
    c.in_ok-tick.tick c.in_ok-tick.by c.in_ok-tick.after.now
    (moves_at c.args.line.now c.args.bytes.now) c.loop-number-test.true c.in_ok-tick.ensures c.loop-number.invariant)

pub returns : goal.returns
returns c =
    pairs_done (move_at c.args.line.now) c.loop-number.start.items c.loop-number.hoist.items c.move_count-count.result c.loop-number.number
    c.loop-number.rest.now
    (moves_at c.args.line.now c.args.bytes.now) c.loop-number-test.false c.loop-number.invariant
