use Rattle.std.proofs.lemmas.Result.{err_from_is_err_and}
use Rattle.answer_read.specs.Tables.{carrier_at, carriers_at}
use Rattle.field_reading.proofs.Loops.{pair_more, pair_breaks, pairs_done}
use Rattle.answer_read.proofs.table.carriers.Goals as goal

pub returns-in_err-first : goal.returns-in_err-first
returns-in_err-first c =
    let p = err_from_is_err_and c.from_residual-in_err-first.result c.from_residual-in_err-first.ensures.1 in
    rw (p.1, p.2) (pair_breaks (carrier_at) c.in_err-first.field-0.0 c.loop-c.put.items c.loop-c.off.items c.args.count c.loop-c.c c.loop-c.rest.now
    (carriers_at c.args.count c.args.bytes.now) c.loop-c-test.true c.in_err-first.ensures c.loop-c.invariant)

pub loop-c-preserved : goal.loop-c-preserved
loop-c-preserved c =
    rw (c.in_ok-push.ensures.items, c.in_ok-push-2.ensures.items, c.from.ensures)
    (pair_more (carrier_at) c.loop-c.put.items c.loop-c.off.items c.args.count c.loop-c.c c.loop-c.rest.now c.in_ok-first.first c.in_ok-first.last
    c.in_ok-first.after.now (carriers_at c.args.count c.args.bytes.now) c.loop-c-test.true c.in_ok-first.ensures c.loop-c.invariant)

pub returns : goal.returns
returns c =
    pairs_done (carrier_at) c.loop-c.put.items c.loop-c.off.items c.args.count c.loop-c.c c.loop-c.rest.now
    (carriers_at c.args.count c.args.bytes.now) c.loop-c-test.false c.loop-c.invariant
