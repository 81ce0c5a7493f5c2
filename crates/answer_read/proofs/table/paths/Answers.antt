use Rattle.std.proofs.lemmas.Result.{err_from_is_err_and}
use Rattle.answer_read.specs.Tables.{path_at, paths_at}
use Rattle.field_reading.proofs.Loops.{list_more, list_breaks, lists_done}
use Rattle.answer_read.proofs.table.paths.Goals as goal

pub returns-in_err-rest : goal.returns-in_err-rest
returns-in_err-rest c =
    let p = err_from_is_err_and c.from_residual.result c.from_residual.ensures.1 in
    rw (p.1, p.2) (list_breaks (path_at c.args.period) c.in_err-rest.field-0.0 c.loop-h.path.items c.args.hoists c.loop-h.h c.loop-h.rest.now
    (paths_at c.args.hoists c.args.period c.args.bytes.now) c.loop-h-test.true c.in_err-rest.ensures c.loop-h.invariant)

pub loop-h-preserved : goal.loop-h-preserved
loop-h-preserved c =
    list_more (path_at c.args.period) c.loop-h.path.items c.path_line.new.path.items c.args.hoists c.loop-h.h c.loop-h.rest.now c.in_ok-rest.rest.now
    (paths_at c.args.hoists c.args.period c.args.bytes.now) c.loop-h-test.true c.in_ok-rest.ensures c.loop-h.invariant

pub returns : goal.returns
returns c =
    lists_done (path_at c.args.period) c.loop-h.path.items c.args.hoists c.loop-h.h c.loop-h.rest.now
    (paths_at c.args.hoists c.args.period c.args.bytes.now) c.loop-h-test.false c.loop-h.invariant
