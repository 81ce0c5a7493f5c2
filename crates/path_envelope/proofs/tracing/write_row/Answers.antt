-- A hoist's row is swept over its table, and is its layer where it goes through it.
use Rattle.std.proofs.Common.{arith}
use Rattle.path_envelope.proofs.TraceLemmas.{below_small, row_added}
use Rattle.path_envelope.proofs.tracing.write_row.Goals as goal

pub sweep-requires-clause-low_small : goal.sweep-requires-clause-low_small
sweep-requires-clause-low_small c =
    below_small c.args.asked.line.now _ c.args.h c.args.rows.now c.row_below-low.result (omega arith)
    (omega arith) c.requires.valid c.requires.moves.reach c.requires.rows c.row_below-low.ensures

pub returns-clause-layers : goal.returns-clause-layers
returns-clause-layers c =
    row_added c.args.asked.line.now _ c.args.h c.write_hoist.new.table c.row_below-low.result c.args.rows.now
    c.sweep.new.into c.goes_through.result (omega arith) c.requires.moves.reach
    c.if-not-write_hoist.ensures c.requires.rows c.row_below-low.ensures c.sweep.ensures.least c.sweep.ensures.from c.goes_through.ensures
