use Rattle.std.proofs.Common.{arith}
use Rattle.window_margin.specs.Arcs.{turned}
use Rattle.window_margin.proofs.ListLemmas.{system_made}
use Rattle.window_margin.proofs.systems.turned_system.Goals as goal

pub returns : goal.returns
returns c =
    system_made (turned c.args.ticks) c.args.line.now c.move_count.result c.loop-k.k c.args.arcs.now c.loop-k.list.items c.new.result c.new.ensures
    c.move_count.ensures.value (omega (arith, c.loop-k-test.false, c.loop-k.auto.k-end)) c.loop-k.invariant
