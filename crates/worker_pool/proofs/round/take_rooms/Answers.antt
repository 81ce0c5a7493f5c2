use Rattle.std.proofs.Common.{arith}
use Rattle.std.specs.Prelude.{vec_items}
use Rattle.worker_pool.proofs.Pooled.{tail_serves}
use Rattle.worker_pool.proofs.round.take_rooms.Goals as goal

pub returns-clause-taken : goal.returns-clause-taken
returns-clause-taken g c =
    let i = c.loop-room.invariant in
    tail_serves (g.W.Work.serves c.args.work.now) vec_items _ c.args.count c.loop-room.rooms.items c.split_off.result
    (omega (arith, c.len.ensures, c.loop-room.rooms.ok.0, i.0, c.loop-room-test.false)) i.1 c.split_off.ensures.tail
