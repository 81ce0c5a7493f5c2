use Rattle.std.proofs.Common.{◌≤◌, length, All}
use Rattle.worker_pool.proofs.round.take_rooms.Given as goal

abbrev pub invariant-loop-room : goal.invariant-loop-room
invariant-loop-room g l =
    (l._room ≤ length l.rooms.items) × All (λ room. g.W.Work.serves l.work room) l.rooms.items
