use Rattle.std.specs.Prelude.{vec_items}
use Rattle.worker_pool.proofs.Pooled.{joined_done, joined_rooms}
use Rattle.worker_pool.proofs.round.joined.Goals as goal

pub returns-clause-done : goal.returns-clause-done
returns-clause-done g c =
    joined_done (g.W.Work.answers c.args.work.now) c.args.jobs.now (λ part. vec_items part.0)
    (λ part. vec_items part.1) c.args.mine.0 c.args.theirs.0 c.join.new.seat
    c.args.mine.1 c.args.theirs.1 c.both.result c.join.ensures.both c.both.ensures

pub returns-clause-rooms : goal.returns-clause-rooms
returns-clause-rooms g c m n =
    joined_rooms (g.W.Work.serves c.args.work.now) (λ part. vec_items part.0)
    (λ part. vec_items part.1) m n c.args.mine.1 c.args.theirs.1 c.both.result c.both.ensures
