use Rattle.std.proofs.Common.{◌≡◌, ◌+◌, ◌*◌, ℕ, arith, ap, subst, length, IfOk}
use Rattle.worker_pool.specs.Pool.{Serve}
use Rattle.worker_pool.proofs.Pooled.{share-sum, cut_in_two}
use Rattle.worker_pool.proofs.round.+fn-share_out-join+arg2+fn-share_out-join+arg3+share_out.Goals as goal

pub returns-clause-counts : goal.returns-clause-counts
returns-clause-counts g t c =
    let n : ℕ = length c.args.jobs.now + 1 in
    let a : ℕ = length c.split_off.new.self.items in
    let b : ℕ = length c.in-Ok.others.items in
    let all : a + b ≡ length c.args.rooms.items = cut_in_two _ c.args.rooms.items c.split_off.new.self.items
    c.in-Ok.others.items c.in-Ok.ensures.items c.in-Ok.ensures.tail in
    let shares : (a + b) * n ≡ length c.args.rooms.items * n = ap (λ k. k * n) all in
    omega (arith, c.joined.ensures.counts, c.join-mine.ensures.first.1, c.join-mine.ensures.second.1, share-sum a b n, shares)

pub returns-clause-rooms : goal.returns-clause-rooms
returns-clause-rooms g t c =
    let a : ℕ = length c.split_off.new.self.items in
    let b : ℕ = length c.in-Ok.others.items in
    let all : a + b ≡ length c.args.rooms.items = cut_in_two _ c.args.rooms.items c.split_off.new.self.items
    c.in-Ok.others.items c.in-Ok.ensures.items c.in-Ok.ensures.tail in
    let S : ℕ → Type 0 = λ k. IfOk c.joined.result.1 (λ part. Serve (g.W.Work.serves c.args.work.now) k part.1.items) in
    subst S all (c.joined.ensures.rooms a b c.join-mine.ensures.first.3 c.join-mine.ensures.second.3)
