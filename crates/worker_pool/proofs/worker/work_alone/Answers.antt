use Rattle.std.proofs.Common.{◌≡◌, ◌<◌, ◌≤◌, ◌++◌, ◌∷◌, [], List, ℕ, ◌∙◌, ap, sym, subst, arith, length}
use Rattle.std.proofs.lemmas.List.{length-append}
use Rattle.claim_board.specs.Seats.{SeatData}
use Rattle.claim_board.specs.Tidy.{times, once_below}
use Rattle.worker_pool.specs.Pool.{Keeps}
use Rattle.worker_pool.proofs.Pooled.{few_below, once_more}
use Rattle.worker_pool.proofs.worker.work_alone.Goals as goal

pub claim-requires-clause-left : goal.claim-requires-clause-left
claim-requires-clause-left g c =
    let i = c.loop-number.invariant in omega (arith, i.1, i.2, few_below (length c.args.jobs.now) c.loop-number.seat.list i.3)

-- one number more, and one pair more
pub loop-number-preserved : goal.loop-number-preserved
loop-number-preserved g c =
    let i = c.loop-number.invariant in
    let before : SeatData = c.loop-number.seat in
    let n : ℕ = length c.args.jobs.now in
    let answer = c.in-Index.ensures.answer in
    let below : c.in-Index.number < n = subst (λ k. c.in-Index.number < k) c.requires.board answer.0 in
    let list : c.claim.new.seat.list ≡ before.list ++ c.in-Index.number ∷ [] = ap (λ (s : SeatData). s.list) answer.2 in
    let size = ap (λ (l : List ℕ). length l) list ∙ length-append before.list (c.in-Index.number ∷ []) in
    let used = ap (λ (s : SeatData). s.used) answer.2 in (
      c.in-Index.ensures.same ∙ i.0,
      c.in-Index.ensures.counts ∙ i.1,
      omega (arith, size, used, i.2),
      λ x. subst (λ (l : List ℕ). times x l ≤ once_below n x) (sym list) (once_more n c.in-Index.number before.list below answer.1 i.3 x),
      subst (λ (l : List ℕ). Keeps (g.W.Work.answers c.args.work.now) c.args.jobs.now l c.keep_answer.new.kept.items)
          (sym list) (c.in-Ok.ensures.keeps before.list i.4),
      c.in-Ok.ensures.room,
    )
