use Rattle.std.proofs.Common.{◌≡◌, ◌+◌, ◌*◌, ◌∙◌, length, ap, sym, subst, IfOk, All, IsSome}
use Rattle.claim_board.specs.Seats.{SeatData}
use Rattle.worker_pool.specs.Pool.{AnswersAt, Done}
use Rattle.worker_pool.proofs.Pooled.{round_done, numbers_below, all_placed, outs_right}
use Rattle.worker_pool.proofs.round.run_in.Goals as goal

pub places-requires : goal.places-requires
places-requires g c =
    let answers = g.W.Work.answers c.args.work.now in
    let jobs = c.args.jobs.now in
    let whole : SeatData = c.share_out-whole.result.0 in
    let done : Done answers jobs whole c.in_ok-kept.kept.items = subst
    (λ r. IfOk r (λ part. Done answers jobs whole part.0.items)) c.in_ok-kept.was c.share_out-whole.ensures.done in
    numbers_below answers jobs whole.list c.in_ok-kept.kept.items done.1

pub answers-requires : goal.answers-requires
answers-requires g c =
    let answers = g.W.Work.answers c.args.work.now in
    let jobs = c.args.jobs.now in
    let whole : SeatData = c.share_out-whole.result.0 in
    let done : Done answers jobs whole c.in_ok-kept.kept.items = subst
    (λ r. IfOk r (λ part. Done answers jobs whole part.0.items)) c.in_ok-kept.was c.share_out-whole.ensures.done in
    let counts = c.share_out-whole.ensures.counts ∙ ap (λ k. k * (length jobs + 1)) c.in_ok-taken.ensures.taken.0 in
    let share : c.from.result * (length jobs + 1) ≡ c.args.workers * (length jobs + 1) = ap (λ k. k * (length jobs + 1)) c.from.ensures in
    let round = round_done answers jobs c.args.workers _ c.args.board.now c.args.seat.now c.split.new.seat c.join.new.seat whole c.in_ok-kept.kept.items
    c.requires.board.0 c.requires.board.1 share c.requires.seat.0 c.requires.seat.1 c.requires.seat.2
    c.in_ok-whole.ensures.kept c.split.ensures.few c.join.ensures.both counts c.join.ensures.whole done in
    subst (λ l. All (λ o. IsSome o) l) (sym c.in_ok-places.ensures)
    (all_placed (AnswersAt answers jobs) (length jobs) c.in_ok-kept.kept.items round.0)

pub returns-clause-answers : goal.returns-clause-answers
returns-clause-answers g c =
    let answers = g.W.Work.answers c.args.work.now in
    let jobs = c.args.jobs.now in
    let whole : SeatData = c.share_out-whole.result.0 in
    let done : Done answers jobs whole c.in_ok-kept.kept.items = subst
    (λ r. IfOk r (λ part. Done answers jobs whole part.0.items)) c.in_ok-kept.was c.share_out-whole.ensures.done in
    let counts = c.share_out-whole.ensures.counts ∙ ap (λ k. k * (length jobs + 1)) c.in_ok-taken.ensures.taken.0 in
    let share : c.from.result * (length jobs + 1) ≡ c.args.workers * (length jobs + 1) = ap (λ k. k * (length jobs + 1)) c.from.ensures in
    let round = round_done answers jobs c.args.workers _ c.args.board.now c.args.seat.now c.split.new.seat c.join.new.seat whole c.in_ok-kept.kept.items
    c.requires.board.0 c.requires.board.1 share c.requires.seat.0 c.requires.seat.1 c.requires.seat.2
    c.in_ok-whole.ensures.kept c.split.ensures.few c.join.ensures.both counts c.join.ensures.whole done in
    outs_right (AnswersAt answers jobs) (length jobs) c.in_ok-kept.kept.items c.in_ok-outs.outs.items
    (c.in_ok-outs.ensures ∙ c.in_ok-places.ensures) round.0

pub returns-clause-each : goal.returns-clause-each
returns-clause-each g c =
    let answers = g.W.Work.answers c.args.work.now in
    let jobs = c.args.jobs.now in
    let whole : SeatData = c.share_out-whole.result.0 in
    let done : Done answers jobs whole c.in_ok-kept.kept.items = subst
    (λ r. IfOk r (λ part. Done answers jobs whole part.0.items)) c.in_ok-kept.was c.share_out-whole.ensures.done in
    let counts = c.share_out-whole.ensures.counts ∙ ap (λ k. k * (length jobs + 1)) c.in_ok-taken.ensures.taken.0 in
    let share : c.from.result * (length jobs + 1) ≡ c.args.workers * (length jobs + 1) = ap (λ k. k * (length jobs + 1)) c.from.ensures in
    let round = round_done answers jobs c.args.workers _ c.args.board.now c.args.seat.now c.split.new.seat c.join.new.seat whole c.in_ok-kept.kept.items
    c.requires.board.0 c.requires.board.1 share c.requires.seat.0 c.requires.seat.1 c.requires.seat.2
    c.in_ok-whole.ensures.kept c.split.ensures.few c.join.ensures.both counts c.join.ensures.whole done in
    round.1
