use Rattle.std.proofs.Common.{◌≡◌, ◌∙◌, ◌+◌, ◌*◌, ap, sym, min, slice_index}
use lib.ListN.{get_elem?}
use Rattle.claim_board.specs.declared.rule.View.{View}
use Rattle.claim_board.specs.declared.rule.Plan.{Plan}
use Rattle.claim_board.specs.Seats.{SeatData, BoardData}
use Rattle.claim_board.specs.Tidy.{times, once_below}
use Rattle.claim_board.proofs.Kept.{all_drawn, all_used, word_is}
use Rattle.claim_board.proofs.board.Board.close.Goals as goal

pub returns-clause-used : goal.returns-clause-used
returns-clause-used c =
    let final = c.close_with-closed.ensures.values.2 in
    let v : View = c.seat.inside.token.me.0 in
    let plan : Plan = c.self.inside.table.shared.key in
    let next : slice_index final.0.words 0 ≡ c.word-next.result = word_is _ _ (ap (λ ws. get_elem? ws 0) final.2 ∙ c.word-next.ensures) in
    let all : v.left + v.used ≡ plan.workers * (plan.n + 1) = ap (λ (s : SeatData). s.left + s.used) c.seat.view_is
    ∙ c.requires.all ∙ ap (λ (b : BoardData). b.workers * (b.n + 1)) (c.requires.of_board ∙ sym c.self.view_is) in
    sym next ∙ all_used _ _ _ _ _ final.1.0 final.1.1 all ∙ ap (λ (s : SeatData). s.used) c.seat.view_is

pub returns-clause-each : goal.returns-clause-each
returns-clause-each c x =
    let final = c.close_with-closed.ensures.values.2 in
    let v : View = c.seat.inside.token.me.0 in
    let plan : Plan = c.self.inside.table.shared.key in
    let next : slice_index final.0.words 0 ≡ c.word-next.result = word_is _ _ (ap (λ ws. get_elem? ws 0) final.2 ∙ c.word-next.ensures) in
    let all : v.left + v.used ≡ plan.workers * (plan.n + 1) = ap (λ (s : SeatData). s.left + s.used) c.seat.view_is
    ∙ c.requires.all ∙ ap (λ (b : BoardData). b.workers * (b.n + 1)) (c.requires.of_board ∙ sym c.self.view_is) in
    sym (ap (λ (s : SeatData). times x s.list) c.seat.view_is) ∙ all_drawn _ _ _ _ _ x final.1.0 final.1.1 all
    ∙ ap (λ n. once_below (min n plan.n) x) next ∙ ap (λ (b : BoardData). once_below
    (min c.word-next.result b.n) x) c.self.view_is
