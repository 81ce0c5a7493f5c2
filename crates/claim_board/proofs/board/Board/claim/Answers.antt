use Rattle.std.proofs.Common.{◌≡◌, ◌<◌, refl, rules, subst, ap, ◌∙◌, sym, slice_index, false}
use Rattle.atomic_table.specs.Table.{keeps}
use Rattle.claim_board.specs.declared.rule.View.{View}
use Rattle.claim_board.specs.Seats.{SeatData}
use Rattle.claim_board.specs.Rule.{noted_stop, after_claim}
use Rattle.claim_board.proofs.Kept.{load_keeps, claim_keeps, claim_whole, found_is_new}
use Rattle.claim_board.proofs.board.Board.claim.Goals as goal

pub load-requires : goal.load-requires
load-requires c = (
  search rules,
  search rules,
  λ s holds homes at small.
      (noted_stop c.seat.inside.token.me.0 (slice_index s.words 1), keeps, tt, load_keeps _ _ _ _ _ holds at c.seat.invariant.1, (refl, refl)),
)

-- where the word `stop` was 0, the load left the view as it was
pub fetch_add-found-requires : goal.fetch_add-found-requires
fetch_add-found-requires c =
    let v : View = c.seat.inside.token.me.0 in
    let same : c.load.new.seat.me.0 ≡ v = c.load.ensures.2.0 ∙ ap (λ k. noted_stop v k) c.if-load-ne0.false in
    let live : c.load.new.seat.me.0.spent ≡ false = ap (λ (u : View). u.spent) same ∙ c.seat.invariant.1 in
    let some_left : 0 < v.left = subst (λ (u : SeatData). 0 < u.left) (sym c.seat.view_is) c.requires.left in
    let left : 0 < c.load.new.seat.me.0.left = subst (λ (u : View). 0 < u.left) (sym same) some_left in (
      search rules,
      search rules,
      λ s holds homes at small. (
        after_claim c.load.new.seat.me.0 (slice_index s.words 0),
        keeps,
        tt,
        claim_keeps _ _ _ _ _ holds at live left,
        (
          refl,
          refl,
          found_is_new _ _ _ _ _ holds at,
          claim_whole _ _ _ _ _ holds at live left,
        ),
      ),
    )
