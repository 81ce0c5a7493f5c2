use Rattle.std.proofs.Common.{◌≡◌, refl, rules, subst, sym, ap, ◌∙◌, ◌≤◌}
use Rattle.atomic_table.specs.Table.{keeps}
use Rattle.claim_board.specs.declared.rule.View.{View}
use Rattle.claim_board.specs.Seats.{SeatData}
use Rattle.claim_board.specs.Rule.{with_share}
use Rattle.claim_board.proofs.Kept.{mark_keeps, split_keeps}
use Rattle.claim_board.proofs.board.Board.split.Goals as goal

pub compare_exchange-requires : goal.compare_exchange-requires
compare_exchange-requires c = (
  search rules,
  search rules,
  λ s holds homes at small.
      (with_share c.seat.inside.token.me.0 c.args.share, keeps, tt, mark_keeps _ _ _ _ _ _ holds at c.seat.invariant.1, (refl, refl)),
)

pub split_seat-token-requires : goal.split_seat-token-requires
split_seat-token-requires c =
    let marked : c.compare_exchange.new.seat.me.0 ≡ with_share c.seat.inside.token.me.0 c.args.share = c.compare_exchange.ensures.2.0 in
    let room : c.args.share ≤ c.seat.inside.token.me.0.left = subst (λ (u : SeatData). c.args.share ≤ u.left) (sym c.seat.view_is) c.requires.left in (
      search rules,
      search rules,
      λ s holds at.
          split_keeps _ _ _ _ _ holds at (ap (λ (v : View). v.spent) marked ∙ c.seat.invariant.1) (subst (λ (v : View). v.share ≤ v.left) (sym marked) room),
    )
