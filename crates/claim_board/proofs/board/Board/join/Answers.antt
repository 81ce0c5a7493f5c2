use Rattle.std.proofs.Common.{refl, rules, ap, ◌∙◌}
use Rattle.atomic_table.specs.Table.{keeps}
use Rattle.claim_board.proofs.Kept.{join_keeps, next_keeps, is_whole}
use Rattle.claim_board.proofs.board.Board.join.Goals as goal

pub join_seat-requires : goal.join_seat-requires
join_seat-requires c =
    (search rules, search rules, c.other.invariant.0, search rules, λ s holds at apart there. join_keeps _ _ _ _ _ _ _ holds at c.seat.invariant.1 apart there)

pub load-requires : goal.load-requires
load-requires c = (
  search rules,
  search rules,
  λ s holds homes at small. (
    c.join_seat.new.seat.me.0,
    keeps,
    tt,
    next_keeps _ _ _ _ _ holds at,
    (refl, refl, is_whole _ _ _ _ _ holds at (ap (λ m. m.0.spent) c.join_seat.ensures.2 ∙ c.seat.invariant.1)),
  ),
)
