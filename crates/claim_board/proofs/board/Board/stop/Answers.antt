use Rattle.std.proofs.Common.{refl, rules}
use Rattle.atomic_table.specs.Table.{keeps}
use Rattle.claim_board.specs.Rule.{with_stop}
use Rattle.claim_board.proofs.Kept.{stop_keeps}
use Rattle.claim_board.proofs.board.Board.stop.Goals as goal

pub fetch_or-requires : goal.fetch_or-requires
fetch_or-requires c = (
  search rules,
  search rules,
  λ s holds homes at small.
      (with_stop c.seat.inside.token.me.0, keeps, tt, stop_keeps _ _ _ _ _ holds at c.seat.invariant.1 (search rules), (refl, refl)),
)
