use Rattle.std.proofs.Common.{refl}
use Rattle.cert_checker.proofs.nodes.is_stuck_move.Goals as goal

pub returns-then-has_move : goal.returns-then-has_move
returns-then-has_move c =
    let move = c.if-has_move.ensures.value in
    (λ e. (move.0 refl, c.is_stuck.ensures.0 e), λ both. c.is_stuck.ensures.1 both.1)
