use Rattle.std.proofs.Common.{refl}
use Rattle.cert_checker.proofs.nodes.stuck_reason.Goals as goal

pub returns-then-is_stuck_move : goal.returns-then-is_stuck_move
returns-then-is_stuck_move c bound = c.if-is_stuck_move.ensures.0 refl
