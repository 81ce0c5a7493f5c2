-- The height so far.
use Rattle.std.proofs.Common.{◌≡◌, get_or}
use Rattle.path_envelope.specs.Rows.{carried}
use Rattle.path_envelope.proofs.rows.height_round.Given as goal

abbrev pub invariant-loop-t : goal.invariant-loop-t
invariant-loop-t l = l.height ≡ carried (λ i. get_or l.row i 0) 0 l.t
