-- It goes through the positions so far.
use Rattle.std.proofs.Common.{◌≡◌, ℕ, ◌<◌, get_or, IfSome}
use Rattle.path_envelope.specs.Slots.{held}
use Rattle.path_envelope.proofs.tracing.goes_through.Given as goal

abbrev pub invariant-loop-t : goal.invariant-loop-t
invariant-loop-t l = (s : ℕ) → s < l.t → IfSome (held l.table s) (λ at. get_or l.row s 0 ≡ at)
