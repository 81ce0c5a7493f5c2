-- What is needed is written as far as the loop has come.
use Rattle.std.proofs.Common.{◌≡◌, ℕ, ◌<◌, get_or}
use Rattle.std.specs.Option.{option_map}
use Rattle.path_envelope.specs.Rows.{need}
use Rattle.path_envelope.proofs.rows.write_needs.Given as goal

abbrev pub invariant-loop-t : goal.invariant-loop-t
invariant-loop-t l = (k : ℕ) → k < l.t → get_or l.into k 0 ≡ need l.line l.h l.fixed (option_map (λ below. below.now) l.low) k
