-- The height that came round is carried along the row once more.
use Rattle.std.proofs.Common.{◌≡◌, ℕ, ◌+◌, ◌≤◌, ◌<◌, get_or}
use Rattle.path_envelope.specs.Rows.{carried}
use Rattle.path_envelope.proofs.rows.raise_after.Given as goal

abbrev pub invariant-loop-t : goal.invariant-loop-t
invariant-loop-t l = record {
  height : l.height ≡ carried (λ i. get_or l.initial.row i 0) l.initial.height l.t;
  done : (k : ℕ) → k < l.t → get_or l.row k 0 ≡ carried (λ i. get_or l.initial.row i 0) l.initial.height (k + 1);
  rest : (k : ℕ) → l.t ≤ k → get_or l.row k 0 ≡ get_or l.initial.row k 0;
}
