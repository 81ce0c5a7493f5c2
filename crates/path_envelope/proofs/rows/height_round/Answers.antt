-- One tick further.
use Rattle.std.proofs.Common.{ℕ, get_or, ap, ◌≡◌, ◌∙◌, length, arith}
use Rattle.path_envelope.specs.Rows.{carried}
use Rattle.path_envelope.proofs.RowLemmas.{carried_next}
use Rattle.path_envelope.proofs.rows.height_round.Goals as goal

pub loop-t-preserved : goal.loop-t-preserved
loop-t-preserved c = omega (
  arith,
  c.loop-t.invariant,
  c.saturating_sub.ensures,
  c.max-height.ensures,
  carried_next (λ i. get_or c.args.row.now i 0) 0 c.loop-t.t,
)

pub returns : goal.returns
returns c =
    let e : c.loop-t.t ≡ length c.args.row.now = omega arith in
    c.loop-t.invariant ∙ ap (λ (n : ℕ). carried (λ i. get_or c.args.row.now i 0) 0 n) e
