-- The loop writes the height that is carried along the row.
use Rattle.std.proofs.Common.{◌≡◌, ℕ, ◌+◌, ◌<◌, ◌≢◌, List, length, set, get_or, ap, sym, ◌∙◌, arith, ⊎_elim, get_or-set_same, get_or-set_other}
use Rattle.std.proofs.lemmas.Bool.{cases_lt}
use Rattle.path_envelope.specs.Rows.{carried}
use Rattle.path_envelope.proofs.RowLemmas.{carried_next, raised}
use Rattle.path_envelope.proofs.rows.raise_after.Goals as goal

done_more : (f : ℕ → ℕ) (b i v : ℕ) (row : List ℕ) → ((k : ℕ) → k < i → get_or row k 0 ≡ carried f b (k + 1))
    → i < length row → v ≡ carried f b (i + 1) → (k : ℕ) → k < i + 1 → get_or (set row i v) k 0 ≡ carried f b (k + 1)
done_more f b i v row done lt is k below =
    ⊎_elim
    (λ before. let ne : k ≢ i = omega (arith, before) in get_or-set_other row i k v 0 ne ∙ done k before)
    (λ past. let e : k ≡ i = omega (arith, below, past) in ap (λ j. get_or (set row i v) j 0) e
    ∙ (get_or-set_same row i v 0 lt ∙ (is ∙ ap (λ j. carried f b (j + 1)) (sym e))))
    (cases_lt k i)

pub loop-t-preserved : goal.loop-t-preserved
loop-t-preserved c =
    let f : ℕ → ℕ = λ i. get_or c.args.row.now i 0 in
    let b : ℕ = c.height_round-height.result in
    let i : ℕ = c.loop-t.t in
    let inv = c.loop-t.invariant in
    let e : c.max-height.result ≡ carried f b (i + 1) =
    omega (arith, inv.height, inv.rest i (omega arith), c.saturating_sub.ensures, c.max-height.ensures, carried_next f b i) in
    record {
      height = e;
      done = done_more f b i c.max-height.result c.loop-t.row inv.done (omega arith) e;
      rest = λ k le. let ne : k ≢ i = omega (arith, le) in get_or-set_other c.loop-t.row i k c.max-height.result 0 ne ∙ inv.rest k (omega (arith, le));
    }

pub returns-clause-raised : goal.returns-clause-raised
returns-clause-raised c =
    let f : ℕ → ℕ = λ i. get_or c.args.row.now i 0 in
    let n : ℕ = length c.args.row.now in
    raised f (λ i. get_or c.loop-t.row i 0) n
    (λ k lt. c.loop-t.invariant.done k (omega (arith, lt)) ∙ ap (λ b. carried f b (k + 1)) c.height_round-height.ensures)
