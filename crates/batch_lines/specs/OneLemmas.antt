-- A line and a budget have one single.
use Rattle.std.proofs.Common.{◌≡◌, ℕ, ◌≤◌, List, sym, ap, ◌∙◌}
use Rattle.hoist_base.specs.LineData.{LineData}
use Rattle.hoist_base.specs.Valid.{IsLine}
use Rattle.answer_text.specs.declared.answer.Answer.{Answer}
use Rattle.answer_text.specs.Answers.{answer_text}
use Rattle.solve_line.proofs.OneLemmas.{solution_is_one}
use Rattle.batch_lines.specs.declared.single.Single.{Single}
use Rattle.batch_lines.specs.Batch.{status_of, IsSingle}

abbrev single_by : ℕ → List ℕ → Single
single_by status text = record { status = status; text = text }

single_of : (l : LineData) (budget : ℕ) (a : Single) (is : IsSingle l budget a)
    → a ≡ single_by (status_of is.answer.verdict) (answer_text l is.answer)
single_of l budget a is =
    ap (λ (n : ℕ). single_by n a.text) is.status ∙ ap (λ (t : List ℕ). single_by (status_of is.answer.verdict) t) is.text

pub single_is_one : (l : LineData) (budget : ℕ) (a b : Single) → IsLine l → budget ≤ 20000 → IsSingle l budget a
    → IsSingle l budget b → a ≡ b
single_is_one l budget a b line small is is' =
    let same : is.answer ≡ is'.answer = solution_is_one l budget is.answer is'.answer line small is.solution is'.solution is.writable is'.writable in
    single_of l budget a is ∙ ap (λ (x : Answer). single_by (status_of x.verdict) (answer_text l x)) same ∙ sym (single_of l budget b is')
