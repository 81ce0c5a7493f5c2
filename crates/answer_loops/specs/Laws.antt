-- Loops of the tick machine beside optimal answers.
use Rattle.std.specs.Prelude.{◌≡◌, ℕ, ◌≤◌}
use Rattle.hoist_base.specs.LineData.{LineData}
use Rattle.hoist_base.specs.Valid.{IsLine}
use Rattle.tick_machine.specs.Scene.{Scene}
use Rattle.machine_loops.specs.Loops.{IsLoop}
use Rattle.answer_text.specs.declared.answer.Answer.{Answer}
use Rattle.answer_text.specs.declared.answer.Verdict.TheVariants.{Optimal}
use Rattle.solve_line.specs.AnswerOf.{IsSolution}
use Rattle.solve_line.specs.Claims.{KeepsClaim}

-- where the answer of the search is optimal and keeps its claim, every loop has at least the answer's period, its bound
abbrev pub NoLoopIsShorter : Type 0
NoLoopIsShorter =
    (l : LineData) (budget : ℕ) (a : Answer) → IsLine l → IsSolution l budget a → KeepsClaim l budget a → a.verdict ≡ Optimal
    → (period : ℕ) (frames : ℕ → Scene) → IsLoop l period frames → a.bound ≤ period
