-- The answer to a line under a budget of splits.
use Rattle.std.specs.Prelude.{◌≡◌, ℕ, zero, suc, Option, Some, None, ⊤}
use Rattle.hoist_base.specs.LineData.{LineData}
use Rattle.timetable.specs.TimetableData.{TimetableData}
use Rattle.node_expand.specs.declared.solved.Solved.{Solved}
use Rattle.branch_rounds.specs.declared.outcome.Outcome.{Outcome}
use Rattle.branch_rounds.specs.Grown.{IsGrown}
use Rattle.planning.specs.Planned.{IsPlan}
use Rattle.answer_text.specs.declared.answer.Verdict.{Verdict}
use Rattle.answer_text.specs.declared.answer.Verdict.TheVariants.{Optimal, Nothing, Unfinished}
use Rattle.answer_text.specs.declared.answer.Answer.{Answer}

-- optimal where no path is left and there is a best, none where no path is left and there is no best, else open
abbrev pub verdict_by : ℕ → Option Solved → Verdict
verdict_by zero (Some best) = Optimal
verdict_by zero None = Nothing
verdict_by (suc left) best = Unfinished

abbrev pub verdict_of : Outcome → Verdict
verdict_of o = verdict_by o.left o.best

-- the plan of the best, where there is one
abbrev pub IsPlanOr : LineData → Option Solved → Option TimetableData → Type 0
IsPlanOr l None None = ⊤
IsPlanOr l None (Some t) = ⊥
IsPlanOr l (Some s) None = ⊥
IsPlanOr l (Some s) (Some t) = IsPlan l s t

-- an outcome of the search, with its verdict and the plan of its best
pub record IsAnswerOf (l : LineData) (o : Outcome) (a : Answer) : Type 0 where
  pub verdict : a.verdict ≡ verdict_of o
  pub bound : a.bound ≡ o.bound
  pub splits : a.splits ≡ o.splits
  pub tree : a.tree ≡ o.tree
  pub timetable : IsPlanOr l o.best a.timetable

-- the answer of the search of the line under a budget
abbrev pub IsSolution : LineData → ℕ → Answer → Type 0
IsSolution l budget a = (o : Outcome) × IsGrown l budget o × IsAnswerOf l o a
