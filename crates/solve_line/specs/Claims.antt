-- What an answer claims, by its verdict.
use Rattle.std.specs.Prelude.{◌≡◌, ℕ, ◌+◌, ◌<◌, Some, None, IfSome}
use Rattle.hoist_base.specs.LineData.{LineData}
use Rattle.line_model.specs.Legal.{IsLegal, IsLeast, NoneBelow}
use Rattle.line_model.specs.Run.{KeepsWindows}
use Rattle.timetable.specs.TimetableData.{TimetableData, timetable_of}
use Rattle.path_constraints.specs.Proves.{Proves}
use Rattle.enough_budget.specs.Depth.{enough_budget}
use Rattle.answer_text.specs.declared.answer.Verdict.{Verdict}
use Rattle.answer_text.specs.declared.answer.Verdict.TheVariants.{Optimal, Nothing, Unfinished}
use Rattle.answer_text.specs.declared.answer.Answer.{Answer}

-- the answer's timetable is legal tick by tick, every carrier of every run of it keeps its windows, no legal timetable
-- has a smaller period, and the answer's tree of constraint cycles proves this
pub record IsOptimal (l : LineData) (a : Answer) : Type 0 where
  pub timetable : TimetableData
  pub is : a.timetable ≡ Some timetable
  pub period : timetable.period ≡ a.bound
  pub legal : IsLegal l (timetable_of timetable)
  pub runs : (carriers : ℕ) → KeepsWindows l (timetable_of timetable) carriers
  pub least : IsLeast l a.bound
  pub proves : Proves l a.tree a.bound

-- no legal timetable has a period up to the line's greatest, and the tree proves this
pub record IsNothing (l : LineData) (a : Answer) : Type 0 where
  pub timetable : a.timetable ≡ None
  pub bound : a.bound ≡ l.max_period + 1
  pub none_below : NoneBelow l a.bound
  pub proves : Proves l a.tree a.bound

-- the budget was spent, and is less than one that is enough for the line; none has a period below the bound, which the
-- tree proves, and a timetable, where there is one, is legal
pub record IsUnfinished (l : LineData) (budget : ℕ) (a : Answer) : Type 0 where
  pub splits : a.splits ≡ budget
  pub too_small : budget < enough_budget l
  pub legal : IfSome a.timetable (λ t. IsLegal l (timetable_of t))
  pub none_below : NoneBelow l a.bound
  pub proves : Proves l a.tree a.bound

abbrev pub ClaimOf : LineData → ℕ → Verdict → Answer → Type 0
ClaimOf l budget Optimal a = IsOptimal l a
ClaimOf l budget Nothing a = IsNothing l a
ClaimOf l budget Unfinished a = IsUnfinished l budget a

-- the answer keeps what its verdict claims
abbrev pub KeepsClaim : LineData → ℕ → Answer → Type 0
KeepsClaim l budget a = ClaimOf l budget a.verdict a
