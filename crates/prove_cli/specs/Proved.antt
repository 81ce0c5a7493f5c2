-- What is printed for a line.
use Rattle.std.specs.Prelude.{◌≡◌, ℕ, ◌≤◌, List, length, IfSome}
use Rattle.hoist_base.specs.LineData.{LineData}
use Rattle.line_model.specs.Legal.{IsLegal, NoneBelow}
use Rattle.timetable.specs.TimetableData.{timetable_of}
use Rattle.path_constraints.specs.Proves.{Proves}
use Rattle.answer_text.specs.declared.answer.Verdict.{Verdict}
use Rattle.answer_text.specs.declared.answer.Verdict.TheVariants.{Optimal, Nothing, Unfinished}
use Rattle.answer_text.specs.declared.answer.Answer.{Answer}
use Rattle.answer_read.specs.Answers.{IsTextOf}
use Rattle.cert_checker.specs.Rules.{KeepsRules}
use Rattle.solve_line.specs.Claims.{IsOptimal, IsNothing}
use Rattle.hoist_cli.specs.Reading.{Replies, answer_limit}
use Rattle.hoist_cli.specs.Solved.{status_of}

-- the bytes are no more than an answer file may have, and the text of this answer to the line, which keeps every rule
-- of the checker
pub record IsKept (l : LineData) (bytes : List ℕ) (a : Answer) : Type 0 where
  pub small : length bytes ≤ answer_limit
  pub text : IsTextOf l bytes a
  pub rules : KeepsRules l a

-- no legal timetable has a period below the bound, which the tree proves, and the timetable, where there is one, is
-- legal
pub record IsOpenAnswer (l : LineData) (a : Answer) : Type 0 where
  pub legal : IfSome a.timetable (λ t. IsLegal l (timetable_of t))
  pub none_below : NoneBelow l a.bound
  pub proves : Proves l a.tree a.bound

-- what the answer claims by its verdict
abbrev pub ClaimBy : LineData → Verdict → Answer → Type 0
ClaimBy l Optimal a = IsOptimal l a
ClaimBy l Nothing a = IsNothing l a
ClaimBy l Unfinished a = IsOpenAnswer l a

-- the text of an answer that keeps every rule, with the status of its verdict; no legal timetable has a period below
-- its bound
abbrev pub IsProved : LineData → Replies
IsProved l status text = (a : Answer) × IsKept l text a × NoneBelow l a.bound × (status ≡ status_of a.verdict)
