-- The rules that an accepted answer keeps.
use Rattle.std.specs.Prelude.{◌≡◌, ℕ, ◌+◌, ◌≤◌, IfSome, Option, Some, None}
use Rattle.hoist_base.specs.LineData.{LineData}
use Rattle.line_model.specs.Legal.{IsLegal}
use Rattle.timetable.specs.TimetableData.{TimetableData, timetable_of}
use Rattle.choice_tree.specs.Nodes.{NoneLeft, SomeLeft}
use Rattle.path_constraints.specs.Proves.{Proves}
use Rattle.answer_text.specs.declared.answer.Verdict.{Verdict}
use Rattle.answer_text.specs.declared.answer.Verdict.TheVariants.{Optimal, Nothing, Unfinished}
use Rattle.answer_text.specs.declared.answer.Answer.{Answer}
use Rattle.cert_checker.specs.Reasons.{split_count}

-- an optimal answer has a timetable of its bound; one that says that there is none has no timetable, and its bound is
-- one more than the greatest period of a search; the bound of an open one is not above its period, or that number
abbrev pub IsClaim : LineData → Verdict → Option TimetableData → ℕ → Type 0
IsClaim l Optimal None bound = ⊥
IsClaim l Optimal (Some t) bound = bound ≡ t.period
IsClaim l Nothing None bound = bound ≡ l.max_period + 1
IsClaim l Nothing (Some t) bound = ⊥
IsClaim l Unfinished None bound = bound ≤ l.max_period + 1
IsClaim l Unfinished (Some t) bound = bound ≤ t.period

-- an open answer has a node that is left, and no other has one
abbrev pub HasItsLeft : Answer → Verdict → Type 0
HasItsLeft a Optimal = NoneLeft a.tree
HasItsLeft a Nothing = NoneLeft a.tree
HasItsLeft a Unfinished = SomeLeft a.tree

pub record KeepsRules (l : LineData) (a : Answer) : Type 0 where
  pub claim : IsClaim l a.verdict a.timetable a.bound
  pub splits : a.splits ≡ split_count a.tree
  pub left : HasItsLeft a a.verdict
  pub legal : IfSome a.timetable (λ t. IsLegal l (timetable_of t))
  pub proves : Proves l a.tree a.bound
