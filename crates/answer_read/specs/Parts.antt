-- How the parts of an answer are read, one after another.
use Rattle.std.specs.Prelude.{ℕ, List, [], ◌∷◌, codes, Bool, Option, Result, Ok}
use Rattle.hoist_base.specs.LineData.{LineData, is_single}
use Rattle.choice_tree.specs.declared.node.Node.{Node}
use Rattle.timetable.specs.TimetableData.{TimetableData}
use Rattle.answer_text.specs.declared.answer.Verdict.{Verdict}
use Rattle.answer_text.specs.declared.answer.Verdict.TheVariants.{Optimal, Nothing, Unfinished}
use Rattle.answer_text.specs.declared.answer.Answer.{Answer}
use Rattle.answer_text.specs.Limits.{most_bound, most_splits}
use Rattle.answer_text.specs.Words.{version_text, verdict_text}
use Rattle.field_reading.specs.Reading.{◌>>=◌, word_at, number_at, kind_at}
use Rattle.answer_read.specs.Trees.{tree_at}
use Rattle.answer_read.specs.Tables.{timetable_at}

abbrev pub verdicts : List Verdict
verdicts = Optimal ∷ Nothing ∷ Unfinished ∷ []

unfoldable pub verdict_at : Bool → List ℕ → Result (Verdict × List ℕ) ℕ
verdict_at single bytes = do
  a ← word_at (version_text single) bytes
  b ← word_at (codes "verdict ") a
  kind_at verdict_text verdicts b

-- bound and splits
unfoldable pub numbers_at : List ℕ → Result ((ℕ × ℕ) × List ℕ) ℕ
numbers_at bytes = do
  a ← word_at (codes "\nbound ") bytes
  bound ← number_at 1 most_bound a
  b ← word_at (codes "\nsplits ") bound.1
  splits ← number_at 0 most_splits b
  Ok ((bound.0, splits.0), splits.1)

unfoldable pub table_part_at : LineData → List ℕ → Result (Option TimetableData × List ℕ) ℕ
table_part_at l bytes = do
  a ← word_at (codes "\ntimetable ") bytes
  timetable_at l a

unfoldable pub tree_part_at : Bool → List ℕ → Result (List Node × List ℕ) ℕ
tree_part_at single bytes = do
  a ← word_at (codes "tree\n") bytes
  tree ← tree_at single a
  rest ← word_at (codes "end\n") tree.1
  Ok (tree.0, rest)

unfoldable pub answer_at : LineData → List ℕ → Result (Answer × List ℕ) ℕ
answer_at l bytes = do
  verdict ← verdict_at (is_single l) bytes
  numbers ← numbers_at verdict.1
  timetable ← table_part_at l numbers.1
  tree ← tree_part_at (is_single l) timetable.1
  Ok (record { verdict = verdict.0; bound = numbers.0.0; splits = numbers.0.1; timetable = timetable.0; tree = tree.0 }, tree.1)
