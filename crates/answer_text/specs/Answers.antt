-- The text of an answer, and the answers that have one.
use Rattle.std.specs.Prelude.{ℕ, ◌≤◌, ◌<◌, List, ◌++◌, codes, decimal, length, get_or, MatchOption, ⊤}
use Rattle.hoist_base.specs.LineData.{LineData, is_single}
use Rattle.timetable.specs.TimetableData.{TimetableData, IsTimetableOf}
use Rattle.choice_tree.specs.Nodes.{node_at}
use Rattle.answer_text.specs.declared.answer.Answer.{Answer}
use Rattle.answer_text.specs.Limits.{most_bound, most_splits, most_position}
use Rattle.answer_text.specs.Words.{version_text, verdict_text}
use Rattle.answer_text.specs.Nodes.{tree_text, IsNodeText}
use Rattle.answer_text.specs.Tables.{timetable_text}

-- the one text of an answer
abbrev pub answer_text : LineData → Answer → List ℕ
answer_text l a =
    version_text (is_single l)
    ++ (codes "verdict "
    ++ (verdict_text a.verdict
    ++ (codes "\nbound "
    ++ (decimal a.bound
    ++ (codes "\nsplits "
    ++ (decimal a.splits
    ++ (codes "\ntimetable "
    ++ (timetable_text l a.timetable
    ++ (codes "tree\n"
    ++ (tree_text (is_single l) a.tree
    ++ codes "end\n"))))))))))

-- a position that a text may name
abbrev pub HasSmallPath : TimetableData → Type 0
HasSmallPath d = (i : ℕ) → get_or d.path i 0 ≤ most_position

-- the answer has a text for the line: its lengths fit the line, and its numbers are those that a text may name
pub record IsWritable (l : LineData) (a : Answer) : Type 0 where
  pub bound : (1 ≤ a.bound) × (a.bound ≤ most_bound)
  pub splits : a.splits ≤ most_splits
  pub timetable : MatchOption a.timetable ⊤ (λ d. IsTimetableOf l d × HasSmallPath d)
  pub nodes : (i : ℕ) → i < length a.tree → IsNodeText (is_single l) (node_at a.tree i)
