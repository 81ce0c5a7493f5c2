-- What a search comes to, for whoever calls it.
use Rattle.std.specs.Prelude.{◌≡◌, ℕ, ◌≤◌, ◌<◌, length, IfSome}
use Rattle.hoist_base.specs.LineData.{LineData, is_single}
use Rattle.hoist_base.specs.Valid.{IsLine}
use Rattle.line_model.specs.Legal.{NoneBelow}
use Rattle.longest_path.specs.Bounds.{IsWithinCap}
use Rattle.choice_tree.specs.Nodes.{node_at, NoneLeft, SomeLeft}
use Rattle.choice_tree.specs.Trees.{IsTree}
use Rattle.path_constraints.specs.Proves.{Proves}
use Rattle.node_expand.specs.Plannable.{IsPlannable}
use Rattle.enough_budget.specs.Depth.{enough_budget}
use Rattle.answer_text.specs.Nodes.{IsNodeText}
use Rattle.branch_rounds.specs.declared.outcome.Outcome.{Outcome}
use Rattle.branch_rounds.specs.Grown.{cap_of, IsGrown}
use Rattle.branch_rounds.specs.Counted.{split_nodes}

-- The rounds of the line within the budget lead to the outcome. Its tree proves its bound, so that no legal timetable
-- has a smaller period, and its best can be planned. Where nothing is left, the bound is the best's period, or one more
-- than the greatest period where there is no best; where something is left, the budget is spent. A budget that is
-- enough for the line leaves nothing.
pub record IsSearched (l : LineData) (budget : ℕ) (o : Outcome) : Type 0 where
  pub grown : IsGrown l budget o
  pub valid : IsLine l
  pub tree : IsTree o.tree
  pub texts : (i : ℕ) → i < length o.tree → IsNodeText (is_single l) (node_at o.tree i)
  pub proves : Proves l o.tree o.bound
  pub none_below : NoneBelow l o.bound
  pub best : IfSome o.best (λ s. IsPlannable l s × (s.period ≤ l.max_period))
  pub bound : (1 ≤ o.bound) × (o.bound ≤ cap_of l o.best) × IsWithinCap o.bound
  pub whole : o.left ≡ 0 → o.bound ≡ cap_of l o.best
  pub none_left : o.left ≡ 0 → NoneLeft o.tree
  pub some_left : 0 < o.left → SomeLeft o.tree
  pub spent : 0 < o.left → o.splits ≡ budget
  pub enough : enough_budget l ≤ budget → o.left ≡ 0
  pub splits : o.splits ≤ budget
  pub splits_counted : split_nodes o.tree ≡ o.splits
