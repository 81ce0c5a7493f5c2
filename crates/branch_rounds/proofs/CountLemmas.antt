-- An expansion makes a split of a node that is left, or a leaf.
use Rattle.std.proofs.Common.{◌≡◌, ℕ, ◌+◌, ◌<◌, List, ◌++◌, length, set, replicate, cond, refl, arith, Some, None}
use Rattle.std.proofs.lemmas.List.Sums.{sum_by-set, sum_by-append}
use Rattle.std.proofs.lemmas.List.Folds.{sum_by-replicate}
use Rattle.choice_tree.specs.declared.constraint.Constraint.{Constraint}
use Rattle.choice_tree.specs.declared.node.Node.{Node}
use Rattle.choice_tree.specs.declared.node.Node.TheVariants as nodes
use Rattle.choice_tree.specs.Nodes.{node_at, IsLeft, numbers_from}
use Rattle.node_expand.specs.declared.expanded.Expanded.{Expanded}
use Rattle.node_expand.specs.declared.expanded.Expanded.TheVariants.{Stuck, Closed, Solved, Split}
use Rattle.branch_rounds.specs.Grown.{result_at, split_count}
use Rattle.branch_rounds.specs.Counted.{is_split, split_nodes}

abbrev one_if_split : Node → ℕ
one_if_split n = cond (is_split n) 1 0

left_is_none : (n : Node) → IsLeft n → one_if_split n ≡ 0
left_is_none (nodes.Split question children) h = absurd h
left_is_none (nodes.Closed low high) h = absurd h
left_is_none (nodes.Stuck m) h = absurd h
left_is_none (nodes.Solved low) h = absurd h
left_is_none (nodes.Left low) h = refl

-- another node in the place of one that is left
set_counts : (tree : List Node) (i : ℕ) (n : Node) (count : ℕ) → i < length tree → IsLeft (node_at tree i)
    → one_if_split n ≡ count
    → split_nodes (set tree i n) ≡ split_nodes tree + count
set_counts tree i n count lt left is =
    omega (arith, sum_by-set one_if_split tree i n (nodes.Left None) lt, left_is_none (node_at tree i) left, is)

-- nodes that are left, behind the others
lefts_count : (tree : List Node) (count : ℕ) (low : List Constraint)
    → split_nodes (tree ++ replicate count (nodes.Left (Some low))) ≡ split_nodes tree
lefts_count tree count low =
    let lefts : List Node = replicate count (nodes.Left (Some low)) in
    omega (arith, sum_by-append one_if_split tree lefts, sum_by-replicate one_if_split count (nodes.Left (Some low)))

pub counted_on : (tree : List Node) (i : ℕ) (x : Expanded) → i < length tree → IsLeft (node_at tree i)
    → split_nodes (result_at tree i x) ≡ split_nodes tree + split_count x
counted_on tree i (Stuck m) lt left = set_counts tree i (nodes.Stuck m) 0 lt left refl
counted_on tree i (Closed low high) lt left = set_counts tree i (nodes.Closed low high) 0 lt left refl
counted_on tree i (Solved solved low) lt left = set_counts tree i (nodes.Solved low) 0 lt left refl
counted_on tree i (Split question children period low) lt left =
    let split = nodes.Split question (numbers_from (length tree) children) in
    omega (arith, lefts_count (set tree i split) children low, set_counts tree i split 1 lt left refl)
