use Rattle.std.proofs.Common.{◌<◌, List, length, subst, sym}
use Rattle.choice_tree.specs.declared.node.Node.{Node}
use Rattle.choice_tree.specs.Nodes.{node_at, IsLeft}
use Rattle.choice_tree.proofs.SplitLemmas.{end_is_tree, end_has_origins}
use Rattle.choice_tree.proofs.tree.Tree.end.Goals as goal

pub invariant_of-self : goal.invariant_of-self
invariant_of-self c =
    let There : List Node → Type 0 = λ xs. c.args.node < length xs in
    let IsOpen : List Node → Type 0 = λ xs. IsLeft (node_at xs c.args.node) in
    let there = subst There (sym c.self.view_is) c.requires.there in
    let left = subst IsOpen (sym c.self.view_is) c.requires.left in (
      end_is_tree _ _ _ c.self.invariant.0 there left c.requires.leaf,
      end_has_origins _ _ _ _ c.self.invariant.1 left,
    )

pub returns-clause-valid : goal.returns-clause-valid
returns-clause-valid c =
    let There : List Node → Type 0 = λ xs. c.args.node < length xs in
    let IsOpen : List Node → Type 0 = λ xs. IsLeft (node_at xs c.args.node) in
    let there = subst There (sym c.self.view_is) c.requires.there in
    let left = subst IsOpen (sym c.self.view_is) c.requires.left in
    end_is_tree _ _ _ c.self.invariant.0 there left c.requires.leaf
