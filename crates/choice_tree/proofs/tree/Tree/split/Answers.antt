use Rattle.std.proofs.Common.{rules, ◌≡◌, ◌+◌, ◌^◌, ◌<◌, ◌++◌, List, length, subst, sym}
use Rattle.choice_tree.specs.declared.node.Node.{Node}
use Rattle.choice_tree.specs.declared.tree.Origin.{Origin}
use Rattle.choice_tree.specs.Nodes.{node_at, IsLeft, split_at}
use Rattle.choice_tree.specs.Trees.{IsTree}
use Rattle.choice_tree.specs.Origins.{HasOrigins}
use Rattle.choice_tree.proofs.SplitLemmas.{split_is_tree, split_has_origins}
use Rattle.choice_tree.proofs.tree.Tree.split.Goals as goal

pub invariant_of-self-2 : goal.invariant_of-self-2
invariant_of-self-2 c =
    let nodes = c.self.inside.nodes.items in
    let There : List Node → Type 0 = λ xs. c.args.node < length xs in
    let IsOpen : List Node → Type 0 = λ xs. IsLeft (node_at xs c.args.node) in
    let Fits : List Node → Type 0 = λ xs. length xs + c.args.children < 2 ^ 32 in
    let there = subst There (sym c.self.view_is) c.requires.there in
    let left = subst IsOpen (sym c.self.view_is) c.requires.left in
    let room = subst Fits (sym c.self.view_is) c.requires.room in
    let grown : c.append.new.self.items ≡ split_at nodes c.args.node c.args.question c.args.children c.args.low.now = search rules in
    let more : c.append-2.new.self.items ≡ c.self.inside.origins.items ++ c.in_ok-origins.origins.items = search rules in
    let T : List Node → Type 0 = λ xs. IsTree xs in
    let O : List Node → Type 0 = λ xs. HasOrigins xs c.append-2.new.self.items in
    let P : List Origin → Type 0 = λ os. HasOrigins (split_at nodes c.args.node c.args.question c.args.children c.args.low.now) os in (
      subst T (sym grown) (split_is_tree _ _ _ _ _ c.self.invariant.0 there left c.requires.few room),
      subst O (sym grown) (subst P (sym more) (split_has_origins _ _ _ _ _ _ _ c.self.invariant.1 c.in_ok-origins.ensures there left)),
    )

pub returns-clause-valid : goal.returns-clause-valid
returns-clause-valid c =
    let nodes = c.self.inside.nodes.items in
    let There : List Node → Type 0 = λ xs. c.args.node < length xs in
    let IsOpen : List Node → Type 0 = λ xs. IsLeft (node_at xs c.args.node) in
    let Fits : List Node → Type 0 = λ xs. length xs + c.args.children < 2 ^ 32 in
    let there = subst There (sym c.self.view_is) c.requires.there in
    let left = subst IsOpen (sym c.self.view_is) c.requires.left in
    let room = subst Fits (sym c.self.view_is) c.requires.room in
    let grown : c.append.new.self.items ≡ split_at nodes c.args.node c.args.question c.args.children c.args.low.now = search rules in
    let T : List Node → Type 0 = λ xs. IsTree xs in
    subst T (sym grown) (split_is_tree _ _ _ _ _ c.self.invariant.0 there left c.requires.few room)
