use Rattle.std.proofs.Common.{◌≡◌, ℕ, ◌<◌, List, length, get_or, arith, ap, sym, subst, ◌∙◌}
use Rattle.std.proofs.lemmas.List.{get_or_default}
use Rattle.std.proofs.lemmas.List.Elements.{All-get_or}
use Rattle.choice_tree.specs.Nodes.{node_at, IsLeft}
use Rattle.choice_tree.specs.Trees.{preorder}
use Rattle.answer_text.proofs.OrderLemmas.{preorder_there}
use Rattle.cert_checker.proofs.DistinctLemmas.{preorder_short, place_of_node}
use Rattle.cert_checker.proofs.tree.first_left.Goals as goal

pub node-requires : goal.node-requires
node-requires c =
    let nodes = c.args.tree.now in
    let n = c.loop-number.number in
    let e = c.in_ok-order.ensures.order in
    let size = ap (λ (xs : List ℕ). length xs) e in
    let lt : n < length (preorder nodes) = omega (arith, size, c.loop-number-test.true, c.len-number-end.ensures) in
    let at : c.index.result.now ≡ get_or (preorder nodes) n 0 =
    c.index.ensures ∙ ap (λ (xs : List ℕ). get_or xs n c.index.result.now) e ∙ get_or_default (preorder nodes) n c.index.result.now 0 lt in
    omega (arith, at, All-get_or (λ j. j < length nodes) (preorder nodes) n 0 lt (preorder_there nodes c.in_ok-order.ensures.valid))

pub overflow_cast-result : goal.overflow_cast-result
overflow_cast-result c =
    let nodes = c.args.tree.now in
    let tree = c.in_ok-order.ensures.valid in
    let size = ap (λ (xs : List ℕ). length xs) c.in_ok-order.ensures.order in
    omega (arith, size, c.loop-number-test.true, c.len-number-end.ensures, preorder_short nodes tree, tree.small)

pub returns : goal.returns
returns c i lt left =
    let nodes = c.args.tree.now in
    let tree = c.in_ok-order.ensures.valid in
    let (n, there, is) = place_of_node nodes tree i lt in
    let size = ap (λ (xs : List ℕ). length xs) c.in_ok-order.ensures.order in
    let P : ℕ → Type 0 = λ k. IsLeft (node_at nodes k) in
    c.loop-number.invariant n (omega (arith, size, there, c.loop-number-test.false, c.len-number-end.ensures)) (there, subst P (sym is) left)
