-- The preorder names nodes of the tree.
use Rattle.std.proofs.Common.{ℕ, zero, suc, ◌<◌, List, [], ◌∷◌, length, get_or, arith, refl}
use Rattle.std.specs.List.{flat_map, All}
use Rattle.std.proofs.lemmas.List.Elements.{All-append, All-cons, All-get_or, All-from_get_or}
use Rattle.choice_tree.specs.declared.node.Node.{Node}
use Rattle.choice_tree.specs.Nodes.{node_at, children_of}
use Rattle.choice_tree.specs.Trees.{IsTree, preorder_below, preorder}

-- what holds of all parts holds of them joined
all_joined : (P : ℕ → Type 0) (f : ℕ → List ℕ) (xs : List ℕ) → All (λ x. All P (f x)) xs → All P (flat_map f xs)
all_joined P f [] h = All-from_get_or P [] 0 (λ i lt. absurd (omega (arith, lt)))
all_joined P f (x ∷ xs) h =
    All-append P (f x) (flat_map f xs) (All-get_or (λ y. All P (f y)) (x ∷ xs) 0 x (omega arith) h)
    (all_joined P f xs (All-from_get_or (λ y. All P (f y)) xs 0 (λ i lt. All-get_or (λ y. All P (f y)) (x ∷ xs) (suc i) 0 (omega (arith, lt)) h)))

child_there : (nodes : List Node) (i m : ℕ) → IsTree nodes → m < length (children_of (node_at nodes i))
    → get_or (children_of (node_at nodes i)) m 0 < length nodes
child_there nodes i m tree there =
    (tree.later i m (get_or (children_of (node_at nodes i)) m 0) (record { there = there; child = refl })).1

below_there : (nodes : List Node) (depth i : ℕ) → IsTree nodes → i < length nodes
    → All (λ j. j < length nodes) (preorder_below depth nodes i)
below_there nodes zero i tree lt = All-from_get_or (λ j. j < length nodes) [] 0 (λ k past. absurd (omega (arith, past)))
below_there nodes (suc depth) i tree lt =
    let kids = children_of (node_at nodes i) in
    All-cons (λ j. j < length nodes) i (flat_map (preorder_below depth nodes) kids) lt
    (all_joined (λ j. j < length nodes) (preorder_below depth nodes) kids
    (All-from_get_or (λ k. All (λ j. j < length nodes) (preorder_below depth nodes k)) kids 0
    (λ m there. below_there nodes depth (get_or kids m 0) tree (child_there nodes i m tree there))))

pub preorder_there : (nodes : List Node) → IsTree nodes → All (λ j. j < length nodes) (preorder nodes)
preorder_there nodes tree = below_there nodes (length nodes) 0 tree tree.root
