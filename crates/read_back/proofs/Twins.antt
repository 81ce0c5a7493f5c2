-- Trees that say the same have the same paths, and their nodes say the same.
use Rattle.std.proofs.Common.{None, ◌≡◌, ℕ, ◌<◌, List, [], ◌∷◌, ◌++◌, length, get_or, map, refl, sym, ap, subst, ◌∙◌, arith}
use Rattle.std.specs.List.{AllZip}
use Rattle.std.proofs.lemmas.List.{get_or-map, length-map}
use Rattle.std.proofs.lemmas.List.Elements.{AllZip-get_or, All-get_or}
use Rattle.hoist_base.specs.LineData.{LineData}
use Rattle.choice_tree.specs.declared.question.Decision.{Decision}
use Rattle.choice_tree.specs.declared.node.Node.{Node}
use Rattle.choice_tree.specs.declared.node.Node.TheVariants.{Split, Left}
use Rattle.choice_tree.specs.Nodes.{node_at, children_of, Branches, Leads, NoneLeft, SomeLeft}
use Rattle.choice_tree.specs.Trees.{IsTree, preorder}
use Rattle.choice_tree.proofs.PathLemmas.{branch_later}
use Rattle.path_constraints.specs.Proves.{Proves}
use Rattle.answer_text.proofs.OrderLemmas.{preorder_there}
use Rattle.answer_read.proofs.Orders.{Visits, visits_all}
use Rattle.cert_checker.proofs.DistinctLemmas.{place_of_node}
use Rattle.answer_read.specs.Same.{unnumbered, said}
use Rattle.read_back.proofs.Nodes.{same_count, split_said, same_left, same_shows}

-- the nodes say the same
abbrev Says : List Node → List Node → ℕ → ℕ → Type 0
Says nodes others i j = unnumbered (node_at nodes i) ≡ unnumbered (node_at others j)

-- the decisions that lead on from node i lead from node j of the other tree too, to nodes that say the same
abbrev Follows : List Node → List Node → ℕ → ℕ → Type 0
Follows nodes others i j = (ds : List Decision) (k : ℕ) → Leads nodes i ds k → (m : ℕ) × Leads others j ds m × Says nodes others k m

follows : (nodes others : List Node) (i j : ℕ) → Says nodes others i j
    → AllZip (Follows nodes others) (children_of (node_at nodes i)) (children_of (node_at others j))
    → Follows nodes others i j
follows nodes others i j says kids [] k e =
    let S : ℕ → Type 0 = λ n. Says nodes others n j in
    (j, refl, subst S e says)
follows nodes others i j says kids (d ∷ ds) k (c, b, rest) =
    let cs = children_of (node_at nodes i) in
    let others_cs = children_of (node_at others j) in
    let mine : b.children ≡ cs = sym (ap children_of b.split) in
    let there : d.child < length cs = omega (arith, b.there, ap (λ (xs : List ℕ). length xs) mine) in
    let at : c ≡ get_or cs d.child 0 = sym b.child ∙ ap (λ (xs : List ℕ). get_or xs d.child 0) mine in
    let L : ℕ → Type 0 = λ n. Leads nodes n ds k in
    let r = AllZip-get_or (Follows nodes others) cs others_cs d.child 0 0 kids there ds k (subst L at rest) in
    let split : node_at others j ≡ Split d.question others_cs =
    split_said (node_at others j) d.question _ (sym says ∙ ap unnumbered b.split) in
    let branch : Branches others j d (get_or others_cs d.child 0) = record {
      children = others_cs;
      split = split;
      there = omega (arith, there, same_count (node_at nodes i) (node_at others j) says);
      child = refl;
    } in
    (r.0, (get_or others_cs d.child 0, branch, r.1), r.2)

zip_cut : {X : Type 0} (R : X → X → Type 0) (xs ys ws vs : List X) → length xs ≡ length ys
    → AllZip R (xs ++ ws) (ys ++ vs) → AllZip R xs ys × AllZip R ws vs
zip_cut R [] [] ws vs e h = (tt, h)
zip_cut R [] (y ∷ ys) ws vs e h = absurd (omega (arith, e))
zip_cut R (x ∷ xs) [] ws vs e h = absurd (omega (arith, e))
zip_cut R (x ∷ xs) (y ∷ ys) ws vs e h =
    let r = zip_cut R xs ys ws vs (omega (arith, e)) h.1 in
    ((h.0, r.0), r.1)

-- what is said of nodes in an order
abbrev said_in : List Node → List ℕ → List Node
said_in nodes order = map (λ i. unnumbered (node_at nodes i)) order

all_follow : (nodes others : List Node) (waiting order others_waiting others_order : List ℕ)
    → Visits nodes waiting order
    → Visits others others_waiting others_order → said_in nodes order ≡ said_in others others_order
    → AllZip (Follows nodes others) waiting others_waiting
all_follow nodes others [] [] [] [] v w e = tt
all_follow nodes others [] [] [] (y ∷ ys) v w e = absurd w
all_follow nodes others [] [] (j ∷ js) [] v w e = absurd cc
all_follow nodes others [] [] (j ∷ js) (y ∷ ys) v w e = absurd cc
all_follow nodes others [] (x ∷ xs) js ys v w e = absurd v
all_follow nodes others (i ∷ is) [] js ys v w e = absurd cc
all_follow nodes others (i ∷ is) (x ∷ xs) [] [] v w e = absurd cc
all_follow nodes others (i ∷ is) (x ∷ xs) [] (y ∷ ys) v w e = absurd w
all_follow nodes others (i ∷ is) (x ∷ xs) (j ∷ js) [] v w e = absurd cc
all_follow nodes others (i ∷ is) (x ∷ xs) (j ∷ js) (y ∷ ys) v w e =
    let both : unnumbered (node_at nodes x) ∷ said_in nodes xs ≡ unnumbered (node_at others y) ∷ said_in others ys = e in
    let head : unnumbered (node_at nodes x) ≡ unnumbered (node_at others y) = cc in
    let tail : said_in nodes xs ≡ said_in others ys = cc in
    let says : Says nodes others i j =
    ap (λ (n : ℕ). unnumbered (node_at nodes n)) (sym v.0) ∙ head ∙ ap (λ (n : ℕ). unnumbered (node_at others n)) w.0 in
    let cs = children_of (node_at nodes i) in
    let others_cs = children_of (node_at others j) in
    let r =
    zip_cut (Follows nodes others) cs others_cs is js (same_count (node_at nodes i) (node_at others j) says)
    (all_follow nodes others (cs ++ is) xs (others_cs ++ js) ys v.2 w.2 tail) in
    (follows nodes others i j says r.0, r.1)

follows_all : (nodes others : List Node) → IsTree nodes → IsTree others → said nodes ≡ said others
    → Follows nodes others 0 0
follows_all nodes others tree twin e =
    (all_follow nodes others (0 ∷ []) (preorder nodes) (0 ∷ []) (preorder others) (visits_all nodes tree) (visits_all others twin) e).0

-- ---- what both show

leads_there : (nodes : List Node) → IsTree nodes → (i : ℕ) (ds : List Decision) (k : ℕ) → i < length nodes
    → Leads nodes i ds k → k < length nodes
leads_there nodes tree i [] k lt e = omega (arith, lt, e)
leads_there nodes tree i (d ∷ ds) k lt (c, b, rest) = leads_there nodes tree c ds k (branch_later nodes i d c tree b).1 rest

pub proves_too : (l : LineData) (bound : ℕ) (nodes others : List Node) → IsTree nodes → IsTree others
    → said nodes ≡ said others → Proves l nodes bound
    → Proves l others bound
proves_too l bound nodes others tree twin e proves i path lt leads =
    let (k, back, says) = follows_all others nodes twin tree (sym e) path i leads in
    same_shows l path bound (node_at nodes k) (node_at others i) (sym says) (proves k path (leads_there nodes tree 0 path k tree.root back) back)

-- what is said at a place of the preorder
said_at : (nodes : List Node) (n : ℕ) → n < length (preorder nodes)
    → get_or (said nodes) n (Left None) ≡ unnumbered (node_at nodes (get_or (preorder nodes) n 0))
said_at nodes n lt = get_or-map (λ (i : ℕ). unnumbered (node_at nodes i)) (preorder nodes) n 0 (Left None) lt

-- a node of the one has a twin
twin_of : (nodes others : List Node) → IsTree nodes → IsTree others → said nodes ≡ said others → (i : ℕ)
    → i < length nodes
    → (j : ℕ) × (j < length others) × Says nodes others i j
twin_of nodes others tree twin e i lt =
    let (n, there, is) = place_of_node nodes tree i lt in
    let sizes : length (preorder nodes) ≡ length (preorder others) =
    sym (length-map (preorder nodes) (λ (k : ℕ). unnumbered (node_at nodes k))) ∙ ap (λ (xs : List Node). length xs) e
    ∙ length-map (preorder others) (λ (k : ℕ). unnumbered (node_at others k)) in
    let too : n < length (preorder others) = omega (arith, there, sizes) in (
      get_or (preorder others) n 0,
      All-get_or (λ k. k < length others) (preorder others) n 0 too (preorder_there others twin),
      ap (λ (k : ℕ). unnumbered (node_at nodes k)) (sym is) ∙ sym (said_at nodes n there) ∙ ap (λ (xs : List Node). get_or xs n (Left None)) e
          ∙ said_at others n too,
    )

pub none_left_too : (nodes others : List Node) → IsTree nodes → IsTree others → said nodes ≡ said others
    → NoneLeft nodes → NoneLeft others
none_left_too nodes others tree twin e none i lt left =
    let (j, there, says) = twin_of others nodes twin tree (sym e) i lt in
    none j there (same_left (node_at others i) (node_at nodes j) says left)

pub some_left_too : (nodes others : List Node) → IsTree nodes → IsTree others → said nodes ≡ said others
    → SomeLeft nodes → SomeLeft others
some_left_too nodes others tree twin e (i, lt, left) =
    let (j, there, says) = twin_of nodes others tree twin e i lt in
    (j, there, same_left (node_at nodes i) (node_at others j) says left)
