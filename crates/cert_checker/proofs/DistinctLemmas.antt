-- The preorder of a tree has each node that a path leads to, and each node once.
use Rattle.std.proofs.Common.{⊎_elim, ◌≡◌, ℕ, zero, suc, ◌+◌, ◌<◌, ◌≤◌, List, [], ◌∷◌, ◌++◌, length, get_or, refl, sym, ◌∙◌, ap, subst, arith}
use Rattle.std.specs.Prelude.{Contains, flat_map}
use Rattle.std.proofs.lemmas.Bool.{cases_lt}
use Rattle.std.proofs.lemmas.List.{get_or_default, length-append}
use Rattle.std.proofs.lemmas.List.Elements.{Contains-append_cases, Contains-get_or, All-get_or}
use Rattle.choice_tree.specs.declared.question.Question.{Question}
use Rattle.choice_tree.specs.declared.question.Question.TheVariants.{Choose}
use Rattle.choice_tree.specs.declared.question.Decision.{Decision}
use Rattle.choice_tree.specs.declared.node.Node.{Node}
use Rattle.choice_tree.specs.declared.node.Node.TheVariants.{Split, Closed, Stuck, Solved, Left}
use Rattle.choice_tree.specs.Nodes.{node_at, children_of, IsChild, Branches, Leads, IsPathTo}
use Rattle.choice_tree.specs.Trees.{IsTree, preorder_below, preorder}
use Rattle.choice_tree.proofs.OrderLemmas.{below, below_step}
use Rattle.choice_tree.proofs.PathLemmas.{branch_later, one_path}
use Rattle.longest_path.proofs.Walks.{pigeonhole}
use Rattle.list_facts.proofs.Elements.{contains_first, contains_rest, contains_cases, contains_flat_map}
use Rattle.answer_text.proofs.OrderLemmas.{preorder_there}

-- ---- each node with a path is there

branch_there : (nodes : List Node) (k : ℕ) (d : Decision) (j : ℕ) → Branches nodes k d j
    → Contains (children_of (node_at nodes k)) j
branch_there nodes k d j b =
    let e : b.children ≡ children_of (node_at nodes k) = sym (ap children_of b.split) in
    let C : List ℕ → Type 0 = λ cs. Contains cs j in
    let at : Contains b.children (get_or b.children d.child 0) = Contains-get_or b.children d.child 0 b.there in
    let P : ℕ → Type 0 = λ n. Contains b.children n in
    subst C e (subst P b.child at)

pub reached : (nodes : List Node) → IsTree nodes → (k : ℕ) (ds : List Decision) (i : ℕ) → k < length nodes
    → Leads nodes k ds i → Contains (below nodes k) i
reached nodes tree k [] i lt e =
    let C : List ℕ → Type 0 = λ xs. Contains xs i in
    let P : ℕ → Type 0 = λ n. Contains (k ∷ flat_map (below nodes) (children_of (node_at nodes k))) n in
    subst C (sym (below_step nodes tree k lt)) (subst P e (contains_first k (flat_map (below nodes) (children_of (node_at nodes k)))))
reached nodes tree k (d ∷ ds) i lt (j, b, rest) =
    let C : List ℕ → Type 0 = λ xs. Contains xs i in
    let later = reached nodes tree j ds i (branch_later nodes k d j tree b).1 rest in
    subst C (sym (below_step nodes tree k lt))
    (contains_rest k i (flat_map (below nodes) (children_of (node_at nodes k)))
    (contains_flat_map (below nodes) (children_of (node_at nodes k)) j i (branch_there nodes k d j b) later))

-- ---- each node once

abbrev pub AreDistinct : List ℕ → Type 0
AreDistinct xs = (j k : ℕ) → j < k → k < length xs → get_or xs j 0 ≡ get_or xs k 0 → ⊥

distinct-cons : (x : ℕ) (xs : List ℕ) → (Contains xs x → ⊥) → AreDistinct xs → AreDistinct (x ∷ xs)
distinct-cons x xs none rest j zero lt below e = absurd (omega (arith, lt))
distinct-cons x xs none rest zero (suc k) lt below e =
    let P : ℕ → Type 0 = λ n. Contains xs n in
    none (subst P (sym e) (Contains-get_or xs k 0 (omega (arith, below))))
distinct-cons x xs none rest (suc j) (suc k) lt below e = rest j k (omega (arith, lt)) (omega (arith, below)) e

distinct-append : (xs ys : List ℕ) → AreDistinct xs → AreDistinct ys → ((x : ℕ) → Contains xs x → Contains ys x → ⊥)
    → AreDistinct (xs ++ ys)
distinct-append [] ys a b apart = b
distinct-append (x ∷ xs) ys a b apart =
    distinct-cons x (xs ++ ys)
    (λ c.
    ⊎_elim
    (λ (k, lt, e). a 0 (suc k) (omega arith) (omega (arith, lt)) (sym e ∙ get_or_default xs k x 0 lt))
    (λ r. apart x (contains_first x xs) r)
    (Contains-append_cases xs ys x c))
    (distinct-append xs ys (λ j k lt in_it e. a (suc j) (suc k) (omega (arith, lt)) (omega (arith, in_it)) e) b (λ y c d. apart y (contains_rest x y xs c) d))

in_flat_map : (f : ℕ → List ℕ) (xs : List ℕ) (y : ℕ) → Contains (flat_map f xs) y
    → (k : ℕ) × (k < length xs) × Contains (f (get_or xs k 0)) y
in_flat_map f [] y c = absurd (omega (arith, c.1))
in_flat_map f (x ∷ xs) y c =
    ⊎_elim
    (λ here. (0, omega arith, here))
    (λ later. let r = in_flat_map f xs y later in (suc r.0, omega (arith, r.1), r.2))
    (Contains-append_cases (f x) (flat_map f xs) y c)

-- the children of a node, from child m on
abbrev IsRow : List Node → ℕ → Question → ℕ → List ℕ → Type 0
IsRow nodes i question m cs = (k : ℕ) → k < length cs → Branches nodes i (record { question = question; child = m + k }) (get_or cs k 0)

-- a node branches by one question
whole_row : (nodes : List Node) (i : ℕ) (node : Node) → node_at nodes i ≡ node
    → (question : Question) × IsRow nodes i question 0 (children_of node)
whole_row nodes i (Split question children) e = (
  question,
  λ k lt. let z : 0 + k ≡ k = omega arith in
      record { children = children; split = e; there = omega (arith, lt); child = ap (λ (n : ℕ). get_or children n 0) z },
)
whole_row nodes i (Closed low high) e = (Choose (record { carrier = 0; stage = 0 }), λ k lt. absurd (omega (arith, lt)))
whole_row nodes i (Stuck m) e = (Choose (record { carrier = 0; stage = 0 }), λ k lt. absurd (omega (arith, lt)))
whole_row nodes i (Solved low) e = (Choose (record { carrier = 0; stage = 0 }), λ k lt. absurd (omega (arith, lt)))
whole_row nodes i (Left low) e = (Choose (record { carrier = 0; stage = 0 }), λ k lt. absurd (omega (arith, lt)))

-- the rest of a row
next_row : (nodes : List Node) (i : ℕ) (question : Question) (m c : ℕ) (cs : List ℕ) → IsRow nodes i question m (c ∷ cs)
    → IsRow nodes i question (m + 1) cs
next_row nodes i question m c cs row = λ k lt.
    let e : m + suc k ≡ m + 1 + k = omega arith in
    let P : ℕ → Type 0 = λ n. Branches nodes i (record { question = question; child = n }) (get_or cs k 0) in
    subst P e (row (suc k) (omega (arith, lt)))

-- what is below a node is reached from it
leads_to : (nodes : List Node) (depth i j : ℕ) → Contains (preorder_below depth nodes i) j
    → (ds : List Decision) × Leads nodes i ds j
leads_to nodes zero i j c = absurd (omega (arith, c.1))
leads_to nodes (suc depth) i j c =
    ⊎_elim
    (λ here. ([], here))
    (λ later.
    let (question, row) = whole_row nodes i (node_at nodes i) refl in
    let r = in_flat_map (preorder_below depth nodes) (children_of (node_at nodes i)) j later in
    let rest = leads_to nodes depth (get_or (children_of (node_at nodes i)) r.0 0) j r.2 in
    (record { question = question; child = 0 + r.0 } ∷ rest.0, (get_or (children_of (node_at nodes i)) r.0 0, row r.0 r.1, rest.1)))
    (contains_cases i j (flat_map (preorder_below depth nodes) (children_of (node_at nodes i))) c)

leads-append : (nodes : List Node) (i j k : ℕ) (ds es : List Decision) → Leads nodes i ds j → Leads nodes j es k
    → Leads nodes i (ds ++ es) k
leads-append nodes i j k [] es e rest = let P : ℕ → Type 0 = λ n. Leads nodes n es k in subst P (sym e) rest
leads-append nodes i j k (d ∷ ds) es (n, b, first) rest = (n, b, leads-append nodes n j k ds es first rest)

cancel : (p xs ys : List Decision) → p ++ xs ≡ p ++ ys → xs ≡ ys
cancel [] xs ys e = e
cancel (d ∷ p) xs ys e = let rest : p ++ xs ≡ p ++ ys = cc in cancel p xs ys rest

same_child : (d d' : Decision) (ds ds' : List Decision) → d ∷ ds ≡ d' ∷ ds' → d.child ≡ d'.child
same_child d d' ds ds' e = let same : d ≡ d' = cc in ap (λ (x : Decision). x.child) same

-- two children lead to different nodes
apart : (nodes : List Node) → IsTree nodes → (i j m n c c' : ℕ) (p : List Decision) (question : Question) (depth : ℕ)
    → IsPathTo nodes i p
    → Branches nodes i (record { question = question; child = m }) c
    → Branches nodes i (record { question = question; child = n }) c'
    → Contains (preorder_below depth nodes c) j → Contains (preorder_below depth nodes c') j → m ≡ n
apart nodes tree i j m n c c' p question depth lead b b' in_c in_c' =
    let first = leads_to nodes depth c j in_c in
    let second = leads_to nodes depth c' j in_c' in
    let d : Decision = record { question = question; child = m } in
    let d' : Decision = record { question = question; child = n } in
    let long = leads-append nodes 0 i j p (d ∷ first.0) lead (c, b, first.1) in
    let long' = leads-append nodes 0 i j p (d' ∷ second.0) lead (c', b', second.1) in
    same_child d d' first.0 second.0 (cancel p (d ∷ first.0) (d' ∷ second.0) (one_path nodes j (p ++ d ∷ first.0) (p ++ d' ∷ second.0) tree long long'))

-- no node is below itself
not_below : (nodes : List Node) → IsTree nodes → (i c : ℕ) (p : List Decision) (d : Decision) (depth : ℕ)
    → IsPathTo nodes i p → Branches nodes i d c
    → Contains (preorder_below depth nodes c) i → ⊥
not_below nodes tree i c p d depth lead b in_c =
    let rest = leads_to nodes depth c i in_c in
    let long = leads-append nodes 0 i i p (d ∷ rest.0) lead (c, b, rest.1) in
    let same = one_path nodes i p (p ++ d ∷ rest.0) tree lead long in
    omega (arith, ap (λ (xs : List Decision). length xs) same, length-append p (d ∷ rest.0))

mutual_row : (nodes : List Node) → IsTree nodes
    → (i m : ℕ) (p : List Decision) (question : Question) (depth : ℕ) (cs : List ℕ) → IsPathTo nodes i p
    → IsRow nodes i question m cs
    → ((c : ℕ) (q : List Decision) → IsPathTo nodes c q → AreDistinct (preorder_below depth nodes c))
    → AreDistinct (flat_map (preorder_below depth nodes) cs)
mutual_row nodes tree i m p question depth [] lead row each = λ j k lt in_it e. omega (arith, in_it)
mutual_row nodes tree i m p question depth (c ∷ cs) lead row each =
    let d : Decision = record { question = question; child = m + 0 } in
    let b : Branches nodes i d c = row 0 (omega arith) in
    distinct-append (preorder_below depth nodes c) (flat_map (preorder_below depth nodes) cs)
    (each c (p ++ d ∷ []) (leads-append nodes 0 i c p (d ∷ []) lead (c, b, refl)))
    (mutual_row nodes tree i (m + 1) p question depth cs lead (next_row nodes i question m c cs row) each)
    (λ x here later.
    let r = in_flat_map (preorder_below depth nodes) cs x later in
    let b' = next_row nodes i question m c cs row r.0 r.1 in
    omega (arith, apart nodes tree i x (m + 0) (m + 1 + r.0) c (get_or cs r.0 0) p question depth lead b b' here r.2))

distinct_below : (nodes : List Node) → IsTree nodes → (depth i : ℕ) (p : List Decision) → IsPathTo nodes i p
    → AreDistinct (preorder_below depth nodes i)
distinct_below nodes tree zero i p lead = λ j k lt in_it e. omega (arith, in_it)
distinct_below nodes tree (suc depth) i p lead =
    let (question, row) = whole_row nodes i (node_at nodes i) refl in
    let cs = children_of (node_at nodes i) in
    distinct-cons i (flat_map (preorder_below depth nodes) cs)
    (λ again.
    let r = in_flat_map (preorder_below depth nodes) cs i again in
    not_below nodes tree i (get_or cs r.0 0) p (record { question = question; child = 0 + r.0 }) depth lead (row r.0 r.1) r.2)
    (mutual_row nodes tree i 0 p question depth cs lead row (λ c q l. distinct_below nodes tree depth c q l))

pub preorder_distinct : (nodes : List Node) → IsTree nodes → AreDistinct (preorder nodes)
preorder_distinct nodes tree = distinct_below nodes tree (length nodes) 0 [] refl

-- so there are not more places than nodes
pub preorder_short : (nodes : List Node) → IsTree nodes → length (preorder nodes) ≤ length nodes
preorder_short nodes tree =
    ⊎_elim
    (λ long.
    let distinct = preorder_distinct nodes tree in
    let f : ℕ → ℕ = λ k. get_or (preorder nodes) k 0 in
    let there : (k : ℕ) → k ≤ length nodes → f k < length nodes =
    λ k le. All-get_or (λ j. j < length nodes) (preorder nodes) k 0 (omega (arith, le, long)) (preorder_there nodes tree) in
    let r = pigeonhole (length nodes) f there in
    absurd (distinct r.0 r.1 r.2 (omega (arith, r.3, long)) r.4))
    (λ le. le)
    (cases_lt (length nodes) (length (preorder nodes)))

-- ---- each node has a path, and so its place

child_branch : (nodes : List Node) (i m j : ℕ) → IsChild nodes i m j → (d : Decision) × Branches nodes i d j
child_branch nodes i m j h =
    let (question, row) = whole_row nodes i (node_at nodes i) refl in
    let d : Decision = record { question = question; child = 0 + m } in
    let P : ℕ → Type 0 = λ n. Branches nodes i d n in
    (d, subst P h.child (row m h.there))

path_below : (nodes : List Node) → IsTree nodes → (most i : ℕ) → i ≤ most → i < length nodes
    → (p : List Decision) × IsPathTo nodes i p
path_below nodes tree most zero le lt = ([], refl)
path_below nodes tree zero (suc i) le lt = absurd (omega (arith, le))
path_below nodes tree (suc most) (suc i) le lt =
    let (k, m, child) = tree.has_parent (suc i) (omega arith) lt in
    let later = tree.later k m (suc i) child in
    let (d, b) = child_branch nodes k m (suc i) child in
    let (p, lead) = path_below nodes tree most k (omega (arith, le, later.0)) (omega (arith, later.0, lt)) in
    (p ++ d ∷ [], leads-append nodes 0 k (suc i) p (d ∷ []) lead (suc i, b, refl))

-- the place of a node in preorder
pub place_of_path : (nodes : List Node) → IsTree nodes → (i : ℕ) (p : List Decision) → IsPathTo nodes i p
    → (n : ℕ) × (n < length (preorder nodes)) × (get_or (preorder nodes) n 0 ≡ i)
place_of_path nodes tree i p lead =
    let (n, lt, e) = reached nodes tree 0 p i tree.root lead in
    (n, lt, get_or_default (preorder nodes) n 0 i lt ∙ e)

pub place_of_node : (nodes : List Node) → IsTree nodes → (i : ℕ) → i < length nodes
    → (n : ℕ) × (n < length (preorder nodes)) × (get_or (preorder nodes) n 0 ≡ i)
place_of_node nodes tree i lt =
    let (p, lead) = path_below nodes tree i i (omega arith) lt in
    place_of_path nodes tree i p lead
