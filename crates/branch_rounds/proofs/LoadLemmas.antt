-- How many splits a tree can have that goes no deeper than so many levels, with so many children a split at most.
use Rattle.std.proofs.Common.{◌≡◌, ℕ, zero, suc, ◌+◌, ◌-◌, ◌*◌, ◌^◌, ◌<◌, ◌≤◌, List, [], ◌∷◌, ◌++◌, length, set, replicate, cond, refl, ◌∙◌, ap, arith, Some, nat_lt, if◌then◌else◌}
use Rattle.std.proofs.lemmas.Bool.{cond-true, cond-false, lt-ltb, le-ltb}
use Rattle.std.proofs.lemmas.List.{length-set}
use Rattle.std.proofs.lemmas.List.Sums.{sum_by-cons}
use Rattle.std.proofs.lemmas.Nat.{mul-le}
use Rattle.std.proofs.Math.Nat.{pow-zero, pow-succ'}
use Rattle.choice_tree.specs.declared.question.Question.{Question}
use Rattle.choice_tree.specs.declared.constraint.Constraint.{Constraint}
use Rattle.choice_tree.specs.declared.node.Node.{Node}
use Rattle.choice_tree.specs.declared.node.Node.TheVariants as nodes
use Rattle.choice_tree.specs.Nodes.{node_at, IsLeft, numbers_from, split_at}
use Rattle.branch_rounds.specs.Counted.{is_split, split_nodes}

-- the most splits below a node from which the tree goes so many levels down
abbrev pub most_splits : ℕ → ℕ → ℕ
most_splits wide zero = 0
most_splits wide (suc levels) = 1 + wide * most_splits wide levels

pub fewer_splits : (wide levels : ℕ) → 2 ≤ wide → most_splits wide levels < wide ^ levels
fewer_splits wide zero two = omega (arith, pow-zero wide)
fewer_splits wide (suc levels) two =
    let more = mul-le wide (most_splits wide levels + 1) wide (wide ^ levels) (omega arith) (omega (arith, fewer_splits wide levels two)) in
    omega (arith, two, more, pow-succ' wide levels)

-- ---- the splits of a tree, and those that may come

-- one for a split, and for a node that is left at this depth the most that may come below it
abbrev room : ℕ → ℕ → ℕ → Node → ℕ
room wide levels depth (nodes.Split question children) = 1
room wide levels depth (nodes.Closed low high) = 0
room wide levels depth (nodes.Stuck m) = 0
room wide levels depth (nodes.Solved low) = 0
room wide levels depth (nodes.Left low) = most_splits wide (levels - depth)

-- of all nodes; the first has this number, and nodes have their depths by their numbers
abbrev pub load : ℕ → ℕ → (ℕ → ℕ) → ℕ → List Node → ℕ
load wide levels depth first [] = 0
load wide levels depth first (n ∷ ns) = room wide levels (depth first) n + load wide levels depth (first + 1) ns

one_room : (wide levels depth : ℕ) (n : Node) → cond (is_split n) 1 0 ≤ room wide levels depth n
one_room wide levels depth (nodes.Split question children) = omega arith
one_room wide levels depth (nodes.Closed low high) = omega arith
one_room wide levels depth (nodes.Stuck m) = omega arith
one_room wide levels depth (nodes.Solved low) = omega arith
one_room wide levels depth (nodes.Left low) = omega arith

pub splits_loaded : (wide levels : ℕ) (depth : ℕ → ℕ) (first : ℕ) (ns : List Node)
    → split_nodes ns ≤ load wide levels depth first ns
splits_loaded wide levels depth first [] = omega arith
splits_loaded wide levels depth first (n ∷ ns) =
    omega (
      arith,
      sum_by-cons (λ (m : Node). cond (is_split m) 1 0) n ns,
      one_room wide levels (depth first) n,
      splits_loaded wide levels depth (first + 1) ns,
    )

-- another node in the place of one
load_set : (wide levels : ℕ) (depth : ℕ → ℕ) (first : ℕ) (ns : List Node) (i : ℕ) (n : Node) → i < length ns
    → load wide levels depth first (set ns i n) + room wide levels (depth (first + i)) (node_at ns i)
    ≡ load wide levels depth first ns + room wide levels (depth (first + i)) n
load_set wide levels depth first [] i n lt = absurd (omega (arith, lt))
load_set wide levels depth first (m ∷ ms) zero n lt =
    let e : first + 0 ≡ first = omega arith in
    let F : ℕ → ℕ = λ k. room wide levels (depth k) n in
    let G : ℕ → ℕ = λ k. room wide levels (depth k) m in
    omega (arith, ap F e, ap G e)
load_set wide levels depth first (m ∷ ms) (suc i) n lt =
    let e : first + suc i ≡ first + 1 + i = omega arith in
    let F : ℕ → ℕ = λ k. room wide levels (depth k) n in
    let G : ℕ → ℕ = λ k. room wide levels (depth k) (node_at ms i) in
    omega (arith, ap F e, ap G e, load_set wide levels depth (first + 1) ms i n (omega (arith, lt)))

load-append : (wide levels : ℕ) (depth : ℕ → ℕ) (first : ℕ) (ns ms : List Node)
    → load wide levels depth first (ns ++ ms) ≡ load wide levels depth first ns + load wide levels depth (first + length ns) ms
load-append wide levels depth first [] ms =
    let e : first ≡ first + 0 = omega arith in
    omega (arith, ap (λ (k : ℕ). load wide levels depth k ms) e)
load-append wide levels depth first (n ∷ ns) ms =
    let e : first + 1 + length ns ≡ first + suc (length ns) = omega arith in
    omega (arith, load-append wide levels depth (first + 1) ns ms, ap (λ (k : ℕ). load wide levels depth k ms) e)

-- depths that are the same for these nodes
load_same : (wide levels : ℕ) (depth other : ℕ → ℕ) (first : ℕ) (ns : List Node)
    → ((j : ℕ) → first ≤ j → j < first + length ns → depth j ≡ other j)
    → load wide levels depth first ns ≡ load wide levels other first ns
load_same wide levels depth other first [] same = refl
load_same wide levels depth other first (n ∷ ns) same =
    omega (
      arith,
      ap (λ (d : ℕ). room wide levels d n) (same first (omega arith) (omega arith)),
      load_same wide levels depth other (first + 1) ns (λ j from to. same j (omega (arith, from)) (omega (arith, to))),
    )

-- nodes that are left, all at one depth
load_lefts : (wide levels : ℕ) (depth : ℕ → ℕ) (first count d : ℕ) (low : List Constraint)
    → ((j : ℕ) → first ≤ j → depth j ≡ d)
    → load wide levels depth first (replicate count (nodes.Left (Some low))) ≡ count * most_splits wide (levels - d)
load_lefts wide levels depth first zero d low same = omega arith
load_lefts wide levels depth first (suc count) d low same =
    omega (
      arith,
      ap (λ (k : ℕ). most_splits wide (levels - k)) (same first (omega arith)),
      load_lefts wide levels depth (first + 1) count d low (λ j from. same j (omega (arith, from))),
    )

left_room : (wide levels depth : ℕ) (n : Node) → IsLeft n → room wide levels depth n ≡ most_splits wide (levels - depth)
left_room wide levels depth (nodes.Split question children) h = absurd h
left_room wide levels depth (nodes.Closed low high) h = absurd h
left_room wide levels depth (nodes.Stuck m) h = absurd h
left_room wide levels depth (nodes.Solved low) h = absurd h
left_room wide levels depth (nodes.Left low) h = refl

-- ---- an expansion

-- the depths where nodes from a number on are one deeper than node i
abbrev pub deeper : (ℕ → ℕ) → ℕ → ℕ → ℕ → ℕ
deeper depth count i j = if nat_lt j count then depth j else depth i + 1

pub deeper_old : (depth : ℕ → ℕ) (count i j : ℕ) → j < count → deeper depth count i j ≡ depth j
deeper_old depth count i j lt = cond-true (nat_lt j count) (depth j) (depth i + 1) (lt-ltb j count lt)

pub deeper_new : (depth : ℕ → ℕ) (count i j : ℕ) → count ≤ j → deeper depth count i j ≡ depth i + 1
deeper_new depth count i j le = cond-false (nat_lt j count) (depth j) (depth i + 1) (le-ltb j count le)

-- a node that is left becomes one that takes no more room
load_end : (wide levels : ℕ) (depth : ℕ → ℕ) (tree : List Node) (i : ℕ) (n : Node) → i < length tree
    → load wide levels (deeper depth (length tree) i) 0 (set tree i n) + room wide levels (depth i) (node_at tree i)
    ≡ load wide levels depth 0 tree + room wide levels (depth i) n
load_end wide levels depth tree i n lt =
    let same =
    load_same wide levels (deeper depth (length tree) i) depth 0 (set tree i n)
    (λ j from to. deeper_old depth (length tree) i j (omega (arith, to, length-set tree i n))) in
    let e : 0 + i ≡ i = omega arith in
    let F : ℕ → ℕ = λ k. room wide levels (depth k) n in
    let G : ℕ → ℕ = λ k. room wide levels (depth k) (node_at tree i) in
    omega (arith, same, ap F e, ap G e, load_set wide levels depth 0 tree i n lt)

pub load_leaf : (wide levels : ℕ) (depth : ℕ → ℕ) (tree : List Node) (i : ℕ) (n : Node) → i < length tree
    → room wide levels (depth i) n ≡ 0
    → load wide levels (deeper depth (length tree) i) 0 (set tree i n) ≤ load wide levels depth 0 tree
load_leaf wide levels depth tree i n lt none = omega (arith, load_end wide levels depth tree i n lt, none)

-- it becomes a split, above the last level and with few children
pub load_split : (wide levels : ℕ) (depth : ℕ → ℕ) (tree : List Node) (i : ℕ) (question : Question) (count : ℕ) (low : List Constraint)
    → i < length tree
    → IsLeft (node_at tree i) → depth i < levels → count ≤ wide
    → load wide levels (deeper depth (length tree) i) 0 (split_at tree i question count low) ≤ load wide levels depth 0 tree
load_split wide levels depth tree i question count low lt left above few =
    let split = nodes.Split question (numbers_from (length tree) count) in
    let lefts : List Node = replicate count (nodes.Left (Some low)) in
    let new = deeper depth (length tree) i in
    let d = depth i + 1 in
    let down : levels - depth i ≡ suc (levels - d) = omega (arith, above) in
    let most : room wide levels (depth i) (node_at tree i) ≡ 1 + wide * most_splits wide (levels - d) =
    left_room wide levels (depth i) (node_at tree i) left ∙ ap (λ (k : ℕ). most_splits wide k) down in
    let children =
    load_lefts wide levels new (0 + length (set tree i split)) count d low
    (λ j from. deeper_new depth (length tree) i j (omega (arith, from, length-set tree i split))) in
    let fewer = mul-le count (most_splits wide (levels - d)) wide (most_splits wide (levels - d)) few (omega arith) in
    omega (arith, load-append wide levels new 0 (set tree i split) lefts, children, load_end wide levels depth tree i split lt, most, fewer)
