-- The frontier stays what is left of the tree.
use Rattle.std.proofs.Common.{⊎_elim, ◌≡◌, ℕ, ◌+◌, ◌^◌, ◌<◌, ◌≤◌, List, [], ◌∷◌, ◌++◌, length, drop, refl, sym, ◌∙◌, ap, subst, arith, append_assoc}
use Rattle.std.specs.Prelude.{Option}
use Rattle.std.proofs.lemmas.Bool.{cases_eq, cases_lt}
use Rattle.std.proofs.lemmas.List.{append-nil, length-append}
use Rattle.choice_tree.specs.declared.constraint.Constraint.{Constraint}
use Rattle.choice_tree.specs.declared.node.Node.{Node}
use Rattle.choice_tree.specs.declared.node.Node.TheVariants as nodes
use Rattle.choice_tree.specs.Nodes.{node_at, IsLeft, numbers_from}
use Rattle.choice_tree.specs.Trees.{IsTree}
use Rattle.choice_tree.proofs.NodeLemmas.{length-numbers_from}
use Rattle.node_expand.specs.declared.solved.Solved as plans
use Rattle.node_expand.specs.declared.expanded.Expanded.{Expanded}
use Rattle.node_expand.specs.declared.expanded.Expanded.TheVariants.{Stuck, Closed, Solved, Split}
use Rattle.branch_rounds.specs.Grown.{Search, result_at, taken, child_count, replaced, split_count, splits_of}
use Rattle.branch_rounds.specs.Kept.{times, left_count, left_at, IsPlaced, AreNarrow}
use Rattle.branch_rounds.proofs.TreeLemmas.{Grows, grows_end, grows_split}
use Rattle.branch_rounds.proofs.CountLemmas.{counted_on}
use Rattle.branch_rounds.proofs.ListLemmas.{times-append, once, never, times_before, times_within, times_behind, left_there, left_past, total, one_split, six_children, narrow_first, narrow_rest}

-- the node that an expansion makes, and the low of its children
abbrev pub node_of : ℕ → Expanded → Node
node_of first (Stuck m) = nodes.Stuck m
node_of first (Closed low high) = nodes.Closed low high
node_of first (Solved solved low) = nodes.Solved low
node_of first (Split question children period low) = nodes.Split question (numbers_from first children)

abbrev pub low_of : Expanded → List Constraint
low_of (Stuck m) = []
low_of (Closed low high) = []
low_of (Solved solved low) = []
low_of (Split question children period low) = low

pub grows : (tree : List Node) (i : ℕ) (x : Expanded) → IsTree tree → i < length tree → IsLeft (node_at tree i)
    → child_count x ≤ 6 → length tree + 6 < 2 ^ 32
    → Grows tree (result_at tree i x) i (node_of (length tree) x) (child_count x) (low_of x)
grows tree i (Stuck m) is lt left few room = grows_end tree i (nodes.Stuck m) is lt left tt
grows tree i (Closed low high) is lt left few room = grows_end tree i (nodes.Closed low high) is lt left tt
grows tree i (Solved solved low) is lt left few room = grows_end tree i (nodes.Solved low) is lt left tt
grows tree i (Split question children period low) is lt left few room = grows_split tree i question children low is lt left few (omega (arith, few, room))

none_left : (first : ℕ) (x : Expanded) → left_count (node_of first x) ≡ 0
none_left first (Stuck m) = refl
none_left first (Closed low high) = refl
none_left first (Solved solved low) = refl
none_left first (Split question children period low) = refl

pub left_one : (n : Node) → IsLeft n → left_count n ≡ 1
left_one (nodes.Split question children) h = absurd h
left_one (nodes.Closed low high) h = absurd h
left_one (nodes.Stuck m) h = absurd h
left_one (nodes.Solved low) h = absurd h
left_one (nodes.Left low) h = refl

pub one_left : (n : Node) → 0 < left_count n → IsLeft n
one_left (nodes.Split question children) h = absurd (omega (arith, h))
one_left (nodes.Closed low high) h = absurd (omega (arith, h))
one_left (nodes.Stuck m) h = absurd (omega (arith, h))
one_left (nodes.Solved low) h = absurd (omega (arith, h))
one_left (nodes.Left low) h = tt

pub left_most : (n : Node) → left_count n ≤ 1
left_most (nodes.Split question children) = omega arith
left_most (nodes.Closed low high) = omega arith
left_most (nodes.Stuck m) = omega arith
left_most (nodes.Solved low) = omega arith
left_most (nodes.Left low) = omega arith

-- a number in the frontier is that of a node that is left
pub is_left : (tree : List Node) (frontier : List ℕ) (j : ℕ) → ((i : ℕ) → times i frontier ≡ left_at tree i)
    → 0 < times j frontier
    → (j < length tree) × IsLeft (node_at tree j)
is_left tree frontier j left some =
    ⊎_elim
    (λ lt. (lt, one_left (node_at tree j) (omega (arith, some, left j, left_there tree j lt))))
    (λ le. absurd (omega (arith, some, left j, left_past tree j le)))
    (cases_lt j (length tree))

-- the state with these parts; the best doesn't matter here
abbrev pub placed_at : List Node → List ℕ → Option plans.Solved → ℕ → Search
placed_at tree frontier best splits = record { tree = tree; frontier = frontier; best = best; splits = splits }

-- one expansion's paths in the place of its own
abbrev pub one_on : List Node → List ℕ → ℕ → List ℕ → Option plans.Solved → ℕ → Expanded → Search
one_on tree done i rest best splits x =
    placed_at (result_at tree i x) ((done ++ numbers_from (length tree) (child_count x)) ++ rest) best (splits + split_count x)

times_on : (j : ℕ) (done new rest : List ℕ)
    → times j ((done ++ new) ++ rest) ≡ times j done + times j new + times j rest
times_on j done new rest = omega (arith, times-append j (done ++ new) rest, times-append j done new)

-- node i is the first of the rest
pub first_left : (tree : List Node) (done : List ℕ) (i : ℕ) (rest : List ℕ)
    → ((j : ℕ) → times j (done ++ i ∷ rest) ≡ left_at tree j)
    → (i < length tree) × IsLeft (node_at tree i)
first_left tree done i rest left = is_left tree (done ++ i ∷ rest) i left (omega (arith, times-append i done (i ∷ rest), once i i rest refl))

left_on : (tree new : List Node) (done : List ℕ) (i : ℕ) (rest : List ℕ) (node : Node) (count : ℕ) (low : List Constraint)
    → Grows tree new i node count low
    → left_count node ≡ 0
    → ((j : ℕ) → times j (done ++ i ∷ rest) ≡ left_at tree j) → (j : ℕ)
    → times j ((done ++ numbers_from (length tree) count) ++ rest) ≡ left_at new j
left_on tree new done i rest node count low g none left j =
    let at : times j (done ++ i ∷ rest) ≡ times j done + times j (i ∷ rest) = times-append j done (i ∷ rest) in
    let on = times_on j done (numbers_from (length tree) count) rest in
    ⊎_elim
    (λ e.
    let lt : j < length tree = omega (arith, e, g.there) in
    let was : left_at tree j ≡ left_count (node_at tree j) = left_there tree j lt in
    let one : left_count (node_at tree j) ≤ 1 = left_most (node_at tree j) in
    let now : left_at new j ≡ left_count (node_at new j) = left_there new j (omega (arith, lt, g.size)) in
    let here : left_count (node_at new j) ≡ left_count node = ap (λ (k : ℕ). left_count (node_at new k)) e ∙ ap left_count g.here in
    omega (arith, at, on, once i j rest (sym e), left j, was, one, now, here, none, times_before j (length tree) count lt))
    (λ ne.
    let other = never i j rest (λ e. ne (sym e)) in
    ⊎_elim
    (λ lt.
    let same : left_at new j ≡ left_at tree j =
    left_there new j (omega (arith, lt, g.size)) ∙ ap left_count (g.kept j ne lt) ∙ sym (left_there tree j lt) in
    omega (arith, at, on, other, left j, same, times_before j (length tree) count lt))
    (λ le.
    let past : left_at tree j ≡ 0 = left_past tree j le in
    ⊎_elim
    (λ lt.
    let now : left_at new j ≡ left_count (node_at new j) = left_there new j lt in
    let here : left_count (node_at new j) ≡ 1 = ap left_count (g.fresh j le lt) in
    omega (arith, at, on, other, left j, past, now, here, times_within j (length tree) count le (omega (arith, lt, g.size))))
    (λ behind.
    let now : left_at new j ≡ 0 = left_past new j behind in
    omega (arith, at, on, other, left j, past, now, times_behind j (length tree) count (omega (arith, behind, g.size))))
    (cases_lt j (length new)))
    (cases_lt j (length tree)))
    (cases_eq j i)

pub placed_step : (tree : List Node) (done : List ℕ) (i : ℕ) (rest : List ℕ) (best best' : Option plans.Solved) (splits : ℕ) (x : Expanded)
    → IsPlaced (placed_at tree (done ++ i ∷ rest) best splits) → child_count x ≤ 6 → splits < 20000
    → Grows tree (result_at tree i x) i (node_of (length tree) x) (child_count x) (low_of x) × IsPlaced (one_on tree done i rest best' splits x)
placed_step tree done i rest best best' splits x p few room =
    let (lt, left) = first_left tree done i rest p.left in
    let g = grows tree i x p.tree lt left few (omega (arith, p.nodes, room)) in
    let six = six_children x few in (
      g,
      record {
        tree = g.tree;
        nodes = omega (arith, g.size, p.nodes, six);
        paths =
            omega (
              arith,
              p.paths,
              six,
              length-append done (i ∷ rest),
              length-append (done ++ numbers_from (length tree) (child_count x)) rest,
              length-append done (numbers_from (length tree) (child_count x)),
              length-numbers_from (length tree) (child_count x),
            );
        counted = omega (arith, p.counted, counted_on tree i x lt left);
        left = left_on tree (result_at tree i x) done i rest (node_of (length tree) x) (child_count x) (low_of x) g (none_left (length tree) x) p.left;
      },
    )

-- the paths that stand in the place of the first, one expansion more
pub on_more : (done : List ℕ) (first : ℕ) (xs : List ℕ) (ys rest : List ℕ)
    → ((done ++ xs) ++ ys) ++ rest ≡ (done ++ (xs ++ ys)) ++ rest
on_more done first xs ys rest = ap (λ (zs : List ℕ). zs ++ rest) (append_assoc done xs ys)

-- the frontier stays what is left while the expansions of its first paths are taken
pub placed_all : (tree : List Node) (done rest : List ℕ) (best best' : Option plans.Solved) (splits : ℕ) (xs : List Expanded)
    → IsPlaced (placed_at tree (done ++ rest) best splits) → AreNarrow xs → length xs ≤ length rest
    → splits + length xs ≤ 20000
    → IsPlaced (placed_at (taken tree rest xs) ((done ++ replaced (length tree) xs) ++ drop (length xs) rest) best'
    (splits + splits_of xs)) × (length (taken tree rest xs) ≡ length tree + total xs)
placed_all tree done rest best best' splits [] p narrow few room =
    let F : List ℕ → Type 0 = λ ns. IsPlaced (placed_at tree (ns ++ rest) best' splits) in
    let N : ℕ → Type 0 = λ n. IsPlaced (placed_at tree ((done ++ []) ++ rest) best' n) in
    let q : IsPlaced (placed_at tree (done ++ rest) best' splits) =
    record { tree = p.tree; nodes = p.nodes; paths = p.paths; counted = p.counted; left = p.left } in
    let e : splits ≡ splits + 0 = omega arith in
    (subst N e (subst F (sym (append-nil done)) q), omega arith)
placed_all tree done [] best best' splits (x ∷ xs) p narrow few room = absurd (omega (arith, few))
placed_all tree done (i ∷ is) best best' splits (x ∷ xs) p narrow few room =
    let (g, one) = placed_step tree done i is best best' splits x p (narrow_first x xs narrow) (omega (arith, room)) in
    let new = result_at tree i x in
    let front = numbers_from (length tree) (child_count x) in
    let r =
    placed_all new (done ++ front) is best' best' (splits + split_count x) xs one (narrow_rest x xs narrow) (omega (arith, few))
    (omega (arith, room, one_split x)) in
    let F : List ℕ → Type 0 = λ ns. IsPlaced (placed_at (taken new is xs) ns best' (splits + split_count x + splits_of xs)) in
    let R : ℕ → Type 0 =
    λ n. IsPlaced (placed_at (taken new is xs) ((done ++ (front ++ replaced n xs)) ++ drop (length xs) is) best' (splits + split_count x + splits_of xs)) in
    let N : ℕ → Type 0 =
    λ n. IsPlaced (placed_at (taken new is xs) ((done ++ (front ++ replaced (length tree + child_count x) xs)) ++ drop (length xs) is) best' n) in
    let e : splits + split_count x + splits_of xs ≡ splits + (split_count x + splits_of xs) = omega arith in
    let on = on_more done (length new) front (replaced (length new) xs) (drop (length xs) is) in
    (subst N e (subst R g.size (subst F on r.0)), omega (arith, r.1, g.size))
