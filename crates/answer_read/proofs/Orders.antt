-- Trees and their lines in preorder: a tree that grew line by line has these lines in preorder, and its nodes are
-- numbered in preorder; and each tree that is numbered so grew from its lines.
use Rattle.std.proofs.Common.{⊎_elim, ◌⊎◌, inl, inr, ◌≡◌, ℕ, zero, suc, ◌+◌, ◌-◌, ◌^◌, ◌<◌, ◌≤◌, List, [], ◌∷◌, ◌++◌, length, get_or, map, Bool, refl, sym, ap}
use Rattle.std.proofs.Common.{subst, ◌∙◌, arith, length-append, set, Some, None}
use Rattle.std.specs.List.{flat_map, AllByRecursion}
use Rattle.std.proofs.lemmas.List.{append-nil}
use Rattle.std.proofs.lemmas.List.Concat.{flat_map-cons, flat_map-append}
use Rattle.std.proofs.lemmas.Bool.{cases_lt, cases_eq}
use Rattle.choice_tree.specs.declared.question.Question.TheVariants as questions
use Rattle.choice_tree.specs.declared.node.Node.{Node}
use Rattle.choice_tree.specs.declared.node.Node.TheVariants.{Closed, Stuck, Solved, Left}
use Rattle.choice_tree.specs.Nodes.{node_at, children_of, IsLeft, IsLeaf, IsChild, numbers_from}
use Rattle.choice_tree.specs.Trees.{IsTree, preorder}
use Rattle.choice_tree.proofs.NodeLemmas.{length-numbers_from}
use Rattle.choice_tree.proofs.OrderLemmas.{below, below_step}
use Rattle.choice_tree.proofs.SplitLemmas.{split_is_tree, end_is_tree, root_tree}
use Rattle.answer_text.specs.Limits.{most_children}
use Rattle.answer_text.specs.Nodes.{node_text, tree_text, IsNodeText}
use Rattle.answer_read.specs.declared.row.Row.{Row}
use Rattle.answer_read.specs.declared.row.Row.TheVariants as rows
use Rattle.answer_read.specs.Trees.{arity, node_of, placed, grown, tree_of}
use Rattle.answer_read.specs.Answers.{IsNumbered}
use Rattle.field_reading.proofs.Items.{IsForest}
use Rattle.answer_read.proofs.Rows.{row_text, IsRow}
use Rattle.answer_read.proofs.NodeRows.{row_of, node_text_is, row_of_fits, arity_is, node_again, children_are, node_of_fits, line_text_is}
use Rattle.answer_read.proofs.Growing.{rows_text, row_few, length_placed, placed_other, placed_same, Apart, Distinct, AreLeft, next_waiting, length_next}
use Rattle.answer_read.proofs.Growing.{next_left, next_distinct, next_apart, new_numbers}

-- ---- the preorder, node by node

-- what is below the nodes that wait
abbrev all_below : List Node → List ℕ → List ℕ
all_below nodes waiting = flat_map (below nodes) waiting

below_first : (nodes : List Node) → IsTree nodes → (i : ℕ) (waiting : List ℕ) → i < length nodes
    → all_below nodes (i ∷ waiting) ≡ i ∷ all_below nodes (children_of (node_at nodes i) ++ waiting)
below_first nodes tree i waiting lt =
    let cs = children_of (node_at nodes i) in
    let step : below nodes i ≡ i ∷ all_below nodes cs = below_step nodes tree i lt in
    flat_map-cons (below nodes) i waiting ∙ ap (λ (ys : List ℕ). ys ++ all_below nodes waiting) step
    ∙ ap (λ (ys : List ℕ). i ∷ ys) (sym (flat_map-append (below nodes) cs waiting))

-- the nodes that wait, and all below them, are visited in this order
abbrev pub Visits : List Node → List ℕ → List ℕ → Type 0
Visits nodes waiting [] = waiting ≡ []
Visits nodes [] (x ∷ order) = ⊥
Visits nodes (i ∷ waiting) (x ∷ order) = (x ≡ i) × (i < length nodes) × Visits nodes (children_of (node_at nodes i) ++ waiting) order

abbrev There : List Node → List ℕ → Type 0
There nodes xs = AllByRecursion (λ j. j < length nodes) xs

there_append : (nodes : List Node) (xs ys : List ℕ) → There nodes xs → There nodes ys → There nodes (xs ++ ys)
there_append nodes [] ys f g = g
there_append nodes (x ∷ xs) ys f g = (f.0, there_append nodes xs ys f.1 g)

there_each : (nodes : List Node) (xs : List ℕ) → ((m : ℕ) → m < length xs → get_or xs m 0 < length nodes)
    → There nodes xs
there_each nodes [] h = tt
there_each nodes (x ∷ xs) h = (h 0 (omega arith), there_each nodes xs (λ m lt. h (suc m) (omega arith)))

children_there : (nodes : List Node) (i : ℕ) → IsTree nodes → There nodes (children_of (node_at nodes i))
children_there nodes i tree =
    there_each nodes (children_of (node_at nodes i))
    (λ m lt. (tree.later i m (get_or (children_of (node_at nodes i)) m 0) (record { there = lt; child = refl })).1)

visits : (nodes : List Node) → IsTree nodes → (waiting order : List ℕ) → There nodes waiting
    → all_below nodes waiting ≡ order → Visits nodes waiting order
visits nodes tree [] [] there e = refl
visits nodes tree (i ∷ waiting) [] there e =
    let bad : i ∷ all_below nodes (children_of (node_at nodes i) ++ waiting) ≡ [] = sym (below_first nodes tree i waiting there.0) ∙ e in
    absurd cc
visits nodes tree [] (x ∷ order) there e = let bad : [] ≡ x ∷ order = e in absurd cc
visits nodes tree (i ∷ waiting) (x ∷ order) there e =
    let cs = children_of (node_at nodes i) in
    let both : i ∷ all_below nodes (cs ++ waiting) ≡ x ∷ order = sym (below_first nodes tree i waiting there.0) ∙ e in
    let same : x ≡ i = cc in
    (same, there.0, visits nodes tree (cs ++ waiting) order (there_append nodes cs waiting (children_there nodes i tree) there.1) (cc))

pub visits_all : (nodes : List Node) → IsTree nodes → Visits nodes (0 ∷ []) (preorder nodes)
visits_all nodes tree = visits nodes tree (0 ∷ []) (preorder nodes) (tree.root, tt) (flat_map-cons (below nodes) 0 [] ∙ append-nil (below nodes 0))

-- ---- the lines of any tree

abbrev pub rows_in : List Node → List ℕ → List Row
rows_in nodes order = map (λ i. row_of (node_at nodes i)) order

abbrev pub lines_of : List Node → List Row
lines_of nodes = rows_in nodes (preorder nodes)

-- every node has a line
abbrev pub HaveLines : Bool → List Node → Type 0
HaveLines single nodes = (i : ℕ) → i < length nodes → IsNodeText single (node_at nodes i)

lines_fit : (single : Bool) (nodes : List Node) (waiting order : List ℕ) → HaveLines single nodes
    → Visits nodes waiting order
    → IsForest arity (length waiting) (rows_in nodes order) × AllByRecursion (IsRow single) (rows_in nodes order) ×
    (flat_map (λ i. node_text single (node_at nodes i)) order ≡ rows_text single (rows_in nodes order))
lines_fit single nodes [] [] fits v = (tt, tt, refl)
lines_fit single nodes (i ∷ waiting) [] fits v = absurd (cc)
lines_fit single nodes [] (x ∷ order) fits v = absurd v
lines_fit single nodes (i ∷ waiting) (x ∷ order) fits v =
    let cs = children_of (node_at nodes i) in
    let r = lines_fit single nodes (cs ++ waiting) order fits v.2 in
    let at_x : node_at nodes x ≡ node_at nodes i = ap (node_at nodes) v.0 in
    let f : IsNodeText single (node_at nodes x) = subst (IsNodeText single) (sym at_x) (fits i v.1) in
    let count : length (cs ++ waiting) ≡ length waiting + arity (row_of (node_at nodes x)) =
    omega (arith, length-append cs waiting, arity_is single (node_at nodes x) f, ap (λ (n : Node). length (children_of n)) at_x) in
    let text : ℕ → List ℕ = λ j. node_text single (node_at nodes j) in (
      subst (λ (n : ℕ). IsForest arity n (rows_in nodes order)) count r.0,
      (row_of_fits single (node_at nodes x) f, r.1),
      flat_map-cons (λ j. node_text single (node_at nodes j)) x order
          ∙ ap (λ (l : List ℕ). l ++ flat_map (λ j. node_text single (node_at nodes j)) order) (node_text_is single (node_at nodes x) f)
          ∙ ap (λ (l : List ℕ). row_text single (row_of (node_at nodes x)) ++ l) r.2
          ∙ sym (flat_map-cons (row_text single) (row_of (node_at nodes x)) (rows_in nodes order)),
    )

pub lines_are_rows : (single : Bool) (nodes : List Node) → IsTree nodes → HaveLines single nodes
    → IsForest arity 1 (lines_of nodes) × AllByRecursion (IsRow single) (lines_of nodes) × (tree_text single nodes ≡ rows_text single (lines_of nodes))
lines_are_rows single nodes tree fits = lines_fit single nodes (0 ∷ []) (preorder nodes) fits (visits_all nodes tree)

-- ---- a tree that grew

forest_behind : (nodes : List Node) (row : Row) (waiting : List ℕ) (rows : List Row)
    → IsForest arity (length waiting + arity row) rows
    → IsForest arity (length (next_waiting nodes row waiting)) rows
forest_behind nodes row waiting rows f =
    let e : length waiting + arity row ≡ length (next_waiting nodes row waiting) = omega (arith, length_next nodes row waiting) in
    subst (λ (k : ℕ). IsForest arity k rows) e f

-- there are at least as many lines as nodes that wait
forest_count : (n : ℕ) (rows : List Row) → IsForest arity n rows → n ≤ length rows
forest_count zero rows f = omega arith
forest_count (suc n) [] f = absurd f
forest_count (suc n) (row ∷ rows) f = omega (arith, forest_count (n + arity row) rows f)

length_grown : (rows : List Row) (waiting : List ℕ) (nodes : List Node) → IsForest arity (length waiting) rows
    → length (grown rows waiting nodes) + length waiting ≡ length nodes + length rows
unfolding grown
length_grown [] [] nodes f = refl
length_grown [] (i ∷ waiting) nodes f = absurd f
length_grown (row ∷ rows) [] nodes f = absurd f
length_grown (row ∷ rows) (i ∷ waiting) nodes f =
    omega (
      arith,
      length_grown rows (next_waiting nodes row waiting) (placed nodes i row)
          (forest_behind nodes row waiting rows f),
      length_next nodes row waiting,
      length_placed nodes i row,
    )

pub length_tree : (rows : List Row) → IsForest arity 1 rows → length (tree_of rows) ≡ length rows
length_tree rows f = omega (arith, length_grown rows (0 ∷ []) (Left None ∷ []) f)

-- a node that doesn't wait stays
grown_other : (rows : List Row) (waiting : List ℕ) (nodes : List Node) (j : ℕ) → j < length nodes → Apart j waiting
    → node_at (grown rows waiting nodes) j ≡ node_at nodes j
unfolding grown
grown_other [] waiting nodes j lt f = refl
grown_other (row ∷ rows) [] nodes j lt f = refl
grown_other (row ∷ rows) (i ∷ waiting) nodes j lt f =
    grown_other rows (next_waiting nodes row waiting) (placed nodes i row) j (omega (arith, lt, length_placed nodes i row))
    (next_apart nodes j row waiting lt f.1)
    ∙ placed_other nodes i j row lt f.0

ended_tree : (nodes : List Node) (i : ℕ) (leaf : Node) → IsTree nodes → i < length nodes → IsLeft (node_at nodes i)
    → IsLeaf leaf
    → IsTree (set nodes i leaf ++ [])
ended_tree nodes i leaf tree lt left f = subst IsTree (sym (append-nil (set nodes i leaf))) (end_is_tree nodes i leaf tree lt left f)

placed_is_tree : (nodes : List Node) (i : ℕ) (row : Row) → IsTree nodes → i < length nodes → IsLeft (node_at nodes i)
    → arity row ≤ most_children
    → length nodes + arity row < 2 ^ 32 → IsTree (placed nodes i row)
placed_is_tree nodes i (rows.Choose v m) tree lt left few room = split_is_tree nodes i (questions.Choose v) m [] tree lt left few room
placed_is_tree nodes i (rows.TankOrder a b q) tree lt left few room = split_is_tree nodes i (questions.TankOrder a b q) 2 [] tree lt left few room
placed_is_tree nodes i (rows.HoistOrder a b q) tree lt left few room = split_is_tree nodes i (questions.HoistOrder a b q) 2 [] tree lt left few room
placed_is_tree nodes i (rows.Assign m n) tree lt left few room = split_is_tree nodes i (questions.Assign m) n [] tree lt left few room
placed_is_tree nodes i (rows.ClosedLow low high) tree lt left few room = ended_tree nodes i (Closed (Some low) high) tree lt left tt
placed_is_tree nodes i (rows.ClosedHigh high) tree lt left few room = ended_tree nodes i (Closed None (Some high)) tree lt left tt
placed_is_tree nodes i (rows.Stuck m) tree lt left few room = ended_tree nodes i (Stuck m) tree lt left tt
placed_is_tree nodes i (rows.Solved low) tree lt left few room = ended_tree nodes i (Solved low) tree lt left tt
placed_is_tree nodes i (rows.Left low) tree lt left few room = ended_tree nodes i (Left low) tree lt left tt

grown_is_tree : (single : Bool) (rows : List Row) (waiting : List ℕ) (nodes : List Node)
    → IsForest arity (length waiting) rows
    → AllByRecursion (IsRow single) rows → IsTree nodes → AreLeft nodes waiting → Distinct waiting
    → length nodes + length rows < 2 ^ 32 + length waiting → IsTree (grown rows waiting nodes)
unfolding grown
grown_is_tree single [] waiting nodes f g tree left distinct room = tree
grown_is_tree single (row ∷ rows) [] nodes f g tree left distinct room = tree
grown_is_tree single (row ∷ rows) (i ∷ waiting) nodes f g tree left distinct room =
    let few = row_few single row g.0 in
    let more = forest_behind nodes row waiting rows f in
    let next = length_next nodes row waiting in
    grown_is_tree single rows (next_waiting nodes row waiting) (placed nodes i row) more g.1
    (placed_is_tree nodes i row tree left.0.0 left.0.1 few (omega (arith, room, forest_count (length (next_waiting nodes row waiting)) rows more, next)))
    (next_left nodes i row waiting left.1 distinct.0) (next_distinct nodes row waiting left.1 distinct.1) (omega (arith, room, next, length_placed nodes i row))

pub tree_is_tree : (single : Bool) (rows : List Row) → IsForest arity 1 rows → AllByRecursion (IsRow single) rows
    → length rows < 2 ^ 32 → IsTree (tree_of rows)
tree_is_tree single rows f g few = grown_is_tree single rows (0 ∷ []) (Left None ∷ []) f g root_tree ((omega arith, tt), tt) (tt, tt) (omega (arith, few))

-- ---- its lines and its numbers

numbers_split : (a m k : ℕ) → numbers_from a (m + k) ≡ numbers_from a m ++ numbers_from (a + m) k
numbers_split a zero k = let e : a ≡ a + 0 = omega arith in let z : zero + k ≡ k = omega arith in ap (numbers_from a) z ∙ ap (λ (b : ℕ). numbers_from b k) e
numbers_split a (suc m) k =
    let e : suc m + k ≡ suc (m + k) = omega arith in
    let b : a + 1 + m ≡ a + suc m = omega arith in
    ap (numbers_from a) e ∙ ap (λ (xs : List ℕ). a ∷ xs) (numbers_split (a + 1) m k) ∙ ap (λ (n : ℕ). a ∷ (numbers_from (a + 1) m ++ numbers_from n k)) b

grown_again : (single : Bool) (final : List Node) (rows : List Row) (waiting order : List ℕ) (nodes : List Node)
    → final ≡ grown rows waiting nodes
    → IsForest arity (length waiting) rows → AreLeft nodes waiting → Distinct waiting → Visits final waiting order
    → (flat_map (λ i. node_text single (node_at final i)) order ≡ rows_text single rows) ×
    (flat_map (λ i. children_of (node_at final i)) order ≡ numbers_from (length nodes) (length final - length nodes))
unfolding grown
grown_again single final [] [] [] nodes is f left distinct v =
    let e : length final - length nodes ≡ 0 = omega (arith, ap length is) in
    (refl, ap (numbers_from (length nodes)) (sym e))
grown_again single final [] [] (x ∷ order) nodes is f left distinct v = absurd v
grown_again single final [] (i ∷ waiting) order nodes is f left distinct v = absurd f
grown_again single final (row ∷ rows) [] order nodes is f left distinct v = absurd f
grown_again single final (row ∷ rows) (i ∷ waiting) [] nodes is f left distinct v = absurd (cc)
grown_again single final (row ∷ rows) (i ∷ waiting) (x ∷ order) nodes is f left distinct v =
    let n = length nodes in
    let next = next_waiting nodes row waiting in
    let after = placed nodes i row in
    let more = forest_behind nodes row waiting rows f in
    let here : node_at final i ≡ node_of row n =
    ap (λ (t : List Node). node_at t i) is ∙ grown_other rows next after i (omega (arith, left.0.0, length_placed nodes i row))
    (next_apart nodes i row waiting left.0.0 distinct.0) ∙ placed_same nodes i row left.0.0 in
    let at_x : node_at final x ≡ node_of row n = ap (node_at final) v.0 ∙ here in
    let kids : children_of (node_at final i) ≡ numbers_from n (arity row) = ap children_of here ∙ children_are row n in
    let behind : Visits final next order = subst (λ (cs : List ℕ). Visits final (cs ++ waiting) order) kids v.2 in
    let r =
    grown_again single final rows next order after is more (next_left nodes i row waiting left.1 distinct.0)
    (next_distinct nodes row waiting left.1 distinct.1) behind in
    let size : length final + length next ≡ length after + length rows =
    ap (λ (t : List Node). length t + length next) is ∙ length_grown rows next after more in
    let grew : length after ≡ n + arity row = length_placed nodes i row in
    let split : length final - n ≡ arity row + (length final - length after) = omega (arith, size, grew, forest_count (length next) rows more) in (
      flat_map-cons (λ j. node_text single (node_at final j)) x order
          ∙ ap (λ (l : List ℕ). l ++ flat_map (λ j. node_text single (node_at final j)) order) (ap (node_text single) at_x ∙ line_text_is single row n)
          ∙ ap (λ (l : List ℕ). row_text single row ++ l) r.0 ∙ sym (flat_map-cons (row_text single) row rows),
      flat_map-cons (λ j. children_of (node_at final j)) x order
          ∙ ap (λ (l : List ℕ). l ++ flat_map (λ j. children_of (node_at final j)) order) (ap children_of at_x ∙ children_are row n)
          ∙ ap (λ (l : List ℕ). numbers_from n (arity row) ++ l) (r.1 ∙ ap (λ (k : ℕ). numbers_from k (length final - length after)) grew)
          ∙ sym (numbers_split n (arity row) (length final - length after)) ∙ ap (numbers_from n) (sym split),
    )

pub tree_again : (single : Bool) (rows : List Row) → IsForest arity 1 rows → IsTree (tree_of rows)
    → (tree_text single (tree_of rows) ≡ rows_text single rows) × IsNumbered (tree_of rows)
tree_again single rows f tree =
    grown_again single (tree_of rows) rows (0 ∷ []) (preorder (tree_of rows)) (Left None ∷ []) refl f ((omega arith, tt), tt) (tt, tt)
    (visits_all (tree_of rows) tree)

-- ---- nodes that wait, or are done

abbrev Waits : ℕ → List ℕ → Type 0
Waits j [] = ⊥
Waits j (x ∷ xs) = (j ≡ x) ⊎ Waits j xs

waits_right : (j : ℕ) (xs ys : List ℕ) → Waits j ys → Waits j (xs ++ ys)
waits_right j [] ys w = w
waits_right j (x ∷ xs) ys w = inr (waits_right j xs ys w)

waits_left : (j : ℕ) (xs ys : List ℕ) → Waits j xs → Waits j (xs ++ ys)
waits_left j [] ys w = absurd w
waits_left j (x ∷ xs) ys w = ⊎_elim (λ e. inl e) (λ v. inr (waits_left j xs ys v)) w

new_waits : (from n j : ℕ) → from ≤ j → j < from + n → Waits j (numbers_from from n)
new_waits from zero j le lt = absurd (omega arith)
new_waits from (suc n) j le lt = ⊎_elim (λ e. inl e) (λ ne. inr (new_waits (from + 1) n j (omega arith) (omega arith))) (cases_eq j from)

abbrev DoneOrWaits : (ℕ → Node → Type 0) → List Node → List ℕ → Type 0
DoneOrWaits P nodes waiting = (j : ℕ) → j < length nodes → Waits j waiting ⊎ P j (node_at nodes j)

-- after one line more
done_next : (P : ℕ → Node → Type 0) (nodes : List Node) (i : ℕ) (row : Row) (waiting : List ℕ) → i < length nodes
    → P i (node_of row (length nodes))
    → DoneOrWaits P nodes (i ∷ waiting) → DoneOrWaits P (placed nodes i row) (next_waiting nodes row waiting)
done_next P nodes i row waiting lt p h j there =
    ⊎_elim
    (λ e. inr (subst (λ (k : ℕ). P k (node_at (placed nodes i row) k)) (sym e) (subst (P i) (sym (placed_same nodes i row lt)) p)))
    (λ ne.
    ⊎_elim
    (λ old.
    ⊎_elim
    (λ w. ⊎_elim (λ e. absurd (ne e)) (λ v. inl (waits_right j (numbers_from (length nodes) (arity row)) waiting v)) w)
    (λ q. inr (subst (P j) (sym (placed_other nodes i j row old ne)) q))
    (h j old))
    (λ past. inl (waits_left j (numbers_from (length nodes) (arity row)) waiting
    (new_waits (length nodes) (arity row) j past (omega (arith, there, length_placed nodes i row)))))
    (cases_lt j (length nodes)))
    (cases_eq j i)

all_done : (single : Bool) (rows : List Row) (waiting : List ℕ) (nodes : List Node)
    → IsForest arity (length waiting) rows → AllByRecursion (IsRow single) rows
    → AreLeft nodes waiting → Distinct waiting → DoneOrWaits (λ j. IsNodeText single) nodes waiting
    → HaveLines single (grown rows waiting nodes)
unfolding grown
all_done single [] [] nodes f g left distinct h = λ i lt. ⊎_elim (λ w. absurd w) (λ p. p) (h i lt)
all_done single [] (i ∷ waiting) nodes f g left distinct h = absurd f
all_done single (row ∷ rows) [] nodes f g left distinct h = absurd f
all_done single (row ∷ rows) (i ∷ waiting) nodes f g left distinct h =
    all_done single rows (next_waiting nodes row waiting) (placed nodes i row) (forest_behind nodes row waiting rows f) g.1
    (next_left nodes i row waiting left.1 distinct.0) (next_distinct nodes row waiting left.1 distinct.1)
    (done_next (λ j. IsNodeText single) nodes i row waiting left.0.0 (node_of_fits single row (length nodes) g.0) h)

first_waits : (P : ℕ → Node → Type 0) → DoneOrWaits P (Left None ∷ []) (0 ∷ [])
first_waits P j lt = let z : j ≡ 0 = omega arith in inl (inl z)

pub tree_has_lines : (single : Bool) (rows : List Row) → IsForest arity 1 rows → AllByRecursion (IsRow single) rows
    → HaveLines single (tree_of rows)
tree_has_lines single rows f g = all_done single rows (0 ∷ []) (Left None ∷ []) f g ((omega arith, tt), tt) (tt, tt) (first_waits (λ j. IsNodeText single))

-- ---- a numbered tree grew from its lines

numbers_cut : (xs ys : List ℕ) (a n : ℕ) → xs ++ ys ≡ numbers_from a n
    → (xs ≡ numbers_from a (length xs)) × (ys ≡ numbers_from (a + length xs) (n - length xs)) × (length xs ≤ n)
numbers_cut [] ys a n e =
    let z : a ≡ a + 0 = omega arith in
    let m : n ≡ n - 0 = omega arith in
    (refl, e ∙ ap (λ (k : ℕ). numbers_from k n) z ∙ ap (numbers_from (a + 0)) m, omega arith)
numbers_cut (x ∷ xs) ys a zero e = absurd (cc)
numbers_cut (x ∷ xs) ys a (suc n) e =
    let head : x ≡ a = cc in
    let tail : xs ++ ys ≡ numbers_from (a + 1) n = cc in
    let r = numbers_cut xs ys (a + 1) n tail in
    let b : a + 1 + length xs ≡ a + suc (length xs) = omega arith in
    let m : n - length xs ≡ suc n - suc (length xs) = omega arith in (
      ap (λ (k : ℕ). k ∷ xs) head ∙ ap (λ (ks : List ℕ). a ∷ ks) r.0,
      r.1 ∙ ap (λ (k : ℕ). numbers_from k (n - length xs)) b
          ∙ ap (numbers_from (a + suc (length xs))) m,
      omega (arith, r.2),
    )

-- lists that agree everywhere
same_list : (xs ys : List Node) → length xs ≡ length ys → ((j : ℕ) → j < length xs → node_at xs j ≡ node_at ys j)
    → xs ≡ ys
same_list [] [] e h = refl
same_list [] (y ∷ ys) e h = absurd (omega (arith, e))
same_list (x ∷ xs) [] e h = absurd (omega (arith, e))
same_list (x ∷ xs) (y ∷ ys) e h =
    let head : x ≡ y = h 0 (omega arith) in
    ap (λ (z : Node). z ∷ xs) head ∙ ap (λ (zs : List Node). y ∷ zs) (same_list xs ys (omega (arith, e)) (λ j lt. h (suc j) (omega arith)))

abbrev Same : List Node → ℕ → Node → Type 0
Same nodes j n = n ≡ node_at nodes j

below_next : (nodes : List Node) (i : ℕ) (row : Row) (waiting : List ℕ) → There nodes waiting
    → There (placed nodes i row) (next_waiting nodes row waiting)
below_next nodes i row waiting there =
    let n = length_placed nodes i row in
    there_append (placed nodes i row) (numbers_from (length nodes) (arity row)) waiting
    (weaken (λ j. (length nodes ≤ j) × (j < length nodes + arity row)) (numbers_from (length nodes) (arity row)) (λ j f. omega (arith, f.1, n))
    (new_numbers (length nodes) (arity row)))
    (weaken (λ j. j < length nodes) waiting (λ j f. omega (arith, f, n)) there)
  where
    weaken : (P : ℕ → Type 0) (xs : List ℕ) → ((j : ℕ) → P j → j < length (placed nodes i row)) → AllByRecursion P xs
        → There (placed nodes i row) xs
    weaken P [] h f = tt
    weaken P (x ∷ xs) h f = (h x f.0, weaken P xs h f.1)

grew_from_lines : (single : Bool) (nodes : List Node) (waiting order : List ℕ) (so_far : List Node)
    → HaveLines single nodes → Visits nodes waiting order
    → There so_far waiting → length so_far ≤ length nodes
    → flat_map (λ i. children_of (node_at nodes i)) order ≡ numbers_from (length so_far) (length nodes - length so_far)
    → DoneOrWaits (Same nodes) so_far waiting
    → grown (rows_in nodes order) waiting so_far ≡ nodes
unfolding grown
grew_from_lines single nodes [] [] so_far fits v there le e h =
    same_list so_far nodes (omega (arith, le, ap length e, length-numbers_from (length so_far) (length nodes - length so_far)))
    (λ j lt. ⊎_elim (λ w. absurd w) (λ p. p) (h j lt))
grew_from_lines single nodes (i ∷ waiting) [] so_far fits v there le e h = absurd (cc)
grew_from_lines single nodes [] (x ∷ order) so_far fits v there le e h = absurd v
grew_from_lines single nodes (i ∷ waiting) (x ∷ order) so_far fits v there le e h =
    let n = length so_far in
    let at_x : node_at nodes x ≡ node_at nodes i = ap (node_at nodes) v.0 in
    let row : Row = row_of (node_at nodes x) in
    let f : IsNodeText single (node_at nodes x) = subst (IsNodeText single) (sym at_x) (fits i v.1) in
    let cs : List ℕ = children_of (node_at nodes x) in
    let cut =
    numbers_cut cs (flat_map (λ j. children_of (node_at nodes j)) order) n (length nodes - n)
    (sym (flat_map-cons (λ j. children_of (node_at nodes j)) x order) ∙ e) in
    let count : length cs ≡ arity row = sym (arity_is single (node_at nodes x) f) in
    let kids : cs ≡ numbers_from n (arity row) = cut.0 ∙ ap (numbers_from n) count in
    let kids_i : children_of (node_at nodes i) ≡ numbers_from n (arity row) = ap children_of (sym at_x) ∙ kids in
    let here : node_of row n ≡ node_at nodes i = node_again single (node_at nodes x) n f kids ∙ at_x in
    let grew : length (placed so_far i row) ≡ n + arity row = length_placed so_far i row in
    let from : n + length cs ≡ length (placed so_far i row) = omega (arith, grew, count) in
    let many : length nodes - n - length cs ≡ length nodes - length (placed so_far i row) = omega (arith, grew, count) in
    grew_from_lines single nodes (next_waiting so_far row waiting) order (placed so_far i row) fits
    (subst (λ (ks : List ℕ). Visits nodes (ks ++ waiting) order) kids_i v.2) (below_next so_far i row waiting there.1) (omega (arith, grew, count, cut.2, le))
    (cut.1 ∙ ap (λ (k : ℕ). numbers_from k (length nodes - n - length cs)) from ∙ ap (numbers_from (length (placed so_far i row))) many)
    (done_next (Same nodes) so_far i row waiting there.0 here h)

pub tree_from_lines : (single : Bool) (nodes : List Node) → IsTree nodes → HaveLines single nodes → IsNumbered nodes
    → tree_of (lines_of nodes) ≡ nodes
tree_from_lines single nodes tree fits numbered =
    grew_from_lines single nodes (0 ∷ []) (preorder nodes) (Left None ∷ []) fits (visits_all nodes tree) (omega arith, tt) (omega (arith, tree.root)) numbered
    (first_waits (Same nodes))
