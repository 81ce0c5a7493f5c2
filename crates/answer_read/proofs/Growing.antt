-- The tree that grows line by line: what is kept in each step, and the loop that reads it.
use Rattle.std.proofs.Common.{◌≡◌, ◌≢◌, ℕ, zero, suc, ◌+◌, ◌-◌, ◌<◌, ◌≤◌, List, [], ◌∷◌, ◌++◌, length, reverse, Bool, Result, Ok, Err, refl, sym, ap, subst}
use Rattle.std.proofs.Common.{◌∙◌, arith, length-append, set, replicate, Some, None}
use Rattle.std.specs.List.{flat_map, AllByRecursion}
use Rattle.std.proofs.lemmas.List.{append-nil, nil_from_length, reverse-append, length-set, length-replicate, get_or-set_same, get_or-set_other}
use Rattle.std.proofs.lemmas.List.{get_or_append_left, get_or-append_right, get_or-replicate}
use Rattle.choice_tree.specs.declared.node.Node.{Node}
use Rattle.choice_tree.specs.declared.node.Node.TheVariants.{Left}
use Rattle.choice_tree.specs.Nodes.{node_at, IsLeft, numbers_from}
use Rattle.choice_tree.proofs.NodeLemmas.{length-numbers_from}
use Rattle.answer_text.specs.Limits.{most_children}
use Rattle.answer_read.specs.declared.row.Row.{Row}
use Rattle.answer_read.specs.declared.row.Row.TheVariants as rows
use Rattle.field_reading.specs.declared.stop.Stop.{Stop}
use Rattle.field_reading.specs.declared.stop.Stop.TheVariants as stops
use Rattle.field_reading.specs.Gives.{Fails}
use Rattle.field_reading.specs.Reading.{◌>>=◌, forest_at}
use Rattle.answer_read.specs.Lines.{row_word, row_at}
use Rattle.answer_read.specs.Trees.{arity, node_of, placed, grown, rows_at, tree_at}
use Rattle.field_reading.specs.Reads.{IsRead, Reads, Any}
use Rattle.field_reading.proofs.Items.{IsRowItem, IsFewForest, forest_read}
use Rattle.answer_read.proofs.Rows.{kind_of, row_after, row_text, IsRow, row_read}

pub nothing_behind : (a b : List Node) → a ≡ b → a ≡ b ++ []
nothing_behind a b e = e ∙ sym (append-nil b)

-- ---- lines

pub row_few : (single : Bool) (r : Row) → IsRow single r → arity r ≤ most_children
row_few single (rows.Choose v m) f = f.2
row_few single (rows.TankOrder a b q) f = omega arith
row_few single (rows.HoistOrder a b q) f = omega arith
row_few single (rows.Assign m n) f = f.1
row_few single (rows.ClosedLow low high) f = omega arith
row_few single (rows.ClosedHigh high) f = omega arith
row_few single (rows.Stuck m) f = omega arith
row_few single (rows.Solved low) f = omega arith
row_few single (rows.Left low) f = omega arith

word_long : (single : Bool) (r : Row) → IsRow single r → arity r + 1 ≤ length (row_word (kind_of r))
word_long single (rows.Choose v m) f = omega (arith, f.2)
word_long single (rows.TankOrder a b q) f = omega arith
word_long single (rows.HoistOrder a b q) f = omega arith
word_long single (rows.Assign m n) f = omega (arith, f.1)
word_long single (rows.ClosedLow low high) f = omega arith
word_long single (rows.ClosedHigh high) f = omega arith
word_long single (rows.Stuck m) f = omega arith
word_long single (rows.Solved low) f = omega arith
word_long single (rows.Left low) f = omega arith

-- a line is longer than the children that it announces are many
row_long : (single : Bool) (r : Row) → IsRow single r → arity r + 1 ≤ length (row_text single r)
row_long single r f = omega (arith, length-append (row_word (kind_of r)) (row_after single r), word_long single r f)

pub row_item : (single : Bool)
    → IsRowItem arity most_children (IsRow single) (row_text single) Any (row_at single) (rows.Left None)
row_item single = record {
  reads = row_read single;
  stops = λ xs t f s. tt;
  nil_fits = tt;
  nil_leaf = refl;
  few = row_few single;
  long = row_long single;
}

-- the lines of a text, of which there are at most so many
abbrev pub AreRows : Bool → ℕ → List Row → Type 0
AreRows single most = IsFewForest arity (IsRow single) most 0 1

abbrev pub rows_text : Bool → List Row → List ℕ
rows_text single rows = flat_map (row_text single) rows

pub rows_read : (single : Bool) (most : ℕ) (bytes : List ℕ) → length bytes + 7 ≤ most
    → Reads (AreRows single most) (rows_text single) Any bytes (rows_at single bytes)
unfolding rows_at
rows_read single most bytes room =
    forest_read arity most_children (IsRow single) (row_text single) Any (row_at single) (rows.Left None) (row_item single) most 0 (length bytes + 1) 1 bytes
    (omega arith) (omega arith)

-- what a line takes
pub row_takes : (single : Bool) (bytes after : List ℕ) (r : Row) → row_at single bytes ≡ Ok (r, after)
    → (arity r + 1 + length after ≤ length bytes) × (arity r ≤ most_children)
row_takes single bytes after r e =
    let h : IsRead (IsRow single) (row_text single) Any bytes r after =
    subst (λ (x : Result (Row × List ℕ) ℕ). Reads (IsRow single) (row_text single) Any bytes x) e (row_read single bytes) in
    (omega (arith, ap length h.is, length-append (row_text single r) after, row_long single r h.fits), row_few single r h.fits)

-- ---- one line more in the tree

abbrev new_node : List Node → Row → Node
new_node nodes row = node_of row (length nodes)

abbrev blanks : Row → List Node
blanks row = replicate (arity row) (Left (Some []))

pub length_placed : (nodes : List Node) (i : ℕ) (row : Row) → length (placed nodes i row) ≡ length nodes + arity row
length_placed nodes i row =
    omega (
      arith,
      length-append (set nodes i (new_node nodes row)) (blanks row),
      length-set nodes i (new_node nodes row),
      length-replicate (arity row)
          (Left (Some [])),
    )

pub placed_other : (nodes : List Node) (i j : ℕ) (row : Row) → j < length nodes → j ≢ i
    → node_at (placed nodes i row) j ≡ node_at nodes j
placed_other nodes i j row lt ne =
    get_or_append_left (set nodes i (new_node nodes row)) (blanks row) (Left None) j (omega (arith, lt, length-set nodes i (new_node nodes row)))
    ∙ get_or-set_other nodes i j (new_node nodes row) (Left None) ne

pub placed_same : (nodes : List Node) (i : ℕ) (row : Row) → i < length nodes
    → node_at (placed nodes i row) i ≡ node_of row (length nodes)
placed_same nodes i row lt =
    get_or_append_left (set nodes i (new_node nodes row)) (blanks row) (Left None) i (omega (arith, lt, length-set nodes i (new_node nodes row)))
    ∙ get_or-set_same nodes i (new_node nodes row) (Left None) lt

-- a new child is left
pub placed_new : (nodes : List Node) (i j : ℕ) (row : Row) → length nodes ≤ j → j < length nodes + arity row
    → node_at (placed nodes i row) j ≡ Left (Some [])
placed_new nodes i j row past lt =
    get_or-append_right (set nodes i (new_node nodes row)) (blanks row) (length nodes) j (Left None) (length-set nodes i (new_node nodes row)) past
    ∙ get_or-replicate (arity row) (j - length nodes) (Left (Some [])) (Left None) (omega arith)

-- ---- the nodes that wait

abbrev pub Apart : ℕ → List ℕ → Type 0
Apart i xs = AllByRecursion (λ j. i ≢ j) xs

abbrev pub Distinct : List ℕ → Type 0
Distinct [] = Unit {0}
Distinct (x ∷ xs) = Apart x xs × Distinct xs

-- they are there, and left
abbrev pub AreLeft : List Node → List ℕ → Type 0
AreLeft nodes xs = AllByRecursion (λ j. (j < length nodes) × IsLeft (node_at nodes j)) xs

all_append : (P : ℕ → Type 0) (xs ys : List ℕ) → AllByRecursion P xs → AllByRecursion P ys → AllByRecursion P (xs ++ ys)
all_append P [] ys f g = g
all_append P (x ∷ xs) ys f g = (f.0, all_append P xs ys f.1 g)

all_weaken : (P Q : ℕ → Type 0) (xs : List ℕ) → ((x : ℕ) → P x → Q x) → AllByRecursion P xs → AllByRecursion Q xs
all_weaken P Q [] h f = tt
all_weaken P Q (x ∷ xs) h f = (h x f.0, all_weaken P Q xs h f.1)

all_both : (P Q : ℕ → Type 0) (xs : List ℕ) → AllByRecursion P xs → AllByRecursion Q xs
    → AllByRecursion (λ x. P x × Q x) xs
all_both P Q [] f g = tt
all_both P Q (x ∷ xs) f g = ((f.0, g.0), all_both P Q xs f.1 g.1)

pub new_numbers : (from n : ℕ) → AllByRecursion (λ j. (from ≤ j) × (j < from + n)) (numbers_from from n)
new_numbers from zero = tt
new_numbers from (suc n) = (
  (omega arith, omega arith),
  all_weaken (λ j. (from + 1 ≤ j) × (j < from + 1 + n)) (λ j. (from ≤ j) × (j < from + suc n)) (numbers_from (from + 1) n)
      (λ x f. (omega (arith, f.0), omega (arith, f.1))) (new_numbers (from + 1) n),
)

-- new numbers before old ones
distinct_new : (from n : ℕ) (xs : List ℕ) → AllByRecursion (λ j. j < from) xs → Distinct xs
    → Distinct (numbers_from from n ++ xs)
distinct_new from zero xs below f = f
distinct_new from (suc n) xs below f = (
  all_append (λ j. from ≢ j) (numbers_from (from + 1) n) xs
      (all_weaken (λ j. (from + 1 ≤ j) × (j < from + 1 + n)) (λ j. from ≢ j) (numbers_from (from + 1) n) (λ x g e. omega (arith, g.0, e))
      (new_numbers (from + 1) n))
      (all_weaken (λ j. j < from) (λ j. from ≢ j) xs (λ x g e. omega (arith, g, e)) below),
  distinct_new (from + 1) n xs (all_weaken (λ j. j < from) (λ j. j < from + 1) xs (λ x g. omega (arith, g)) below) f,
)

-- the nodes that wait after a line of node i
abbrev pub next_waiting : List Node → Row → List ℕ → List ℕ
next_waiting nodes row waiting = numbers_from (length nodes) (arity row) ++ waiting

pub length_next : (nodes : List Node) (row : Row) (waiting : List ℕ)
    → length (next_waiting nodes row waiting) ≡ arity row + length waiting
length_next nodes row waiting = omega (arith, length-append (numbers_from (length nodes) (arity row)) waiting, length-numbers_from (length nodes) (arity row))

pub next_left : (nodes : List Node) (i : ℕ) (row : Row) (waiting : List ℕ) → AreLeft nodes waiting → Apart i waiting
    → AreLeft (placed nodes i row) (next_waiting nodes row waiting)
next_left nodes i row waiting left apart =
    let n = length_placed nodes i row in
    let P : ℕ → Type 0 = λ j. (j < length (placed nodes i row)) × IsLeft (node_at (placed nodes i row) j) in
    all_append P (numbers_from (length nodes) (arity row)) waiting
    (all_weaken (λ j. (length nodes ≤ j) × (j < length nodes + arity row)) P (numbers_from (length nodes) (arity row))
    (λ j g. (omega (arith, g.1, n), subst IsLeft (sym (placed_new nodes i j row g.0 g.1)) tt)) (new_numbers (length nodes) (arity row)))
    (all_weaken (λ j. ((j < length nodes) × IsLeft (node_at nodes j)) × (i ≢ j)) P waiting
    (λ j g. (omega (arith, g.0.0, n), subst IsLeft (sym (placed_other nodes i j row g.0.0 (λ e. g.1 (sym e)))) g.0.1))
    (all_both (λ j. (j < length nodes) × IsLeft (node_at nodes j)) (λ j. i ≢ j) waiting left apart))

pub next_distinct : (nodes : List Node) (row : Row) (waiting : List ℕ) → AreLeft nodes waiting → Distinct waiting
    → Distinct (next_waiting nodes row waiting)
next_distinct nodes row waiting left f =
    distinct_new (length nodes) (arity row) waiting
    (all_weaken (λ j. (j < length nodes) × IsLeft (node_at nodes j)) (λ j. j < length nodes) waiting (λ x g. g.0) left) f

-- a node that is there and doesn't wait is none of those that wait next
pub next_apart : (nodes : List Node) (j : ℕ) (row : Row) (waiting : List ℕ) → j < length nodes → Apart j waiting
    → Apart j (next_waiting nodes row waiting)
next_apart nodes j row waiting lt f =
    all_append (λ x. j ≢ x) (numbers_from (length nodes) (arity row)) waiting
    (all_weaken (λ x. (length nodes ≤ x) × (x < length nodes + arity row)) (λ x. j ≢ x) (numbers_from (length nodes) (arity row))
    (λ x g e. omega (arith, g.0, e, lt)) (new_numbers (length nodes) (arity row))) f

-- ---- reading, line by line

-- what is read when these nodes wait
abbrev pub tree_from : Bool → List ℕ → List Node → List ℕ → Result (List Node × List ℕ) ℕ
tree_from single waiting nodes rest = forest_at arity (row_at single) (length rest + 1) (length waiting) rest >>= λ x. Ok (grown x.0 waiting nodes, x.1)

-- a row before others
abbrev behind : Row → Result (List Row × List ℕ) ℕ → Result (List Row × List ℕ) ℕ
behind row r = r >>= λ y. Ok (row ∷ y.0, y.1)

abbrev made : List ℕ → List Node → Result (List Row × List ℕ) ℕ → Result (List Node × List ℕ) ℕ
made waiting nodes r = r >>= λ x. Ok (grown x.0 waiting nodes, x.1)

-- it doesn't matter how much fuel is left, where it is enough
fuel_step : (r : Result (Row × List ℕ) ℕ) (f g : Row × List ℕ → Result (List Row × List ℕ) ℕ)
    → ((x : Row × List ℕ) → r ≡ Ok x → f x ≡ g x)
    → (r >>= λ x. behind x.0 (f x)) ≡ (r >>= λ x. behind x.0 (g x))
fuel_step (Ok x) f g h = ap (behind x.0) (h x refl)
fuel_step (Err left) f g h = refl

forest_fuel : (single : Bool) (f g n : ℕ) (bytes : List ℕ) → length bytes < f → length bytes < g
    → forest_at arity (row_at single) f n bytes ≡ forest_at arity (row_at single) g n bytes
unfolding forest_at
forest_fuel single zero g n bytes p q = absurd (omega (arith, p))
forest_fuel single (suc f) zero n bytes p q = absurd (omega (arith, q))
forest_fuel single (suc f) (suc g) zero bytes p q = refl
forest_fuel single (suc f) (suc g) (suc n) bytes p q =
    fuel_step (row_at single bytes) (λ x. forest_at arity (row_at single) f (n + arity x.0) x.1) (λ x. forest_at arity (row_at single) g (n + arity x.0) x.1)
    (λ x e. let t = row_takes single bytes x.1 x.0 e in forest_fuel single f g (n + arity x.0) x.1 (omega (arith, t.0, p)) (omega (arith, t.0, q)))

-- one line is read
abbrev opened : Bool → ℕ → List ℕ → List Node → Row × List ℕ → Result (List Node × List ℕ) ℕ
opened single i waiting nodes x = tree_from single (next_waiting nodes x.0 waiting) (placed nodes i x.0) x.1

closes : (i : ℕ) (waiting : List ℕ) (nodes : List Node) (row : Row) (r : Result (List Row × List ℕ) ℕ)
    → made (i ∷ waiting) nodes (behind row r) ≡ made (next_waiting nodes row waiting) (placed nodes i row) r
unfolding grown
closes i waiting nodes row (Ok y) = refl
closes i waiting nodes row (Err left) = refl

opens : (single : Bool) (i : ℕ) (waiting : List ℕ) (nodes : List Node) (rest : List ℕ) (r : Result (Row × List ℕ) ℕ)
    → row_at single rest ≡ r
    → made (i ∷ waiting) nodes (r >>= λ x. behind x.0 (forest_at arity (row_at single) (length rest) (length waiting + arity x.0) x.1)) ≡
    (r >>= opened single i waiting nodes)
opens single i waiting nodes rest (Err left) e = refl
opens single i waiting nodes rest (Ok x) e =
    let t = row_takes single rest x.1 x.0 e in
    let next = next_waiting nodes x.0 waiting in
    let n : length next ≡ length waiting + arity x.0 = omega (arith, length_next nodes x.0 waiting) in
    let same : forest_at arity (row_at single) (length rest) (length waiting + arity x.0) x.1 ≡ forest_at arity (row_at single) (length x.1 + 1)
    (length next) x.1 =
    forest_fuel single (length rest) (length x.1 + 1) (length waiting + arity x.0) x.1 (omega (arith, t.0)) (omega arith)
    ∙ ap (λ (k : ℕ). forest_at arity (row_at single) (length x.1 + 1) k x.1) (sym n) in
    closes i waiting nodes x.0 (forest_at arity (row_at single) (length rest) (length waiting + arity x.0) x.1) ∙ ap (made next (placed nodes i x.0)) same

tree_opens : (single : Bool) (i : ℕ) (waiting : List ℕ) (nodes : List Node) (rest : List ℕ)
    → tree_from single (i ∷ waiting) nodes rest ≡ (row_at single rest >>= opened single i waiting nodes)
unfolding forest_at
tree_opens single i waiting nodes rest =
    let fuel : length rest + 1 ≡ suc (length rest) = omega arith in
    ap (λ (k : ℕ). made (i ∷ waiting) nodes (forest_at arity (row_at single) k (suc (length waiting)) rest)) fuel
    ∙ opens single i waiting nodes rest (row_at single rest) refl

tree_ends : (single : Bool) (nodes : List Node) (rest : List ℕ) (total : Result (List Node × List ℕ) ℕ)
    → tree_from single [] nodes rest ≡ total
    → total ≡ Ok (nodes, rest)
unfolding forest_at grown
tree_ends single nodes rest total so_far =
    let fuel : length rest + 1 ≡ suc (length rest) = omega arith in
    let ends : tree_from single [] nodes rest ≡ Ok (nodes, rest) = rw fuel refl in
    sym so_far ∙ ends

tree_begins : (single : Bool) (bytes : List ℕ) → tree_from single (0 ∷ []) (Left None ∷ []) bytes ≡ tree_at single bytes
unfolding tree_at rows_at
tree_begins single bytes = refl

-- ---- the loops

pub numbers_more : (first left count : ℕ) (xs : List ℕ) → 0 < left → left ≤ count
    → (first + (left - 1)) ∷ (numbers_from (first + left) (count - left) ++ xs) ≡ numbers_from (first + (left - 1)) (count - (left - 1)) ++ xs
numbers_more first left count xs lt le =
    let k : count - (left - 1) ≡ suc (count - left) = omega arith in
    let m : first + left ≡ first + (left - 1) + 1 = omega arith in
    rw (k, m) refl

-- what is kept while the tree grows
pub record IsGrowing (single : Bool) (bytes waiting : List ℕ) (nodes : List Node) (rest : List ℕ) : Type 0 where
  pub reads : tree_from single waiting nodes rest ≡ tree_at single bytes
  pub left : AreLeft nodes waiting
  pub distinct : Distinct waiting
  pub few : length nodes + length rest ≤ length bytes + 1

pub starts_growing : (single : Bool) (bytes : List ℕ) → IsGrowing single bytes (0 ∷ []) (Left None ∷ []) bytes
starts_growing single bytes = record { reads = tree_begins single bytes; left = ((omega arith, tt), tt); distinct = (tt, tt); few = omega arith }

pub popped : (old new : List ℕ) (i : ℕ) → old ≡ new ++ i ∷ [] → reverse old ≡ i ∷ reverse new
popped old new i e = ap reverse e ∙ reverse-append new (i ∷ [])

pub goes_on_growing : (single : Bool) (bytes old new : List ℕ) (i : ℕ) (nodes : List Node) (rest : List ℕ) (row : Row) (after next : List ℕ) (more : List Node)
    → IsGrowing single bytes (reverse old) nodes rest → old ≡ new ++ i ∷ []
    → row_at single rest ≡ Ok (row, after) → more ≡ placed nodes i row
    → next ≡ numbers_from (length nodes) (arity row) ++ reverse new
    → IsGrowing single bytes next more after
goes_on_growing single bytes old new i nodes rest row after next more h pops e n w =
    let top : IsGrowing single bytes (i ∷ reverse new) nodes rest = subst (λ (x : List ℕ). IsGrowing single bytes x nodes rest) (popped old new i pops) h in
    let t = row_takes single rest after row e in
    let opens_so : tree_from single (i ∷ reverse new) nodes rest ≡ tree_from single (next_waiting nodes row (reverse new)) (placed nodes i row) after =
    tree_opens single i (reverse new) nodes rest ∙ ap (λ (r : Result (Row × List ℕ) ℕ). r >>= opened single i (reverse new) nodes) e in
    let made_more : IsGrowing single bytes (next_waiting nodes row (reverse new)) (placed nodes i row) after = record {
      reads = sym opens_so ∙ top.reads;
      left = next_left nodes i row (reverse new) top.left.1 top.distinct.0;
      distinct = next_distinct nodes row (reverse new) top.left.1 top.distinct.1;
      few = omega (arith, length_placed nodes i row, top.few, t.0);
    } in
    subst (λ (x : List ℕ). IsGrowing single bytes x more after) (sym w)
    (subst (λ (x : List Node). IsGrowing single bytes (next_waiting nodes row (reverse new)) x after) (sym n) made_more)

-- the node on top is there, and left
pub top_left : (single : Bool) (bytes old new : List ℕ) (i : ℕ) (nodes : List Node) (rest : List ℕ)
    → IsGrowing single bytes (reverse old) nodes rest
    → old ≡ new ++ i ∷ [] → (i < length nodes) × IsLeft (node_at nodes i)
top_left single bytes old new i nodes rest h pops = (subst (λ (x : List ℕ). AreLeft nodes x) (popped old new i pops) h.left).0

pub growing_breaks : (single : Bool) (bytes old new : List ℕ) (i : ℕ) (nodes : List Node) (rest : List ℕ) (e : Stop)
    → IsGrowing single bytes (reverse old) nodes rest → old ≡ new ++ i ∷ [] → Fails e (row_at single rest)
    → Fails e (tree_at single bytes)
growing_breaks single bytes old new i nodes rest stops.Memory h pops f = tt
growing_breaks single bytes old new i nodes rest (stops.Broken left) h pops f =
    sym h.reads ∙ ap (λ (x : List ℕ). tree_from single x nodes rest) (popped old new i pops) ∙ tree_opens single i (reverse new) nodes rest
    ∙ ap (λ (r : Result (Row × List ℕ) ℕ). r >>= opened single i (reverse new) nodes) f

pub growing_ends : (single : Bool) (bytes old : List ℕ) (nodes : List Node) (rest : List ℕ)
    → IsGrowing single bytes (reverse old) nodes rest → length old ≡ 0
    → tree_at single bytes ≡ Ok (nodes, rest)
growing_ends single bytes old nodes rest h e =
    let none : old ≡ [] = nil_from_length old e in
    tree_ends single nodes rest (tree_at single bytes) (ap (λ (x : List ℕ). tree_from single (reverse x) nodes rest) (sym none) ∙ h.reads)
