-- Rows of constraints that are pushed one by one.
use Rattle.std.proofs.Common.{◌≡◌, ℕ, ◌+◌, List, [], ◌∷◌, ◌++◌, map, sym, ◌∙◌, ap, arith, append_assoc}
use Rattle.std.specs.Prelude.{flat_map, is_some, if◌then◌else◌}
use Rattle.std.proofs.lemmas.List.{map-append, flat_map_more, append-nil}
use Rattle.hoist_base.specs.LineData.{LineData, stage}
use Rattle.choice_tree.specs.declared.constraint.Constraint.{Constraint}
use Rattle.choice_tree.specs.declared.constraint.Constraint.TheVariants.{Min, Max, Entry, Visit, Repeat}
use Rattle.choice_tree.specs.Nodes.{numbers_from}
use Rattle.choice_tree.proofs.NodeLemmas.{numbers_from_more}
use Rattle.path_constraints.specs.Constraints.{inner_stages, later_stages, steps, by_carrier}

-- one number more
numbers_next : (first n m k : ℕ) → m ≡ n + 1 → k ≡ first + n → numbers_from first m ≡ numbers_from first n ++ k ∷ []
numbers_next first n m k e is =
    ap (λ (j : ℕ). numbers_from first j) e ∙ numbers_from_more first n ∙ ap (λ (j : ℕ). numbers_from first n ++ j ∷ []) (sym is)

pub row_more : (f : ℕ → Constraint) (first n m k : ℕ) (before now next : List Constraint) → m ≡ n + 1 → k ≡ first + n
    → now ≡ before ++ map f (numbers_from first n) → next ≡ now ++ f k ∷ []
    → next ≡ before ++ map f (numbers_from first m)
row_more f first n m k before now next e is so_far pushed =
    pushed
    ∙ ap (λ (xs : List Constraint). xs ++ f k ∷ []) so_far
    ∙ append_assoc before (map f (numbers_from first n)) (f k ∷ [])
    ∙ ap (λ (xs : List Constraint). before ++ xs) (sym (map-append f (numbers_from first n) (k ∷ [])))
    ∙ ap (λ (xs : List ℕ). before ++ map f xs) (sym (numbers_next first n m k e is))

pub rows_more : (row : ℕ → List Constraint) (first n m k : ℕ) (before now next : List Constraint) → m ≡ n + 1
    → k ≡ first + n
    → now ≡ before ++ flat_map row (numbers_from first n) → next ≡ now ++ row k
    → next ≡ before ++ flat_map row (numbers_from first m)
rows_more row first n m k before now next e is so_far pushed =
    pushed
    ∙ ap (λ (xs : List Constraint). xs ++ row k) so_far
    ∙ flat_map_more row before (numbers_from first n) k
    ∙ ap (λ (xs : List ℕ). before ++ flat_map row xs) (sym (numbers_next first n m k e is))

-- ---- the rows of one carrier

abbrev pub min_row : LineData → ℕ → List Constraint
min_row l c = map (λ k. Min c k) (inner_stages l)

abbrev pub max_row : LineData → ℕ → List Constraint
max_row l c = flat_map (λ k. if is_some (stage l k).max then Max c k ∷ [] else []) (inner_stages l)

abbrev pub entry_row : ℕ → List Constraint
entry_row c = Entry c ∷ []

abbrev pub visit_row : LineData → ℕ → List Constraint
visit_row l c = map (λ k. Visit c k) (later_stages l)

abbrev pub repeat_row : LineData → ℕ → List Constraint
repeat_row l c = map (λ k. Repeat c k) (steps l)

-- the rows of the first carriers behind others
abbrev pub AreRows : List Constraint → (ℕ → List Constraint) → ℕ → List Constraint → Type 0
AreRows before row c names = names ≡ before ++ flat_map row (numbers_from 0 c)

pub carrier_more : (row : ℕ → List Constraint) (c : ℕ) (before now next : List Constraint) → AreRows before row c now
    → next ≡ now ++ row c
    → AreRows before row (c + 1) next
carrier_more row c before now next so_far pushed = rows_more row 0 c (c + 1) c before now next (omega arith) (omega arith) so_far pushed

pub no_carrier : (row : ℕ → List Constraint) (before : List Constraint) → AreRows before row 0 before
no_carrier row before = sym (append-nil before)

pub all_carriers : (row : ℕ → List Constraint) (l : LineData) (c : ℕ) (before now : List Constraint) → c ≡ l.degree
    → AreRows before row c now
    → now ≡ before ++ by_carrier l row
all_carriers row l c before now e so_far = so_far ∙ ap (λ (n : ℕ). before ++ flat_map row (numbers_from 0 n)) e
