-- Where the constraints stand in the list of a path, and the system of a path.
use Rattle.std.specs.Prelude.{◌≡◌, ◌⊎◌, ℕ, ◌+◌, ◌-◌, ◌*◌, ◌≤◌, List, length, filter, is_some, unsigned_abs}
use Rattle.hoist_base.specs.LineData.{LineData, stage, last_stage, last_step, move_count, IsMove, IsVisit}
use Rattle.longest_path.specs.System.{SystemData, arc}
use Rattle.choice_tree.specs.declared.question.Question.{Question}
use Rattle.choice_tree.specs.declared.question.Question.TheVariants.{Assign, TankOrder, HoistOrder, Choose}
use Rattle.choice_tree.specs.declared.question.Decision.{Decision}
use Rattle.choice_tree.specs.declared.constraint.Constraint.{Constraint}
use Rattle.choice_tree.specs.declared.constraint.Constraint.TheVariants.{Min, Max, Entry, Visit, Repeat, Decided}
use Rattle.choice_tree.specs.Nodes.{numbers_from}
use Rattle.path_constraints.specs.Constraints.{IsConstraint, arc_of, arcs_of}

-- the system of a path: a node for each move, and the path's constraints in their order
abbrev pub system_below : LineData → List Decision → SystemData
system_below l path = record { nodes = move_count l; arcs = arcs_of l path }

-- an order names visits or moves of the line, and its q is not too large
abbrev pub NamesOrder : LineData → Question → Type 0
NamesOrder l (Assign m) = Unit {0}
NamesOrder l (TankOrder a b q) = IsVisit l a.carrier a.stage × IsVisit l b.carrier b.stage × (unsigned_abs q ≤ 1000000000)
NamesOrder l (HoistOrder a b q) = IsMove l a.carrier a.step × IsMove l b.carrier b.step × (unsigned_abs q ≤ 1000000000)
NamesOrder l (Choose v) = Unit {0}

-- how many inner stages before stage k have a greatest dwell
abbrev pub maxes_before : LineData → ℕ → ℕ
maxes_before l k = length (filter (λ j. is_some (stage l j).max) (numbers_from 1 (k - 1)))

-- and how many of all
abbrev pub maxes : LineData → ℕ
maxes l = maxes_before l (last_stage l)

-- where a constraint stands in the list, from 0
abbrev pub place : LineData → Constraint → ℕ
place l (Min c k) = c * last_step l + (k - 1)
place l (Max c k) = l.degree * last_step l + (c * maxes l + maxes_before l k)
place l (Entry c) = l.degree * last_step l + (l.degree * maxes l + c)
place l (Visit c k) = l.degree * last_step l + (l.degree * maxes l + (l.degree + (c * last_stage l + (k - 1))))
place l (Repeat c k) = l.degree * last_step l + (l.degree * maxes l + (l.degree + (l.degree * last_stage l + (c * last_stage l + k))))
place l (Decided i) =
    l.degree * last_step l + (l.degree * maxes l + (l.degree + (l.degree * last_stage l + (l.degree * last_stage l + i))))

-- how many constraints a line has before any decision
abbrev pub undecided_count : LineData → ℕ
undecided_count l = place l (Decided 0)

-- the constraint stands on every path
abbrev pub IsUndecided : Constraint → Type 0
IsUndecided (Min c k) = Unit {0}
IsUndecided (Max c k) = Unit {0}
IsUndecided (Entry c) = Unit {0}
IsUndecided (Visit c k) = Unit {0}
IsUndecided (Repeat c k) = Unit {0}
IsUndecided (Decided i) = ⊥

-- what it asks depends on how long move (c, k) lasts
abbrev pub IsOfMove : ℕ → ℕ → Constraint → Type 0
IsOfMove c k (Min c' k') = (c' ≡ c) × (k' ≡ k + 1)
IsOfMove c k (Max c' k') = (c' ≡ c) × (k' ≡ k + 1)
IsOfMove c k (Entry c') = ⊥
IsOfMove c k (Visit c' k') = (c' ≡ c) × (k' ≡ k + 1)
IsOfMove c k (Repeat c' k') = (c' ≡ c) × (k' ≡ k)
IsOfMove c k (Decided i) = ⊥

-- the new system has what the path asks by its constraints of a kind; every other place is as in the old one
pub record Rewrites (l : LineData) (path : List Decision) (Kind : Constraint → Type 0) (old new : SystemData) : Type 0 where
  pub nodes : new.nodes ≡ old.nodes
  pub count : length new.arcs ≡ length old.arcs
  pub changed : (t : Constraint) → IsConstraint l path t → Kind t → arc new (place l t) ≡ arc_of l path t
  pub others : (j : ℕ) → (arc new j ≡ arc old j) ⊎ ((t : Constraint) × IsConstraint l path t × Kind t × (place l t ≡ j))

-- a system with a node for each move and room for the line's constraints
abbrev pub HasPlaces : LineData → SystemData → Type 0
HasPlaces l s = (s.nodes ≡ move_count l) × (undecided_count l ≤ length s.arcs)

-- it is one of this carrier's constraints, and stands on every path
abbrev pub IsOfCarrier : ℕ → Constraint → Type 0
IsOfCarrier c (Min c' k) = c' ≡ c
IsOfCarrier c (Max c' k) = c' ≡ c
IsOfCarrier c (Entry c') = c' ≡ c
IsOfCarrier c (Visit c' k) = c' ≡ c
IsOfCarrier c (Repeat c' k) = c' ≡ c
IsOfCarrier c (Decided i) = ⊥

-- it depends on the moves before and after visit (c, k)
abbrev pub IsOfVisit : ℕ → ℕ → Constraint → Type 0
IsOfVisit c k t = IsOfMove c (k - 1) t ⊎ IsOfMove c k t
