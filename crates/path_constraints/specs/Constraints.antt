-- The constraints of a path: what the ticks of the moves meet in every legal timetable that meets its decisions. Each
-- says that the tick of node `to` less that of node `from` is at least w + q * period; nodes are the numbers of moves.
use Rattle.std.specs.Prelude.{ℕ, ◌+◌, ◌-◌, ◌<◌, ◌≤◌, ◌==◌, if◌then◌else◌, is_some, IsSome, List, [], ◌∷◌, ◌++◌, map, flat_map, length, unwrap_or, ℤ, pos, negsuc, ◌-ℤ◌, ◌≤ℤ◌, ◌+ℤ◌, neg_ℤ, Option, Some, None}
use Rattle.hoist_base.specs.LineData.{LineData, stage, last_stage, last_step, move_number}
use Rattle.hoist_base.specs.declared.ids.MoveId.{MoveId}
use Rattle.hoist_base.specs.declared.ids.VisitId.{VisitId}
use Rattle.longest_path.specs.declared.systems.Arc.{Arc}
use Rattle.longest_path.specs.System.{weight}
use Rattle.collision_pairs.specs.declared.span.Span.{Span}
use Rattle.choice_tree.specs.declared.question.Question.{Question}
use Rattle.choice_tree.specs.declared.question.Question.TheVariants.{Assign, TankOrder, HoistOrder, Choose}
use Rattle.choice_tree.specs.declared.question.Decision.{Decision}
use Rattle.choice_tree.specs.declared.constraint.Constraint.{Constraint}
use Rattle.choice_tree.specs.declared.constraint.Constraint.TheVariants.{Min, Max, Entry, Visit, Repeat, Decided}
use Rattle.choice_tree.specs.Nodes.{numbers_from}
use Rattle.path_constraints.specs.Tanks.{decision_at, low, high, back}
use Rattle.path_constraints.specs.Hoists.{clash_below}
use Rattle.path_constraints.specs.Holds.{Moment, begin_of, end_of, node_of}

-- ---- what a decision on an order asks

abbrev pub no_arc : Arc
no_arc = record { from = 0; to = 0; w = pos 0; q = pos 0 }

-- moment y, q periods later, is not before moment x
abbrev pub moment_arc : LineData → Moment → Moment → ℤ → Arc
moment_arc l x y q = record { from = node_of l x; to = node_of l y; w = x.fixed -ℤ y.fixed; q = neg_ℤ q }

-- child 0: visit a ends before visit b, q periods later, begins; child 1: that b ends before a begins
abbrev pub tank_arc : LineData → List Decision → VisitId → VisitId → ℤ → ℕ → Arc
tank_arc l path a b q child =
    if child == 0
    then moment_arc l (end_of l (low l path) a.carrier a.stage) (begin_of l (low l path) b.carrier b.stage) q
    else moment_arc l (end_of l (low l path) b.carrier b.stage) (begin_of l (low l path) a.carrier a.stage) (neg_ℤ q)

-- child 0: move b, q periods later, starts at least `after` ticks after move a; child 1: a starts `before` ticks after
-- that b
abbrev pub span_arc : LineData → MoveId → MoveId → ℤ → ℕ → Option Span → Arc
span_arc l a b q child None = no_arc
span_arc l a b q child (Some span) =
    if child == 0
    then record { from = move_number l a.carrier a.step; to = move_number l b.carrier b.step; w = span.after; q = neg_ℤ q }
    else record { from = move_number l b.carrier b.step; to = move_number l a.carrier a.step; w = span.before; q = q }

abbrev pub decided_arc : LineData → List Decision → Question → ℕ → Arc
decided_arc l path (Assign m) child = no_arc
decided_arc l path (TankOrder a b q) child = tank_arc l path a b q child
decided_arc l path (HoistOrder a b q) child = span_arc l a b q child (clash_below l path a b)
decided_arc l path (Choose v) child = no_arc

-- ---- the table

-- the dwell at stage k of carrier c is long enough
abbrev pub min_arc : LineData → List Decision → ℕ → ℕ → Arc
min_arc l path c k = record {
  from = move_number l c (k - 1);
  to = move_number l c k;
  w = pos (low l path c (k - 1) + (stage l k).min);
  q = pos 0;
}

-- and not too long
abbrev pub max_arc : LineData → List Decision → ℕ → ℕ → Arc
max_arc l path c k = record {
  from = move_number l c k;
  to = move_number l c (k - 1);
  w = neg_ℤ (pos (high l path c (k - 1) + unwrap_or (stage l k).max 0));
  q = pos 0;
}

-- the next carrier, that of the next period after the last, is put on when carrier c has been lifted
abbrev pub entry_arc : LineData → ℕ → Arc
entry_arc l c =
    if c + 1 == l.degree
    then record { from = move_number l c 0; to = 0; w = pos (l.load + (stage l 0).lift); q = negsuc 0 }
    else record { from = move_number l c 0; to = move_number l (c + 1) 0; w = pos (l.load + (stage l 0).lift); q = pos 0 }

-- carrier c has left the tank of stage k when that of the next period is lowered into it
abbrev pub visit_arc : LineData → List Decision → ℕ → ℕ → Arc
visit_arc l path c k =
    if k == last_stage l
    then record {
      from = move_number l c (last_step l);
      to = move_number l c (last_step l);
      w = pos ((stage l k).lower + l.unload);
      q = negsuc 0;
    }
    else record {
      from = move_number l c k;
      to = move_number l c (k - 1);
      w = pos ((stage l k).lift + (stage l k).lower) -ℤ pos (high l path c (k - 1));
      q = negsuc 0;
    }

-- the hoist of move (c, k) is back a period later
abbrev pub repeat_arc : LineData → List Decision → ℕ → ℕ → Arc
repeat_arc l path c k = record {
  from = move_number l c k;
  to = move_number l c k;
  w = pos (back l path c k);
  q = negsuc 0;
}

abbrev pub arc_of : LineData → List Decision → Constraint → Arc
arc_of l path (Min c k) = min_arc l path c k
arc_of l path (Max c k) = max_arc l path c k
arc_of l path (Entry c) = entry_arc l c
arc_of l path (Visit c k) = visit_arc l path c k
arc_of l path (Repeat c k) = repeat_arc l path c k
arc_of l path (Decided i) = decided_arc l path (decision_at path i).question (decision_at path i).child

-- ---- which constraints there are, and their order

abbrev pub IsOrder : Question → Type 0
IsOrder (Assign m) = ⊥
IsOrder (TankOrder a b q) = Unit {0}
IsOrder (HoistOrder a b q) = Unit {0}
IsOrder (Choose v) = ⊥

abbrev pub IsConstraint : LineData → List Decision → Constraint → Type 0
IsConstraint l path (Min c k) = (c < l.degree) × (1 ≤ k) × (k ≤ last_step l)
IsConstraint l path (Max c k) = (c < l.degree) × (1 ≤ k) × (k ≤ last_step l) × IsSome (stage l k).max
IsConstraint l path (Entry c) = c < l.degree
IsConstraint l path (Visit c k) = (c < l.degree) × (1 ≤ k) × (k ≤ last_stage l)
IsConstraint l path (Repeat c k) = (c < l.degree) × (k ≤ last_step l)
IsConstraint l path (Decided i) = (i < length path) × IsOrder (decision_at path i).question

abbrev pub steps : LineData → List ℕ
steps l = numbers_from 0 (last_stage l)

-- the inner stages
abbrev pub inner_stages : LineData → List ℕ
inner_stages l = numbers_from 1 (last_step l)

-- all stages but the load
abbrev pub later_stages : LineData → List ℕ
later_stages l = numbers_from 1 (last_stage l)

-- by carrier
abbrev pub by_carrier : LineData → (ℕ → List Constraint) → List Constraint
by_carrier l row = flat_map row (numbers_from 0 l.degree)

abbrev pub undecided_list : LineData → List Constraint
undecided_list l =
    by_carrier l (λ c. map (λ k. Min c k) (inner_stages l))
    ++ by_carrier l (λ c. flat_map (λ k. if is_some (stage l k).max then Max c k ∷ [] else []) (inner_stages l))
    ++ by_carrier l (λ c. Entry c ∷ [])
    ++ by_carrier l (λ c. map (λ k. Visit c k) (later_stages l))
    ++ by_carrier l (λ c. map (λ k. Repeat c k) (steps l))

-- the decided constraints of decisions, the first of which has this place on the path
abbrev pub decided_by : Question → ℕ → List Constraint
decided_by (Assign m) i = []
decided_by (TankOrder a b q) i = Decided i ∷ []
decided_by (HoistOrder a b q) i = Decided i ∷ []
decided_by (Choose v) i = []

abbrev pub decided_list : ℕ → List Decision → List Constraint
decided_list i [] = []
decided_list i (d ∷ ds) = decided_by d.question i ++ decided_list (i + 1) ds

abbrev pub constraint_list : LineData → List Decision → List Constraint
constraint_list l path = undecided_list l ++ decided_list 0 path

abbrev pub arcs_of : LineData → List Decision → List Arc
arcs_of l path = map (arc_of l path) (constraint_list l path)

-- the ticks meet a constraint at a period
abbrev pub Keeps : (ℕ → ℤ) → ℕ → Arc → Type 0
Keeps ticks period a = (ticks a.from +ℤ weight a period) ≤ℤ ticks a.to
