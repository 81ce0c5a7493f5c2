-- What the ticks of siblings with a margin meet: constraints `t to - t from >= w + q * margin`, in their order.
use Rattle.std.specs.Prelude.{ℕ, zero, suc, ◌==◌, nat_lt, if◌then◌else◌, List, [], ◌∷◌, ◌++◌, map, Option, Some, None, ℤ, pos, ◌+ℤ◌, ◌-ℤ◌, ◌*ℤ◌, neg_ℤ}
use Rattle.hoist_base.specs.LineData.{LineData, move_count, visit_count, move_at, visit_at}
use Rattle.hoist_base.specs.declared.ids.MoveId.{MoveId}
use Rattle.hoist_base.specs.declared.ids.VisitId.{VisitId}
use Rattle.line_model.specs.Timetable.{Timetable}
use Rattle.longest_path.specs.declared.systems.Arc.{Arc}
use Rattle.longest_path.specs.System.{SystemData, weight}
use Rattle.collision_pairs.specs.declared.span.Span.{Span}
use Rattle.choice_tree.specs.declared.question.Decision.{Decision}
use Rattle.choice_tree.specs.declared.constraint.Constraint.{Constraint}
use Rattle.choice_tree.specs.declared.constraint.Constraint.TheVariants.{Min, Max, Entry, Visit, Repeat, Decided}
use Rattle.path_constraints.specs.Constraints.{moment_arc, span_arc, arc_of, undecided_list}
use Rattle.path_constraints.specs.Holds.{begin_of, end_of}
use Rattle.path_constraints.specs.Meets.{durations_of}
use Rattle.window_margin.specs.Orders.{own_clash, visit_order, move_order}

-- how often the margin stands in a constraint: once in the least and the greatest dwell
abbrev pub share_of : Constraint → ℤ
share_of (Min c k) = pos 1
share_of (Max c k) = pos 1
share_of (Entry c) = pos 0
share_of (Visit c k) = pos 0
share_of (Repeat c k) = pos 0
share_of (Decided i) = pos 0

-- what a constraint asks at a period, with a share of the margin
abbrev pub at_period : ℕ → ℤ → Arc → Arc
at_period period share a = record { from = a.from; to = a.to; w = weight a period; q = share }

-- the constraints that stand on every path, below one that chooses all tanks
abbrev pub undecided_arcs : LineData → List Decision → ℕ → List Arc
undecided_arcs l path period = map (λ t. at_period period (share_of t) (arc_of l path t)) (undecided_list l)

-- the lists of the numbers below n, one after another
abbrev pub rows_below : (ℕ → List Arc) → ℕ → List Arc
rows_below row zero = []
rows_below row (suc n) = rows_below row n ++ row n

-- two visits keep their order q: a ends before b, q periods later, begins; and b, q - 1 periods later, ends before a
-- begins
abbrev pub ordered_visits : LineData → Timetable → VisitId → VisitId → ℤ → List Arc
ordered_visits l p a b q =
    let d = durations_of l p in
    let back = neg_ℤ (q -ℤ pos 1) in
    at_period p.period (pos 0) (moment_arc l (end_of l d a.carrier a.stage) (begin_of l d b.carrier b.stage) q)
    ∷ at_period p.period (pos 0) (moment_arc l (end_of l d b.carrier b.stage) (begin_of l d a.carrier a.stage) back)
    ∷ []

-- where they use one tank
abbrev pub visit_pair : LineData → Timetable → VisitId → VisitId → List Arc
visit_pair l p a b =
    if p.tank a.carrier a.stage == p.tank b.carrier b.stage then ordered_visits l p a b (visit_order l p a b) else []

-- two moves keep their order q: b, q periods later, starts late enough after a, and a late enough after b, q - 1
-- periods later
abbrev pub ordered_moves : LineData → Timetable → MoveId → MoveId → ℤ → Option Span → List Arc
ordered_moves l p a b q span =
    at_period p.period (pos 0) (span_arc l a b q 0 span)
    ∷ at_period p.period (pos 0) (span_arc l a b (q -ℤ pos 1) 1 span)
    ∷ []

-- where they can collide
abbrev pub spanned_moves : LineData → Timetable → MoveId → MoveId → Option Span → List Arc
spanned_moves l p a b None = []
spanned_moves l p a b (Some span) = ordered_moves l p a b (move_order l p a b span) (Some span)

abbrev pub move_pair : LineData → Timetable → MoveId → MoveId → List Arc
move_pair l p a b = spanned_moves l p a b (own_clash l p a b)

-- the pairs of the visits, and of the moves: by the first, and then by the second behind it
abbrev pub visit_row : LineData → Timetable → ℕ → ℕ → List Arc
visit_row l p i j = if nat_lt i j then visit_pair l p (visit_at l i) (visit_at l j) else []

abbrev pub visit_arcs : LineData → Timetable → List Arc
visit_arcs l p = rows_below (λ i. rows_below (visit_row l p i) (visit_count l)) (visit_count l)

abbrev pub move_row : LineData → Timetable → ℕ → ℕ → List Arc
move_row l p i j = if nat_lt i j then move_pair l p (move_at l i) (move_at l j) else []

abbrev pub move_arcs : LineData → Timetable → List Arc
move_arcs l p = rows_below (λ i. rows_below (move_row l p i) (move_count l)) (move_count l)

-- all of them, where the path chooses the tanks
abbrev pub margin_arcs : LineData → Timetable → List Decision → List Arc
margin_arcs l p path = undecided_arcs l path p.period ++ (visit_arcs l p ++ move_arcs l p)

-- ---- systems

-- the same with the margin plus 1 in the place of the margin, as no period of a system is 0
abbrev pub from_one : Arc → Arc
from_one a = record { from = a.from; to = a.to; w = a.w -ℤ a.q; q = a.q }

abbrev pub margin_system : LineData → List Arc → SystemData
margin_system l arcs = record { nodes = move_count l; arcs = map from_one arcs }

-- the same with a number of ticks less the margin in its place, so that greater numbers ask less
abbrev pub turned : ℕ → Arc → Arc
turned ticks a = record { from = a.from; to = a.to; w = a.w +ℤ a.q *ℤ pos ticks; q = neg_ℤ a.q }

abbrev pub turned_system : LineData → ℕ → List Arc → SystemData
turned_system l ticks arcs = record { nodes = move_count l; arcs = map (turned ticks) arcs }
