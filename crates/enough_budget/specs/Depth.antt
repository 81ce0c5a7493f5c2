-- How many questions a path of a search can hold at most, and how many splits its tree.
use Rattle.std.specs.Prelude.{ℕ, ◌+◌, ◌*◌, ◌^◌, ◌==◌, nat_le, max, Bool, List, [], ◌∷◌, length, map, flat_map, count_by, unsigned_abs, Option, Some, None}
use Rattle.std.specs.List.{list_any}
use Rattle.hoist_base.specs.LineData.{LineData, stage, last_step, visit_count, visit_at, move_count, move_at}
use Rattle.hoist_base.specs.declared.stage.Stage.{Stage}
use Rattle.line_model.specs.declared.motion.Motion.{Motion}
use Rattle.collision_pairs.specs.declared.span.Span.{Span}
use Rattle.choice_tree.specs.Nodes.{numbers_from}
use Rattle.path_constraints.specs.Tanks.{greatest_of, motions_below}
use Rattle.path_constraints.specs.declared.rides.Ride.{Ride}
use Rattle.path_constraints.specs.Hoists.{hoists_reaching, clash_between}

-- all pairs of numbers below a count, the first below the second
abbrev pub pairs : ℕ → List (ℕ × ℕ)
pairs count = flat_map (λ j. map (λ i. (i, j)) (numbers_from 0 j)) (numbers_from 0 count)

-- ---- choices of tanks and of hoists

-- the stage of visit i has two or more tanks
abbrev pub has_choice : LineData → ℕ → Bool
has_choice l i = nat_le 2 (length (stage l (visit_at l i).stage).tanks)

-- the motions of step k, one for each choice of its two tanks
abbrev pub motions_of : LineData → ℕ → List Motion
motions_of l k = motions_below l [] 0 k

-- two or more hoists reach move i for some choice of its two tanks
abbrev pub has_hoists : LineData → ℕ → Bool
has_hoists l i = list_any (λ m. nat_le 2 (length (hoists_reaching l m))) (motions_of l (move_at l i).step)

-- ---- orders

-- the stages have a tank in common
abbrev pub share : Stage → Stage → Bool
share s t = list_any (λ i. list_any (λ j. i == j) t.tanks) s.tanks

-- so do those of the two visits
abbrev pub shares : LineData → ℕ × ℕ → Bool
shares l p = share (stage l (visit_at l p.0).stage) (stage l (visit_at l p.1).stage)

-- each motion of step k by each hoist that reaches it
abbrev pub rides_of : LineData → ℕ → List Ride
rides_of l k = flat_map (λ m. map (λ h. record { motion = m; hoist = h }) (hoists_reaching l m)) (motions_of l k)

-- the sizes of a clash
abbrev pub sizes_of : Option Span → List ℕ
sizes_of None = []
sizes_of (Some span) = unsigned_abs span.after ∷ unsigned_abs span.before ∷ []

-- the sizes of the clashes of two steps, over all tanks and hoists
abbrev pub clash_sizes : LineData → ℕ → ℕ → List ℕ
clash_sizes l k k' = flat_map (λ x. flat_map (λ y. sizes_of (clash_between l x y)) (rides_of l k')) (rides_of l k)

-- the greatest size of a clash of two moves, or 0 where no two clash
abbrev pub greatest_size : LineData → ℕ
greatest_size l = greatest_of (flat_map (λ p. clash_sizes l (move_at l p.0).step (move_at l p.1).step) (pairs (move_count l)))

-- by how many periods at most the second of an order is moved, either way, where the least ticks leave it open
abbrev pub greatest_shift : LineData → ℕ
greatest_shift l = 2 * last_step l + 3 + greatest_size l

-- ---- the depth

-- of how many visits a tank is chosen, to how many moves a hoist is assigned, and between how many pairs of visits with
-- a tank in common and of moves there may be an order
abbrev pub choice_count : LineData → ℕ
choice_count l = count_by (has_choice l) (numbers_from 0 (visit_count l))

abbrev pub assign_count : LineData → ℕ
assign_count l = count_by (has_hoists l) (numbers_from 0 (move_count l))

abbrev pub order_count : LineData → ℕ
order_count l = count_by (shares l) (pairs (visit_count l)) + length (pairs (move_count l))

-- how many questions there are: one for each choice and each assignment, and one for each order and each shift
abbrev pub depth : LineData → ℕ
depth l = choice_count l + assign_count l + order_count l * (2 * greatest_shift l + 1)

-- a question has at most so many children: two of an order, one for each hoist, or one for each tank of a stage
abbrev pub most_children : LineData → ℕ
most_children l = max 2 (max l.hoists (greatest_of (map (λ (s : Stage). length s.tanks) l.stages)))

-- a tree of this depth with so many children a split has fewer splits
abbrev pub enough_budget : LineData → ℕ
enough_budget l = most_children l ^ depth l
