-- What is found of a timetable's margin.
use Rattle.std.specs.Prelude.{◌≡◌, ℕ, ◌+◌, ◌≤◌, List, [], ◌∷◌, length, map, Some, ℤ, pos, ◌+ℤ◌, ◌*ℤ◌, ◌<ℤ◌, unsigned_abs}
use Rattle.hoist_base.specs.LineData.{LineData, move_at, move_number, IsMove}
use Rattle.hoist_base.specs.declared.ids.MoveId.{MoveId}
use Rattle.line_model.specs.Timetable.{Timetable}
use Rattle.longest_path.specs.declared.systems.Arc.{Arc}
use Rattle.longest_path.specs.System.{IsLeastSolution}
use Rattle.cycle_walk.specs.Closed.{WalkData, closed_walk_of}
use Rattle.choice_tree.specs.declared.question.Decision.{Decision}
use Rattle.path_constraints.specs.Ticks.{tick_at}
use Rattle.window_margin.specs.declared.reads.MarginArc.{MarginArc}
use Rattle.window_margin.specs.declared.reads.MarginRead.{MarginRead}
use Rattle.window_margin.specs.declared.reads.MarginRead.TheVariants.{NoWindow, Found}
use Rattle.window_margin.specs.Margins.{IsSibling, HasMargin, IsMargin}
use Rattle.window_margin.specs.Chosen.{IsChosen}
use Rattle.window_margin.specs.Arcs.{margin_arcs, margin_system}
use Rattle.window_margin.specs.Systems.{arc_at}

-- every move starts the line's load time after its tick
abbrev pub StartsBy : LineData → Timetable → (ℕ → ℤ) → Type 0
StartsBy l s t = (c k : ℕ) → IsMove l c k → pos (s.start c k) ≡ t (move_number l c k) +ℤ pos l.load

-- a constraint between two moves: the margin stands in it g times
abbrev pub named_arc : LineData → Arc → MarginArc
named_arc l a = record { from = move_at l a.from; to = move_at l a.to; w = a.w; g = unsigned_abs a.q }

abbrev pub named_walk : LineData → List Arc → List ℕ → List MarginArc
named_walk l arcs walk = map (λ k. named_arc l (arc_at arcs k)) walk

-- each constraint begins where the one before ends, the first at one move, and the last ends at another
abbrev pub Joined : MoveId → List MarginArc → MoveId → Type 0
Joined from [] to = from ≡ to
Joined from (a ∷ rest) to = (a.from ≡ from) × Joined a.to rest to

-- some constraints, the last of which ends where the first begins
abbrev pub IsClosedChain : List MarginArc → Type 0
IsClosedChain walk = (1 ≤ length walk) × ((m : MoveId) × Joined m walk m)

-- what they ask together at a margin
abbrev pub asked_at : ℕ → List MarginArc → ℤ
asked_at margin [] = pos 0
asked_at margin (a ∷ rest) = asked_at margin rest +ℤ (a.w +ℤ pos a.g *ℤ pos margin)

-- the walk of the constraints with these numbers is the canonical one at 1 more than the margin
pub record IsWalkAbove (l : LineData) (arcs : List Arc) (ticks : ℕ) (walk : List MarginArc) : Type 0 where
  pub canonical : WalkData
  pub is : closed_walk_of (margin_system l arcs) (ticks + 1 + 1) ≡ Some canonical
  pub names : walk ≡ named_walk l arcs canonical.arcs

-- The margin; the starts of a sibling that has it, less the load time, which are the least ticks there; and the closed
-- walk that leaves no more.
pub record IsFound (l : LineData) (p : Timetable) (ticks : ℕ) (starts : List ℤ) (walk : List MarginArc) : Type 0 where
  pub margin : IsMargin l p ticks
  pub sibling : (s : Timetable) × IsSibling l p s × HasMargin l s ticks × StartsBy l s (tick_at starts)
  pub path : List Decision
  pub chosen : IsChosen l p path
  pub least : IsLeastSolution (margin_system l (margin_arcs l p path)) (ticks + 1) starts
  pub canonical : IsWalkAbove l (margin_arcs l p path) ticks walk
  pub closed : IsClosedChain walk
  pub gains : pos 0 <ℤ asked_at (ticks + 1) walk

abbrev pub IsMarginRead : LineData → Timetable → MarginRead → Type 0
IsMarginRead l p NoWindow = length l.stages ≡ 2
IsMarginRead l p (Found ticks starts walk) = (3 ≤ length l.stages) × IsFound l p ticks starts walk
