-- What the lists of constraints keep.
use Rattle.std.specs.Prelude.{◌≡◌, ℕ, ◌<◌, ◌≤◌, ◌≤ℤ◌, nat_lt, if◌then◌else◌, List, length, get_or, pos, unsigned_abs}
use Rattle.hoist_base.specs.LineData.{LineData, move_count}
use Rattle.longest_path.specs.declared.systems.Arc.{Arc}
use Rattle.path_constraints.specs.Constraints.{no_arc}
use Rattle.window_margin.specs.Arcs.{at_period}

abbrev pub arc_at : List Arc → ℕ → Arc
arc_at arcs k = get_or arcs k no_arc

-- the weights can be reckoned at a period
abbrev pub AreSmall : List Arc → Type 0
AreSmall arcs =
    (k : ℕ) → k < length arcs
    → (unsigned_abs (arc_at arcs k).w ≤ 10000000) × (unsigned_abs (arc_at arcs k).q ≤ 1000000000)

-- the same constraints at a period, the first of them with a share of the margin
abbrev pub AreShared : ℕ → ℕ → List Arc → List Arc → Type 0
AreShared dwells period arcs shared =
    (length shared ≡ length arcs)
    × ((k : ℕ) → k < length arcs
    → arc_at shared k ≡ at_period period (if nat_lt k dwells then pos 1 else pos 0) (arc_at arcs k))

-- a constraint of a margin that may stand in a system
pub record IsMarginArc (l : LineData) (a : Arc) : Type 0 where
  pub from : a.from < move_count l
  pub to : a.to < move_count l
  pub w : unsigned_abs a.w ≤ 9000000
  pub q : (pos 0 ≤ℤ a.q) × (a.q ≤ℤ pos 1)

-- so many constraints that a system holds them
pub record AreMarginArcs (l : LineData) (arcs : List Arc) : Type 0 where
  pub few : length arcs ≤ 30000
  pub each : (k : ℕ) → k < length arcs → IsMarginArc l (arc_at arcs k)
