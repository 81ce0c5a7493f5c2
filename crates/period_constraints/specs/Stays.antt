-- Visits and moves whose tanks are settled, with their ticks from the tick of move 0 on.
use Rattle.std.specs.Prelude.{◌≡◌, ℕ, ◌+◌, ◌<◌, ◌≤◌, List, length, get_or, ℤ, ◌-ℤ◌, unsigned_abs}
use Rattle.hoist_base.specs.LineData.{LineData, move_count, visit_number, visit_count, visit_at}
use Rattle.line_model.specs.declared.motion.Motion.{Motion}
use Rattle.line_model.specs.Motion.{duration, motion_between}
pub use Rattle.period_constraints.specs.declared.stays.Stay.{Stay}
use Rattle.path_constraints.specs.Holds.{begin_of, end_of, tick_of}

-- the tank of each visit, by the visits' numbers: each is one of the line
pub record AreRouted (l : LineData) (tanks : List ℕ) : Type 0 where
  pub room : visit_count l ≤ length tanks
  pub there : (i : ℕ) → i < visit_count l → get_or tanks i 0 < length l.tanks

-- the motion of move (c, k) between these tanks, and how long it lasts
abbrev pub motion_by : LineData → List ℕ → ℕ → ℕ → Motion
motion_by l tanks c k =
    motion_between l k (get_or tanks (visit_number l c k) 0) (get_or tanks (visit_number l c (k + 1)) 0)

abbrev pub lasting : LineData → List ℕ → ℕ → ℕ → ℕ
lasting l tanks c k = duration (motion_by l tanks c k)

-- the tick of each move is near that of move 0
abbrev pub AreNear : LineData → (ℕ → ℤ) → Type 0
AreNear l ticks = (i : ℕ) → i < move_count l → unsigned_abs (ticks i -ℤ ticks 0) ≤ 800000

-- from when to when visit i holds its tank
pub record IsStay (l : LineData) (tanks : List ℕ) (ticks : ℕ → ℤ) (i : ℕ) (x : Stay) : Type 0 where
  pub begin : x.begin ≡ tick_of l ticks (begin_of l (lasting l tanks) (visit_at l i).carrier (visit_at l i).stage) -ℤ ticks 0
  pub end : x.end ≡ tick_of l ticks (end_of l (lasting l tanks) (visit_at l i).carrier (visit_at l i).stage) -ℤ ticks 0
  pub near : (unsigned_abs x.begin ≤ 900000) × (unsigned_abs x.end ≤ 900000)
