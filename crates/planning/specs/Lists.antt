-- The lists of a plan, one by one.
use Rattle.std.specs.Prelude.{◌≡◌, ℕ, ◌+◌, ◌<◌, ◌≤◌, List, length, get_or, ℤ, pos, ◌+ℤ◌, ◌≤ℤ◌}
use Rattle.hoist_base.specs.LineData.{LineData, last_step, move_number}
use Rattle.hoist_base.specs.Routes.{route_tank}
use Rattle.line_model.specs.Motion.{duration, motion_by}
use Rattle.path_constraints.specs.Ticks.{tick_at}

-- ticks from 0 on, none of them late
abbrev pub HasSmallTicks : List ℤ → Type 0
HasSmallTicks ticks = (i : ℕ) → i < length ticks → (pos 0 ≤ℤ tick_at ticks i) × (tick_at ticks i ≤ℤ pos 1000000)

-- each start is the load time after its tick
pub record AreStarts (load : ℕ) (ticks : List ℤ) (starts : List ℕ) : Type 0 where
  pub count : length starts ≡ length ticks
  pub at : (i : ℕ) → i < length ticks → pos (get_or starts i 0) ≡ tick_at ticks i +ℤ pos load

-- no carrier starts before the load time is over
abbrev pub AreLoaded : LineData → List ℕ → Type 0
AreLoaded l starts = (c : ℕ) → c < l.degree → l.load ≤ get_or starts (move_number l c 0) 0

-- each carrier is put on the load time before its first move starts
pub record ArePuts (l : LineData) (starts puts : List ℕ) : Type 0 where
  pub count : length puts ≡ l.degree
  pub at : (c : ℕ) → c < l.degree → get_or puts c 0 + l.load ≡ get_or starts (move_number l c 0) 0

-- and taken off the unload time after its last move has ended
pub record AreOffs (l : LineData) (route starts offs : List ℕ) : Type 0 where
  pub count : length offs ≡ l.degree
  pub at : (c : ℕ) → c < l.degree
      → get_or offs c 0
      ≡ get_or starts (move_number l c (last_step l)) 0 + duration (motion_by l (route_tank l route c) (last_step l)) + l.unload
