-- That the log of a run is whole: it leaves nothing out and holds nothing else, each event once and in order.
use Rattle.std.specs.Prelude.{◌≡◌, ◌≢◌, ℕ, ◌+◌, ◌-◌, ◌<◌, ◌≤◌, ◌⊎◌, All, AllPairs}
use Rattle.std.specs.List.{Contains}
use Rattle.hoist_base.specs.LineData.{LineData, last_stage}
use Rattle.hoist_base.specs.Valid.{IsLine}
use Rattle.line_model.specs.Timetable.{Timetable}
use Rattle.line_model.specs.Legal.{IsLegal}
use Rattle.line_model.specs.Run.{run_put, run_off, run_start, run_hoist}
use Rattle.tick_machine.specs.declared.event.What.{What}
use Rattle.tick_machine.specs.declared.event.What.TheVariants.{Set, Off, Put, Begin}
use Rattle.tick_machine.specs.declared.event.Event.{Event}
use Rattle.tick_machine.specs.Events.{at_tick}
use Rattle.startup_rundown.specs.RunLog.{run_end, run_log}

-- the run of n carriers logs that something happens at a tick
abbrev pub Logs : LineData → Timetable → ℕ → ℕ → What → Type 0
Logs l p n t what = Contains (run_log l p n) (at_tick t what)

-- each put and each off of its carriers, and the begin and the set of each move
pub record LogsAll (l : LineData) (p : Timetable) (n : ℕ) : Type 0 where
  pub puts : (c : ℕ) → c < n → Logs l p n (run_put l p c) (Put c)
  pub offs : (c : ℕ) → c < n → Logs l p n (run_off l p c) (Off c)
  pub begins : (c k : ℕ) → c < n → k < last_stage l → Logs l p n (run_start l p c k) (Begin c k (run_hoist l p c k))
  pub sets : (c k : ℕ) → c < n → k < last_stage l → Logs l p n (run_end l p c k) (Set c (k + 1))

-- this happens at tick t to one of the first n carriers: its put, its off, the begin of one of its moves by the
-- hoist of that move, or the set at the end of one
abbrev pub HappensAt : LineData → Timetable → ℕ → ℕ → What → Type 0
HappensAt l p n t (Put c) = (c < n) × (t ≡ run_put l p c)
HappensAt l p n t (Off c) = (c < n) × (t ≡ run_off l p c)
HappensAt l p n t (Begin c k h) = (c < n) × (k < last_stage l) × (h ≡ run_hoist l p c k) × (t ≡ run_start l p c k)
HappensAt l p n t (Set c k) = (c < n) × (1 ≤ k) × (k ≤ last_stage l) × (t ≡ run_end l p c (k - 1))

abbrev pub IsOfRun : LineData → Timetable → ℕ → Event → Type 0
IsOfRun l p n e = HappensAt l p n e.tick e.what

-- inside a tick sets come first, then the off, the put and begins
abbrev pub kind_rank : What → ℕ
kind_rank (Set c k) = 0
kind_rank (Off c) = 1
kind_rank (Put c) = 2
kind_rank (Begin c k h) = 3

-- the hoist that sets a carrier down, or begins a move; no hoist takes part in an off or a put
abbrev pub hoist_rank : LineData → Timetable → What → ℕ
hoist_rank l p (Set c k) = run_hoist l p c (k - 1)
hoist_rank l p (Off c) = 0
hoist_rank l p (Put c) = 0
hoist_rank l p (Begin c k h) = h

-- one of two that happen at one tick is the earlier: by kind, then by hoist
abbrev pub IsAhead : LineData → Timetable → What → What → Type 0
IsAhead l p a b = (kind_rank a < kind_rank b) ⊎ ((kind_rank a ≡ kind_rank b) × (hoist_rank l p a < hoist_rank l p b))

-- one event is the earlier of two: by tick, then by kind, then by hoist
abbrev pub IsEarlier : LineData → Timetable → Event → Event → Type 0
IsEarlier l p a b = (a.tick < b.tick) ⊎ ((a.tick ≡ b.tick) × IsAhead l p a.what b.what)

-- all that happens to the carriers of the run and nothing else, each event once, in order
pub record IsWholeLog (l : LineData) (p : Timetable) (n : ℕ) : Type 0 where
  pub all : LogsAll l p n
  pub only : All (IsOfRun l p n) (run_log l p n)
  pub once : AllPairs (λ a b. a ≢ b) (run_log l p n)
  pub ordered : AllPairs (IsEarlier l p) (run_log l p n)

-- so it is of every legal timetable
abbrev pub LogIsWhole : Type 0
LogIsWhole = (l : LineData) (p : Timetable) (n : ℕ) → IsLine l → IsLegal l p → IsWholeLog l p n
