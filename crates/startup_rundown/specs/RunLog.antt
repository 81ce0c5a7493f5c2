-- The log of the run of the first n carriers of a timetable: what happens to them, read off the timetable.
-- It is ordered by tick, then sets, the off, the put and begins, then by hoist.
use Rattle.std.specs.Prelude.{ℕ, zero, suc, ◌+◌, ◌-◌, ◌==◌, ◌&&◌, max, Option, List, ◌++◌, map}
use Rattle.hoist_base.specs.LineData.{LineData, last_stage}
use Rattle.line_model.specs.Motion.{duration}
use Rattle.line_model.specs.Timetable.{Timetable}
use Rattle.line_model.specs.Run.{run_put, run_off, run_start, run_hoist, run_motion}
use Rattle.tick_machine.specs.declared.event.What.{What}
use Rattle.tick_machine.specs.declared.event.What.TheVariants.{Set, Off, Put, Begin}
use Rattle.tick_machine.specs.declared.event.Event.{Event}
use Rattle.tick_machine.specs.Events.{given, collect, at_tick}
use Rattle.startup_rundown.specs.Picks.{pick, pick_move}

-- the tick at which a move of the run ends
abbrev pub run_end : LineData → Timetable → ℕ → ℕ → ℕ
run_end l p c k = run_start l p c k + duration (run_motion l p c k)

-- what happens at tick t: the carrier that hoist h sets down, at the stage after the move's
abbrev pub set_at : LineData → Timetable → ℕ → ℕ → ℕ → Option What
set_at l p n t h = pick_move n (last_stage l) (λ c k. (run_hoist l p c k == h) && (run_end l p c k == t)) (λ c k. Set c (k + 1))

-- the carrier that is taken off
abbrev pub off_at : LineData → Timetable → ℕ → ℕ → Option What
off_at l p n t = pick n (λ c. run_off l p c == t) (λ c. Off c)

-- the carrier that is put on
abbrev pub put_at : LineData → Timetable → ℕ → ℕ → Option What
put_at l p n t = pick n (λ c. run_put l p c == t) (λ c. Put c)

-- the move that hoist h begins
abbrev pub begin_at : LineData → Timetable → ℕ → ℕ → ℕ → Option What
begin_at l p n t h = pick_move n (last_stage l) (λ c k. (run_hoist l p c k == h) && (run_start l p c k == t)) (λ c k. Begin c k h)

-- all of a tick, in order
abbrev pub whats_at : LineData → Timetable → ℕ → ℕ → List What
whats_at l p n t =
    collect l.hoists (set_at l p n t) ++ given (off_at l p n t) ++ given (put_at l p n t) ++ collect l.hoists (begin_at l p n t)

abbrev pub events_at : LineData → Timetable → ℕ → ℕ → List Event
events_at l p n t = map (at_tick t) (whats_at l p n t)

-- the events from a tick to the one that is `ticks` later
abbrev pub events_from : LineData → Timetable → ℕ → ℕ → ℕ → List Event
events_from l p n first zero = events_at l p n first
events_from l p n first (suc ticks) = events_from l p n first ticks ++ events_at l p n (first + suc ticks)

-- the run begins with the first put ..
abbrev pub first_tick : LineData → Timetable → ℕ
first_tick l p = run_put l p 0

-- .. and ends with the last off
abbrev pub greatest : ℕ → (ℕ → ℕ) → ℕ
greatest zero f = 0
greatest (suc n) f = max (greatest n f) (f n)

abbrev pub last_tick : LineData → Timetable → ℕ → ℕ
last_tick l p n = greatest n (run_off l p)

abbrev pub run_log : LineData → Timetable → ℕ → List Event
run_log l p n = events_from l p n (first_tick l p) (last_tick l p n - first_tick l p)
