-- The orders that drive the run of the first n carriers of a timetable, and where they lead.
use Rattle.std.specs.Prelude.{◌≡◌, ℕ, ◌+◌, ◌-◌, ◌≤◌, Bool, cond, ◌==◌, ◌&&◌, ◌||◌, nat_lt, is_some, Ok}
use Rattle.hoist_base.specs.LineData.{LineData, last_stage}
use Rattle.hoist_base.specs.Valid.{IsLine}
use Rattle.line_model.specs.Timetable.{Timetable, position}
use Rattle.line_model.specs.Legal.{IsLegal}
use Rattle.line_model.specs.Run.{run_put, run_off, run_start, run_hoist, run_tank}
use Rattle.tick_machine.specs.declared.order.Go.{Go}
use Rattle.tick_machine.specs.declared.order.Go.TheVariants.{Stay, Low, High}
use Rattle.tick_machine.specs.declared.run.Played.{Played}
use Rattle.tick_machine.specs.declared.run.Played.TheVariants.{Done, Refused}
use Rattle.tick_machine.specs.Layout.{layout_of}
use Rattle.tick_machine.specs.Scene.{Scene, Command, scene_of}
use Rattle.tick_machine.specs.Play.{run, IsEmpty, IsPlayed}
use Rattle.startup_rundown.specs.Picks.{pick, pick_move}
use Rattle.startup_rundown.specs.RunLog.{run_end, first_tick, last_tick, run_log}

-- the motion of a tick from one position to another
abbrev pub toward : ℕ → ℕ → Go
toward from to = cond (nat_lt to from) Low (cond (nat_lt from to) High Stay)

-- hoist h carries a carrier of the run from the tick before into tick t
abbrev pub is_loaded : LineData → Timetable → ℕ → ℕ → ℕ → Bool
is_loaded l p n t h =
    is_some (pick_move n (last_stage l) (λ c k. (run_hoist l p c k == h) && (nat_lt (run_start l p c k) t && nat_lt (t - 1) (run_end l p c k))) (λ c k. c))

-- the order into tick t: every hoist follows its path, a loaded one by its carry, and only the carriers of the run are
-- moved, put on and taken off
abbrev pub order_into : LineData → Timetable → ℕ → ℕ → Command
order_into l p n t = record {
  go = λ h. cond ((t == first_tick l p) || is_loaded l p n t h) Stay (toward (position p h (t - 1)) (position p h t));
  begin = λ h. pick_move n (last_stage l) (λ c k. (run_hoist l p c k == h) && (run_start l p c k == t)) (λ c k. run_tank l p c (k + 1));
  off = is_some (pick n (λ c. run_off l p c == t) (λ c. c));
  put = is_some (pick n (λ c. run_put l p c == t) (λ c. c));
}

-- where hoist h is as the run begins
abbrev pub first_place : LineData → Timetable → ℕ → ℕ
first_place l p h = position p h (first_tick l p)

-- the machine that is driven through the run of n carriers makes no breach, ends with an empty frame once all are put
-- on, and logs the run
abbrev pub RunsThrough : LineData → Timetable → ℕ → Type 0
RunsThrough l p n =
    (f : Scene)
    × (run (layout_of l) (first_place l p) (order_into l p n) (first_tick l p) (last_tick l p n) ≡ Ok (record { frame = f; log = run_log l p n }))
    × IsEmpty f × (f.next ≡ n)

-- a run that is done, with an empty frame and the log of the run
abbrev pub IsDoneRun : LineData → Timetable → ℕ → Played → Type 0
IsDoneRun l p n (Done log end) = (log.items ≡ run_log l p n) × IsEmpty (scene_of end) × (end.next ≡ n)
IsDoneRun l p n (Refused tick breach) = ⊥

-- whatever is answered of the machine that is driven so, it is that
abbrev pub PlaysThrough : LineData → Timetable → ℕ → Type 0
PlaysThrough l p n =
    (played : Played) → IsPlayed (run (layout_of l) (first_place l p) (order_into l p n) (first_tick l p) (last_tick l p n)) played → IsDoneRun l p n played

-- every legal timetable of every line is driven so, for any number of carriers
abbrev pub StartsUpAndRunsDown : Type 0
StartsUpAndRunsDown = (l : LineData) (p : Timetable) (n : ℕ) → IsLine l → IsLegal l p → 1 ≤ n → RunsThrough l p n
