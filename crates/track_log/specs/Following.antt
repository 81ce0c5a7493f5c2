-- How far the tick machine follows a log.
use Rattle.std.specs.Prelude.{◌≡◌, ℕ, ◌+◌, ◌-◌, cond, nat_lt, Option, Some, None, Result, Ok, Err, List, get_or, length, ◌⊎◌}
use Rattle.hoist_base.specs.LineData.{LineData}
use Rattle.tick_machine.specs.declared.order.Go.TheVariants.{Stay}
use Rattle.tick_machine.specs.declared.breach.Breach.{Breach}
use Rattle.tick_machine.specs.declared.breach.Breach.TheVariants.{Edge, Near}
use Rattle.tick_machine.specs.declared.event.Event.{Event}
use Rattle.tick_machine.specs.Layout.{Layout, layout_of}
use Rattle.tick_machine.specs.Scene.{Command, scene_of}
use Rattle.tick_machine.specs.Step.{or_else, first}
use Rattle.tick_machine.specs.Play.{Reached, Stop, run}
use Rattle.track_log.specs.declared.followed.Followed.{Followed}
use Rattle.track_log.specs.declared.followed.Followed.TheVariants.{Follows, Departs, Broken}
use Rattle.track_log.specs.Logs.{TickLine, LogData, tick_line, IsTextOf, BreaksAt}

-- where hoist h is at tick 0
abbrev pub place : List ℕ → ℕ → ℕ
place at h = get_or at h 0

-- the order of a tick line: hoists that aren't there stay, and begin nothing
abbrev pub command : TickLine → Command
command x = record { go = λ h. get_or x.go h Stay; begin = λ h. get_or x.begin h None; off = x.off; put = x.put }

-- the orders into the ticks
abbrev pub commands : List TickLine → ℕ → Command
commands ticks t = command (tick_line ticks t)

-- the last tick
abbrev pub last_of : List TickLine → ℕ
last_of ticks = length ticks - 1

-- ---- positions that aren't spaced

-- hoist h is above the track
abbrev pub above : Layout → (ℕ → ℕ) → ℕ → Option Breach
above l at h = cond (nat_lt l.track (at h)) (Some (Edge h (at h))) None

-- hoist h is less than the gap below the next one
abbrev pub close : Layout → (ℕ → ℕ) → ℕ → Option Breach
close l at h = cond (nat_lt (at (h + 1)) (at h + l.gap)) (Some (Near h (at h) (at (h + 1)))) None

-- the lowest hoist that is above the track, or where there is none the lowest that is too close to the next one
abbrev pub unspaced : Layout → (ℕ → ℕ) → Option Breach
unspaced l at = or_else (first l.hoists (above l at)) (first (l.hoists - 1) (close l at))

-- ---- the log is played

-- the run of the machine from the empty line by the orders of the log
abbrev pub played : LineData → LogData → Result Reached Stop
played l log = run (layout_of l) (place log.at) (commands log.ticks) 0 (last_of log.ticks)

-- the log is followed to its last tick, and this is the frame there
pub record FollowsTo (l : LineData) (log : LogData) (last : ℕ) (r : Reached) : Type 0 where
  pub spaced : unspaced (layout_of l) (place log.at) ≡ None
  pub last_is : last ≡ last_of log.ticks
  pub end : played l log ≡ Ok r

-- this is the first breach of the log, and its tick: at tick 0 where the positions aren't spaced
abbrev pub DepartsAt : LineData → LogData → ℕ → Breach → Type 0
DepartsAt l log t breach =
    ((unspaced (layout_of l) (place log.at) ≡ Some breach) × (t ≡ 0))
    ⊎ ((unspaced (layout_of l) (place log.at) ≡ None) × (played l log ≡ Err (record { tick = t; breach = breach })))

-- what is answered of a log
abbrev pub IsOutcome : LineData → LogData → Followed → Type 0
IsOutcome l log (Follows last end) =
    (events : List Event) × FollowsTo l log last (record { frame = scene_of end; log = events })
IsOutcome l log (Departs tick breach) = DepartsAt l log tick breach
IsOutcome l log (Broken offset) = ⊥

-- a right answer about the bytes: they are the text of a log with this outcome, or break
abbrev pub IsFollowed : LineData → List ℕ → Followed → Type 0
IsFollowed l bytes (Follows last end) = (log : LogData) × IsTextOf l bytes log × IsOutcome l log (Follows last end)
IsFollowed l bytes (Departs tick breach) = (log : LogData) × IsTextOf l bytes log × IsOutcome l log (Departs tick breach)
IsFollowed l bytes (Broken offset) = BreaksAt l bytes offset

-- the lines that were read, to what is left behind them, are those of a log with this outcome
abbrev pub IsPlayedOut : LineData → List ℕ → Result (List TickLine × List ℕ) ℕ → Followed → List ℕ → Type 0
IsPlayedOut l at lines answer rest =
    (ticks : List TickLine) × (lines ≡ Ok (ticks, rest)) × IsOutcome l (record { at = at; ticks = ticks }) answer

-- so is the log that was read
abbrev pub IsReadOut : LineData → Result (LogData × List ℕ) ℕ → Followed → List ℕ → Type 0
IsReadOut l read answer rest = (log : LogData) × (read ≡ Ok (log, rest)) × IsOutcome l log answer
