-- The log of what a driver orders, and how far the tick machine follows it.
use Rattle.std.specs.Prelude.{◌≡◌, ℕ, ◌+◌, ◌-◌, ◌≤◌, ◌<◌, IfSome, Result, Ok, Err, List, map, length}
use Rattle.std.specs.List.{range_with_len}
use Rattle.hoist_base.specs.LineData.{LineData}
use Rattle.tick_machine.specs.declared.event.Event.{Event}
use Rattle.tick_machine.specs.Scene.{Command}
use Rattle.tick_machine.specs.Play.{Reached, Stop}
use Rattle.track_log.specs.Logs.{TickLine, LogData}
use Rattle.track_log.specs.Following.{command, FollowsTo, DepartsAt}

-- what a command orders of the hoists that are there, and of the load and the unload
abbrev pub line_to : ℕ → Command → TickLine
line_to hoists c = record {
  go = map c.go (range_with_len 0 hoists);
  off = c.off;
  put = c.put;
  begin = map c.begin (range_with_len 0 hoists);
}

-- the lines of so many ticks, from the tick `first` on
abbrev pub lines_from : ℕ → (ℕ → Command) → ℕ → ℕ → List TickLine
lines_from hoists orders first ticks = map (λ t. line_to hoists (orders t)) (range_with_len first ticks)

abbrev pub places_of : ℕ → (ℕ → ℕ) → List ℕ
places_of hoists at = map at (range_with_len 0 hoists)

-- where each hoist is at the tick `first`, and the orders into the ticks from `first` to `last`: tick 0 of the log is
-- `first`
abbrev pub recorded : ℕ → (ℕ → ℕ) → (ℕ → Command) → ℕ → ℕ → LogData
recorded hoists at orders first last =
    record { at = places_of hoists at; ticks = lines_from hoists orders first (last - first + 1) }

-- what is ordered of so many ticks, from the tick `first` on, is ordered of hoists that are there
abbrev pub OrdersThere : ℕ → (ℕ → Command) → ℕ → ℕ → Type 0
OrdersThere hoists orders first ticks = (t : ℕ) → first ≤ t → t < first + ticks → command (line_to hoists (orders t)) ≡ orders t

-- each begin that is ordered of a hoist from tick to tick is to a tank of the line
abbrev pub BeginsAtTanks : LineData → (ℕ → Command) → ℕ → ℕ → Type 0
BeginsAtTanks l orders first last =
    (t h : ℕ) → first ≤ t → t ≤ last → h < l.hoists → IfSome ((orders t).begin h) (λ tank. tank < length l.tanks)

-- ticks counted from `first` on
abbrev pub sooner : ℕ → Event → Event
sooner first e = record { tick = e.tick - first; what = e.what }

-- the log goes as a run from the tick `first` to the tick `last` does, but that its ticks count from `first` on: it is
-- followed to its last tick, with the frame and the events of the run, or departs by the breach of the run
abbrev pub GoesAs : LineData → LogData → ℕ → ℕ → Result Reached Stop → Type 0
GoesAs l log first last (Ok r) = FollowsTo l log (last - first) (record { frame = r.frame; log = map (sooner first) r.log })
GoesAs l log first last (Err s) = DepartsAt l log (s.tick - first) s.breach
