-- A machine in play, between two ticks.
use Rattle.std.specs.Prelude.{ℕ, ◌+◌, List}
use Rattle.hoist_base.specs.LineData.{LineData}
use Rattle.tick_machine.specs.declared.event.Event.{Event}
use Rattle.tick_machine.specs.declared.frame.Frame.{Frame}
use Rattle.tick_machine.specs.declared.order.Order.{Order}
use Rattle.tick_machine.specs.Scene.{scene_of, IsSized, IsSizedOrder}
use Rattle.tick_machine.specs.Rules.{IsBelow, IsFrame}
use Rattle.tick_machine.specs.Play.{Reached}

-- its line, the tick into which its next step leads, and the frame before that step
pub record PlayingData : Type 0 where
  pub line : LineData
  pub tick : ℕ
  pub frame : Frame

-- what it has come to, with a log
abbrev pub reached : PlayingData → List Event → Reached
reached m log = record { frame = scene_of m.frame; log = log }

-- its frame is one of the line, and nothing in it is older than the tick; what the next frame and its order are written
-- over has the line's lengths
pub record IsPlaying (l : LineData) (t : ℕ) (now later : Frame) (o : Order) : Type 0 where
  pub frame : IsFrame l now
  pub next : IsSized l later
  pub order : IsSizedOrder l.hoists o
  pub below : IsBelow (t + 1) (scene_of now)
