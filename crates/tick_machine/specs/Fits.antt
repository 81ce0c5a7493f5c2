-- Which frames the points can read: their numbers name tanks and stages of the line.
use Rattle.std.specs.Prelude.{ℕ, ◌≤◌, ◌<◌, Option, None, Some, Result, Ok, Err, IfSome}
use Rattle.tick_machine.specs.declared.frame.Carry.{Carry}
use Rattle.tick_machine.specs.declared.frame.Hold.{Hold}
use Rattle.tick_machine.specs.declared.breach.Breach.{Breach}
use Rattle.tick_machine.specs.Layout.{Layout}
use Rattle.tick_machine.specs.Scene.{Scene}

-- the carry is of a move of the line, and began at most `most` ticks ago
pub record CarryFits (l : Layout) (most : ℕ) (c : Carry) : Type 0 where
  pub from : c.from < l.tanks
  pub to : c.to < l.tanks
  pub step : c.step < l.last
  pub elapsed : c.elapsed ≤ most

pub record HoldFits (l : Layout) (x : Hold) : Type 0 where
  pub stage : x.stage ≤ l.last

pub record Fits (l : Layout) (most : ℕ) (f : Scene) : Type 0 where
  pub at : (h : ℕ) → h < l.hoists → f.at h ≤ l.track
  pub carry : (h : ℕ) → IfSome (f.carry h) (CarryFits l most)
  pub hold : (i : ℕ) → IfSome (f.hold i) (HoldFits l)

-- the breach, where there is one
abbrev pub error_of : {A : Type 0} → Result A Breach → Option Breach
error_of (Ok a) = None
error_of (Err b) = Some b
