-- The run of steps from a frame, with its log, up to the first breach.
use Rattle.std.specs.Prelude.{◌≡◌, ℕ, zero, suc, ◌+◌, ◌-◌, nat_lt, cond, Option, None, Some, Result, Ok, Err, List, [], ◌++◌}
use Rattle.hoist_base.specs.LineData.{LineData}
use Rattle.tick_machine.specs.declared.breach.Breach.{Breach}
use Rattle.tick_machine.specs.declared.event.Event.{Event}
use Rattle.tick_machine.specs.declared.run.Played.{Played}
use Rattle.tick_machine.specs.declared.run.Played.TheVariants.{Done, Refused}
use Rattle.tick_machine.specs.Layout.{Layout}
use Rattle.tick_machine.specs.Scene.{Scene, Command, scene_of}
use Rattle.tick_machine.specs.Step.{step}
use Rattle.tick_machine.specs.Events.{events_of}
use Rattle.tick_machine.specs.Rules.{IsFrame}

-- a frame with the events so far
pub record Reached : Type 0 where
  pub frame : Scene
  pub log : List Event

-- the tick into which no step leads, and why
pub record Stop : Type 0 where
  pub tick : ℕ
  pub breach : Breach

-- hoists at these positions, nothing carried or held, and nobody put on yet
abbrev pub empty_scene : Layout → (ℕ → ℕ) → Scene
empty_scene l at = record { at = λ h. cond (nat_lt h l.hoists) (at h) 0; carry = λ h. None; hold = λ i. None; next = 0 }

-- nothing is carried or held
pub record IsEmpty (f : Scene) : Type 0 where
  pub carry : (h : ℕ) → f.carry h ≡ None
  pub hold : (i : ℕ) → f.hold i ≡ None

-- the step into tick t by the order o, with its events
abbrev pub step_to : Layout → ℕ → Command → Reached → Result Scene Breach → Result Reached Stop
step_to l t o r (Err b) = Err (record { tick = t; breach = b })
step_to l t o r (Ok g) = Ok (record { frame = g; log = r.log ++ events_of l t o r.frame g })

abbrev pub next_step : Layout → ℕ → Command → Result Reached Stop → Result Reached Stop
next_step l t o (Err s) = Err s
next_step l t o (Ok r) = step_to l t o r (step l o r.frame)

-- n + 1 steps by the orders into the ticks `first` to `first` + n
abbrev pub steps : Layout → (ℕ → Command) → ℕ → Reached → ℕ → Result Reached Stop
steps l orders first r zero = next_step l first (orders first) (Ok r)
steps l orders first r (suc n) = next_step l (first + suc n) (orders (first + suc n)) (steps l orders first r n)

-- the run from the empty frame, with nothing in the log
abbrev pub run : Layout → (ℕ → ℕ) → (ℕ → Command) → ℕ → ℕ → Result Reached Stop
run l at orders first last = steps l orders first (record { frame = empty_scene l at; log = [] }) (last - first)

-- the tick and the breach, or what is reached
abbrev pub reached_or : ℕ → Option Breach → Reached → Result Reached Stop
reached_or t None r = Ok r
reached_or t (Some b) r = Err (record { tick = t; breach = b })

-- what `play` answers of a run
abbrev pub IsPlayed : Result Reached Stop → Played → Type 0
IsPlayed r (Done log end) = r ≡ Ok (record { frame = scene_of end; log = log.items })
IsPlayed r (Refused tick breach) = r ≡ Err (record { tick = tick; breach = breach })

-- a run that is done ends in a frame of the line
abbrev pub EndsIn : LineData → Played → Type 0
EndsIn l (Done log end) = IsFrame l end
EndsIn l (Refused tick breach) = Unit {0}
