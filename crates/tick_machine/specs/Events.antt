-- The events of a step, in their order: sets by hoist, the off, the put, begins by hoist.
use Rattle.std.specs.Prelude.{ℕ, zero, suc, ◌+◌, Bool, cond, ◌==◌, Option, Some, None, List, [], ◌∷◌, ◌++◌, map}
use Rattle.std.specs.Option.{option_map}
use Rattle.tick_machine.specs.declared.frame.Carry.{Carry}
use Rattle.tick_machine.specs.declared.frame.Hold.{Hold}
use Rattle.tick_machine.specs.declared.event.What.{What}
use Rattle.tick_machine.specs.declared.event.What.TheVariants.{Set, Off, Put, Begin}
use Rattle.tick_machine.specs.declared.event.Event.{Event}
use Rattle.tick_machine.specs.Layout.{Layout}
use Rattle.tick_machine.specs.Scene.{Scene, Command}
use Rattle.tick_machine.specs.Points.{length_of}
use Rattle.tick_machine.specs.Step.{after_tick, after_free}

-- the events that are there, of the numbers below n, in order
abbrev pub given : Option What → List What
given None = []
given (Some e) = e ∷ []

abbrev pub collect : ℕ → (ℕ → Option What) → List What
collect zero event = []
collect (suc n) event = collect n event ++ given (event n)

-- a carry that ends is set down
abbrev pub set_of : Layout → Option Carry → Option What
set_of l None = None
set_of l (Some c) = cond (c.elapsed == length_of l c) (Some (Set c.carrier (c.step + 1))) None

-- who holds the unload as it is freed is taken off
abbrev pub off_of : Bool → Option Hold → Option What
off_of off x = cond off (option_map (λ (y : Hold). Off y.carrier) x) None

abbrev pub put_of : Bool → ℕ → Option What
put_of put next = cond put (Some (Put next)) None

-- a hoist that is ordered to begin carries at the end of the step
abbrev pub begin_of : ℕ → Option ℕ → Option Carry → Option What
begin_of h None c = None
begin_of h (Some to) c = option_map (λ (x : Carry). Begin x.carrier x.step h) c

-- the events of the step from f by the order o to g
abbrev pub whats_of : Layout → Command → Scene → Scene → List What
whats_of l o f g =
    collect l.hoists (λ h. set_of l ((after_tick l o f).carry h)) ++ given (off_of o.off ((after_free l o f).hold l.unload_tank)) ++ given (put_of o.put f.next)
    ++ collect l.hoists (λ h. begin_of h (o.begin h) (g.carry h))

-- the same, each with its tick
abbrev pub at_tick : ℕ → What → Event
at_tick t e = record { tick = t; what = e }

abbrev pub events_of : Layout → ℕ → Command → Scene → Scene → List Event
events_of l t o f g = map (at_tick t) (whats_of l o f g)
