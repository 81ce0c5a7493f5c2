-- The log of a plan.
use Rattle.std.proofs.Common.{ℕ, zero, suc, ◌+◌, Option, List, ◌++◌}
use Rattle.std.specs.Prelude.{◌==◌, ◌&&◌, map}
use Rattle.tick_machine.specs.declared.event.What.{What}
use Rattle.tick_machine.specs.declared.event.What.TheVariants.{Set, Off, Put, Begin}
use Rattle.tick_machine.specs.declared.event.Event.{Event}
use Rattle.tick_machine.specs.Layout.{Layout}
use Rattle.tick_machine.specs.Events.{given, collect, at_tick}
use Rattle.startup_rundown.specs.Picks.{pick, pick_move}
use Rattle.startup_rundown.proofs.Plan.{Plan}

-- what happens at a tick
abbrev pub set_at : Plan → ℕ → ℕ → Option What
set_at s t h = pick_move s.carriers s.last (λ c k. (s.lifter c k == h) && (s.rest c (k + 1) == t)) (λ c k. Set c (k + 1))

abbrev pub off_at : Plan → ℕ → Option What
off_at s t = pick s.carriers (λ c. s.leave c s.last == t) (λ c. Off c)

abbrev pub put_at : Plan → ℕ → Option What
put_at s t = pick s.carriers (λ c. s.rest c 0 == t) (λ c. Put c)

abbrev pub begin_at : Plan → ℕ → ℕ → Option What
begin_at s t h = pick_move s.carriers s.last (λ c k. (s.lifter c k == h) && (s.lift c k == t)) (λ c k. Begin c k h)

-- the log of one tick
abbrev pub log_at : Layout → Plan → ℕ → List What
log_at l s t = collect l.hoists (set_at s t) ++ given (off_at s t) ++ given (put_at s t) ++ collect l.hoists (begin_at s t)

abbrev pub events_at : Layout → Plan → ℕ → List Event
events_at l s t = map (at_tick t) (log_at l s t)

-- up to n ticks after the first
abbrev pub log_until : Layout → Plan → ℕ → ℕ → List Event
log_until l s first zero = events_at l s first
log_until l s first (suc n) = log_until l s first n ++ events_at l s (first + suc n)
