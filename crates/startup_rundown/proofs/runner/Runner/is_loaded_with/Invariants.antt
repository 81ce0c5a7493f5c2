use Rattle.std.proofs.Common.{◌≡◌, None}
use Rattle.startup_rundown.specs.Picks.{pick}
use Rattle.startup_rundown.specs.Runner as runners
use Rattle.startup_rundown.proofs.runner.Runner.is_loaded_with.Given as goal

abbrev pub invariant-loop-step : goal.invariant-loop-step
invariant-loop-step l = pick l.step (runners.carries_into l.self l.tick l.h l.c) (λ k. l.c) ≡ None
