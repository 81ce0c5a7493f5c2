use Rattle.std.proofs.Common.{◌≡◌, ℕ, ◌<◌, None, get_or}
use Rattle.tick_machine.specs.declared.order.Go.TheVariants.{Stay}
use Rattle.tick_machine.specs.Scene.{IsSizedOrder}
use Rattle.startup_rundown.specs.Runner.{go_of, begin_of}
use Rattle.startup_rundown.proofs.runner.RunnerDriver.order.Given as goal

abbrev pub invariant-loop-h : goal.invariant-loop-h
invariant-loop-h l =
    IsSizedOrder l.self.line.hoists l.into
    × ((h : ℕ) → h < l.h → get_or l.into.go.items h Stay ≡ go_of l.self l.tick h)
    × ((h : ℕ) → h < l.h → get_or l.into.begin.items h None ≡ begin_of l.self l.tick h)
