use Rattle.std.proofs.Common.{◌≡◌, ◌++◌}
use Rattle.std.specs.Prelude.{map}
use Rattle.std.specs.Option.{option_map}
use Rattle.tick_machine.specs.Layout.{layout_of}
use Rattle.tick_machine.specs.Scene.{scene_of}
use Rattle.tick_machine.specs.Points as points
use Rattle.tick_machine.specs.Events as events
use Rattle.tick_machine.proofs.log.note_sets.Given as goal

abbrev pub invariant-loop-h : goal.invariant-loop-h
invariant-loop-h l = l.log.items ≡ l.fn.log.items ++ map (events.at_tick l.tick)
    (events.collect l.h (λ h. events.set_of (layout_of l.line) (option_map points.grown ((scene_of l.old).carry h))))
