use Rattle.std.proofs.Common.{◌≡◌, ◌++◌}
use Rattle.std.specs.Prelude.{map}
use Rattle.tick_machine.specs.Scene.{scene_of, command_of}
use Rattle.tick_machine.specs.Events as events
use Rattle.tick_machine.proofs.log.note_begins.Given as goal

abbrev pub invariant-loop-h : goal.invariant-loop-h
invariant-loop-h l = l.log.items ≡ l.fn.log.items ++ map (events.at_tick l.tick)
    (events.collect l.h (λ h. events.begin_of h ((command_of l.order).begin h) ((scene_of l.new).carry h)))
