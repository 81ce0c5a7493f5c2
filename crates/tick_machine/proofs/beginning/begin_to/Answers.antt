use Rattle.std.proofs.Common.{ap, ◌∙◌}
use Rattle.tick_machine.specs.Scene.{scene_of}
use Rattle.tick_machine.specs.Points.{carrying}
use Rattle.tick_machine.proofs.beginning.begin_to.Goals as goal

pub returns-in-Ok-clause-scene : goal.returns-in-Ok-clause-scene
returns-in-Ok-clause-scene c = c.start.ensures.scene ∙ ap (λ r. carrying c.args.h r (scene_of c.args.frame.now)) c.in-Ok.ensures.value
