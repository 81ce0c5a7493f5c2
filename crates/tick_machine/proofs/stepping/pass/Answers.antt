use Rattle.std.proofs.Common.{ap, ◌∙◌}
use Rattle.tick_machine.specs.Layout.{layout_of}
use Rattle.tick_machine.specs.Points.{set_down, lift_out}
use Rattle.tick_machine.specs.Step.{each}
use Rattle.tick_machine.proofs.stepping.pass.Goals as goal

pub returns-clause-scene : goal.returns-clause-scene
returns-clause-scene c =
    let l = layout_of c.args.line.now in
    c.lift_out_all.ensures.scene ∙ ap (each (lift_out l) l.hoists) (c.set_down_all.ensures.scene ∙ ap (each (set_down l) l.hoists) c.pass_tick.ensures.scene)
