use Rattle.std.proofs.Common.{sym}
use Rattle.tick_machine.specs.Layout.{layout_of}
use Rattle.tick_machine.specs.Scene.{scene_of, command_of}
use Rattle.tick_machine.proofs.Lines.{layout_is}
use Rattle.tick_machine.proofs.PartwayStep.{step_keeps}
use Rattle.tick_machine.proofs.Bounds.{step_below}
use Rattle.tick_machine.proofs.stepping.step.Goals as goal

pub returns-in-Ok-clause-frame : goal.returns-in-Ok-clause-frame
returns-in-Ok-clause-frame c =
    let l = c.args.line.now in
    record {
      sized = c.in-Ok.ensures.sized;
      rules = step_keeps (layout_of l) (command_of c.args.order.now) (scene_of c.args.old.now)
          (scene_of c.advance.new.new) (layout_is l c.in-Ok.ensures.valid) c.requires.old.rules
          (sym c.in-Ok.ensures.step);
    }

pub returns-in-Ok-clause-grows : goal.returns-in-Ok-clause-grows
returns-in-Ok-clause-grows c = λ n below.
    step_below (layout_of c.args.line.now) (command_of c.args.order.now) n (scene_of c.args.old.now)
    (scene_of c.advance.new.new) below (sym c.in-Ok.ensures.step)
