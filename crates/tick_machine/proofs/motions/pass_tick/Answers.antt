use Rattle.std.proofs.Common.{refl, ap, sym, subst, get_or, ◌∙◌, None}
use Rattle.tick_machine.specs.declared.frame.Frame.{Frame}
use Rattle.tick_machine.specs.Layout.{layout_of}
use Rattle.tick_machine.specs.Scene.{Scene, scene_of, command_of}
use Rattle.tick_machine.specs.Fits.{Fits}
use Rattle.tick_machine.proofs.Lines.{layout_is}
use Rattle.tick_machine.proofs.Scenes.{tick_is}
use Rattle.tick_machine.proofs.Fitting.{tick_fits}
use Rattle.tick_machine.proofs.motions.pass_tick.Goals as goal

pub returns-clause-scene : goal.returns-clause-scene
returns-clause-scene c =
    let made : Frame = record { at = c.age_holds.new.new.at; carry = c.age_holds.new.new.carry; hold = c.age_holds.new.new.hold; next = c.args.old.now.next } in
    tick_is c.args.line.now c.args.order.now c.args.old.now made c.requires.order c.requires.old
    (record { at = c.age_holds.ensures.sized.at; carry = c.age_holds.ensures.sized.carry; hold = c.age_holds.ensures.sized.hold })
    (λ h lt. ap (λ xs. get_or xs h 0) c.age_holds.ensures.at ∙ c.move_hoists.ensures.at h lt)
    (λ h lt. ap (λ xs. get_or xs h None) c.age_holds.ensures.carry ∙ c.move_hoists.ensures.carry h lt)
    (λ i lt. c.age_holds.ensures.hold i lt)
    refl

pub returns-clause-fits : goal.returns-clause-fits
returns-clause-fits c =
    let l = layout_of c.args.line.now in
    subst (λ (f : Scene). Fits l 2000 f) (sym (returns-clause-scene c))
    (tick_fits l (command_of c.args.order.now) (scene_of c.args.old.now)
    (layout_is c.args.line.now c.move_hoists.ensures.valid) c.requires.fits c.requires.edges)
