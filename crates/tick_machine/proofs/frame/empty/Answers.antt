use Rattle.std.proofs.Common.{length, get_or, None, sym, refl, ap, subst, ◌∙◌, rules}
use Rattle.tick_machine.specs.declared.frame.Frame.{Frame}
use Rattle.tick_machine.specs.Layout.{layout_of}
use Rattle.tick_machine.specs.Scene.{Scene}
use Rattle.tick_machine.specs.Rules.{KeepsRules}
use Rattle.tick_machine.proofs.EmptyScenes.{filled, empty_is, empty_keeps}
use Rattle.tick_machine.proofs.frame.empty.Goals as goal

pub returns-clause-scene : goal.returns-clause-scene
returns-clause-scene c =
    let made : Frame = record { at = c.in_ok-positions.positions; carry = c.resize.new.self; hold = c.resize-2.new.self; next = 0 } in
    empty_is c.args.line.now c.args.at.now made c.requires.count c.in_ok-positions.ensures.items
    (filled made.carry.items c.new-carry.result.items _ _ None c.new-carry.ensures.items c.in_ok-resize.ensures.items)
    (filled made.hold.items c.new-hold.result.items _ _ None c.new-hold.ensures.items c.in_ok-resize-2.ensures.items)
    refl

pub returns-clause-frame : goal.returns-clause-frame
returns-clause-frame c =
    let l = layout_of c.args.line.now in
    record {
      sized = record { at = ap length c.in_ok-positions.ensures.items ∙ c.requires.count; carry = search rules; hold = search rules };
      rules = subst (λ (f : Scene). KeepsRules l f) (sym (returns-clause-scene c)) (empty_keeps l (λ h. get_or c.args.at.now h 0) c.requires.apart);
    }
