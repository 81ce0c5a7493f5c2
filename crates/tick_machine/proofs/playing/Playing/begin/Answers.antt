use Rattle.std.proofs.Common.{◌≡◌, ℕ, ◌+◌, List, get_or, sym, ap, subst, ◌∙◌, arith}
use Rattle.tick_machine.specs.Layout.{layout_of}
use Rattle.tick_machine.specs.Scene.{Scene, scene_of, IsSizedOrder}
use Rattle.tick_machine.specs.Rules.{IsBelow}
use Rattle.tick_machine.specs.Play.{empty_scene}
use Rattle.tick_machine.proofs.EmptyScenes.{empty_same, empty_by}
use Rattle.tick_machine.proofs.playing.Playing.begin.Goals as goal

pub invariant_of-result : goal.invariant_of-result
invariant_of-result g c =
    let l = layout_of c.args.line.now in
    let place = g.D.Driver.place c.args.driver.now in
    let scene : scene_of c.in_ok-frame.frame ≡ empty_scene l place =
    c.in_ok-frame.ensures.scene ∙ empty_same l (λ h. get_or c.as_slice.result.now h 0) place
    (λ h lt. ap (λ (xs : List ℕ). get_or xs h 0) c.as_slice.ensures.value ∙ c.in_ok-at.ensures.place h (omega arith)) in
    record {
      frame = c.in_ok-frame.ensures.frame;
      next = c.in_ok-next.ensures.frame.sized;
      order = subst (λ (n : ℕ). IsSizedOrder n c.in_ok-order.order) c.hoists-hoists.ensures.value c.in_ok-order.ensures;
      below = subst (λ (f : Scene). IsBelow (c.first.result + 1) f) (sym scene) (empty_by l place c.first.result);
    }

pub returns-clause-frame : goal.returns-clause-frame
returns-clause-frame g c =
    let l = layout_of c.args.line.now in
    let place = g.D.Driver.place c.args.driver.now in
    c.in_ok-frame.ensures.scene ∙ empty_same l (λ h. get_or c.as_slice.result.now h 0) place
    (λ h lt. ap (λ (xs : List ℕ). get_or xs h 0) c.as_slice.ensures.value ∙ c.in_ok-at.ensures.place h (omega arith))
