use Rattle.std.proofs.Common.{◌≡◌, ◌-◌, Option, None, Result, Ok, sym, ap, ◌∙◌}
use Rattle.tick_machine.specs.declared.breach.Breach.{Breach}
use Rattle.tick_machine.specs.Layout.{layout_of}
use Rattle.tick_machine.specs.Scene.{Scene, command_of}
use Rattle.tick_machine.specs.Points.{no_off, taken_off, no_put, put_on, no_lowering, lower_in, no_begin, begin_move, late, near}
use Rattle.tick_machine.specs.Step.{each, first, unless}
use Rattle.tick_machine.proofs.Passes.{unless_none, unless_some}
use Rattle.tick_machine.proofs.stepping.advance.Goals as goal

four_pass : (a b d e : Option Breach) (r : Result Scene Breach) → a ≡ None → b ≡ None → d ≡ None → e ≡ None
    → unless a (unless b (unless d (unless e r))) ≡ r
four_pass a b d e r p q s t = unless_none a _ p ∙ unless_none b _ q ∙ unless_none d _ s ∙ unless_none e r t

pub returns-in-Err-lower_in_all-clause-step : goal.returns-in-Err-lower_in_all-clause-step
returns-in-Err-lower_in_all-clause-step c =
    let l = layout_of c.args.line.now in
    let o = command_of c.args.order.now in
    let off = c.in-Ok.ensures.scene ∙ ap (taken_off l o) c.pass.ensures.scene in
    let put = c.in-Ok-put_on.ensures.scene ∙ ap (put_on l o) off in
    let no6 = ap (no_off l o) (sym c.pass.ensures.scene) ∙ sym c.in-Ok.ensures.breach in
    let no7 = ap (no_put l o) (sym off) ∙ sym c.in-Ok-put_on.ensures.breach in
    let low = λ (g : Scene). first l.hoists (λ h. no_lowering l h (each (lower_in l) h g)) in
    sym (four_pass _ _ _ _ _ (sym c.in-None.ensures.breach) (sym c.in-None-first_edge.ensures) no6 no7
    ∙ unless_some _ _ _ (ap low (sym put) ∙ sym c.in-Err-lower_in_all.ensures.breach))

pub returns-in-Err-begin_all-clause-step : goal.returns-in-Err-begin_all-clause-step
returns-in-Err-begin_all-clause-step c =
    let l = layout_of c.args.line.now in
    let o = command_of c.args.order.now in
    let off = c.in-Ok.ensures.scene ∙ ap (taken_off l o) c.pass.ensures.scene in
    let put = c.in-Ok-put_on.ensures.scene ∙ ap (put_on l o) off in
    let lowered = c.in-Ok-lower_in_all.ensures.scene ∙ ap (each (lower_in l) l.hoists) put in
    let no6 = ap (no_off l o) (sym c.pass.ensures.scene) ∙ sym c.in-Ok.ensures.breach in
    let no7 = ap (no_put l o) (sym off) ∙ sym c.in-Ok-put_on.ensures.breach in
    let low = λ (g : Scene). first l.hoists (λ h. no_lowering l h (each (lower_in l) h g)) in
    let start = λ (g : Scene). first l.hoists (λ h. no_begin l o h (each (begin_move l o) h g)) in
    sym (four_pass _ _ _ _ _ (sym c.in-None.ensures.breach) (sym c.in-None-first_edge.ensures) no6 no7
    ∙ unless_none _ _ (ap low (sym put) ∙ sym c.in-Ok-lower_in_all.ensures.breach)
    ∙ unless_some _ _ _ (ap start (sym lowered) ∙ sym c.in-Err-begin_all.ensures.breach))

pub returns-in-Some-late-clause-step : goal.returns-in-Some-late-clause-step
returns-in-Some-late-clause-step c =
    let l = layout_of c.args.line.now in
    let o = command_of c.args.order.now in
    let off = c.in-Ok.ensures.scene ∙ ap (taken_off l o) c.pass.ensures.scene in
    let put = c.in-Ok-put_on.ensures.scene ∙ ap (put_on l o) off in
    let lowered = c.in-Ok-lower_in_all.ensures.scene ∙ ap (each (lower_in l) l.hoists) put in
    let no6 = ap (no_off l o) (sym c.pass.ensures.scene) ∙ sym c.in-Ok.ensures.breach in
    let no7 = ap (no_put l o) (sym off) ∙ sym c.in-Ok-put_on.ensures.breach in
    let low = λ (g : Scene). first l.hoists (λ h. no_lowering l h (each (lower_in l) h g)) in
    let start = λ (g : Scene). first l.hoists (λ h. no_begin l o h (each (begin_move l o) h g)) in
    let old = λ (g : Scene). first l.tanks (late l g) in
    sym (four_pass _ _ _ _ _ (sym c.in-None.ensures.breach) (sym c.in-None-first_edge.ensures) no6 no7
    ∙ unless_none _ _ (ap low (sym put) ∙ sym c.in-Ok-lower_in_all.ensures.breach)
    ∙ unless_none _ _ (ap start (sym lowered) ∙ sym c.in-Ok-begin_all.ensures.breach)
    ∙ unless_some _ _ _ (ap old (sym lowered) ∙ sym c.in-Some-late.ensures))

pub returns-in-Some-first_near-clause-step : goal.returns-in-Some-first_near-clause-step
returns-in-Some-first_near-clause-step c =
    let l = layout_of c.args.line.now in
    let o = command_of c.args.order.now in
    let off = c.in-Ok.ensures.scene ∙ ap (taken_off l o) c.pass.ensures.scene in
    let put = c.in-Ok-put_on.ensures.scene ∙ ap (put_on l o) off in
    let lowered = c.in-Ok-lower_in_all.ensures.scene ∙ ap (each (lower_in l) l.hoists) put in
    let begun = c.in-Ok-begin_all.ensures.scene ∙ ap (each (begin_move l o) l.hoists) lowered in
    let no6 = ap (no_off l o) (sym c.pass.ensures.scene) ∙ sym c.in-Ok.ensures.breach in
    let no7 = ap (no_put l o) (sym off) ∙ sym c.in-Ok-put_on.ensures.breach in
    let low = λ (g : Scene). first l.hoists (λ h. no_lowering l h (each (lower_in l) h g)) in
    let start = λ (g : Scene). first l.hoists (λ h. no_begin l o h (each (begin_move l o) h g)) in
    let old = λ (g : Scene). first l.tanks (late l g) in
    let close = λ (g : Scene). first (l.hoists - 1) (near l g) in
    sym (four_pass _ _ _ _ _ (sym c.in-None.ensures.breach) (sym c.in-None-first_edge.ensures) no6 no7
    ∙ unless_none _ _ (ap low (sym put) ∙ sym c.in-Ok-lower_in_all.ensures.breach)
    ∙ unless_none _ _ (ap start (sym lowered) ∙ sym c.in-Ok-begin_all.ensures.breach)
    ∙ unless_none _ _ (ap old (sym lowered) ∙ sym c.in-None-late.ensures)
    ∙ unless_some _ _ _ (ap close (sym begun) ∙ sym c.in-Some-first_near.ensures))

pub returns-in-None-first_near-clause-step : goal.returns-in-None-first_near-clause-step
returns-in-None-first_near-clause-step c =
    let l = layout_of c.args.line.now in
    let o = command_of c.args.order.now in
    let off = c.in-Ok.ensures.scene ∙ ap (taken_off l o) c.pass.ensures.scene in
    let put = c.in-Ok-put_on.ensures.scene ∙ ap (put_on l o) off in
    let lowered = c.in-Ok-lower_in_all.ensures.scene ∙ ap (each (lower_in l) l.hoists) put in
    let begun = c.in-Ok-begin_all.ensures.scene ∙ ap (each (begin_move l o) l.hoists) lowered in
    let no6 = ap (no_off l o) (sym c.pass.ensures.scene) ∙ sym c.in-Ok.ensures.breach in
    let no7 = ap (no_put l o) (sym off) ∙ sym c.in-Ok-put_on.ensures.breach in
    let low = λ (g : Scene). first l.hoists (λ h. no_lowering l h (each (lower_in l) h g)) in
    let start = λ (g : Scene). first l.hoists (λ h. no_begin l o h (each (begin_move l o) h g)) in
    let old = λ (g : Scene). first l.tanks (late l g) in
    let close = λ (g : Scene). first (l.hoists - 1) (near l g) in
    sym (four_pass _ _ _ _ _ (sym c.in-None.ensures.breach) (sym c.in-None-first_edge.ensures) no6 no7
    ∙ unless_none _ _ (ap low (sym put) ∙ sym c.in-Ok-lower_in_all.ensures.breach)
    ∙ unless_none _ _ (ap start (sym lowered) ∙ sym c.in-Ok-begin_all.ensures.breach)
    ∙ unless_none _ _ (ap old (sym lowered) ∙ sym c.in-None-late.ensures)
    ∙ unless_none _ _ (ap close (sym begun) ∙ sym c.in-None-first_near.ensures)
    ∙ ap (λ (g : Scene). Ok g) (sym begun))
