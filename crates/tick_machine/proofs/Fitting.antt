-- Frames that keep the frame rules can be read by the points, and so can the frame one tick later.
use Rattle.std.proofs.Common.{◌≡◌, ℕ, ◌+◌, ◌≤◌, ◌<◌, Bool, Option, None, Some, IfSome, refl, arith}
use Rattle.std.specs.Prelude.{true, false, cond, nat_lt}
use Rattle.std.specs.Option.{option_map}
use Rattle.std.proofs.lemmas.Bool.{ltb-true}
use Rattle.hoist_base.specs.LineData.{LineData}
use Rattle.hoist_base.specs.Valid.{IsLine}
use Rattle.tick_machine.specs.declared.breach.Breach.TheVariants.{Edge}
use Rattle.tick_machine.specs.declared.frame.Carry.{Carry}
use Rattle.tick_machine.specs.declared.frame.Hold.{Hold}
use Rattle.tick_machine.specs.declared.order.Go.{Go}
use Rattle.tick_machine.specs.declared.order.Go.TheVariants.{Stay, Low, High}
use Rattle.tick_machine.specs.Layout.{Layout, IsLayout, layout_of}
use Rattle.tick_machine.specs.Scene.{Scene, Command}
use Rattle.tick_machine.specs.Points.{edge, edge_by, moved_to, grown, aged_hold}
use Rattle.tick_machine.specs.Step.{first, after_tick}
use Rattle.tick_machine.specs.Rules.{KeepsRules}
use Rattle.tick_machine.specs.Fits.{Fits, CarryFits, HoldFits}
use Rattle.tick_machine.proofs.Lines.{layout_is}
use Rattle.tick_machine.proofs.Ticks.{ticks_small, place_on_track}
use Rattle.tick_machine.proofs.Passes.{first_pass}

pub if_some : {A : Type 0} (P : A → Type 0) (o : Option A) → ((x : A) → o ≡ Some x → P x) → IfSome o P
if_some P None h = tt
if_some P (Some x) h = h x refl

pub frame_fits : (l : Layout) (f : Scene) → IsLayout l → KeepsRules l f → Fits l 1999 f
frame_fits l f layout rules = record {
  at = λ h lt. rules.apart.within h lt;
  carry = λ h. if_some (CarryFits l 1999) (f.carry h) (λ y e.
      let r = rules.carries h y e in
      let from : y.from < l.tanks = layout.there y.from y.step r.from in
      let to : y.to < l.tanks = layout.there y.to (y.step + 1) r.to in
      let small = ticks_small l y.step y.from y.to layout r.step from to in
      record { from = from; to = to; step = r.step; elapsed = omega (arith, r.going) });
  hold = λ i. if_some (HoldFits l) (f.hold i) (λ x e. record { stage = layout.stage i x.stage (rules.holds i x e).serves });
}

below_track : (h at track : ℕ) (b : Bool) → nat_lt at track ≡ b → cond b None (Some (Edge h at)) ≡ None → at + 1 ≤ track
below_track h at track true is e = let lt = ltb-true at track is in omega arith
below_track h at track false is e = absurd (let g = e in cc)

moved_within : (l : Layout) (h : ℕ) (c : Option Carry) (go : Go) (at : ℕ) → IsLayout l → at ≤ l.track
    → IfSome c (CarryFits l 1999) → edge_by l h c go at ≡ None → moved_to l c go at ≤ l.track
moved_within l h (Some c) go at layout le fits none = place_on_track l c.step c.from c.to (c.elapsed + 1) layout fits.from fits.to
moved_within l h None Stay at layout le fits none = le
moved_within l h None Low at layout le fits none = omega arith
moved_within l h None High at layout le fits none = below_track h at l.track (nat_lt at l.track) refl none

grown_fits : (l : Layout) (o : Option Carry) → IfSome o (CarryFits l 1999)
    → IfSome (option_map grown o) (CarryFits l 2000)
grown_fits l None fits = tt
grown_fits l (Some c) fits = record { from = fits.from; to = fits.to; step = fits.step; elapsed = let e = fits.elapsed in omega arith }

aged_fits : (l : Layout) (o : Option Hold) → IfSome o (HoldFits l) → IfSome (option_map aged_hold o) (HoldFits l)
aged_fits l None fits = tt
aged_fits l (Some x) fits = record { stage = fits.stage }

pub tick_fits : (l : Layout) (o : Command) (f : Scene) → IsLayout l → Fits l 1999 f → first l.hoists (edge l o f) ≡ None
    → Fits l 2000 (after_tick l o f)
tick_fits l o f layout fits none = record {
  at = λ h lt. moved_within l h (f.carry h) (o.go h) (f.at h) layout (fits.at h lt) (fits.carry h) (first_pass l.hoists (edge l o f) h none lt);
  carry = λ h. grown_fits l (f.carry h) (fits.carry h);
  hold = λ i. aged_fits l (f.hold i) (fits.hold i);
}

-- the same of a line
pub line_fits : (l : LineData) (f : Scene) → IsLine l → KeepsRules (layout_of l) f → Fits (layout_of l) 1999 f
line_fits l f line rules = frame_fits (layout_of l) f (layout_is l line) rules
