-- Point 5: the frame follows the plan through the end of a lift.
use Rattle.std.proofs.Common.{◌≡◌, ℕ, ◌+◌, ◌-◌, ◌<◌, Option, Some, None, ⊎_elim, sym, refl, ap, ◌∙◌, arith}
use Rattle.std.specs.Prelude.{Bool, true, false, cond, ◌==◌}
use Rattle.std.proofs.lemmas.Bool.{cases_eq, eqb-true, eq-eqb}
use Rattle.tick_machine.specs.declared.frame.Carry.{Carry}
use Rattle.tick_machine.specs.declared.frame.Hold.{Hold}
use Rattle.tick_machine.specs.declared.frame.Rest.TheVariants.{Lifting}
use Rattle.tick_machine.specs.Layout.{Layout}
use Rattle.tick_machine.specs.Scene.{Scene, with, hold_of}
use Rattle.tick_machine.specs.Points.{lift_out_by, lift_out}
use Rattle.startup_rundown.proofs.Plan.{Plan, IsVisit, IsMove, IsPlan}
use Rattle.startup_rundown.proofs.Shown.{IsHeld, Shows, carry_of}
use Rattle.startup_rundown.proofs.Writes.{hold_same, hold_clear}
use Rattle.startup_rundown.proofs.Ticks.{clock, rest_lift, enter_rest, still, free_agree}

-- what is lifted out at the tick by hoist h is what it carries
record Lifts (l : Layout) (s : Plan) (t h c k : ℕ) (f : Scene) : Type 0 where
  carried : f.carry h ≡ Some (carry_of s t c k)
  out : t - s.lift c k ≡ l.lift k

lifts : (l : Layout) (s : Plan) (t h c k : ℕ) (f : Scene) → IsPlan l s → h < l.hoists
    → Shows s (clock t l.hoists h 0 0) f → IsVisit s c k → s.lifter c k ≡ h → s.leave c k ≡ t → Lifts l s t h c k f
lifts l s t h c k f plan there shows v by at =
    ⊎_elim
    (λ e. absurd (let a : s.lifter c k ≡ s.lifter c s.last = ap (s.lifter c) e in omega (arith, (plan.offs c v.0).lifter)))
    (λ ne.
    let is_move : IsMove s c k = (v.0, omega arith) in
    let m = plan.moves c k is_move in
    let shown = shows.carries.carried c k is_move (omega (arith, m.lift_takes), omega (arith, m.apart, m.lower_takes)) in
    record { carried = ap f.carry (sym by) ∙ shown; out = omega (arith, m.lifts) })
    (cases_eq k s.last)

quiet : (l : Layout) (s : Plan) (t h : ℕ) (f : Scene) → IsPlan l s → Shows s (clock t l.hoists h 0 0) f
    → ((c k : ℕ) → IsVisit s c k → s.lifter c k ≡ h → s.leave c k ≡ t → ⊥) → Shows s (clock t l.hoists (h + 1) 0 0) f
quiet l s t h f plan shows none = record {
  holds = hold_same s _ _ f.hold shows.holds (λ c k v. free_agree s t h l.hoists 0 0 c k (still t h (s.lifter c k) (s.leave c k) (none c k v)));
  carries = shows.carries;
  next = record { few = shows.next.few; below = shows.next.below; rest = shows.next.rest };
}

lift_out_if : (l : Layout) (s : Plan) (t h : ℕ) (f : Scene) (x : Carry) (b : Bool) → IsPlan l s → h < l.hoists
    → Shows s (clock t l.hoists h 0 0) f → f.carry h ≡ Some x → (x.elapsed == l.lift x.step) ≡ b
    → Shows s (clock t l.hoists (h + 1) 0 0) (cond b (record f { hold = with f.hold x.from None }) f)
lift_out_if l s t h f x false plan there shows has test =
    quiet l s t h f plan shows
    (λ c k v by at.
    let g = lifts l s t h c k f plan there shows v by at in
    let same : x ≡ carry_of s t c k = let a = g.carried in cc in
    let e : x.elapsed ≡ t - s.lift c k = ap (λ (y : Carry). y.elapsed) same in
    let d : l.lift x.step ≡ l.lift k = ap (λ (y : Carry). l.lift y.step) same in
    let yes : (x.elapsed == l.lift x.step) ≡ true = eq-eqb x.elapsed (l.lift x.step) (e ∙ g.out ∙ sym d) in
    cc)
lift_out_if l s t h f x true plan there shows has test =
    let g = shows.carries.carries h x has in
    let d = x.carrier in
    let m = x.step in
    let mv = plan.moves d m g.0 in
    let visit : IsVisit s d m = (g.0.0, omega (arith, g.0.1)) in
    let e : x.elapsed ≡ t - s.lift d m = ap (λ (y : Carry). y.elapsed) g.3 in
    let ends : x.elapsed ≡ l.lift m = eqb-true x.elapsed (l.lift m) test in
    let at : s.leave d m ≡ t = omega (arith, mv.lifts, g.2.0) in
    let by = g.1 in
    let tank : s.tank d m ≡ x.from = sym (ap (λ (y : Carry). y.from) g.3) in
    let a = rest_lift l s d m plan visit in
    let b = enter_rest l s d m plan visit in
    let was : f.hold (s.tank d m) ≡ Some (hold_of d m Lifting) = shows.holds.held d m Lifting visit
    (omega (arith, g.2.0), omega arith, (omega (arith, g.2.0), g.2.0)) in
    record {
      holds = hold_clear s (IsHeld s (clock t l.hoists h 0 0)) (IsHeld s (clock t l.hoists (h + 1) 0 0)) f.hold d m x.from shows.holds
          (λ y here. let z : y ≡ hold_of d m Lifting = cc in (ap (λ (w : Hold). w.carrier) z, ap (λ (w : Hold). w.stage) z))
          tank
          (λ r on. omega (arith, on.1))
          (λ c k v other. free_agree s t h l.hoists 0 0 c k (still t h (s.lifter c k) (s.leave c k) (λ by' at'.
          let q = lifts l s t h c k f plan there shows v by' at' in
          let two : x ≡ carry_of s t c k = let z = q.carried in cc in
          other (sym (ap (λ (y : Carry). y.carrier) two), sym (ap (λ (y : Carry). y.step) two)))));
      carries = shows.carries;
      next = record { few = shows.next.few; below = shows.next.below; rest = shows.next.rest };
    }

lift_out_at : (l : Layout) (s : Plan) (t h : ℕ) (f : Scene) (o : Option Carry) → IsPlan l s → h < l.hoists
    → Shows s (clock t l.hoists h 0 0) f → f.carry h ≡ o → Shows s (clock t l.hoists (h + 1) 0 0) (lift_out_by l o f)
lift_out_at l s t h f None plan there shows has =
    quiet l s t h f plan shows (λ c k v by at. let g = lifts l s t h c k f plan there shows v by at in let a = g.carried in cc)
lift_out_at l s t h f (Some x) plan there shows has = lift_out_if l s t h f x (x.elapsed == l.lift x.step) plan there shows has refl

pub lift_out_shows : (l : Layout) (s : Plan) (t h : ℕ) (f : Scene) → IsPlan l s → h < l.hoists
    → Shows s (clock t l.hoists h 0 0) f → Shows s (clock t l.hoists (h + 1) 0 0) (lift_out l h f)
lift_out_shows l s t h f plan there shows = lift_out_at l s t h f (f.carry h) plan there shows refl
