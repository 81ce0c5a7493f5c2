-- Point 4: the frame follows the plan through the end of a carry.
use Rattle.std.proofs.Common.{◌≡◌, ℕ, ◌+◌, ◌-◌, ◌≤◌, ◌<◌, Option, Some, None, ⊎_elim, sym, refl, ap, ◌∙◌, arith}
use Rattle.std.specs.Prelude.{Bool, true, false, cond, ◌==◌}
use Rattle.std.proofs.lemmas.Bool.{cases_eq, eqb-true, eq-eqb}
use Rattle.tick_machine.specs.declared.frame.Carry.{Carry}
use Rattle.tick_machine.specs.declared.frame.Hold.{Hold}
use Rattle.tick_machine.specs.declared.frame.Rest.{Rest}
use Rattle.tick_machine.specs.declared.frame.Rest.TheVariants.{Lowering, Resting, Lifting}
use Rattle.tick_machine.specs.Layout.{Layout, move_ticks}
use Rattle.tick_machine.specs.Scene.{Scene, with, hold_of}
use Rattle.tick_machine.specs.Points.{length_of, set_down_by, set_down}
use Rattle.startup_rundown.proofs.Plan.{Plan, IsVisit, IsMove, IsPlan}
use Rattle.startup_rundown.proofs.Shown.{IsHeld, IsCarried, Shows, ShowsNext, carry_of}
use Rattle.startup_rundown.proofs.Writes.{Same, Other, hold_same, hold_write, carry_same, carry_clear}
use Rattle.startup_rundown.proofs.Ticks.{clock, lift_leave, rest_lift, carry_order, set_agree}

-- the move that hoist h sets down at the tick, which the frame shows
record Sets (l : Layout) (s : Plan) (t h c k : ℕ) (f : Scene) : Type 0 where
  j : ℕ
  next : k ≡ j + 1
  carried : f.carry h ≡ Some (carry_of s t c j)
  ends : length_of l (carry_of s t c j) ≡ t - s.lift c j

sets : (l : Layout) (s : Plan) (t h c k : ℕ) (f : Scene) → IsPlan l s → h < l.hoists → Shows s (clock t h 0 0 0) f
    → IsVisit s c k → s.setter c k ≡ h → s.rest c k ≡ t → Sets l s t h c k f
sets l s t h c k f plan there shows v by at =
    ⊎_elim
    (λ zero_k. absurd (let e : s.setter c k ≡ s.setter c 0 = ap (s.setter c) zero_k in omega (arith, (plan.puts c v.0).setter)))
    (λ ne.
    let j = k - 1 in
    let e : k ≡ j + 1 = omega arith in
    let is_move : IsMove s c j = (v.0, omega (arith, v.1)) in
    let m = plan.moves c j is_move in
    let a : s.setter c k ≡ s.setter c (j + 1) = ap (s.setter c) e in
    let b : s.rest c k ≡ s.rest c (j + 1) = ap (s.rest c) e in
    let order = carry_order l s c j plan is_move in
    let lifter : s.lifter c j ≡ h = omega (arith, m.setter) in
    let shown = shows.carries.carried c j is_move (omega (arith, order), omega arith) in
    record { j = j; next = e; carried = ap f.carry (sym lifter) ∙ shown; ends = omega (arith, m.lasts, order) })
    (cases_eq k 0)

same_carries : (l : Layout) (s : Plan) (t h c k : ℕ) → IsPlan l s → IsMove s c k
    → (s.lifter c k ≡ h → s.rest c (k + 1) ≡ t → ⊥)
    → Same (IsCarried s (clock t h 0 0 0)) (IsCarried s (clock t (h + 1) 0 0 0)) c k
same_carries l s t h c k plan v none =
    ⊎_elim
    (λ e. let no : s.rest c (k + 1) ≡ t → ⊥ = none e in (λ g. (g.0, omega (arith, g.1)), λ g. (g.0, omega (arith, g.1))))
    (λ no. (λ g. (g.0, omega (arith, g.1)), λ g. (g.0, omega (arith, g.1))))
    (cases_eq (s.lifter c k) h)

shows_next : (l : Layout) (s : Plan) (t h next : ℕ) → IsPlan l s → h < l.hoists → ShowsNext s (clock t h 0 0 0) next
    → ShowsNext s (clock t (h + 1) 0 0 0) next
shows_next l s t h next plan there n = record {
  few = n.few;
  below = λ c lt. omega (arith, n.below c lt, (plan.puts c (omega (arith, n.few))).setter);
  rest = λ c lt le. omega (arith, n.rest c lt le, (plan.puts c lt).setter);
}

-- nothing is set down
quiet : (l : Layout) (s : Plan) (t h : ℕ) (f : Scene) → IsPlan l s → h < l.hoists → Shows s (clock t h 0 0 0) f
    → ((c k : ℕ) → IsVisit s c k → s.setter c k ≡ h → s.rest c k ≡ t → ⊥) → Shows s (clock t (h + 1) 0 0 0) f
quiet l s t h f plan there shows none = record {
  holds = hold_same s _ _ f.hold shows.holds (λ c k v. set_agree s t h 0 0 0 c k (none c k v));
  carries = carry_same s t _ _ f.carry shows.carries (λ c k v. same_carries l s t h c k plan v
      (λ e at. none c (k + 1) (v.0, omega (arith, v.1)) (omega (arith, (plan.moves c k v).setter)) at));
  next = shows_next l s t h f.next plan there shows.next;
}

only_zero : (s : Plan) (t h d m : ℕ) (r : Rest) → s.rest d m ≡ t → s.rest d m ≤ s.lift d m → s.setter d m ≡ h
    → IsHeld s (clock t (h + 1) 0 0 0) d m r → r ≡ Resting 0
only_zero s t h d m Lowering at le by held = absurd (omega (arith, held.2))
only_zero s t h d m (Resting age) at le by held = ap (λ (n : ℕ). Resting n) (omega (arith, held.2.2))
only_zero s t h d m Lifting at le by held = absurd (omega (arith, held.2.1))

set_down_if : (l : Layout) (s : Plan) (t h : ℕ) (f : Scene) (x : Carry) (b : Bool) → IsPlan l s → h < l.hoists
    → Shows s (clock t h 0 0 0) f → f.carry h ≡ Some x → (x.elapsed == length_of l x) ≡ b
    → Shows s (clock t (h + 1) 0 0 0)
    (cond b (record f { carry = with f.carry h None; hold = with f.hold x.to (Some (record { carrier = x.carrier; stage = x.step + 1; rest = Resting 0 })) }) f)
set_down_if l s t h f x false plan there shows has test =
    quiet l s t h f plan there shows
    (λ c k v by at.
    let g = sets l s t h c k f plan there shows v by at in
    let same : x ≡ carry_of s t c g.j = let a = g.carried in cc in
    let e : x.elapsed ≡ t - s.lift c g.j = ap (λ (y : Carry). y.elapsed) same in
    let d : length_of l x ≡ length_of l (carry_of s t c g.j) = ap (length_of l) same in
    let yes : (x.elapsed == length_of l x) ≡ true = eq-eqb x.elapsed (length_of l x) (e ∙ sym g.ends ∙ sym d) in
    cc)
set_down_if l s t h f x true plan there shows has test =
    let g = shows.carries.carries h x has in
    let d = x.carrier in
    let m = x.step in
    let v = g.0 in
    let by = g.1 in
    let going = g.2 in
    let same = g.3 in
    let mv = plan.moves d m v in
    let e : x.elapsed ≡ t - s.lift d m = ap (λ (y : Carry). y.elapsed) same in
    let long : length_of l x ≡ move_ticks l m (s.tank d m) (s.tank d (m + 1)) = ap (length_of l) same in
    let ends : x.elapsed ≡ length_of l x = eqb-true x.elapsed (length_of l x) test in
    let at : s.rest d (m + 1) ≡ t = omega (arith, mv.lasts, going.0) in
    let tank : s.tank d (m + 1) ≡ x.to = sym (ap (λ (y : Carry). y.to) same) in
    let visit : IsVisit s d (m + 1) = (v.0, omega (arith, v.1)) in
    let setter : s.setter d (m + 1) ≡ h = omega (arith, mv.setter, by) in
    let a = rest_lift l s d (m + 1) plan visit in
    let b = lift_leave l s d (m + 1) plan visit in
    let was : f.hold (s.tank d (m + 1)) ≡ Some (hold_of d (m + 1) Lowering) = shows.holds.held d (m + 1) Lowering visit
    (omega (arith, mv.lower_takes), omega arith, omega arith) in
    let none : (c k : ℕ) → IsVisit s c k → Other d (m + 1) c k → s.setter c k ≡ h → s.rest c k ≡ t → ⊥ =
    λ c k v' other by' at'.
    let q = sets l s t h c k f plan there shows v' by' at' in
    let two : x ≡ carry_of s t c q.j = let z = q.carried in cc in
    let one : d ≡ c = ap (λ (y : Carry). y.carrier) two in
    let step : m ≡ q.j = ap (λ (y : Carry). y.step) two in
    other (sym one, omega (arith, q.next)) in
    record {
      holds = hold_write s (IsHeld s (clock t h 0 0 0)) (IsHeld s (clock t (h + 1) 0 0 0)) f.hold d (m + 1) x.to (Resting 0) shows.holds visit tank
          (λ y here. let z : y ≡ hold_of d (m + 1) Lowering = cc in (ap (λ (w : Hold). w.carrier) z, ap (λ (w : Hold). w.stage) z))
          (omega (arith, mv.lower_takes), omega arith, (omega arith, omega arith, omega arith))
          (λ r. only_zero s t h d (m + 1) r at a setter)
          (λ c k v' other. set_agree s t h 0 0 0 c k (none c k v' other));
      carries = carry_clear s t (IsCarried s (clock t h 0 0 0))
          (IsCarried s (clock t (h + 1) 0 0 0)) f.carry d m h shows.carries (has ∙ ap (λ (y : Carry). Some y) same) by
          (λ on. omega (arith, on.1))
          (λ c k v' other. same_carries l s t h c k plan v'
          (λ by' at'. none c (k + 1) (v'.0, omega (arith, v'.1))
          (λ (p : (c ≡ d) × (k + 1 ≡ m + 1)). other (p.0, omega (arith, p.1)))
          (omega (arith, (plan.moves c k v').setter)) at'));
      next = shows_next l s t h f.next plan there shows.next;
    }

set_down_at : (l : Layout) (s : Plan) (t h : ℕ) (f : Scene) (o : Option Carry) → IsPlan l s → h < l.hoists
    → Shows s (clock t h 0 0 0) f → f.carry h ≡ o → Shows s (clock t (h + 1) 0 0 0) (set_down_by l h o f)
set_down_at l s t h f None plan there shows has =
    quiet l s t h f plan there shows (λ c k v by at. let g = sets l s t h c k f plan there shows v by at in let a = g.carried in cc)
set_down_at l s t h f (Some x) plan there shows has = set_down_if l s t h f x (x.elapsed == length_of l x) plan there shows has refl

pub set_down_shows : (l : Layout) (s : Plan) (t h : ℕ) (f : Scene) → IsPlan l s → h < l.hoists
    → Shows s (clock t h 0 0 0) f → Shows s (clock t (h + 1) 0 0 0) (set_down l h f)
set_down_shows l s t h f plan there shows = set_down_at l s t h f (f.carry h) plan there shows refl
