-- Point 8: the tank is free, and the frame follows the plan through the begin of a lowering.
use Rattle.std.proofs.Common.{◌≡◌, ℕ, ◌+◌, ◌-◌, ◌≤◌, ◌<◌, Option, Some, None, ⊎_elim, sym, refl, ap, ◌∙◌, arith}
use Rattle.std.specs.Prelude.{Bool, true, false, cond}
use Rattle.std.proofs.lemmas.Bool.{cases_eq, eqb-true, eq-eqb}
use Rattle.tick_machine.specs.declared.frame.Carry.{Carry}
use Rattle.tick_machine.specs.declared.frame.Hold.{Hold}
use Rattle.tick_machine.specs.declared.frame.Rest.{Rest}
use Rattle.tick_machine.specs.declared.frame.Rest.TheVariants.{Lowering, Resting, Lifting}
use Rattle.tick_machine.specs.Layout.{Layout, move_ticks}
use Rattle.tick_machine.specs.Scene.{Scene, with}
use Rattle.tick_machine.specs.Points.{length_of, lowers_now, held, no_lowering_by, no_lowering, lower_in_by, lower_in}
use Rattle.startup_rundown.proofs.Plan.{Plan, IsVisit, IsMove, IsPlan}
use Rattle.startup_rundown.proofs.Shown.{Clock, IsHeld, Shows, carry_of}
use Rattle.startup_rundown.proofs.Writes.{hold_same, hold_write}
use Rattle.startup_rundown.proofs.Ticks.{clock, rest_lift, lift_leave, lifter_in, setter_in, still, low_agree}

-- hoists below h have done point 8
abbrev pub lowering : Layout → ℕ → ℕ → Clock
lowering l t h = clock t (l.hoists + 1) (l.hoists + 1) (h + 1) 0

-- what hoist h begins to lower at the tick is what it carries
record Lowers (l : Layout) (s : Plan) (t h c k : ℕ) (f : Scene) : Type 0 where
  j : ℕ
  next : k ≡ j + 1
  carried : f.carry h ≡ Some (carry_of s t c j)
  begins : t - s.lift c j + l.lower (j + 1) ≡ length_of l (carry_of s t c j)

lowers : (l : Layout) (s : Plan) (t h c k : ℕ) (f : Scene) → IsPlan l s → h < l.hoists → Shows s (lowering l t h) f
    → IsVisit s c k → s.lowerer c k ≡ h + 1 → s.enter c k ≡ t → Lowers l s t h c k f
lowers l s t h c k f plan there shows v by at =
    ⊎_elim
    (λ zero_k. absurd (let e : s.lowerer c k ≡ s.lowerer c 0 = ap (s.lowerer c) zero_k in omega (arith, (plan.puts c v.0).lowerer)))
    (λ ne.
    let j = k - 1 in
    let e : k ≡ j + 1 = omega arith in
    let is_move : IsMove s c j = (v.0, omega (arith, v.1)) in
    let m = plan.moves c j is_move in
    let a : s.lowerer c k ≡ s.lowerer c (j + 1) = ap (s.lowerer c) e in
    let b : s.enter c k ≡ s.enter c (j + 1) = ap (s.enter c) e in
    let lifter : s.lifter c j ≡ h = omega (arith, m.lowerer) in
    let shown = shows.carries.carried c j is_move (omega (arith, m.lift_takes, m.apart), omega (arith, m.lower_takes)) in
    record { j = j; next = e; carried = ap f.carry (sym lifter) ∙ shown; begins = omega (arith, m.lasts, m.lowers, m.lift_takes, m.apart) })
    (cases_eq k 0)

quiet : (l : Layout) (s : Plan) (t h : ℕ) (f : Scene) → IsPlan l s → Shows s (lowering l t h) f
    → ((c k : ℕ) → IsVisit s c k → s.lowerer c k ≡ h + 1 → s.enter c k ≡ t → ⊥) → Shows s (lowering l t (h + 1)) f
quiet l s t h f plan shows none = record {
  holds = hold_same s _ _ f.hold shows.holds (λ c k v. low_agree s t (h + 1) (l.hoists + 1) (l.hoists + 1) 0 c k
      (still t (h + 1) (s.lowerer c k) (s.enter c k) (none c k v)));
  carries = shows.carries;
  next = record { few = shows.next.few; below = shows.next.below; rest = shows.next.rest };
}

-- a tank that visit (c, k) enters at the tick is free before it does
pub is_free : (l : Layout) (s : Plan) (t set n c k : ℕ) (f : Scene) (o : Option Hold) → IsPlan l s
    → Shows s (clock t set (l.hoists + 1) n 0) f
    → IsVisit s c k → s.enter c k ≡ t → s.lowerer c k ≡ n → t < s.leave c k → f.hold (s.tank c k) ≡ o → o ≡ None
is_free l s t set n c k f None plan shows v at by stays has = refl
is_free l s t set n c k f (Some y) plan shows v at by stays has =
    let g = shows.holds.holds (s.tank c k) y has in
    let low = g.2.0 in
    let out = g.2.1 in
    let a = lifter_in l s y.carrier y.stage plan g.0 in
    let two = plan.hold_alone t y.carrier y.stage c k g.0 v g.1 (omega arith) (omega arith) (omega arith) stays in
    let e : s.enter y.carrier y.stage ≡ s.enter c k = ap (λ i. s.enter i y.stage) two.0 ∙ ap (s.enter c) two.1 in
    let b : s.lowerer y.carrier y.stage ≡ s.lowerer c k = ap (λ i. s.lowerer i y.stage) two.0 ∙ ap (s.lowerer c) two.1 in
    absurd (omega arith)

only_lowering : (l : Layout) (s : Plan) (t h d m : ℕ) (r : Rest) → t < s.rest d m → s.rest d m ≤ s.lift d m
    → IsHeld s (lowering l t h) d m r → r ≡ Lowering
only_lowering l s t h d m Lowering at le held = refl
only_lowering l s t h d m (Resting age) at le held = absurd (omega (arith, held.2.0))
only_lowering l s t h d m Lifting at le held = absurd (omega (arith, held.2.0))

lower_in_if : (l : Layout) (s : Plan) (t h : ℕ) (f : Scene) (x : Carry) (b : Bool) → IsPlan l s → h < l.hoists
    → Shows s (lowering l t h) f → f.carry h ≡ Some x → lowers_now l x ≡ b
    → (cond b (held x.to (f.hold x.to)) None ≡ None)
    × Shows s (lowering l t (h + 1)) (cond b (record f {
      hold = with f.hold x.to
          (Some (record { carrier = x.carrier; stage = x.step + 1; rest = Lowering }));
    }) f)
lower_in_if l s t h f x false plan there shows has test = (
  refl,
  quiet l s t h f plan shows
      (λ c k v by at.
      let g = lowers l s t h c k f plan there shows v by at in
      let same : x ≡ carry_of s t c g.j = let a = g.carried in cc in
      let e : x.elapsed + l.lower (x.step + 1) ≡ t - s.lift c g.j + l.lower (g.j + 1) = ap (λ (y : Carry). y.elapsed + l.lower (y.step + 1)) same in
      let d : length_of l x ≡ length_of l (carry_of s t c g.j) = ap (length_of l) same in
      let yes : lowers_now l x ≡ true = eq-eqb (x.elapsed + l.lower (x.step + 1)) (length_of l x) (e ∙ g.begins ∙ sym d) in
      cc),
)
lower_in_if l s t h f x true plan there shows has test =
    let g = shows.carries.carries h x has in
    let d = x.carrier in
    let m = x.step in
    let mv = plan.moves d m g.0 in
    let visit : IsVisit s d (m + 1) = (g.0.0, omega (arith, g.0.1)) in
    let e : x.elapsed ≡ t - s.lift d m = ap (λ (y : Carry). y.elapsed) g.3 in
    let long : length_of l x ≡ move_ticks l m (s.tank d m) (s.tank d (m + 1)) = ap (length_of l) g.3 in
    let begins : x.elapsed + l.lower (m + 1) ≡ length_of l x = eqb-true (x.elapsed + l.lower (m + 1)) (length_of l x) test in
    let at : s.enter d (m + 1) ≡ t = omega (arith, mv.lasts, mv.lowers, g.2.0) in
    let by : s.lowerer d (m + 1) ≡ h + 1 = omega (arith, mv.lowerer, g.1) in
    let tank : s.tank d (m + 1) ≡ x.to = sym (ap (λ (y : Carry). y.to) g.3) in
    let a = rest_lift l s d (m + 1) plan visit in
    let b = lift_leave l s d (m + 1) plan visit in
    let late : t < s.rest d (m + 1) = omega (arith, mv.lower_takes) in
    let was : f.hold (s.tank d (m + 1)) ≡ None = is_free l s t (l.hoists + 1) (h + 1) d (m + 1) f
    (f.hold (s.tank d (m + 1))) plan shows visit at by (omega arith) refl in
    let free : f.hold x.to ≡ None = ap f.hold (sym tank) ∙ was in (
      ap (held x.to) free,
      record {
        holds = hold_write s (IsHeld s (lowering l t h)) (IsHeld s (lowering l t (h + 1))) f.hold d (m + 1) x.to Lowering shows.holds visit tank
            (λ y here. absurd (let z = free in cc))
            (omega arith, omega (arith, lifter_in l s d (m + 1) plan visit), omega (arith, (setter_in l s d (m + 1) plan visit).0))
            (λ r. only_lowering l s t (h + 1) d (m + 1) r late a)
            (λ c k v other. low_agree s t (h + 1) (l.hoists + 1) (l.hoists + 1) 0 c k (still t (h + 1) (s.lowerer c k) (s.enter c k) (λ by' at'.
            let q = lowers l s t h c k f plan there shows v by' at' in
            let two : x ≡ carry_of s t c q.j = let z = q.carried in cc in
            let one : d ≡ c = ap (λ (y : Carry). y.carrier) two in
            let step : m ≡ q.j = ap (λ (y : Carry). y.step) two in
            other (sym one, omega (arith, q.next)))));
        carries = shows.carries;
        next = record { few = shows.next.few; below = shows.next.below; rest = shows.next.rest };
      },
    )

lower_in_at : (l : Layout) (s : Plan) (t h : ℕ) (f : Scene) (o : Option Carry) → IsPlan l s → h < l.hoists
    → Shows s (lowering l t h) f → f.carry h ≡ o
    → (no_lowering_by l o f ≡ None) × Shows s (lowering l t (h + 1)) (lower_in_by l o f)
lower_in_at l s t h f None plan there shows has =
    (refl, quiet l s t h f plan shows (λ c k v by at. let g = lowers l s t h c k f plan there shows v by at in let a = g.carried in cc))
lower_in_at l s t h f (Some x) plan there shows has = lower_in_if l s t h f x (lowers_now l x) plan there shows has refl

pub lower_in_shows : (l : Layout) (s : Plan) (t h : ℕ) (f : Scene) → IsPlan l s → h < l.hoists
    → Shows s (lowering l t h) f
    → (no_lowering l h f ≡ None) × Shows s (lowering l t (h + 1)) (lower_in l h f)
lower_in_shows l s t h f plan there shows = lower_in_at l s t h f (f.carry h) plan there shows refl
