-- Points 10 and 11: nobody rests too long, and no hoists are too near.
use Rattle.std.proofs.Common.{◌≡◌, ℕ, ◌+◌, ◌≤◌, ◌<◌, Option, Some, None, refl, arith, IfSome}
use Rattle.std.specs.Prelude.{nat_lt}
use Rattle.std.proofs.lemmas.Bool.{le-ltb, cond-false}
use Rattle.tick_machine.specs.declared.frame.Hold.{Hold}
use Rattle.tick_machine.specs.declared.frame.Rest.{Rest}
use Rattle.tick_machine.specs.declared.frame.Rest.TheVariants.{Lowering, Resting, Lifting}
use Rattle.tick_machine.specs.Layout.{Layout}
use Rattle.tick_machine.specs.Scene.{Scene}
use Rattle.tick_machine.specs.Points.{late_rest, late_hold, late_by, late, near}
use Rattle.startup_rundown.proofs.Plan.{Plan, IsVisit, IsPlan, IsTracked}
use Rattle.startup_rundown.proofs.Shown.{IsHeld, Shows}
use Rattle.startup_rundown.proofs.LowerIn.{lowering}

late_age : (x : Hold) (age rest lift t : ℕ) (bound : Option ℕ) → IfSome bound (λ m. lift ≤ rest + m) → age + rest ≡ t
    → t ≤ lift → late_rest x age bound ≡ None
late_age x age rest lift t None fine is le = refl
late_age x age rest lift t (Some m) fine is le = cond-false (nat_lt m age) _ _ (le-ltb m age (omega arith))

late_of : (l : Layout) (s : Plan) (t h : ℕ) (x : Hold) (r : Rest) → IsPlan l s → IsVisit s x.carrier x.stage
    → IsHeld s (lowering l t h) x.carrier x.stage r → late_hold l x r ≡ None
late_of l s t h x Lowering plan v held = refl
late_of l s t h x (Resting age) plan v held =
    late_age x age (s.rest x.carrier x.stage) (s.lift x.carrier x.stage) t (l.greatest x.stage)
    (plan.in_time x.carrier x.stage v) held.2.2 (omega (arith, held.2.1))
late_of l s t h x Lifting plan v held = refl

late_at : (l : Layout) (s : Plan) (t h i : ℕ) (f : Scene) (o : Option Hold) → IsPlan l s → Shows s (lowering l t h) f
    → f.hold i ≡ o → late_by l o ≡ None
late_at l s t h i f None plan shows has = refl
late_at l s t h i f (Some x) plan shows has = let g = shows.holds.holds i x has in late_of l s t h x x.rest plan g.0 g.2

pub late_none : (l : Layout) (s : Plan) (t h i : ℕ) (f : Scene) → IsPlan l s → Shows s (lowering l t h) f
    → late l f i ≡ None
late_none l s t h i f plan shows = late_at l s t h i f (f.hold i) plan shows refl

pub near_none : (l : Layout) (s : Plan) (pos : ℕ → ℕ → ℕ) (t h : ℕ) (f : Scene) → IsTracked l s pos → h + 1 < l.hoists
    → f.at h ≡ pos h t → f.at (h + 1) ≡ pos (h + 1) t → near l f h ≡ None
near_none l s pos t h f track there a b = cond-false (nat_lt (f.at (h + 1)) (f.at h + l.gap)) _ _
    (le-ltb (f.at (h + 1)) (f.at h + l.gap) (omega (arith, track.gap h t there)))
