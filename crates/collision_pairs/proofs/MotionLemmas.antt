-- How a motion's place changes with the ticks, and what its corners say of all its ticks.
use Rattle.std.proofs.Common.{◌≡◌, ℕ, ◌+◌, ◌-◌, ◌<◌, ◌≤◌, ◌⊎◌, inl, inr, ⊎_elim, refl, arith}
use Rattle.std.proofs.lemmas.Bool.{cases_lt}
use Rattle.line_model.specs.declared.motion.Motion.{Motion}
use Rattle.line_model.specs.Motion.{IsMotion, duration, place, towards}
use Rattle.collision_pairs.specs.Clash.{corners}
use Rattle.collision_pairs.proofs.TickLemmas.{Rises, Falls, IsSlow}
use Rattle.collision_pairs.proofs.HullLemmas.{HasLateTop, HasEarlyTop, HasEarlyBottom, HasLateBottom}
use Rattle.collision_pairs.proofs.CornerLemmas.{IsTickOf, LieOn}

towards_rises : (a b s t : ℕ) → a ≤ b → s ≤ t → towards a b s ≤ towards a b t
towards_rises a b s t h p = omega arith

towards_falls : (a b s t : ℕ) → b ≤ a → s ≤ t → towards a b t ≤ towards a b s
towards_falls a b s t h p = omega arith

-- a motion goes one way
pub goes_one_way : (m : Motion) (room : ℕ) → Rises (λ u. place m u + room) ⊎ Falls (λ u. place m u + room)
goes_one_way m room =
    ⊎_elim
    (λ h. inl (λ u w p. let e = towards_rises m.from m.to (u - m.lift) (w - m.lift) (omega arith) (omega arith) in omega (arith, e)))
    (λ h. inr (λ u w p. let e = towards_falls m.from m.to (u - m.lift) (w - m.lift) h (omega arith) in omega (arith, e)))
    (cases_lt m.from m.to)

pub goes_one_way_itself : (m : Motion) → Rises (place m) ⊎ Falls (place m)
goes_one_way_itself m =
    ⊎_elim
    (λ r. inl (λ u w p. let e = r u w p in omega (arith, e)))
    (λ f. inr (λ u w p. let e = f u w p in omega (arith, e)))
    (goes_one_way m 0)

towards_slow : (a b s t : ℕ) → s ≤ t
    → (towards a b t ≤ towards a b s + (t - s)) × (towards a b s ≤ towards a b t + (t - s))
towards_slow a b s t p = (omega arith, omega arith)

-- at most one unit a tick
pub goes_slowly : (m : Motion) → IsSlow (place m)
goes_slowly m u w p =
    let e = towards_slow m.from m.to (u - m.lift) (w - m.lift) (omega arith) in
    (omega (arith, e), omega (arith, e))

-- it begins at the one end, ends at the other, and stays between
pub at_start : (m : Motion) → place m 0 ≡ m.from
at_start m = omega arith

pub at_end : (m : Motion) → place m (duration m) ≡ m.to
at_end m = omega arith

pub lasts : (m : Motion) → IsMotion m → (0 < duration m) × (duration m ≤ 2000)
lasts m h = (omega (arith, h.lift.0), omega (arith, h.from, h.to, h.lift.1, h.lower.1))

pub stays_low : (m : Motion) (u : ℕ) → IsMotion m → place m u ≤ 1000
stays_low m u h = omega (arith, h.from, h.to)

-- the corners lie on the motion, within its ticks
pub corners_lie_on : (m : Motion) → LieOn (place m) (corners m)
corners_lie_on m = (omega arith, (omega arith, (omega arith, (omega arith, tt))))

pub corners_within : (m : Motion) (u : ℕ) → IsTickOf (corners m) u → u ≤ duration m
corners_within m u h =
    ⊎_elim (λ e. omega (arith, e)) (λ r. ⊎_elim (λ e. omega (arith, e))
    (λ s. ⊎_elim (λ e. omega (arith, e)) (λ t. ⊎_elim (λ e. omega (arith, e)) (λ n. absurd n) t) s) r) h

at_lift : (m : Motion) → IsTickOf (corners m) m.lift
at_lift m = inr (inl refl)

at_arrival : (m : Motion) → IsTickOf (corners m) (duration m - m.lower)
at_arrival m = inr (inr (inl refl))

at_last : (m : Motion) → IsTickOf (corners m) (duration m)
at_last m = inr (inr (inr (inl refl)))

-- highest and latest: the end, or where a motion that falls has lifted
pub late_top : (m : Motion) (room : ℕ) → HasLateTop (λ u. place m u + room) (IsTickOf (corners m)) (duration m)
late_top m room u le =
    ⊎_elim
    (λ rises. (duration m, at_last m, omega arith, omega arith))
    (λ falls.
    ⊎_elim
    (λ low. (duration m, at_last m, omega arith, omega arith))
    (λ not_low. (m.lift, at_lift m, omega arith, omega arith))
    (cases_lt (duration m - m.lower) u))
    (cases_lt m.from m.to)

-- highest and earliest: the start, or where a motion that rises has arrived
pub early_top : (m : Motion) (room : ℕ) → HasEarlyTop (λ u. place m u + room) (IsTickOf (corners m)) (duration m)
early_top m room u le =
    ⊎_elim
    (λ rises.
    ⊎_elim
    (λ lifted. (duration m - m.lower, at_arrival m, omega arith, omega arith))
    (λ lifting. (0, inl refl, omega arith, omega arith))
    (cases_lt m.lift u))
    (λ falls. (0, inl refl, omega arith, omega arith))
    (cases_lt m.from m.to)

-- lowest and earliest: the start, or where a motion that falls has arrived
pub early_bottom : (m : Motion) → HasEarlyBottom (place m) (IsTickOf (corners m)) (duration m)
early_bottom m v le =
    ⊎_elim
    (λ rises. (0, inl refl, omega arith, omega arith))
    (λ falls.
    ⊎_elim
    (λ lifted. (duration m - m.lower, at_arrival m, omega arith, omega arith))
    (λ lifting. (0, inl refl, omega arith, omega arith))
    (cases_lt m.lift v))
    (cases_lt m.from m.to)

-- lowest and latest: the end, or where a motion that rises has lifted
pub late_bottom : (m : Motion) → HasLateBottom (place m) (IsTickOf (corners m)) (duration m)
late_bottom m v le =
    ⊎_elim
    (λ rises.
    ⊎_elim
    (λ low. (duration m, at_last m, omega arith, omega arith))
    (λ not_low. (m.lift, at_lift m, omega arith, omega arith))
    (cases_lt (duration m - m.lower) v))
    (λ falls. (duration m, at_last m, omega arith, omega arith))
    (cases_lt m.from m.to)
