-- The least row over a hoist's fixed positions is at the lowest heights.
use Rattle.std.proofs.Common.{◌≡◌, ℕ, ◌+◌, ◌-◌, ◌*◌, ◌%◌, ◌≤◌, ◌<◌, ◌⊎◌, inl, inr, ⊎_elim, ◌∙◌, List, Option, None, Some, get_or, refl, sym, ap, max, subst, arith, ℤ, pos, ◌+ℤ◌, ◌-ℤ◌, ◌*ℤ◌}
use Rattle.std.specs.Prelude.{unsigned_abs}
use Rattle.std.specs.Option.{unwrap_or}
use Rattle.std.proofs.lemmas.Int.{ints}
use Rattle.std.proofs.lemmas.Bool.{cases_lt}
use Rattle.std.proofs.lemmas.Nat.{mod_below}
use Rattle.std.proofs.Math.Nat.{mod-eq_of_lt}
use Rattle.hoist_base.specs.LineData.{LineData}
use Rattle.line_model.specs.Timetable.{Timetable}
use Rattle.path_envelope.specs.declared.point.Point.{Point}
use Rattle.path_envelope.specs.Duties.{IsFixed}
use Rattle.path_envelope.specs.Envelope.{Forces, IsLowestAt}
use Rattle.path_envelope.specs.Rows.{IsSlow, Suffices, ComesFrom, need}
use Rattle.path_envelope.specs.Slots.{FixesSlot, held, IsBelow}
use Rattle.path_envelope.proofs.ShiftLemmas.{shifted, shift, in_slot, periods_between, slot_of, turns_of, slow_apart}

-- a slow row through a fixed point is no lower at another tick than the point forces
pub forced_by_own : (l : LineData) (p : Timetable) (row : ℕ → ℕ) (t : ℕ) (x : Point) → 0 < p.period → t < p.period
    → IsSlow p.period row
    → ((s at : ℕ) → FixesSlot l p x.hoist s at → at ≤ row s) → (f : IsFixed l p x)
    → x.at ≤ row t + unsigned_abs (x.tick -ℤ pos t)
forced_by_own l p row t x pp lt slow through f =
    let s : ℕ = (p.start f.0 f.1 + f.2) % p.period in
    let s_in : s < p.period = mod_below (p.start f.0 f.1 + f.2) p.period pp in
    let w = turns_of l p x f in
    let a : row (s % p.period) ≡ row s = ap row (mod-eq_of_lt s_in) in
    let b : row (t % p.period) ≡ row t = ap row (mod-eq_of_lt lt) in
    let far = slow_apart p.period row s t w.0 pp slow in
    let at : x.at ≤ row s = through s x.at (slot_of l p x f) in
    let d : unsigned_abs (pos s +ℤ w.0 *ℤ pos p.period -ℤ pos t) ≡ unsigned_abs (x.tick -ℤ pos t) = ap (λ (z : ℤ). unsigned_abs (z -ℤ pos t)) (sym w.1) in
    omega (arith, a, b, far, at, d)

-- one hoist further up, one gap more
pub one_more_gap : (gap h g x : ℕ) → h ≡ g + 1 → x ≤ g → (h - x) * gap ≡ (g - x) * gap + gap
one_more_gap gap h g x e le =
    let d : (h - x) * gap ≡ (g - x + 1) * gap = ap (λ n. n * gap) (omega (arith, e, le)) in
    omega (arith, d)

no_gap : (gap h x : ℕ) → x ≡ h → (h - x) * gap ≡ 0
no_gap gap h x e = let d : (h - x) * gap ≡ 0 * gap = ap (λ n. n * gap) (omega (arith, e)) in omega (arith, d)

-- what every fixed point forces, it keeps
layer_forced : (l : LineData) (p : Timetable) (h : ℕ) (asked : List (Option ℕ)) (low : Option (List ℕ)) (row : ℕ → ℕ)
    → 0 < p.period
    → Suffices l p.period h asked low row → ((s at : ℕ) → FixesSlot l p h s at → at ≤ row s) → IsBelow l p h low
    → (t : ℕ) → t < p.period → (x : Point) (least : ℕ) → Forces l p h t least x → least ≤ row t
layer_forced l p h asked None row pp s through below t lt x least (f, le, is) =
    let e : x.hoist ≡ h = omega (arith, le, below) in
    let own : (s at : ℕ) → FixesSlot l p x.hoist s at → at ≤ row s = subst (λ (g : ℕ). (s at : ℕ) → FixesSlot l p g s at → at ≤ row s) (sym e) through in
    omega (arith, is, no_gap l.gap h x.hoist e, forced_by_own l p row t x pp lt s.slow own f)
layer_forced l p h asked (Some lower) row pp s through below t lt x least (f, le, is) =
    ⊎_elim
    (λ under.
    let g : ℕ = below.0 in
    let up : x.hoist ≤ g = omega (arith, under, below.1) in
    let height : ℕ = x.at + (g - x.hoist) * l.gap - unsigned_abs (x.tick -ℤ pos t) in
    let there : height ≤ get_or lower t 0 = (below.2 t lt).forced x height (f, up, omega arith) in
    let room : get_or lower t 0 + l.gap ≤ row t = s.above t lt in
    omega (arith, is, one_more_gap l.gap h g x.hoist below.1 up, there, room))
    (λ over.
    let e : x.hoist ≡ h = omega (arith, le, over) in
    let own : (s at : ℕ) → FixesSlot l p x.hoist s at → at ≤ row s = subst (λ (g : ℕ). (s at : ℕ) → FixesSlot l p g s at → at ≤ row s) (sym e) through in
    omega (arith, is, no_gap l.gap h x.hoist e, forced_by_own l p row t x pp lt s.slow own f))
    (cases_lt x.hoist h)

greatest : (a b : ℕ) → (max a b ≡ a) ⊎ (max a b ≡ b)
greatest a b = ⊎_elim (λ lt. inr (omega (arith, lt))) (λ le. inl (omega (arith, le))) (cases_lt a b)

-- a need is the room below, a fixed position, or a gap above the row below
which_fixed : (o : Option ℕ) → (unwrap_or o 0 ≡ 0) ⊎ ((v : ℕ) × (o ≡ Some v) × (unwrap_or o 0 ≡ v))
which_fixed None = inl refl
which_fixed (Some v) = inr (v, refl, refl)

-- where a height comes from a fixed position
from_fixed : (l : LineData) (p : Timetable) (h t height s at m n : ℕ) → FixesSlot l p h s at
    → (s + n) % p.period ≡ (t + m) % p.period → height + (m + n) ≡ at
    → ((x : Point) (least : ℕ) → Forces l p h t least x → least ≤ height) → (x : Point) × Forces l p h t height x
from_fixed l p h t height s at m n f e is forced =
    let x : Point = record { hoist = h; tick = pos t +ℤ pos m -ℤ pos n; at = at } in
    let fixed : IsFixed l p x = in_slot l p h s at t m n f e in
    let away : ℕ = unsigned_abs ((pos t +ℤ pos m -ℤ pos n) -ℤ pos t) in
    let near : away ≤ m + n = omega (arith, ints) in
    let z = no_gap l.gap h h refl in
    let up : at + (h - h) * l.gap - away ≤ height = forced x (at + (h - h) * l.gap - away) (fixed, omega arith, refl) in
    (x, (fixed, omega arith, omega (arith, is, z, up, near)))

-- where it comes from the row below
from_below : (l : LineData) (p : Timetable) (h g t height s low m n : ℕ) → h ≡ g + 1
    → (s + n) % p.period ≡ (t + m) % p.period → height + (m + n) ≡ low + l.gap
    → h * l.gap ≤ height → IsLowestAt l p g s low
    → ((x : Point) (least : ℕ) → Forces l p h t least x → least ≤ height)
    → (height ≡ h * l.gap) ⊎ ((x : Point) × Forces l p h t height x)
from_below l p h g t height s low m n up e is room lowest forced =
    let gaps : h * l.gap ≡ g * l.gap + l.gap = ap (λ k. k * l.gap) up ∙ omega arith in
    ⊎_elim
    (λ base. inl (omega (arith, gaps, base, is, room)))
    (λ (x, (fixed, le, height_is)).
    let w = periods_between p.period s t m n e in
    let y : Point = shifted p x w.0 in
    let y_fixed : IsFixed l p y = shift l p x w.0 fixed in
    let le' : x.hoist ≤ h = omega (arith, le, up) in
    let more = one_more_gap l.gap h g x.hoist up le in
    let there : ℕ = unsigned_abs (x.tick -ℤ pos s) in
    let away : ℕ = unsigned_abs ((x.tick +ℤ w.0 *ℤ pos p.period) -ℤ pos t) in
    let near : away ≤ there + (m + n) = omega (arith, ints, w.1) in
    let keeps : x.at + (h - x.hoist) * l.gap - away ≤ height = forced y (x.at + (h - x.hoist) * l.gap - away) (y_fixed, le', refl) in
    ⊎_elim
    (λ short. inl (omega (arith, gaps, short, height_is, is, room)))
    (λ long. inr (y, (y_fixed, le', omega (arith, more, near, keeps, height_is, is, long))))
    (cases_lt (x.at + (g - x.hoist) * l.gap) there))
    lowest.some

-- every height of the least row is the room below, or forced by a fixed point
layer_some : (l : LineData) (p : Timetable) (h : ℕ) (asked : List (Option ℕ)) (low : Option (List ℕ)) (row : ℕ → ℕ)
    → ((s at : ℕ) → held asked s ≡ Some at → FixesSlot l p h s at) → IsBelow l p h low
    → ComesFrom p.period (need l h asked low) row
    → (t : ℕ) → t < p.period → h * l.gap ≤ row t → ((x : Point) (least : ℕ) → Forces l p h t least x → least ≤ row t)
    → (row t ≡ h * l.gap) ⊎ ((x : Point) × Forces l p h t (row t) x)
layer_some l p h asked None row sound below from t lt room forced =
    let w = from t lt in
    ⊎_elim
    (λ base. inl (omega (arith, base, w.5, room)))
    (λ fixed.
    ⊎_elim
    (λ nil. inl (omega (arith, nil, fixed, w.5, room)))
    (λ v. inr (from_fixed l p h t (row t) w.0 v.0 w.1 w.2 (sound w.0 v.0 v.1) w.4 (omega (arith, fixed, w.5, v.2)) forced))
    (which_fixed (held asked w.0)))
    (greatest (h * l.gap) (unwrap_or (held asked w.0) 0))
layer_some l p h asked (Some lower) row sound below from t lt room forced =
    let w = from t lt in
    ⊎_elim
    (λ base. inl (omega (arith, base, w.5, room)))
    (λ rest.
    ⊎_elim
    (λ fixed.
    ⊎_elim
    (λ nil. inl (omega (arith, nil, fixed, rest, w.5, room)))
    (λ v. inr (from_fixed l p h t (row t) w.0 v.0 w.1 w.2 (sound w.0 v.0 v.1) w.4 (omega (arith, fixed, rest, w.5, v.2)) forced))
    (which_fixed (held asked w.0)))
    (λ under. from_below l p h below.0 t (row t) w.0 (get_or lower w.0 0) w.1 w.2 below.1 w.4 (omega (arith, under, rest, w.5)) room (below.2 w.0 w.3) forced)
    (greatest (unwrap_or (held asked w.0) 0) (get_or lower w.0 0 + l.gap)))
    (greatest (h * l.gap) (max (unwrap_or (held asked w.0) 0) (get_or lower w.0 0 + l.gap)))

pub layer_lowest : (l : LineData) (p : Timetable) (h : ℕ) (asked : List (Option ℕ)) (low : Option (List ℕ)) (row : ℕ → ℕ)
    → 0 < p.period
    → ((s at : ℕ) → held asked s ≡ Some at → FixesSlot l p h s at) → ((s at : ℕ) → FixesSlot l p h s at → at ≤ row s)
    → IsBelow l p h low
    → Suffices l p.period h asked low row → ComesFrom p.period (need l h asked low) row
    → (t : ℕ) → t < p.period → IsLowestAt l p h t (row t)
layer_lowest l p h asked low row pp sound through below s from t lt =
    let forced = layer_forced l p h asked low row pp s through below t lt in
    record {
      room = s.room t lt;
      forced = forced;
      some = layer_some l p h asked low row sound below from t lt (s.room t lt) forced;
    }
