-- Rows of all hoists that go through all that is fixed: nothing contradicts, and they are the lowest paths.
use Rattle.std.proofs.Common.{◌≡◌, ◌≢◌, ℕ, ◌+◌, ◌-◌, ◌*◌, ◌/◌, ◌%◌, ◌≤◌, ◌<◌, inl, inr, ⊎_elim, List, length, get_or, refl, sym, ap, arith, ℤ, pos, ◌+ℤ◌, ◌-ℤ◌, ◌*ℤ◌, neg_ℤ}
use Rattle.std.specs.Prelude.{unsigned_abs}
use Rattle.std.proofs.lemmas.Int.{ints}
use Rattle.std.proofs.lemmas.Bool.{cases_lt}
use Rattle.std.proofs.lemmas.List.{get_or_past}
use Rattle.std.proofs.lemmas.Nat.{mod_below, div-add-mod', div_below, mul-le}
use Rattle.std.proofs.Math.Nat.{mod-add-mod}
use Rattle.hoist_base.specs.LineData.{LineData}
use Rattle.hoist_base.specs.Valid.{IsLine}
use Rattle.line_model.specs.Motion.{place}
use Rattle.line_model.specs.Timetable.{Timetable, motion}
use Rattle.line_model.specs.Legal.{IsTrack}
use Rattle.path_envelope.specs.declared.point.Point.{Point}
use Rattle.path_envelope.specs.Duties.{HaveReach, IsFixed, apart, Agree}
use Rattle.path_envelope.specs.Envelope.{on_paths, IsLowestAt, AreLowest}
use Rattle.path_envelope.specs.Slots.{FixesSlot, entry, AreLayers}
use Rattle.list_facts.proofs.Products.{times_add}
use Rattle.path_envelope.proofs.ShiftLemmas.{shifted, shift, in_slot, slot_of, turns_of}

-- a fixed point leaves the hoists below and above their room
pub point_reach : (l : LineData) (p : Timetable) (x : Point) → HaveReach l p → IsFixed l p x
    → (x.hoist < l.hoists) × (x.hoist * l.gap ≤ x.at) × (x.at + (l.hoists - 1 - x.hoist) * l.gap ≤ l.track)
point_reach l p x have (c, k, u, z, f) =
    let r = have.reach c k f.move in
    let a : x.hoist * l.gap ≡ p.hoist c k * l.gap = ap (λ h. h * l.gap) f.hoist in
    let b : (l.hoists - 1 - x.hoist) * l.gap ≡ (l.hoists - 1 - p.hoist c k) * l.gap = ap (λ h. (l.hoists - 1 - h) * l.gap) f.hoist in
    (omega (arith, have.hoist c k f.move, f.hoist), omega (arith, a, f.at, r.0.0, r.1.0), omega (arith, b, f.at, r.0.1, r.1.1))

pub slot_reach : (l : LineData) (p : Timetable) (h s at : ℕ) → HaveReach l p → FixesSlot l p h s at → h * l.gap ≤ at
slot_reach l p h s at have f =
    let r = have.reach f.c f.k f.move in
    let a : h * l.gap ≡ p.hoist f.c f.k * l.gap = ap (λ g. g * l.gap) (sym f.hoist) in
    let b : at ≡ place (motion l p f.c f.k) f.u = f.at in
    omega (arith, a, b, r.0.0, r.1.0)

-- the lowest heights leave the hoists above their room
pub height_reach : (l : LineData) (p : Timetable) (h t height : ℕ) → IsLine l → HaveReach l p → h < l.hoists
    → IsLowestAt l p h t height → height ≤ l.track
height_reach l p h t height line have there lowest =
    ⊎_elim
    (λ base.
    let a : h * l.gap ≤ (l.hoists - 1) * l.gap = mul-le h l.gap (l.hoists - 1) l.gap (omega (arith, there)) (omega arith) in
    omega (arith, a, base, line.room))
    (λ (x, (fixed, le, is)).
    let r = point_reach l p x have fixed in
    let a : (h - x.hoist) * l.gap ≤ (l.hoists - 1 - x.hoist) * l.gap = mul-le (h - x.hoist) l.gap
    (l.hoists - 1 - x.hoist) l.gap (omega (arith, there)) (omega arith) in
    omega (arith, a, is, r.2))
    lowest.some

-- a lower or the same hoist's fixed point leaves another its room
over : (l : LineData) (p : Timetable) (rows : List ℕ) (x y : Point) → 0 < p.period → HaveReach l p
    → AreLayers l p l.hoists rows → IsFixed l p x → IsFixed l p y
    → x.hoist ≤ y.hoist → x.at + (y.hoist - x.hoist) * l.gap ≤ y.at + apart x y
over l p rows x y pp have layers fx fy le =
    let s : ℕ = (p.start fy.0 fy.1 + fy.2) % p.period in
    let s_in : s < p.period = mod_below (p.start fy.0 fy.1 + fy.2) p.period pp in
    let w = turns_of l p y fy in
    let v : ℤ = neg_ℤ w.0 in
    let q : ℕ = (p.start fx.0 fx.1 + fx.2) % p.period in
    let layer = layers.layer y.hoist (point_reach l p y have fy).0 in
    let through : entry p rows y.hoist s ≡ y.at = layer.through s y.at (slot_of l p y fy) in
    let back : w.0 +ℤ v ≡ pos 0 = omega (arith, ints) in
    let t0 : (w.0 +ℤ v) *ℤ pos p.period ≡ pos 0 *ℤ pos p.period = ap (λ (z : ℤ). z *ℤ pos p.period) back in
    let t1 = times_add w.0 v p.period in
    let away : ℕ = unsigned_abs ((x.tick +ℤ v *ℤ pos p.period) -ℤ pos s) in
    let same : away ≡ apart x y = omega (arith, ints, w.1, t0, t1) in
    let keeps : x.at + (y.hoist - x.hoist) * l.gap - away ≤ entry p rows y.hoist s =
    (layer.lowest s s_in).forced (shifted p x v) (x.at + (y.hoist - x.hoist) * l.gap - away) (shift l p x v fx, le, refl) in
    omega (arith, through, same, keeps)

pub agree : (l : LineData) (p : Timetable) (rows : List ℕ) → 0 < p.period → HaveReach l p → AreLayers l p l.hoists rows
    → Agree l p
agree l p rows pp have layers x y fx fy contradict =
    let sym_apart : apart x y ≡ apart y x = omega (arith, ints) in
    ⊎_elim
    (λ (same, near).
    let a = over l p rows x y pp have layers fx fy (omega (arith, same)) in
    let b = over l p rows y x pp have layers fy fx (omega (arith, same)) in
    let za : (y.hoist - x.hoist) * l.gap ≡ 0 * l.gap = ap (λ n. n * l.gap) (omega (arith, same)) in
    let zb : (x.hoist - y.hoist) * l.gap ≡ 0 * l.gap = ap (λ n. n * l.gap) (omega (arith, same)) in
    omega (arith, a, b, za, zb, near, sym_apart))
    (λ lack.
    ⊎_elim
    (λ (lt, near). omega (arith, near, over l p rows x y pp have layers fx fy (omega (arith, lt))))
    (λ (lt, near). omega (arith, near, over l p rows y x pp have layers fy fx (omega (arith, lt))))
    lack)
    contradict

-- entries by hoist and tick
entry_of : (p : Timetable) (rows : List ℕ) (i : ℕ) → get_or rows i 0 ≡ entry p rows (i / p.period) (i % p.period)
entry_of p rows i = ap (λ k. get_or rows k 0) (sym (div-add-mod' i p.period))

pub small : (l : LineData) (p : Timetable) (n : ℕ) (rows : List ℕ) → 0 < p.period → n ≤ l.hoists → IsLine l
    → HaveReach l p → AreLayers l p n rows → (i : ℕ) → get_or rows i 0 ≤ l.track
small l p n rows pp le line have layers i =
    ⊎_elim
    (λ inside.
    let h : ℕ = i / p.period in
    let h_in : h < n = div_below i p.period n pp (omega (arith, inside, layers.count)) in
    let t_in : i % p.period < p.period = mod_below i p.period pp in
    omega (
      arith,
      entry_of p rows i,
      height_reach l p h (i % p.period) (entry p rows h (i % p.period)) line have
          (omega (arith, h_in, le)) ((layers.layer h h_in).lowest (i % p.period) t_in),
    ))
    (λ past. let e : get_or rows i 0 ≡ 0 = get_or_past rows i 0 past in omega (arith, e))
    (cases_lt i (length rows))

track : (l : LineData) (p : Timetable) (rows : List ℕ) → 0 < p.period → IsLine l → HaveReach l p
    → AreLayers l p l.hoists rows → IsTrack l (on_paths p rows)
track l p rows pp line have layers = record {
  spaced = λ t. record {
    within = λ h lt. small l p l.hoists rows pp (omega arith) line have layers (h * p.period + t % p.period);
    apart = λ h lt. layers.apart h (t % p.period) lt (mod_below t p.period pp);
  };
  up = λ h t lt.
      let s = (layers.layer h lt).slow (t % p.period) (mod_below t p.period pp) in
      let e : entry p rows h ((t % p.period + 1) % p.period) ≡ entry p rows h ((t + 1) % p.period) = ap (entry p rows h) (mod-add-mod t p.period 1) in
      omega (arith, s.1, e);
  down = λ h t lt.
      let s = (layers.layer h lt).slow (t % p.period) (mod_below t p.period pp) in
      let e : entry p rows h ((t % p.period + 1) % p.period) ≡ entry p rows h ((t + 1) % p.period) = ap (entry p rows h) (mod-add-mod t p.period 1) in
      omega (arith, s.0, e);
}

pub are_lowest : (l : LineData) (p : Timetable) (rows : List ℕ) → 0 < p.period → IsLine l → HaveReach l p
    → AreLayers l p l.hoists rows → AreLowest l p rows
are_lowest l p rows pp line have layers = record {
  count = layers.count;
  small = small l p l.hoists rows pp (omega arith) line have layers;
  track = track l p rows pp line have layers;
  through = λ c k u move within.
      (layers.layer (p.hoist c k) (have.hoist c k move)).through ((p.start c k + u) % p.period) (place (motion l p c k) u)
      (record { c = c; k = k; u = u; move = move; within = within; hoist = refl; slot = refl; at = refl });
  lowest = λ h t there lt. (layers.layer h there).lowest t lt;
}

-- a slot that is fixed at another position than the row's shows two fixed points that contradict
pub off_row : (l : LineData) (p : Timetable) (h s at height : ℕ) → HaveReach l p → FixesSlot l p h s at
    → IsLowestAt l p h s height → at < height → Agree l p → ⊥
off_row l p h s at height have f lowest above agree =
    ⊎_elim
    (λ base. omega (arith, base, above, slot_reach l p h s at have f))
    (λ (x, (fixed, le, is)).
    let y : Point = record { hoist = h; tick = pos s +ℤ pos 0 -ℤ pos 0; at = at } in
    let y_fixed : IsFixed l p y = in_slot l p h s at s 0 0 f refl in
    let d : unsigned_abs (x.tick -ℤ pos s) ≡ apart x y = omega (arith, ints) in
    ⊎_elim
    (λ under. agree x y fixed y_fixed (inr (inl (under, omega (arith, d, is, above)))))
    (λ past.
    let same : x.hoist ≡ h = omega (arith, le, past) in
    let z : (h - x.hoist) * l.gap ≡ 0 * l.gap = ap (λ n. n * l.gap) (omega (arith, same)) in
    agree x y fixed y_fixed (inl (same, omega (arith, d, is, above, z))))
    (cases_lt x.hoist h))
    lowest.some

-- so do two positions at one slot
pub two_positions : (l : LineData) (p : Timetable) (h s a b : ℕ) → FixesSlot l p h s a → FixesSlot l p h s b → a ≢ b
    → Agree l p → ⊥
two_positions l p h s a b f g differ agree =
    let x : Point = record { hoist = h; tick = pos s +ℤ pos 0 -ℤ pos 0; at = a } in
    let y : Point = record { hoist = h; tick = pos s +ℤ pos 0 -ℤ pos 0; at = b } in
    let none : apart x y ≡ 0 = omega (arith, ints) in
    agree x y (in_slot l p h s a s 0 0 f refl) (in_slot l p h s b s 0 0 g refl) (inl (refl, omega (arith, none, differ)))
