-- Whole numbers of periods are natural ones once enough periods are added to both.
use Rattle.std.proofs.Common.{◌≡◌, ℕ, ◌+◌, ◌*◌, ◌≤◌, ◌<◌, ap, ℤ, pos, ◌+ℤ◌, ◌*ℤ◌, ◌≤ℤ◌, ◌<ℤ◌, arith}
use Rattle.std.specs.Prelude.{unsigned_abs}
use Rattle.std.proofs.lemmas.Int.{ints}
use borrow.Author.Differences.{sum_is_lem}
use Rattle.hoist_base.specs.LineData.{LineData}
use Rattle.line_model.specs.Motion.{duration}
use Rattle.line_model.specs.Timetable.{Timetable, motion}
use Rattle.line_model.specs.Legal.{CarriesAt, AreHeldAlone, HoldsAt, hold_begin, hold_end}
use Rattle.line_laws.specs.Whole.{moved, CarriesAtWhole, HoldsAtWhole, CarriedAlone, CarriedAloneWhole, HeldAloneWhole, SameOverWholePeriods}

-- n periods more
shifted : (z : ℤ) (n m period : ℕ) → z +ℤ pos n ≡ pos m → z *ℤ pos period +ℤ pos (n * period) ≡ pos (m * period)
shifted z n m period e =
    let f : (z +ℤ pos n) *ℤ pos period ≡ pos (m * period) = ap (λ (y : ℤ). y *ℤ pos period) e in
    omega (arith, ints, f, ap (λ k. k * period) (sum_is_lem z (pos n)))

-- a stretch that is moved by a whole number of periods and holds tick t, with natural numbers once n periods are added
record Natural (p : Timetable) (b e n : ℕ) (z t : ℤ) : Type 0 where
  turns : ℕ
  tick : ℕ
  turns_are : z +ℤ pos n ≡ pos turns
  tick_is : t +ℤ pos (n * p.period) ≡ pos tick
  from : b + turns * p.period ≤ tick
  before : tick < e + turns * p.period

natural : (p : Timetable) (b e n : ℕ) (z t : ℤ) → unsigned_abs z ≤ n → moved p z b ≤ℤ t → t <ℤ moved p z e
    → Natural p b e n z t
natural p b e n z t enough from before =
    let m : ℕ = unsigned_abs (z +ℤ pos n) in
    let q : z +ℤ pos n ≡ pos m = omega (arith, ints, enough) in
    let s = shifted z n m p.period q in
    let u : ℕ = unsigned_abs (t +ℤ pos (n * p.period)) in
    let r : t +ℤ pos (n * p.period) ≡ pos u = omega (arith, ints, from, s) in
    record { turns = m; tick = u; turns_are = q; tick_is = r; from = omega (arith, ints, from, s, r); before = omega (arith, ints, before, s, r) }

same_tick : (x : ℤ) (t u : ℕ) → x ≡ pos t → x ≡ pos u → u ≡ t
same_tick x t u e f = omega (arith, ints, e, f)

same_turns : (z z' : ℤ) (n m m' : ℕ) → z +ℤ pos n ≡ pos m → z' +ℤ pos n ≡ pos m' → m ≡ m' → z ≡ z'
same_turns z z' n m m' e f g = omega (arith, ints, e, f, g)

-- the tick that both hold is one
carries : (l : LineData) (p : Timetable) (h c k n t : ℕ) (z x : ℤ) → CarriesAtWhole l p h c k z x
    → (a : Natural p (p.start c k) (p.start c k + duration (motion l p c k)) n z x) → a.tick ≡ t
    → CarriesAt l p h c k a.turns t
carries l p h c k n t z x w a e = record { move = w.move; hoist = w.hoist; from = omega (arith, a.from, e); before = omega (arith, a.before, e) }

holds : (l : LineData) (p : Timetable) (i c k n t : ℕ) (z x : ℤ) → HoldsAtWhole l p i c k z x
    → (a : Natural p (hold_begin l p c k) (hold_end l p c k) n z x) → a.tick ≡ t → HoldsAt l p i c k a.turns t
holds l p i c k n t z x w a e = record { visit = w.visit; tank = w.tank; from = omega (arith, a.from, e); before = omega (arith, a.before, e) }

carried_whole : (l : LineData) (p : Timetable) → CarriedAlone l p → CarriedAloneWhole l p
carried_whole l p alone h c k c' k' z z' t w w' =
    let n : ℕ = unsigned_abs z + unsigned_abs z' in
    let a = natural p (p.start c k) (p.start c k + duration (motion l p c k)) n z t (omega arith) w.from w.before in
    let b = natural p (p.start c' k') (p.start c' k' + duration (motion l p c' k')) n z' t (omega arith) w'.from w'.before in
    let e = same_tick (t +ℤ pos (n * p.period)) a.tick b.tick a.tick_is b.tick_is in
    let r = alone h a.tick c k a.turns c' k' b.turns (carries l p h c k n a.tick z t w a (omega arith)) (carries l p h c' k' n a.tick z' t w' b e) in
    (r.0, r.1, same_turns z z' n a.turns b.turns a.turns_are b.turns_are r.2)

held_whole : (l : LineData) (p : Timetable) → AreHeldAlone l p → HeldAloneWhole l p
held_whole l p alone i c k c' k' z z' t w w' =
    let n : ℕ = unsigned_abs z + unsigned_abs z' in
    let a = natural p (hold_begin l p c k) (hold_end l p c k) n z t (omega arith) w.from w.before in
    let b = natural p (hold_begin l p c' k') (hold_end l p c' k') n z' t (omega arith) w'.from w'.before in
    let e = same_tick (t +ℤ pos (n * p.period)) a.tick b.tick a.tick_is b.tick_is in
    let r = alone i a.tick c k a.turns c' k' b.turns (holds l p i c k n a.tick z t w a (omega arith)) (holds l p i c' k' n a.tick z' t w' b e) in
    (r.0, r.1, same_turns z z' n a.turns b.turns a.turns_are b.turns_are r.2)

-- a natural number of periods is a whole one
in_whole : (p : Timetable) (b z t : ℕ) → b + z * p.period ≤ t → moved p (pos z) b ≤ℤ pos t
in_whole p b z t le = omega (arith, ints, le)

out_whole : (p : Timetable) (e z t : ℕ) → t < e + z * p.period → pos t <ℤ moved p (pos z) e
out_whole p e z t lt = omega (arith, ints, lt)

carried_natural : (l : LineData) (p : Timetable) → CarriedAloneWhole l p → CarriedAlone l p
carried_natural l p alone h t c k z c' k' z' a b =
    let r = alone h c k c' k' (pos z) (pos z') (pos t)
    (record {
      move = a.move;
      hoist = a.hoist;
      from = in_whole p (p.start c k) z t a.from;
      before = out_whole p (p.start c k + duration (motion l p c k)) z t a.before;
    })
    (record {
      move = b.move;
      hoist = b.hoist;
      from = in_whole p (p.start c' k') z' t b.from;
      before = out_whole p (p.start c' k' + duration (motion l p c' k')) z' t b.before;
    }) in
    (r.0, r.1, omega (arith, ints, r.2))

held_natural : (l : LineData) (p : Timetable) → HeldAloneWhole l p → AreHeldAlone l p
held_natural l p alone i t c k z c' k' z' a b =
    let r = alone i c k c' k' (pos z) (pos z') (pos t)
    (record { visit = a.visit; tank = a.tank; from = in_whole p (hold_begin l p c k) z t a.from; before = out_whole p (hold_end l p c k) z t a.before })
    (record {
      visit = b.visit;
      tank = b.tank;
      from = in_whole p (hold_begin l p c' k') z' t b.from;
      before = out_whole p (hold_end l p c' k') z' t b.before;
    }) in
    (r.0, r.1, omega (arith, ints, r.2))

pub same_over_whole_periods : SameOverWholePeriods
same_over_whole_periods l p = ((carried_whole l p, carried_natural l p), (held_whole l p, held_natural l p))
