-- Where the hoists of a legal timetable are: how far they get, how far they are apart, and that none comes at a
-- forbidden offset.
use Rattle.std.proofs.Common.{⊎_elim, ◌≡◌, ℕ, zero, suc, ◌+◌, ◌-◌, ◌*◌, ◌<◌, ◌≤◌, refl, sym, ◌∙◌, ap, subst, ℤ, pos, ◌+ℤ◌, ◌-ℤ◌, ◌*ℤ◌, neg_ℤ, arith}
use Rattle.std.specs.Prelude.{unsigned_abs}
use Rattle.std.proofs.lemmas.Bool.{cases_lt}
use Rattle.std.proofs.lemmas.Int.{ints}
use Rattle.std.specs.Int.{abs_diff}
use Rattle.std.proofs.Math.Nat.{add-mul-mod_self_right}
use borrow.Author.Differences.{sum_is_lem}
use Rattle.hoist_base.specs.LineData.{LineData, IsMove}
use Rattle.line_model.specs.declared.motion.Motion.{Motion}
use Rattle.line_model.specs.Motion.{duration, place, Reaches, ReachesMotion}
use Rattle.line_model.specs.Timetable.{Timetable, position, later, motion}
use Rattle.line_model.specs.Legal.{IsLegal, IsTrack}
use Rattle.collision_pairs.specs.Forbidden.{IsForbidden, ComeTooNear, AreAtOnce, ticks_between}
use Rattle.collision_pairs.proofs.MotionLemmas.{at_start, at_end}

-- ---- ticks and periods

-- whole periods change no position
pub position_later : (p : Timetable) (h t z : ℕ) → position p h (t + z * p.period) ≡ position p h t
position_later p h t z = ap (p.path h) (add-mul-mod_self_right t z p.period)

-- n periods more
shifted : (z : ℤ) (n m period : ℕ) → z +ℤ pos n ≡ pos m → z *ℤ pos period +ℤ pos (n * period) ≡ pos (m * period)
shifted z n m period e =
    let f : (z +ℤ pos n) *ℤ pos period ≡ pos (m * period) = ap (λ (y : ℤ). y *ℤ pos period) e in
    omega (arith, ints, f, ap (λ k. k * period) (sum_is_lem z (pos n)))

-- q periods later, as two natural numbers of periods
pub record Shifts (q : ℤ) (period : ℕ) : Type 0 where
  pub first : ℕ
  pub second : ℕ
  pub turns : q +ℤ pos first ≡ pos second
  pub is : q *ℤ pos period +ℤ pos (first * period) ≡ pos (second * period)

pub shifts : (q : ℤ) (period : ℕ) → Shifts q period
shifts q period =
    let n : ℕ = unsigned_abs q in
    let m : ℕ = unsigned_abs (q +ℤ pos n) in
    let e : q +ℤ pos n ≡ pos m = omega (arith, ints) in
    record { first = n; second = m; turns = e; is = shifted q n m period e }

pub times_back : (q : ℤ) (period : ℕ) → neg_ℤ q *ℤ pos period ≡ neg_ℤ (q *ℤ pos period)
times_back q period =
    let n : ℕ = unsigned_abs q in
    let m : ℕ = unsigned_abs (q +ℤ pos n) in
    let e : q +ℤ pos n ≡ pos m = omega (arith, ints) in
    let f : neg_ℤ q +ℤ pos m ≡ pos n = omega (arith, ints, e) in
    omega (arith, ints, shifted q n m period e, shifted (neg_ℤ q) m n period f)

-- ---- the track

-- in n ticks a hoist gets at most n units
drift : (l : LineData) (p : Timetable) (h t n : ℕ) → IsTrack l p → h < l.hoists
    → (position p h (t + n) ≤ position p h t + n) × (position p h t ≤ position p h (t + n) + n)
drift l p h t zero track there =
    let e : position p h (t + 0) ≡ position p h t = ap (position p h) (omega arith) in
    (omega (arith, e), omega (arith, e))
drift l p h t (suc n) track there =
    let e : position p h (t + suc n) ≡ position p h (t + n + 1) = ap (position p h) (omega arith) in
    let before = drift l p h t n track there in
    let up = track.up h (t + n) there in
    let down = track.down h (t + n) there in
    (omega (arith, e, before.0, up), omega (arith, e, before.1, down))

-- between two ticks that are at most w apart
pub speed : (l : LineData) (p : Timetable) (h s t w : ℕ) → IsTrack l p → h < l.hoists → s ≤ t + w → t ≤ s + w
    → position p h s ≤ position p h t + w
speed l p h s t w track there le ge =
    ⊎_elim
    (λ lt.
    let e : position p h (s + (t - s)) ≡ position p h t = ap (position p h) (omega arith) in
    omega (arith, e, (drift l p h s (t - s) track there).1))
    (λ le'.
    let e : position p h (t + (s - t)) ≡ position p h s = ap (position p h) (omega arith) in
    omega (arith, e, (drift l p h t (s - t) track there).0))
    (cases_lt s t)

-- n hoists further up
stacked : (l : LineData) (p : Timetable) (h n t : ℕ) → IsTrack l p → h + n < l.hoists
    → position p h t + n * l.gap ≤ position p (h + n) t
stacked l p h zero t track there =
    let e : position p (h + 0) t ≡ position p h t = ap (λ g. position p g t) (omega arith) in
    omega (arith, e)
stacked l p h (suc n) t track there =
    let e : position p (h + suc n) t ≡ position p (h + n + 1) t = ap (λ g. position p g t) (omega arith) in
    omega (arith, e, stacked l p h n t track (omega arith), (track.spaced t).apart (h + n) (omega arith))

-- a hoist reaches where it is
reaches_at : (l : LineData) (p : Timetable) (h t : ℕ) → IsTrack l p → h < l.hoists → Reaches l h (position p h t)
reaches_at l p h t track there =
    let e : position p (0 + h) t ≡ position p h t = ap (λ g. position p g t) (omega arith) in
    let below = stacked l p 0 h t track (omega arith) in
    let above = stacked l p h (l.hoists - 1 - h) t track (omega arith) in
    let top = (track.spaced t).within (h + (l.hoists - 1 - h)) (omega arith) in
    (omega (arith, e, below), omega (arith, above, top))

-- ---- moves

-- where a hoist is during a move, z periods later
pub on_move : (l : LineData) (p : Timetable) (c k z u : ℕ) → IsLegal l p → IsMove l c k → u ≤ duration (motion l p c k)
    → position p (p.hoist c k) (later p z (p.start c k) + u) ≡ place (motion l p c k) u
on_move l p c k z u legal m le =
    let e : position p (p.hoist c k) (later p z (p.start c k) + u) ≡ position p (p.hoist c k) (p.start c k + u + z * p.period) = ap (position p (p.hoist c k))
    (omega arith) in
    e ∙ position_later p (p.hoist c k) (p.start c k + u) z ∙ legal.carried.along c k u m le

-- each hoist reaches its moves
pub reaches_moves : (l : LineData) (p : Timetable) (c k : ℕ) → IsLegal l p → IsMove l c k
    → ReachesMotion l (p.hoist c k) (motion l p c k)
reaches_moves l p c k legal move =
    let h = p.hoist c k in
    let m = motion l p c k in
    let there = legal.carried.hoist c k move in
    let R : ℕ → Type 0 = λ x. Reaches l h x in
    let a : position p h (p.start c k + 0) ≡ m.from = legal.carried.along c k 0 move (omega arith) ∙ at_start m in
    let b : position p h (p.start c k + duration m) ≡ m.to = legal.carried.along c k (duration m) move (omega arith) ∙ at_end m in
    (subst R a (reaches_at l p h (p.start c k + 0) legal.track there), subst R b (reaches_at l p h (p.start c k + duration m) legal.track there))

-- two different moves, each so many periods later
abbrev pub AreDifferent : ℕ → ℕ → ℕ → ℕ → ℕ → ℕ → Type 0
AreDifferent c k z c' k' z' = (c ≡ c') × (k ≡ k') × (z ≡ z') → ⊥

-- the upper of two hoists is never too near
never_near : (l : LineData) (p : Timetable) (c k z c' k' z' : ℕ) → IsLegal l p → IsMove l c k → IsMove l c' k'
    → p.hoist c k < p.hoist c' k'
    → ComeTooNear (motion l p c k) (motion l p c' k') ((p.hoist c' k' - p.hoist c k) * l.gap)
    (pos (later p z' (p.start c' k')) -ℤ pos (later p z (p.start c k)))
    → ⊥
never_near l p c k z c' k' z' legal m m' lt (u, v, p1, p2, near) =
    let h = p.hoist c k in
    let h' = p.hoist c' k' in
    let s = later p z (p.start c k) + u in
    let t = later p z' (p.start c' k') + v in
    let o = pos (later p z' (p.start c' k')) -ℤ pos (later p z (p.start c k)) in
    let w = ticks_between o u v in
    let there = legal.carried.hoist c' k' m' in
    let a : position p h s ≡ place (motion l p c k) u = on_move l p c k z u legal m p1 in
    let b : position p h' t ≡ place (motion l p c' k') v = on_move l p c' k' z' v legal m' p2 in
    let far : position p h' s ≤ position p h' t + w = speed l p h' s t w legal.track there (omega (arith, ints)) (omega (arith, ints)) in
    let e : position p (h + (h' - h)) s ≡ position p h' s = ap (λ g. position p g s) (omega arith) in
    let over : position p h s + (h' - h) * l.gap ≤ position p (h + (h' - h)) s = stacked l p h (h' - h) s legal.track (omega arith) in
    nearer (position p h s) (position p h' s) (position p h' t) (place (motion l p c k) u) (place (motion l p c' k') v) (position p (h + (h' - h)) s) w
    ((h' - h) * l.gap) a b far e over near
  where
    nearer : (x y y' a b z w room : ℕ) → x ≡ a → y' ≡ b → y ≤ y' + w → z ≡ y → x + room ≤ z → b + w < a + room → ⊥
    nearer x y y' a b z w room e f far g over near = omega arith

-- one hoist does different moves one after another
never_at_once : (l : LineData) (p : Timetable) (c k z c' k' z' : ℕ) → IsLegal l p → IsMove l c k → IsMove l c' k'
    → p.hoist c k ≡ p.hoist c' k'
    → AreDifferent c k z c' k' z'
    → AreAtOnce (motion l p c k) (motion l p c' k') (pos (later p z' (p.start c' k')) -ℤ pos (later p z (p.start c k)))
    → ⊥
never_at_once l p c k z c' k' z' legal m m' same differ once =
    ⊎_elim
    (λ (u, v, p1, p2, meet).
    let t = later p z (p.start c k) + u in
    differ (legal.carried.alone (p.hoist c k) t c k z c' k' z'
    (record { move = m; hoist = refl; from = omega arith; before = omega (arith, p1) })
    (record { move = m'; hoist = sym same; from = omega (arith, ints, meet); before = omega (arith, ints, meet, p2) })))
    (λ (u, v, p1, p2, slow).
    let h = p.hoist c k in
    let s = later p z (p.start c k) + u in
    let t = later p z' (p.start c' k') + v in
    let o = pos (later p z' (p.start c' k')) -ℤ pos (later p z (p.start c k)) in
    let w = ticks_between o u v in
    let there = legal.carried.hoist c k m in
    let a : position p h s ≡ place (motion l p c k) u = on_move l p c k z u legal m p1 in
    let b' : position p (p.hoist c' k') t ≡ place (motion l p c' k') v = on_move l p c' k' z' v legal m' p2 in
    let b : position p h t ≡ place (motion l p c' k') v = ap (λ g. position p g t) same ∙ b' in
    let far = speed l p h s t w legal.track there (omega (arith, ints)) (omega (arith, ints)) in
    let far' = speed l p h t s w legal.track there (omega (arith, ints)) (omega (arith, ints)) in
    slower (position p h s) (position p h t) (place (motion l p c k) u) (place (motion l p c' k') v) w a b far far' slow)
    once
  where
    slower : (x y a b w : ℕ) → x ≡ a → y ≡ b → x ≤ y + w → y ≤ x + w → w < abs_diff a b → ⊥
    slower x y a b w e f far far' slow = omega arith

turned_difference : (a b : Motion) (room x y : ℕ) → ComeTooNear b a room (neg_ℤ (pos x -ℤ pos y))
    → ComeTooNear b a room (pos y -ℤ pos x)
turned_difference a b room x y h =
    let e : neg_ℤ (pos x -ℤ pos y) ≡ pos y -ℤ pos x = omega (arith, ints) in
    let P : ℤ → Type 0 = λ o. ComeTooNear b a room o in
    subst P e h

-- no two different moves start at a forbidden offset
pub none_forbidden : (l : LineData) (p : Timetable) (c k z c' k' z' : ℕ) → IsLegal l p → IsMove l c k → IsMove l c' k'
    → AreDifferent c k z c' k' z'
    → IsForbidden l (motion l p c k) (p.hoist c k) (motion l p c' k') (p.hoist c' k') (pos (later p z' (p.start c' k')) -ℤ pos (later p z (p.start c k)))
    → ⊥
none_forbidden l p c k z c' k' z' legal m m' differ bad =
    ⊎_elim
    (λ low. never_near l p c k z c' k' z' legal m m' low.0 low.1)
    (λ rest.
    ⊎_elim
    (λ same. never_at_once l p c k z c' k' z' legal m m' same.0 differ same.1)
    (λ high. never_near l p c' k' z' c k z legal m' m high.0
    (turned_difference (motion l p c k) (motion l p c' k') ((p.hoist c k - p.hoist c' k') * l.gap) (later p z' (p.start c' k')) (later p z (p.start c k))
    high.1))
    rest)
    bad
