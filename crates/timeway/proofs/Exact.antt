-- Lines that go through the positions at all ticks, and bars that have the ticks of stays.
use Rattle.std.proofs.Common.{◌≡◌, ◌≢◌, ℕ, zero, suc, ◌+◌, ◌-◌, ◌*◌, ◌%◌, ◌<◌, ◌≤◌, ◌==◌, ◌||◌, ◌⊎◌, ⊎_elim, inl, inr, Bool, true, false, not, if◌then◌else◌, length, refl, sym, ap, subst, ◌∙◌, arith}
use Rattle.std.specs.Int.{abs_diff}
use Rattle.std.proofs.lemmas.Bool.{cases_eq, cases_lt}
use Rattle.std.proofs.lemmas.Bool.Decides.{nat_tests}
use Rattle.std.proofs.Math.Nat.{mod-add-mod, add-mul-mod_self_right, suc-mul}
use Rattle.hoist_base.specs.LineData.{LineData, stage, last_stage, last_step, IsMove, IsVisit}
use Rattle.hoist_base.specs.Valid.{IsLine}
use Rattle.line_model.specs.declared.motion.Motion.{Motion}
use Rattle.line_model.specs.Motion.{duration, place}
use Rattle.line_model.specs.Timetable.{Timetable, position, motion}
use Rattle.line_model.specs.Legal.{IsLegal, hold_begin, hold_end}
use Rattle.timeway.specs.Shapes.{shown, is_corner, stay_length}
use Rattle.timeway.specs.Laws.{IsEven, HasCorners}

-- ---- ways

-- the values of two neighbours of each value add up to twice that value, up to n
abbrev pub IsStraight : (ℕ → ℕ) → ℕ → Type 0
IsStraight g n = (i : ℕ) → suc i < n → g i + g (suc (suc i)) ≡ 2 * g (suc i)

-- each step is as large as the first
steps : (g : ℕ → ℕ) (n : ℕ) → IsStraight g n → (i : ℕ) → i < n → g (suc i) + g 0 ≡ g i + g 1
steps g n same zero lt = omega arith
steps g n same (suc i) lt = omega (arith, steps g n same i (omega (arith, lt)), same i lt)

rises : (g : ℕ → ℕ) (n d : ℕ) → IsStraight g n → g 1 ≡ g 0 + d → (i : ℕ) → i ≤ n → g i ≡ g 0 + i * d
rises g n d same first zero le = omega arith
rises g n d same first (suc i) le =
    let more = suc-mul i d in
    omega (arith, more, rises g n d same first i (omega (arith, le)), steps g n same i (omega (arith, le)), first)

falls : (g : ℕ → ℕ) (n d : ℕ) → IsStraight g n → g 1 + d ≡ g 0 → (i : ℕ) → i ≤ n → g i + i * d ≡ g 0
falls g n d same first zero le = omega arith
falls g n d same first (suc i) le =
    let more = suc-mul i d in
    omega (arith, more, falls g n d same first i (omega (arith, le)), steps g n same i (omega (arith, le)), first)

same_from : (x y : ℕ) → (x == y) ≡ true → x ≡ y
same_from x y e = grind (arith, nat_tests)

no_turn : (a b c : Bool) → (a || (b || not c)) ≡ false → c ≡ true
no_turn true b c e = cc
no_turn false true c e = cc
no_turn false false true e = refl
no_turn false false false e = cc

-- where no corner is, the positions before and behind add up to twice the position
between : (p : Timetable) (h a i : ℕ) → is_corner p h (a + suc i) ≡ false
    → position p h (a + i) + position p h (a + suc (suc i)) ≡ 2 * position p h (a + suc i)
between p h a i none =
    let t = a + suc i in
    let before : t - 1 ≡ a + i = omega arith in
    let after : t + 1 ≡ a + suc (suc i) = omega arith in
    ap (λ x. position p h x + position p h (a + suc (suc i))) (sym before)
    ∙ ap (λ x. position p h (t - 1) + position p h x) (sym after)
    ∙ same_from (position p h (t - 1) + position p h (t + 1)) (2 * position p h t)
    (no_turn (t == p.period) (t == 3 * p.period) (position p h (t - 1) + position p h (t + 1) == 2 * position p h t) none)

pub ways_exact : (p : Timetable) (h a n : ℕ) → ((i : ℕ) → 1 ≤ i → i < n → is_corner p h (a + i) ≡ false)
    → IsEven (position p h) a n
ways_exact p h a n none =
    let g = λ (i : ℕ). position p h (a + i) in
    let same : IsStraight g n = λ i lt. between p h a i (none (suc i) (omega arith) lt) in
    let first : a + 0 ≡ a = omega arith in
    let here : g 0 ≡ position p h a = ap (λ t. position p h t) first in
    ⊎_elim
    (λ down. (g 0 - g 1, inr (λ i le. falls g n (g 0 - g 1) same (omega (arith, down)) i le ∙ here)))
    (λ up. (g 1 - g 0, inl (λ i le. rises g n (g 1 - g 0) same (omega (arith, up)) i le ∙ ap (λ x. x + i * (g 1 - g 0)) here)))
    (cases_lt (g 1) (g 0))

-- ---- rides

pub corners_of : (m : Motion) → HasCorners m
corners_of m = record {
  lifts = λ u le. omega (arith, le);
  travels =
      ⊎_elim (λ up. (1, inl (λ i le. omega (arith, up, le)))) (λ down. (1, inr (λ i le. omega (arith, down, le)))) (cases_lt m.from m.to);
  lowers = λ u le. omega (arith, le);
}

-- a shown tick is at the place of the period of the tick itself
shown_place : (p : Timetable) (s turn u : ℕ) → (shown p s turn + u) % p.period ≡ (s + u) % p.period
shown_place p s turn u =
    let period = p.period in
    let parts : s % period + turn * period + u ≡ s % period + (u + turn * period) = omega arith in
    let whole : s + (u + turn * period) ≡ (s + u) + turn * period = omega arith in
    ap (λ x. x % period) parts ∙ mod-add-mod s period (u + turn * period) ∙ ap (λ x. x % period) whole
    ∙ add-mul-mod_self_right (s + u) turn period

pub rides_exact : (l : LineData) (p : Timetable) (c k turn u : ℕ) → IsLegal l p → IsMove l c k
    → u ≤ duration (motion l p c k)
    → (position p (p.hoist c k) (shown p (p.start c k) turn + u) ≡ place (motion l p c k) u) × HasCorners (motion l p c k)
rides_exact l p c k turn u legal move le = (
  ap (λ x. p.path (p.hoist c k) x) (shown_place p (p.start c k) turn u) ∙ legal.carried.along c k u move le,
  corners_of (motion l p c k),
)

-- ---- bars

same_number : (i j : ℕ) → i ≡ j → (i == j) ≡ true
same_number i j e = grind (arith, nat_tests)

other_number : (i j : ℕ) → i ≢ j → (i == j) ≡ false
other_number i j e = grind (arith, nat_tests)

end_by : (l : LineData) (p : Timetable) (c k x : ℕ) → (k ≡ last_stage l → x ≤ p.off c)
    → (k ≢ last_stage l → x ≤ p.start c k + (stage l k).lift) → x ≤ hold_end l p c k
end_by l p c k x last other =
    ⊎_elim
    (λ e. subst (λ b. x ≤ (if b then p.off c else p.start c k + (stage l k).lift)) (sym (same_number k (last_stage l) e)) (last e))
    (λ n. subst (λ b. x ≤ (if b then p.off c else p.start c k + (stage l k).lift)) (sym (other_number k (last_stage l) n)) (other n))
    (cases_eq k (last_stage l))

begin_next : (l : LineData) (p : Timetable) (c k : ℕ)
    → hold_begin l p c (suc k) ≡ p.start c k + duration (motion l p c k) - (stage l (suc k)).lower
begin_next l p c k =
    let e : suc k - 1 ≡ k = omega arith in
    ap (λ (b : Bool). if b then p.put c else p.start c (suc k - 1) + duration (motion l p c (suc k - 1)) - (stage l (suc k)).lower)
    (other_number (suc k) 0 (λ z. omega (arith, z)))
    ∙ ap (λ (j : ℕ). p.start c j + duration (motion l p c j) - (stage l (suc k)).lower) e

ordered : (l : LineData) (p : Timetable) (c k : ℕ) → IsLine l → IsLegal l p → IsVisit l c k
    → hold_begin l p c k ≤ hold_end l p c k
ordered l p c zero valid legal visit =
    end_by l p c 0 (p.put c) (λ e. omega (arith, e, valid.limits.stages.0))
    (λ n. omega (arith, legal.windows.load c visit.0))
ordered l p c (suc k) valid legal visit =
    let came = p.start c k + duration (motion l p c k) in
    let begin : hold_begin l p c (suc k) ≤ came = omega (arith, begin_next l p c k) in
    end_by l p c (suc k) (hold_begin l p c (suc k))
    (λ e.
    let step : k ≡ last_step l = omega (arith, e) in
    let off = subst (λ j. p.start c j + duration (motion l p c j) + l.unload ≤ p.off c) (sym step) (legal.windows.unload c visit.0) in
    omega (arith, begin, off))
    (λ n.
    let move : IsMove l c (suc k) = (visit.0, omega (arith, n, visit.1)) in
    let next : k + 1 ≡ suc k = omega arith in
    let starts = legal.windows.least c k (subst (λ j. IsMove l c j) (sym next) move) in
    let late = subst (λ j. came ≤ p.start c j) next (omega (arith, starts)) in
    omega (arith, begin, late))

pub bars_exact : (l : LineData) (p : Timetable) (c k : ℕ) → IsLine l → IsLegal l p → IsVisit l c k
    → hold_begin l p c k + stay_length l p c k ≡ hold_end l p c k
bars_exact l p c k valid legal visit = omega (arith, ordered l p c k valid legal visit)
