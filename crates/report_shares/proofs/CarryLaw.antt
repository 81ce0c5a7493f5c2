-- The test of a tick at which a hoist carries tells it.
use Rattle.std.proofs.Common.{
  ◌≡◌,
  ℕ,
  ◌+◌,
  ◌-◌,
  ◌*◌,
  ◌/◌,
  ◌%◌,
  ◌<◌,
  ◌≤◌,
  zero,
  ◌==◌,
  ◌&&◌,
  nat_lt,
  Bool,
  true,
  get_or,
  sym,
  ap,
  ◌∙◌,
  mod-eq_of_lt,
  arith,
}
use Rattle.std.specs.List.{range_with_len, list_any}
use Rattle.std.proofs.Math.Nat.{add-mul-mod_self_right, mod-le, mod-lt}
use Rattle.std.proofs.lemmas.Bool.Decides.{nat_tests}
use Rattle.std.proofs.lemmas.List.Folds.{Any-from_list_any, list_any_at}
use Rattle.std.proofs.lemmas.List.FromFn.{length-range_with_len, get_or-range_with_len}
use Rattle.std.proofs.lemmas.Nat.{div-add-mod', div-mul-add, mod-mul-add}
use Rattle.hoist_base.specs.LineData.{LineData, last_stage, move_at, move_count, move_number}
use Rattle.hoist_base.specs.Valid.{IsLine}
use Rattle.hoist_base.proofs.NumberLemmas.{move_there, move_below}
use Rattle.line_model.specs.Motion.{duration}
use Rattle.line_model.specs.Timetable.{Timetable, later, motion}
use Rattle.gantt_report.specs.Chart.{Carries}
use Rattle.report_shares.specs.Ticks.{since, carries_by, carries_at, carries}
use Rattle.report_shares.specs.Laws.{CarryingIsTold}

-- a test is true of some number below n
some_below : (n : ℕ) (test : ℕ → Bool) → list_any test (range_with_len 0 n) ≡ true → (k : ℕ) × (k < n) × (test k ≡ true)
some_below n test some =
    let (k, x, lt, is, holds) = Any-from_list_any test (range_with_len 0 n) some in
    let below : k < n = omega (arith, lt, length-range_with_len 0 n) in
    let here : k ≡ x = omega (arith, get_or-range_with_len 0 n k x below, is) in
    (k, below, ap test here ∙ holds)

-- a test that is true of a number below n is true of some
pub some_at : (n k : ℕ) (test : ℕ → Bool) → k < n → test k ≡ true → list_any test (range_with_len 0 n) ≡ true
some_at n k test lt holds =
    let here : get_or (range_with_len 0 n) k 0 ≡ k = omega (arith, get_or-range_with_len 0 n k 0 lt) in
    list_any_at test (range_with_len 0 n) k 0 (omega (arith, lt, length-range_with_len 0 n)) (ap test here ∙ holds)

both : (a h x n : ℕ) → ((a == h) && nat_lt x n) ≡ true → (a ≡ h) × (x < n)
both a h x n e = grind (arith, nat_tests)

both_hold : (a h x n : ℕ) → a ≡ h → x < n → ((a == h) && nat_lt x n) ≡ true
both_hold a h x n e f = grind (arith, nat_tests)

positive : (t n : ℕ) → t < n → zero < n
positive t n lt = omega (arith, lt)

-- the ticks since the last start end at the tick
since_ends : (s t n : ℕ) → t < n → (s + (t + (n - s % n)) % n) % n ≡ t
since_ends s t n lt =
    let a = t + (n - s % n) in
    let rest : s % n < n = mod-lt s (positive t n lt) in
    let whole = div-add-mod' a n in
    let start = div-add-mod' s n in
    let sum : s + a % n + a / n * n ≡ t + (s / n + 1) * n = omega (arith, whole, start, rest) in
    sym (add-mul-mod_self_right (s + a % n) (a / n) n) ∙ ap (λ x. x % n) sum ∙ add-mul-mod_self_right t
    (s / n + 1) n ∙ mod-eq_of_lt lt

-- no other ticks after a start end at the tick that are fewer
since_least : (s u z turn t n : ℕ) → t < n → s + u + z * n ≡ t + turn * n → (t + (n - s % n)) % n ≤ u
since_least s u z turn t n lt e =
    let a = t + (n - s % n) in
    let rest : s % n < n = mod-lt s (positive t n lt) in
    let start = div-add-mod' s n in
    let sum : u + (z + s / n + 1) * n ≡ a + turn * n = omega (arith, start, rest, e) in
    let same : u % n ≡ a % n =
    sym (add-mul-mod_self_right u (z + s / n + 1) n) ∙ ap (λ x. x % n) sum ∙ add-mul-mod_self_right a turn n in
    omega (arith, same, mod-le u n)

-- it carries where the test is true
from_test : (l : LineData) (p : Timetable) (h t : ℕ) → IsLine l → t < p.period → carries l p h t ≡ true
    → Carries l p h t
from_test l p h t line there test =
    let (i, below, by) = some_below (move_count l) (carries_at l p h t) test in
    let c = (move_at l i).carrier in
    let k = (move_at l i).step in
    let (hoist, early) = both (p.hoist c k) h (since p c k t) (duration (motion l p c k)) by in
    let ends = since_ends (p.start c k) t p.period there in
    let whole = div-add-mod' (p.start c k + since p c k t) p.period in (
      c,
      k,
      0,
      (p.start c k + since p c k t) / p.period,
      record {
        move = move_there l i line below;
        hoist = hoist;
        from = omega (arith, whole, ends);
        before = omega (arith, whole, ends, early);
      },
    )

-- the number of a move names it
named : (l : LineData) (c k : ℕ) → k < last_stage l → ((move_at l (move_number l c k)).carrier ≡ c)
    × ((move_at l (move_number l c k)).step ≡ k)
named l c k lt = (div-mul-add c (last_stage l) k lt, mod-mul-add c (last_stage l) k lt)

-- and only there
to_test : (l : LineData) (p : Timetable) (h t : ℕ) → t < p.period → Carries l p h t → carries l p h t ≡ true
to_test l p h t there (c, k, z, turn, at) =
    let u = later p turn t - later p z (p.start c k) in
    let early : u < duration (motion l p c k) = omega (arith, at.from, at.before) in
    let sum : p.start c k + u + z * p.period ≡ t + turn * p.period = omega (arith, at.from) in
    let least = since_least (p.start c k) u z turn t p.period there sum in
    let by : carries_by l p h t c k ≡ true =
    both_hold (p.hoist c k) h (since p c k t) (duration (motion l p c k)) at.hoist (omega (arith, early, least)) in
    let name = named l c k (omega (arith, at.move.1)) in
    some_at (move_count l) (move_number l c k) (carries_at l p h t) (move_below l c k at.move)
    (ap (λ x. carries_by l p h t x (move_at l (move_number l c k)).step) name.0 ∙ ap
    (λ y. carries_by l p h t c y) name.1 ∙ by)

pub carrying_told : CarryingIsTold
carrying_told l p h t line there = (from_test l p h t line there, to_test l p h t there)
