-- The test of a hoist that carries tells it.
use Rattle.std.proofs.Common.{◌≡◌, ℕ, ◌+◌, ◌-◌, ◌*◌, ◌/◌, ◌%◌, ◌<◌, ◌==◌, ◌&&◌, Bool, true, get_or, sym, ap, ◌∙◌, mod-eq_of_lt, arith}
use Rattle.std.specs.List.{range_with_len, list_any}
use Rattle.std.proofs.Math.Nat.{add-mul-mod_self_right}
use Rattle.std.proofs.lemmas.Bool.Decides.{nat_tests}
use Rattle.std.proofs.lemmas.List.Folds.{Any-from_list_any, list_any_at}
use Rattle.std.proofs.lemmas.List.FromFn.{length-range_with_len, get_or-range_with_len}
use Rattle.std.proofs.lemmas.Nat.{div-add-mod', div-mul-add, mod-mul-add}
use Rattle.hoist_base.specs.LineData.{LineData, last_stage, move_at, move_count, move_number}
use Rattle.hoist_base.specs.Valid.{IsLine}
use Rattle.hoist_base.proofs.NumberLemmas.{move_there, move_below}
use Rattle.line_model.specs.Motion.{duration}
use Rattle.line_model.specs.Timetable.{Timetable, later, motion}
use Rattle.gantt_report.specs.Chart.{Carries, carries_by, carries, TellsCarries}

-- a test is true of some number below n
some_below : (n : ℕ) (test : ℕ → Bool) → list_any test (range_with_len 0 n) ≡ true → (k : ℕ) × (k < n) × (test k ≡ true)
some_below n test some =
    let (k, x, lt, is, holds) = Any-from_list_any test (range_with_len 0 n) some in
    let below : k < n = omega (arith, lt, length-range_with_len 0 n) in
    let here : k ≡ x = omega (arith, get_or-range_with_len 0 n k x below, is) in
    (k, below, ap test here ∙ holds)

some_at : (n k : ℕ) (test : ℕ → Bool) → k < n → test k ≡ true → list_any test (range_with_len 0 n) ≡ true
some_at n k test lt holds =
    let here : get_or (range_with_len 0 n) k 0 ≡ k = omega (arith, get_or-range_with_len 0 n k 0 lt) in
    list_any_at test (range_with_len 0 n) k 0 (omega (arith, lt, length-range_with_len 0 n))
    (ap test here ∙ holds)

both : (a h x t : ℕ) → ((a == h) && (x == t)) ≡ true → (a ≡ h) × (x ≡ t)
both a h x t e = grind (arith, nat_tests)

both_hold : (a h x t : ℕ) → a ≡ h → x ≡ t → ((a == h) && (x == t)) ≡ true
both_hold a h x t e f = grind (arith, nat_tests)

-- it carries where the test is true
from_test : (l : LineData) (p : Timetable) (h t : ℕ) → IsLine l → carries l p h t ≡ true → Carries l p h t
from_test l p h t line test =
    let (i, below, by) = some_below (move_count l) (λ i. carries_by l p h t (move_at l i).carrier (move_at l i).step) test in
    let c = (move_at l i).carrier in
    let k = (move_at l i).step in
    let (u, early, at) = some_below (duration (motion l p c k)) (λ u. (p.hoist c k == h) && ((p.start c k + u) % p.period == t)) by in
    let (hoist, tick) = both (p.hoist c k) h ((p.start c k + u) % p.period) t at in
    let turns = (p.start c k + u) / p.period in
    let whole = div-add-mod' (p.start c k + u) p.period in (
      c,
      k,
      0,
      turns,
      record {
        move = move_there l i line below;
        hoist = hoist;
        from = omega (arith, whole, tick);
        before = omega (arith, whole, tick, early);
      },
    )

-- the number of a move names it
named : (l : LineData) (c k : ℕ) → k < last_stage l
    → ((move_at l (move_number l c k)).carrier ≡ c) × ((move_at l (move_number l c k)).step ≡ k)
named l c k lt = (div-mul-add c (last_stage l) k lt, mod-mul-add c (last_stage l) k lt)

-- and only there
to_test : (l : LineData) (p : Timetable) (h t : ℕ) → t < p.period → Carries l p h t → carries l p h t ≡ true
to_test l p h t there (c, k, z, turn, at) =
    let u = later p turn t - later p z (p.start c k) in
    let early : u < duration (motion l p c k) = omega (arith, at.from, at.before) in
    let sum : p.start c k + u + z * p.period ≡ t + turn * p.period = omega (arith, at.from) in
    let tick : (p.start c k + u) % p.period ≡ t =
    sym (add-mul-mod_self_right (p.start c k + u) z p.period) ∙ ap (λ n. n % p.period) sum ∙ add-mul-mod_self_right t turn p.period ∙ mod-eq_of_lt there in
    let by : carries_by l p h t c k ≡ true = some_at (duration (motion l p c k)) u
    (λ u. (p.hoist c k == h) && ((p.start c k + u) % p.period == t)) early
    (both_hold (p.hoist c k) h ((p.start c k + u) % p.period) t at.hoist tick) in
    let name = named l c k (omega (arith, at.move.1)) in
    some_at (move_count l) (move_number l c k) (λ i. carries_by l p h t (move_at l i).carrier (move_at l i).step) (move_below l c k at.move)
    (ap (λ x. carries_by l p h t x (move_at l (move_number l c k)).step) name.0 ∙ ap (λ y. carries_by l p h t c y) name.1 ∙ by)

pub tells_carries : (l : LineData) (p : Timetable) → IsLine l → TellsCarries l p
tells_carries l p line h t there = (from_test l p h t line, to_test l p h t there)
