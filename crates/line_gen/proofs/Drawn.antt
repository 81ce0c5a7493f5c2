-- Numbers drawn one after another, and the choices that they make.
use Rattle.std.proofs.Common.{⊎_elim, ◌≡◌, ℕ, suc, ◌+◌, ◌*◌, ◌%◌, ◌<◌, map, length, get_or, refl, ap, ◌∙◌, arith}
use Rattle.std.specs.List.{range_with_len}
use Rattle.std.proofs.lemmas.Bool.{cases_lt}
use Rattle.std.proofs.lemmas.Nat.{mod_below}
use Rattle.std.proofs.lemmas.List.{get_or_past}
use Rattle.std.proofs.lemmas.List.FromFn.{length-map-range_with_len, get_or-map-range_with_len}
use Rattle.line_gen.specs.Generated.{number_after, draw, baths_of, choices, AreChoices}

pub first_number : (seed x : ℕ) → x ≡ 1 + seed % 2147483646 → x ≡ number_after seed 0
unfolding number_after
first_number seed x e = e

pub next_number : (seed draws old new : ℕ) → old ≡ number_after seed draws → new ≡ 48271 * old % 2147483647
    → new ≡ number_after seed (draws + 1)
unfolding number_after
next_number seed draws old new before after =
    let one : suc draws ≡ draws + 1 = omega arith in
    after ∙ ap (λ x. 48271 * x % 2147483647) before ∙ ap (number_after seed) one

draws_small : (seed first count i : ℕ) → get_or (map (λ j. draw seed j 80) (range_with_len first count)) i 0 < 80
draws_small seed first count i =
    let drawn = map (λ j. draw seed j 80) (range_with_len first count) in
    let some : length drawn ≡ count = length-map-range_with_len (λ j. draw seed j 80) first count in
    ⊎_elim
    (λ inside. omega (
      arith,
      get_or-map-range_with_len (λ j. draw seed j 80) first count i (first + i) 0 inside
          (omega arith),
      mod_below (number_after seed (first + i)) 80 (omega arith),
    ))
    (λ past. omega (arith, get_or_past drawn i 0 (omega (arith, past, some))))
    (cases_lt i count)

pub are_choices : (seed : ℕ) → AreChoices (choices seed)
are_choices seed =
    let more = mod_below (number_after seed 1) 5 (omega arith) in
    let other = mod_below (number_after seed 2) 2 (omega arith) in
    record {
      baths = (omega arith, omega (arith, more));
      hoists = (omega arith, omega (arith, other));
      count = length-map-range_with_len (λ j. draw seed j 80) 4 (baths_of seed);
      small = draws_small seed 4 (baths_of seed);
    }
