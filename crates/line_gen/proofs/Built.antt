-- Lists that are built by place, one item after another.
use Rattle.std.proofs.Common.{◌≡◌, ℕ, ◌+◌, ◌*◌, ◌%◌, ◌<◌, ◌==◌, Bool, true, None, List, [], ◌∷◌, ◌++◌, map, refl, ap, sym, ◌∙◌, arith}
use Rattle.std.proofs.lemmas.Bool.Decides.{nat_tests}
use Rattle.std.specs.List.{range_with_len}
use Rattle.std.proofs.lemmas.List.FromFn.{map-range_with_len_more}
use Rattle.hoist_base.specs.declared.tank.Tank.{Tank}
use Rattle.hoist_base.specs.declared.stage.Stage.{Stage}
use Rattle.line_gen.specs.Generated.{number_after, draw, ChoiceData, tank_name, tank_of, tank_at, stage_of}
use Rattle.line_gen.proofs.Parts.{bath_last, not_first}

own_tank : (baths : ℕ) (again : Bool) → tank_at baths again (baths + 1) ≡ baths + 1
own_tank baths again = grind (arith, nat_tests)

itself : (n : ℕ) → (n == n) ≡ true
itself n = grind (arith, nat_tests)

pub one_more : {X : Type 0} (f : ℕ → X) (first count place : ℕ) (xs new : List X) (x : X) → first + count ≡ place
    → xs ≡ map f (range_with_len first count) → new ≡ xs ++ x ∷ [] → x ≡ f place
    → new ≡ map f (range_with_len first (count + 1))
one_more f first count place xs new x here before after item =
    after ∙ ap (λ ys. ys ++ x ∷ []) before ∙ ap (λ y. map f (range_with_len first count) ++ y ∷ []) item
    ∙ sym (map-range_with_len_more f first count place here)

pub tanks_more : (baths i : ℕ) (xs new : List Tank) (name : List ℕ) → xs ≡ map (tank_of baths) (range_with_len 0 i)
    → new ≡ xs ++ record { name = name; at = 2 * i } ∷ [] → name ≡ tank_name baths i
    → new ≡ map (tank_of baths) (range_with_len 0 (i + 1))
tanks_more baths i xs new name before after is =
    let at_i = λ (n : List ℕ). let here : Tank = record { name = n; at = 2 * i } in here in
    one_more (tank_of baths) 0 i i xs new (at_i name) (omega arith) before after (ap at_i is)

pub stages_more : (c : ChoiceData) (i : ℕ) (xs new : List Stage) (x : Stage)
    → xs ≡ map (stage_of c) (range_with_len 0 i)
    → new ≡ xs ++ x ∷ [] → x ≡ stage_of c i → new ≡ map (stage_of c) (range_with_len 0 (i + 1))
stages_more c i xs new x before after is = one_more (stage_of c) 0 i i xs new x (omega arith) before after is

-- the unload's stage
unload_is : (c : ChoiceData)
    → record { tanks = (c.baths + 1) ∷ []; min = 0; max = None; lift = 0; lower = 2 } ≡ stage_of c (c.baths + 1)
unload_is c = rw (own_tank c.baths c.again, bath_last c.baths, itself (c.baths + 1), not_first c.baths) refl

pub stages_all : (c : ChoiceData) (i : ℕ) (xs new : List Stage) → xs ≡ map (stage_of c) (range_with_len 0 i)
    → i ≡ c.baths + 1
    → new ≡ xs ++ record { tanks = (c.baths + 1) ∷ []; min = 0; max = None; lift = 0; lower = 2 } ∷ []
    → new ≡ map (stage_of c) (range_with_len 0 (c.baths + 2))
stages_all c i xs new before last after =
    let count : c.baths + 1 + 1 ≡ c.baths + 2 = omega arith in
    stages_more c (c.baths + 1) xs new _ (before ∙ ap (λ n. map (stage_of c) (range_with_len 0 n)) last) after (unload_is c)
    ∙ ap (λ n. map (stage_of c) (range_with_len 0 n)) count

-- one number more is drawn
pub numbers_more : (seed i : ℕ) (xs new : List ℕ) (z x : ℕ) → x ≡ number_after seed (3 + i + 1) → x < 2147483647
    → xs ≡ map (λ count. draw seed count 80) (range_with_len 4 i) → new ≡ xs ++ z ∷ [] → z ≡ x % 80
    → (x ≡ number_after seed (3 + (i + 1))) × (x < 2147483647)
    × (new ≡ map (λ count. draw seed count 80) (range_with_len 4 (i + 1)))
numbers_more seed i xs new z x drawn small before after value =
    let next : 3 + i + 1 ≡ 3 + (i + 1) = omega arith in
    let place : 3 + i + 1 ≡ 4 + i = omega arith in (
      drawn ∙ ap (number_after seed) next,
      small,
      one_more (λ count. draw seed count 80) 4 i (4 + i) xs new z (omega arith) before after
          (value ∙ ap (λ y. y % 80) (drawn ∙ ap (number_after seed) place)),
    )
