use Rattle.std.proofs.Common.{◌≡◌, ◌∙◌, ℕ, suc, ◌+◌, ◌-◌, ⊎_elim, subst, sym, ap, length, List, ℤ, pos, to_z, of_z, w64, get_or-set_same, get_or-set_other, set, ◌+ℤ◌, arith}
use Rattle.std.specs.Int.{int_max}
use Rattle.std.proofs.lemmas.Int.{ints}
use Rattle.std.proofs.lemmas.Bool.{cases_eq}
use Rattle.longest_path.specs.Rounds.{number}
use Rattle.longest_path.specs.Near.{IsNearest}
use Rattle.longest_path.proofs.NearLemmas.{cast, greatest_of, nearest_middle}
use Rattle.longest_path.proofs.rounds.bring_between.Goals as goal

pub loop-i-preserved : goal.loop-i-preserved
loop-i-preserved c j after less =
    let old = c.args.old.now in
    let near = c.args.near.now in
    let i = c.loop-i.i in
    let z = to_z w64 (of_z w64 c.greatest.result) in
    let stays = ap (λ (xs : List ℤ). number xs i) c.as_slice-stay.ensures.value in
    let rises = ap (λ (xs : List ℤ). number xs i) c.as_slice-rise.ensures.value in
    let falls = ap (λ (xs : List ℤ). number xs i) c.as_slice-fall.ensures.value in
    let told : c.greatest.result ≡ int_max (int_max (cast (number old i) +ℤ cast (number c.as_slice-stay.result.now i)) (cast (number old (i - 1)) +ℤ cast (number c.as_slice-rise.result.now i))) (cast (number old (i + 1)) +ℤ cast (number c.as_slice-fall.result.now i)) = c.greatest.ensures.value in
    let (small_stay, small_rise, small_fall) = c.requires.near.1 i in
    let is : z ≡ int_max (int_max (number old i +ℤ number near.stay.items i)
    (number old (i - 1) +ℤ number near.rise.items i)) (number old (i + 1) +ℤ number near.fall.items i) =
    greatest_of c.greatest.result (number old i) (number c.as_slice-stay.result.now i) (number old (i - 1))
    (number c.as_slice-rise.result.now i) (number old (i + 1)) (number c.as_slice-fall.result.now i)
    (omega (arith, c.requires.small i)) (omega (arith, ints, stays, small_stay))
    (omega (arith, c.requires.small (i - 1))) (omega (arith, ints, rises, small_rise))
    (omega (arith, c.requires.small (i + 1))) (omega (arith, ints, falls, small_fall)) told
    ∙ ap (λ x. int_max (int_max (number old i +ℤ x) (number old (i - 1) +ℤ number c.as_slice-rise.result.now i))
    (number old (i + 1) +ℤ number c.as_slice-fall.result.now i)) stays
    ∙ ap (λ x. int_max (int_max (number old i +ℤ number near.stay.items i) (number old (i - 1) +ℤ x))
    (number old (i + 1) +ℤ number c.as_slice-fall.result.now i)) rises
    ∙ ap (λ x. int_max (int_max (number old i +ℤ number near.stay.items i) (number old (i - 1) +ℤ number near.rise.items i)) (number old (i + 1) +ℤ x)) falls in
    ⊎_elim
    (λ e.
    let here : number (set c.loop-i.new i z) j ≡ z = ap (number (set c.loop-i.new i z)) e
    ∙ get_or-set_same c.loop-i.new i z (pos 0) (omega (
      arith,
      c.loop-i-test.true,
      c.loop-i.auto.new,
      c.requires.new,
    )) in
    subst (λ (x : ℕ). IsNearest (length old) near (number old) x (number (set c.loop-i.new i z) j)) (sym e)
    (nearest_middle (length old) near (number old) i (number (set c.loop-i.new i z) j)
    (omega (arith, c.loop-i-test.true)) (omega (arith, after, e))
    (here ∙ is ∙ ap (λ x. int_max (int_max (number old i +ℤ number near.stay.items i)
    (number old (i - 1) +ℤ number near.rise.items i)) (number old x +ℤ number near.fall.items i))
    (let e : i + 1 ≡ suc i = omega arith in e))))
    (λ ne. subst (IsNearest (length old) near (number old) j) (sym (get_or-set_other c.loop-i.new i j z (pos 0) ne))
    (c.loop-i.invariant j after (omega (arith, less, ne))))
    (cases_eq j i)
