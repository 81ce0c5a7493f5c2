use Rattle.std.proofs.Common.{◌≡◌, arith, refl, ◌∙◌, ap, ℤ, pos}
use Rattle.std.specs.Prelude.{◌+ℤ◌}
use Rattle.std.specs.Int.{int_div_euclid}
use Rattle.std.proofs.lemmas.Int.{ints}
use mir.Val.{to_z, of_z}
use mir.Syntax.{w32}
use Rattle.period_constraints.proofs.ShiftLemmas.{next_multiple, shift_small}
use Rattle.period_constraints.proofs.pairs.next_shift.Goals as goal

pub returns-clause-next : goal.returns-clause-next
returns-clause-next c =
    let low = c.args.low in
    let t = c.args.period in
    let d = c.div_euclid.result in
    let e : to_z w32 (of_z w32 low) ≡ low = omega (arith, ints, c.requires.near) in
    let f : to_z w32 t ≡ pos t = omega (arith, ints, c.requires.period) in
    let is : d ≡ int_div_euclid low (pos t) = c.div_euclid.ensures ∙ ap (λ (z : ℤ). int_div_euclid z (to_z w32 t)) e ∙ ap (λ (z : ℤ). int_div_euclid low z) f in
    let small = shift_small low t (int_div_euclid low (pos t) +ℤ pos 1) refl in
    next_multiple low t _ c.requires.period.0 (omega (arith, ints, is, small, c.requires.near))
