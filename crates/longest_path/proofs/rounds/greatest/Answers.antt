use Rattle.std.proofs.Common.{◌≡◌, ◌∙◌, ap, ◌+ℤ◌, to_z, of_z, w64, arith}
use Rattle.std.specs.Int.{int_max}
use Rattle.std.proofs.lemmas.Int.{ints, clamps}
use Rattle.longest_path.proofs.NearLemmas.{cast, greater_of, greater_than}
use Rattle.longest_path.proofs.rounds.greatest.Goals as goal

pub returns-clause-value : goal.returns-clause-value
returns-clause-value c =
    let last = c.args.behind +ℤ c.args.fall in
    let told : c.greater-most.result ≡ int_max (cast c.args.now +ℤ cast c.args.stay) (cast c.args.before +ℤ cast c.args.rise) = c.greater-most.ensures.value in
    let told_max : c.max.result ≡ int_max (cast c.greater-most.result) (cast (cast c.args.behind +ℤ cast c.args.fall)) = c.max.ensures.value in
    let first : to_z w64 (of_z w64 c.greater-most.result) ≡ int_max (c.args.now +ℤ c.args.stay) (c.args.before +ℤ c.args.rise) = greater_of c.greater-most.result c.args.now c.args.stay c.args.before c.args.rise (omega (arith, c.requires.row.0)) c.requires.weights.0 (omega (arith, c.requires.row.1)) c.requires.weights.1 told in
    let both = greater_than c.max.result c.greater-most.result c.args.behind c.args.fall c.greater-most.ensures.small
    (omega (arith, c.requires.row.2)) c.requires.weights.2 told_max in
    both ∙ ap (λ z. int_max z last) first

pub returns-clause-small : goal.returns-clause-small
returns-clause-small c =
    omega (arith, ints, clamps, c.max.ensures.value, c.greater-most.ensures.small, c.requires.row.2, c.requires.weights.2)
