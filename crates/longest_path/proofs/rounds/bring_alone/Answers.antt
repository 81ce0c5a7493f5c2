use Rattle.std.proofs.Common.{◌∙◌, ap, length, List, ℤ, pos, get_or-set_same, arith}
use Rattle.std.proofs.lemmas.Int.{ints}
use Rattle.longest_path.specs.Rounds.{number}
use Rattle.longest_path.proofs.NearLemmas.{nearest_alone}
use Rattle.longest_path.proofs.rounds.bring_alone.Goals as goal

pub returns-clause-row : goal.returns-clause-row
returns-clause-row c =
    let old = c.args.old.now in
    let near = c.args.near.now in
    let stays = ap (λ (xs : List ℤ). number xs 0) c.as_slice-stay.ensures.value in
    let (small_stay, small_rise, small_fall) = c.requires.near.1 0 in
    nearest_alone (length old) near (number old) _ c.requires.one
    (get_or-set_same c.args.new.now 0 _ (pos 0) (omega (arith, c.requires.one, c.requires.new))
    ∙ omega (arith, ints, stays, small_stay, c.requires.small 0))
