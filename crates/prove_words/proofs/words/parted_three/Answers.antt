use Rattle.std.proofs.Common.{rules, ◌≡◌, codes}
use Rattle.std.proofs.lemmas.Slice.Eq.{bytes_eq-Decides}
use Rattle.prove_words.proofs.Sayings.{opening_first, opening_middle}
use Rattle.prove_words.proofs.words.parted_three.Goals as goal

pub returns-then-eq : goal.returns-then-eq
returns-then-eq c =
    let first : c.args.first.now ≡ codes "--nodes" = search (rules, bytes_eq-Decides) in
    opening_first c.args.first.now c.args.middle.now c.args.last.now first

pub returns-then-eq-2 : goal.returns-then-eq-2
returns-then-eq-2 c =
    let first : c.args.first.now ≡ codes "--nodes" → ⊥ = search (rules, bytes_eq-Decides) in
    let middle : c.args.middle.now ≡ codes "--nodes" = search (rules, bytes_eq-Decides) in
    opening_middle c.args.first.now c.args.middle.now c.args.last.now first middle
