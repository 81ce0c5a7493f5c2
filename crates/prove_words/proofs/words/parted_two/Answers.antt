use Rattle.std.proofs.Common.{rules, ◌≡◌, ◌++◌, codes}
use Rattle.prove_words.proofs.Sayings.{joined_first, joined_last}
use Rattle.prove_words.proofs.words.parted_two.Goals as goal

pub returns-in-Some : goal.returns-in-Some
returns-in-Some c =
    let is : c.args.first.now ≡ codes "--nodes=" ++ c.in-Some.value.now = search rules in
    joined_first c.args.first.now c.args.last.now c.in-Some.value.now is

pub returns : goal.returns
returns c =
    let is : c.args.last.now ≡ codes "--nodes=" ++ c.in_ok-value.value.now = search rules in
    joined_last c.args.first.now c.args.last.now c.in_ok-value.value.now c.in_default.ensures.cases is
