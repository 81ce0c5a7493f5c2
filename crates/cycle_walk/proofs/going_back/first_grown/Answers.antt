use Rattle.std.proofs.Common.{sym, refl, ◌-◌, arith}
use Rattle.std.specs.Prelude.{int_lt}
use Rattle.std.proofs.lemmas.Int.{ints}
use Rattle.longest_path.specs.Rounds.{cell}
use Rattle.cycle_walk.proofs.FirstLemmas.{first_is, first_none, true_lt}
use Rattle.cycle_walk.proofs.going_back.first_grown.Goals as goal

pub returns-then-is_below : goal.returns-then-is_below
returns-then-is_below c =
    let n = c.args.n in
    let i = c.loop-i.i in
    let old_small = c.requires.small (n - 1) i (omega arith) (omega arith) in
    let new_small = c.requires.small n i (omega arith) (omega arith) in
    sym (first_is (λ x. int_lt (cell n c.args.rows.now (n - 1) x) (cell n c.args.rows.now n x)) n i (
      omega arith,
      true_lt (cell n c.args.rows.now (n - 1) i) (cell n c.args.rows.now n i)
          (omega (arith, ints, old_small, new_small, c.if-is_below.ensures.0 refl)),
      c.loop-i.invariant,
    ))

pub returns : goal.returns
returns c = sym (first_none _ c.args.n (λ x lt. c.loop-i.invariant x (omega (arith, lt))))
