use Rattle.std.proofs.Common.{◌≡◌, refl, ◌+ℤ◌, length, get_or, pos, to_z, of_z, w64, arith}
use Rattle.std.proofs.lemmas.Int.{ints, clamps}
use Rattle.longest_path.specs.Rounds.{number}
use Rattle.longest_path.proofs.StepLemmas.{round_more, round_none, round_small}
use Rattle.longest_path.proofs.rounds.bring.Goals as goal

pub loop-k-init : goal.loop-k-init
loop-k-init c i i_in = round_none c.args.steps.now (number c.args.old.now) i _ _ refl

pub loop-k-preserved : goal.loop-k-preserved
loop-k-preserved c i i_in =
    let steps = c.args.steps.now in
    let old = c.args.old.now in
    let k = c.loop-k.k in
    let row = number old in
    let base = number c.args.new.now in
    let one = get_or steps k (record { from = 0; to = 0; weight = pos 0 }) in
    let (from_in, to_in, light) = c.requires.steps.1 k c.loop-k-test.true in
    let count : length c.loop-k.new ≡ length old = omega (arith, c.loop-k.auto.new, c.requires.new) in
    let now_small = round_small steps k row one.to (base one.to) (number c.loop-k.new one.to)
    (λ p less. (c.requires.steps.1 p (omega (arith, less, c.loop-k-test.true))).2) c.requires.small
    (c.requires.begins one.to to_in) (c.loop-k.invariant one.to to_in) in
    let from_small = c.requires.small one.from in
    round_more steps (length old) k row base c.loop-k.new one (row one.from +ℤ one.weight)
    (to_z w64 (of_z w64 c.max.result)) c.loop-k.invariant count refl to_in refl (omega (
      arith,
      ints,
      clamps,
      c.max.ensures.value,
      now_small,
      from_small,
      light,
    )) i i_in
