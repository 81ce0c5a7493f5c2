use Rattle.std.proofs.Common.{◌≡◌, ◌∙◌, ap, ◌+◌, ◌*◌, ◌<◌, ◌+ℤ◌, List, length, get_or, pos, to_z, of_z, w64, arith}
use Rattle.std.specs.Int.{int_max}
use Rattle.std.proofs.lemmas.Int.{ints, clamps}
use Rattle.longest_path.specs.declared.systems.Arc.{Arc}
use Rattle.longest_path.specs.System.{arc, weight}
use Rattle.longest_path.specs.Rounds.{number}
use Rattle.longest_path.proofs.SettleLemmas.{raised_more, raised_none, raised_small}
use Rattle.longest_path.proofs.settling.raise.Goals as goal

pub loop-k-init : goal.loop-k-init
loop-k-init c = (
  raised_none c.args.s.now c.args.period (number c.args.row.now),
  λ i i_in. omega (arith, c.requires.small i (omega (arith, i_in, c.requires.row))),
)

pub loop-k-preserved : goal.loop-k-preserved
loop-k-preserved c =
    let s = c.args.s.now in
    let period = c.args.period in
    let k = c.loop-k.k in
    let row = c.loop-k.row in
    let valid = c.requires.valid in
    let a = get_or c.arcs-arcs.result.now k (record { from = 0; to = 0; w = pos 0; q = pos 0 }) in
    let is : a ≡ arc s k = ap (λ (xs : List Arc). get_or xs k (record { from = 0; to = 0; w = pos 0; q = pos 0 })) c.arcs-arcs.ensures.value in
    let in_list : k < length s.arcs = omega (arith, c.loop-k-test.true, ap length c.arcs-arcs.ensures.value) in
    let told = to_z w64 (of_z w64 c.weight.result) in
    let weighs : told ≡ weight a period = omega (arith, ints, c.weight.ensures.value, c.weight.ensures.small) in
    let asks : told ≡ weight (arc s k) period = weighs ∙ ap (λ (b : Arc). weight b period) is in
    let (from_in, to_in) = valid.ends k in_list in
    let from : a.from ≡ (arc s k).from = ap (λ (b : Arc). b.from) is in
    let to : a.to ≡ (arc s k).to = ap (λ (b : Arc). b.to) is in
    let count : length row ≡ s.nodes = omega (arith, c.loop-k.auto.row, c.requires.row) in
    let z = to_z w64 (of_z w64 c.max.result) in
    let max_is : z ≡ int_max (number row a.to) (number row a.from +ℤ told) = omega (
      arith,
      ints,
      clamps,
      c.max.ensures.value,
      c.loop-k.invariant.1 a.to (omega (arith, to, to_in, c.requires.row)),
      c.loop-k.invariant.1 a.from (omega (arith, from, from_in, c.requires.row)),
      c.weight.ensures.value,
      c.weight.ensures.small,
      valid.count,
      in_list,
    ) in (
      raised_more s period k (number c.args.row.now) row a.from a.to told z c.loop-k.invariant.0 valid count in_list from to asks max_is,
      λ i i_in. omega (
        arith,
        raised_small row s.nodes a.from a.to
            (20000000000000000 + k * 30000000000000) 30000000000000 told z
            (λ j j_in. c.loop-k.invariant.1 j (omega (arith, j_in, c.requires.row))) count (omega (arith, from, from_in))
            (omega (arith, to, to_in)) (omega (arith, ints, c.weight.ensures.value, c.weight.ensures.small)) max_is i
            (omega (arith, i_in, c.requires.row)),
      ),
    )
