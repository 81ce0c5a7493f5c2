use Rattle.std.proofs.Common.{◌≡◌, ◌∙◌, ◌<◌, List, length, get_or, ap, ℤ, pos, to_z, of_z, w64, arith}
use Rattle.std.proofs.lemmas.Int.{ints}
use Rattle.longest_path.specs.declared.systems.Arc.{Arc}
use Rattle.longest_path.specs.declared.room.Step.{Step}
use Rattle.longest_path.specs.System.{arc, weight}
use Rattle.longest_path.specs.Steps.{step_of}
use Rattle.longest_path.proofs.NearLemmas.{packed_near, packed_far}
use Rattle.longest_path.proofs.packing.pack.Goals as goal
use Rattle.longest_path.proofs.packing.pack.Goals.{then-not-take, else-not-take}

pub loop-k-preserved : goal.loop-k-preserved
loop-k-preserved c =
    let s = c.args.s.now in
    let k = c.loop-k.k in
    let period = c.args.period in
    let valid = c.arcs-arcs.ensures.valid in
    let a = get_or c.arcs-arcs.result.now k (record { from = 0; to = 0; w = pos 0; q = pos 0 }) in
    let is : a ≡ arc s k = ap (λ (xs : List Arc). get_or xs k (record { from = 0; to = 0; w = pos 0; q = pos 0 })) c.arcs-arcs.ensures.value in
    let in_list : k < length s.arcs = omega (arith, c.loop-k-test.true, ap length c.arcs-arcs.ensures.value) in
    let told = to_z w64 (of_z w64 c.weight-weight.result) in
    let weighs : told ≡ weight a period = omega (arith, ints, c.weight-weight.ensures.value, c.weight-weight.ensures.small) in
    let from : a.from ≡ (arc s k).from = ap (λ (b : Arc). b.from) is in
    let to : a.to ≡ (arc s k).to = ap (λ (b : Arc). b.to) is in
    let asks : told ≡ weight (arc s k) period = weighs ∙ ap (λ (b : Arc). weight b period) is in
    elim c.if-not-take.branch [
      | then-not-take w ↦ rw (w.steps-is, w.count-is) (packed_far s period k c.loop-k.count c.loop-k.near c.take.new.self c.loop-k.steps (record { from = a.from; to = a.to; weight = told }) a.from a.to told c.loop-k.invariant in_list
          (let first : Step = record { from = a.from; to = a.to; weight = told } in
          let second : Step = record { from = a.from; to = a.to; weight = weight a period } in
          let one : first ≡ second = ap (λ (z : ℤ). let made : Step = record { from = a.from; to = a.to; weight = z } in made) weighs in
          let two : second ≡ step_of s period k = ap (λ (b : Arc). let made : Step = record {
            from = b.from;
            to = b.to;
            weight = weight b period;
          } in made) is in
          one ∙ two)
          w.if-not-take.ensures)
      | else-not-take w ↦ rw (w.steps-is, w.count-is) (packed_near s period k c.loop-k.count c.loop-k.near
          c.take.new.self c.loop-k.steps a.from a.to told c.loop-k.invariant in_list valid from to asks
          w.if-not-take.ensures)
    ]
