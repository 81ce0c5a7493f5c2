-- The first clash of the first move that has one.
use Rattle.std.proofs.Common.{get_or, ap}
use Rattle.path_envelope.proofs.FirstLemmas.{first_of_hoist, own_hoist, none_more, none_skip}
use Rattle.path_envelope.proofs.clash.clash_of_hoist.Goals as goal
use Rattle.path_envelope.proofs.clash.clash_of_hoist.Goals.{then-asked-number+in_default, else-asked-number}

pub returns-in-Some : goal.returns-in-Some
returns-in-Some c =
    let (g, first, pair) = c.in-Some.ensures in (
      g,
      first_of_hoist c.args.asked.line.now _ _ c.args.h c.loop-number.number g c.loop-number.invariant
          (own_hoist c.args.asked.line.now c.args.asked.route.now c.args.asked.starts.now c.args.asked.hoists.now
          c.args.asked.period c.loop-number.number c.args.h g first.number c.if-asked-number.true) first,
      pair,
    )

pub loop-number-preserved : goal.loop-number-preserved
loop-number-preserved c =
    elim c.if-asked-number.branch [
      | then-asked-number+in_default w ↦ none_more c.args.asked.line.now _ _ c.args.h c.loop-number.number c.loop-number.invariant w.in_default.ensures
      | else-asked-number w ↦
          none_skip c.args.asked.line.now _ _ c.args.h c.loop-number.number (get_or c.args.asked.hoists.now c.loop-number.number 0) c.loop-number.invariant
          (λ g number. ap (λ j. get_or c.args.asked.hoists.now j 0) number) w.if-asked-number.false
    ]
