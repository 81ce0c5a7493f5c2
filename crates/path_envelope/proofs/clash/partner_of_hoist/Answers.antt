-- The first partner of the first move that has one.
use Rattle.path_envelope.proofs.FirstLemmas.{first_of_hoist, own_hoist}
use Rattle.path_envelope.proofs.clash.partner_of_hoist.Goals as goal

pub returns-in-Some : goal.returns-in-Some
returns-in-Some c =
    let (g, first, near) = c.in-Some.ensures in (
      g,
      first_of_hoist c.args.asked.line.now _ _ c.args.h c.loop-number.number g c.loop-number.invariant
          (own_hoist c.args.asked.line.now c.args.asked.route.now c.args.asked.starts.now c.args.asked.hoists.now
          c.args.asked.period c.loop-number.number c.args.h g first.number c.if-asked-number.true) first,
      near,
    )
