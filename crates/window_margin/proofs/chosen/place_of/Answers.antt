use Rattle.std.proofs.Common.{arith}
use Rattle.list_facts.proofs.Elements.{place_of}
use Rattle.window_margin.proofs.chosen.place_of.Goals as goal

pub unreachable-requires : goal.unreachable-requires
unreachable-requires c =
    let r = place_of c.args.tanks.now c.args.tank c.requires.there in
    c.loop-place.invariant r.0 (omega (arith, r.1, c.loop-place-test.false)) r.2
