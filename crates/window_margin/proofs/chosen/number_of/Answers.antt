use Rattle.std.proofs.Common.{arith}
use Rattle.path_constraints.specs.Hoists.{hoists_reaching}
use Rattle.list_facts.proofs.Elements.{place_of}
use Rattle.window_margin.proofs.chosen.number_of.Goals as goal

pub unreachable-requires : goal.unreachable-requires
unreachable-requires c =
    let r = place_of (hoists_reaching c.args.line.now c.args.a) c.args.hoist c.requires.there in
    c.loop-number.invariant r.0 (omega (arith, r.1, c.loop-number-test.false, c.reaching_count-number-end.ensures.count)) r.2
