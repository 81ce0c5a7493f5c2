use Rattle.std.proofs.Common.{◌≡◌, ◌+◌, arith}
use Rattle.std.specs.Prelude.{true}
use Rattle.tick_machine.specs.Layout.{layout_of}
use Rattle.tick_machine.proofs.Lines.{layout_is}
use Rattle.tick_machine.proofs.beginning.leave.Goals as goal

pub returns-clause-fits : goal.returns-clause-fits
returns-clause-fits c =
    let l = c.args.line.now in
    let way : (layout_of l).serves c.args.to (c.in-Some.hold.stage + 1) ≡ true = cc in
    record {
      from = c.requires.from;
      to = (layout_is l c.serves.ensures.valid).there c.args.to
          (c.in-Some.hold.stage + 1) way;
      step = omega arith;
      elapsed = omega arith;
    }
