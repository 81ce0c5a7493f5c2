use Rattle.std.proofs.Common.{rules, ◌≡◌, length, ap, sym, arith}
use Rattle.hoist_base.specs.LineData.{LineData}
use Rattle.hoist_base.proofs.SingleLemmas.{single_test}
use Rattle.hoist_base.proofs.line.Line.single.Goals as goal

pub returns-clause-test : goal.returns-clause-test
returns-clause-test c =
    let l = c.args.self.now in
    let inside : length c.self.inside.parts.stages.items ≡ length l.stages = ap (λ (m : LineData). length m.stages) c.self.view_is in
    let count : c.len-k-end.result ≡ length c.self.inside.parts.stages.items = search rules in
    sym (single_test l (λ j there. c.loop-k.invariant j (omega (arith, there, inside, count, c.loop-k-test.false))))
