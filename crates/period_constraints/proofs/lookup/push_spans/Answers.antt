use Rattle.std.proofs.Common.{◌/◌, ◌%◌, rules, length}
use Rattle.period_constraints.proofs.LookupLemmas.{row_there, column_there, spans_more}
use Rattle.period_constraints.proofs.lookup.push_spans.Goals as goal

pub clash-requires-clause-motions : goal.clash-requires-clause-motions
clash-requires-clause-motions c =
    let n = length c.args.rides.now in
    let p = c.loop-place.place in
    let a = c.requires.rides.each (p / n) (row_there p n n c.loop-place-test.true) in
    let b = c.requires.rides.each (p % n) (column_there p n n c.loop-place-test.true) in
    (a.0, b.0)

pub loop-place-preserved : goal.loop-place-preserved
loop-place-preserved c = record {
  count = search rules;
  spans =
      spans_more c.args.line.now c.args.rides.now c.loop-place.spans.items c.push.new.self.items c.clash.result c.loop-place.place c.loop-place.invariant.count
      c.in_ok-push.ensures.items
      c.clash.ensures.value c.clash.ensures.tight c.loop-place.invariant.spans;
}
