use Rattle.std.proofs.Common.{◌≡◌, length}
use Rattle.period_constraints.specs.Lookups.{AreSpans}
use Rattle.period_constraints.proofs.lookup.push_spans.Given as goal

abbrev pub invariant-loop-place : goal.invariant-loop-place
invariant-loop-place l = record {
  count : length l.spans.items ≡ l.place;
  spans : AreSpans l.line l.rides l.spans.items;
}
