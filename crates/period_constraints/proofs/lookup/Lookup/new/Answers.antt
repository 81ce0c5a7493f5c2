use Rattle.std.proofs.Common.{◌≡◌, ◌*◌, List, length, subst}
use Rattle.path_constraints.specs.declared.rides.Ride.{Ride}
use Rattle.period_constraints.specs.Lookups.{AreSpans}
use Rattle.period_constraints.proofs.LookupLemmas.{whole_table}
use Rattle.period_constraints.proofs.lookup.Lookup.new.Goals as goal

pub returns : goal.returns
returns c =
    let l = c.args.line.now in
    let rides = c.loop-step.rides.items in
    let spans = c.push_spans.new.spans.items in
    let C : List Ride → Type 0 = λ xs. length spans ≡ length xs * length xs in
    let S : List Ride → Type 0 = λ xs. AreSpans l xs spans in
    whole_table l rides spans c.loop-step.invariant (subst C c.as_slice.ensures.value c.in_ok-push_spans.ensures.count)
    (subst S c.as_slice.ensures.value c.in_ok-push_spans.ensures.spans)
