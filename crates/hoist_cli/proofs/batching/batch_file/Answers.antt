use Rattle.std.proofs.Common.{rules, ◌≡◌, arith, subst, refl, inl, inr, Err, Option}
use Rattle.outside.specs.Shelf.{Files}
use Rattle.file_list.specs.declared.read.ListRead.TheVariants as lists
use Rattle.hoist_cli.specs.declared.replies.Stop.{Stop}
use Rattle.hoist_cli.specs.Reading.{reading}
use Rattle.hoist_cli.specs.Batched.{IsReadAs, AreReadAs, IsListedStop, BatchReply}
use Rattle.hoist_cli.proofs.Narrowing.{refused_by}
use Rattle.hoist_cli.proofs.Parts.{as_long, list_right, listed_still}
use Rattle.hoist_cli.proofs.batching.batch_file.Goals as goal

pub returns-in_err-reads-in-Ready : goal.returns-in_err-reads-in-Ready
returns-in_err-reads-in-Ready g c =
    let files = g.F.Shelf.files c.args.shelf.now in
    let r = reading files (g.F.Shelf.faults c.args.shelf.now) (g.F.Shelf.faults c.reads_of.new.shelf) in
    let names = c.in-Ready.names in
    let bytes = c.in_ok-bytes.bytes.items in
    let stop : Stop = c.in_err-reads-in-Ready.field-0.0 in
    let stopped : c.from_residual-in_err-reads-in-Ready.result ≡ Err stop = search rules in
    let right = list_right bytes c.as_slice.result.now c.in_ok-offset.field-0 names c.as_slice.ensures.value c.in-Ready.is c.in_ok-offset.ensures.found in
    rw stopped
    (refused_by (IsListedStop r names) (BatchReply r c.args.list.now c.args.budget) stop
    (λ status text is. inr (bytes, c.in_ok-bytes.ensures.file, (lists.Ready names, right, inl is)))
    (listed_still files (g.F.Shelf.files c.fetch.new.shelf) (g.F.Shelf.faults c.args.shelf.now) (g.F.Shelf.faults c.fetch.new.shelf)
    (g.F.Shelf.faults c.reads_of.new.shelf) names stop c.in_ok-bytes.ensures.same c.in_ok-bytes.ensures.later
    c.in_err-reads-in-Ready.ensures.refused))

pub batch_text-requires-clause-few : goal.batch_text-requires-clause-few
batch_text-requires-clause-few g c κs within =
    let names = c.in-Ready.names in
    let right =
    list_right c.in_ok-bytes.bytes.items c.as_slice.result.now c.in_ok-offset.field-0 names c.as_slice.ensures.value c.in-Ready.is
    c.in_ok-offset.ensures.found in
    omega (
      arith,
      as_long (IsReadAs (g.F.Shelf.files c.fetch.new.shelf)) names c.in_ok-reads-in-Ready.reads.items c.in_ok-reads-in-Ready.ensures.reads,
      right.0.few,
    )

pub returns : goal.returns
returns g c =
    let names = c.in-Ready.names in
    let bytes = c.in_ok-bytes.bytes.items in
    let reads = c.in_ok-reads-in-Ready.reads.items in
    let right = list_right bytes c.as_slice.result.now c.in_ok-offset.field-0 names c.as_slice.ensures.value c.in-Ready.is c.in_ok-offset.ensures.found in
    let are : AreReadAs (g.F.Shelf.files c.args.shelf.now) names reads =
    subst (λ (fs : Option Files). AreReadAs fs names reads) c.in_ok-bytes.ensures.same c.in_ok-reads-in-Ready.ensures.reads in
    inr (bytes, c.in_ok-bytes.ensures.file, (lists.Ready names, right, inr (reads, are, refl, c.in_ok-text-in-Ready.ensures)))
