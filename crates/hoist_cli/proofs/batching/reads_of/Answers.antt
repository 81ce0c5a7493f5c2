use Rattle.std.proofs.Common.{rules, ◌≡◌, ◌∙◌, arith, subst, Err, Option}
use Rattle.outside.specs.Shelf.{Files}
use Rattle.hoist_cli.specs.declared.replies.Stop.{Stop}
use Rattle.hoist_cli.specs.Batched.{IsReadAs}
use Rattle.hoist_cli.proofs.Parts.{listed_refused, reads_more}
use Rattle.hoist_cli.proofs.batching.reads_of.Goals as goal

pub returns-in_err-read-clause-refused : goal.returns-in_err-read-clause-refused
returns-in_err-read-clause-refused g c =
    let files = g.F.Shelf.files c.args.shelf.now in
    let names = c.as_slice-names.result.now in
    let loop = c.loop-i in
    let stop : Stop = c.in_err-read.field-0.0 in
    let stopped : c.from_residual-in_err-read.result ≡ Err stop = search rules in
    let right =
    listed_refused files (g.F.Shelf.files loop.shelf) (g.F.Shelf.faults c.args.shelf.now) (g.F.Shelf.faults loop.shelf)
    (g.F.Shelf.faults c.read_as.new.shelf) names c.args.names.now loop.i c.index-names-i.result c.as_str.result.now loop.reads.items stop
    c.as_slice-names.ensures (omega (arith, c.loop-i-test.true)) c.index-names-i.is c.as_str.ensures.value loop.invariant.0 loop.invariant.1
    loop.invariant.2 c.in_err-read.ensures.refused in
    rw stopped right

pub loop-i-preserved : goal.loop-i-preserved
loop-i-preserved g c =
    let files = g.F.Shelf.files c.args.shelf.now in
    let names = c.as_slice-names.result.now in
    let loop = c.loop-i in
    let read = c.in_ok-read.read in
    let one : IsReadAs files c.as_str.result.now read =
    subst (λ (fs : Option Files). IsReadAs fs c.as_str.result.now read) loop.invariant.1 c.in_ok-read.ensures.read in (
      reads_more files names loop.i c.index-names-i.result c.as_str.result.now loop.reads.items c.keep.new.reads.items read
          (omega (arith, c.loop-i-test.true)) c.index-names-i.is c.as_str.ensures.value loop.invariant.0 one c.in_ok-keep.ensures,
      c.in_ok-read.ensures.same ∙ loop.invariant.1,
      omega (arith, loop.invariant.2, c.in_ok-read.ensures.later),
    )
