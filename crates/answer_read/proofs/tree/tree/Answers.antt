use Rattle.std.proofs.Common.{◌≡◌, length, reverse, arith, rules}
use Rattle.std.proofs.lemmas.Result.{err_from_is_err_and}
use Rattle.answer_read.proofs.Growing.{starts_growing, goes_on_growing, top_left, growing_breaks, row_takes, growing_ends}
use Rattle.answer_read.proofs.tree.tree.Goals as goal

pub loop-i-init : goal.loop-i-init
loop-i-init c = rw (c.in_ok-push.ensures.items, c.new-waiting.ensures.items, c.in_ok-tree.ensures) (starts_growing c.args.single c.args.bytes.now)

pub returns-in_err-row : goal.returns-in_err-row
returns-in_err-row c =
    let p = err_from_is_err_and c.from_residual-in_err-row.result c.from_residual-in_err-row.ensures.1 in
    rw (p.1, p.2) (growing_breaks c.args.single c.args.bytes.now c.loop-i.waiting.items c.pop.new.self.items c.in-Some.i c.loop-i.tree c.loop-i.rest.now
    c.in_err-row.field-0.0 c.loop-i.invariant c.in-Some.ensures.items c.in_err-row.ensures)

pub place-requires-clause-there : goal.place-requires-clause-there
place-requires-clause-there c =
    (top_left c.args.single c.args.bytes.now c.loop-i.waiting.items c.pop.new.self.items c.in-Some.i c.loop-i.tree c.loop-i.rest.now c.loop-i.invariant
    c.in-Some.ensures.items).0

pub place-requires-clause-left : goal.place-requires-clause-left
place-requires-clause-left c =
    (top_left c.args.single c.args.bytes.now c.loop-i.waiting.items c.pop.new.self.items c.in-Some.i c.loop-i.tree c.loop-i.rest.now c.loop-i.invariant
    c.in-Some.ensures.items).1

pub place-requires-clause-few : goal.place-requires-clause-few
place-requires-clause-few c = (row_takes c.args.single c.loop-i.rest.now c.in_ok-row.after.now c.in_ok-row.row c.in_ok-row.ensures).1

pub place-requires-clause-room : goal.place-requires-clause-room
place-requires-clause-room c =
    omega (arith, c.loop-i.invariant.few, (row_takes c.args.single c.loop-i.rest.now c.in_ok-row.after.now c.in_ok-row.row c.in_ok-row.ensures).0)

pub loop-i-smaller : goal.loop-i-smaller
loop-i-smaller c = omega (arith, (row_takes c.args.single c.loop-i.rest.now c.in_ok-row.after.now c.in_ok-row.row c.in_ok-row.ensures).0)

pub loop-i-preserved : goal.loop-i-preserved
loop-i-preserved c =
    goes_on_growing c.args.single c.args.bytes.now c.loop-i.waiting.items c.pop.new.self.items c.in-Some.i c.loop-i.tree c.loop-i.rest.now c.in_ok-row.row
    c.in_ok-row.after.now (reverse c.place.new.waiting.items) c.place.new.tree
    c.loop-i.invariant c.in-Some.ensures.items c.in_ok-row.ensures c.in_ok-place.ensures.tree c.in_ok-place.ensures.waiting

pub returns : goal.returns
returns c =
    let none : length c.loop-i.waiting.items ≡ 0 = search (rules, c.in_default.ensures.cases.0) in
    growing_ends c.args.single c.args.bytes.now c.loop-i.waiting.items c.loop-i.tree c.loop-i.rest.now c.loop-i.invariant none
