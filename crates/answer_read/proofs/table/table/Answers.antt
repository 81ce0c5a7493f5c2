use Rattle.std.proofs.Common.{ℕ, List}
use Rattle.answer_read.specs.Tables.{table_of}
use Rattle.answer_read.proofs.TableRead.{table_ok, table_fits}
use Rattle.answer_read.proofs.table.table.Goals as goal

pub new-requires : goal.new-requires
new-requires c =
    let l = c.args.line.now in
    let carriers : List ℕ × List ℕ = (c.in_ok-put.put.items, c.in_ok-put.off.items) in
    let moves : List ℕ × List ℕ = (c.in_ok-start.start.items, c.in_ok-start.hoist.items) in
    table_fits l c.args.bytes.now c.in_ok-path.rest.now
    (table_of l c.in_ok-period.period carriers c.in_ok-tank.tank.items moves c.in_ok-path.path.items) c.degree.ensures.valid
    (table_ok l c.args.bytes.now c.in_ok-period.rest.now c.in_ok-rest.rest.now c.in_ok-put.rest.now c.in_ok-tank.rest.now c.in_ok-start.rest.now
    c.in_ok-path.rest.now c.in_ok-period.period carriers c.in_ok-tank.tank.items moves c.in_ok-path.path.items
    c.in_ok-period.ensures c.in_ok-rest.ensures (rw c.degree.ensures.value at c.in_ok-put.ensures) c.in_ok-tank.ensures c.in_ok-start.ensures
    (rw c.hoists.ensures.value at c.in_ok-path.ensures))
