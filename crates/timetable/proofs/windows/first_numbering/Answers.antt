use Rattle.std.proofs.Common.{arith}
use Rattle.timetable.specs.TimetableData.{timetable_of}
use Rattle.timetable.specs.Faults.{IsLate}
use Rattle.timetable.proofs.WindowFaults.{numbering_first}
use Rattle.timetable.proofs.windows.first_numbering.Goals as goal

pub returns-then-next-put : goal.returns-then-next-put
returns-then-next-put c =
    let l = c.args.line.now in
    let p = timetable_of c.args.t.now in
    let x = c.loop-carrier.carrier in
    let late : IsLate l p x = (
      omega (arith, c.loop-carrier-test.true, c.degree-carrier-end.ensures.value),
      omega (arith, c.next_put-next.ensures, c.put-put.ensures.value, c.if-next-put.true),
    ) in
    numbering_first l p x c.put-put.result c.next_put-next.result c.loop-carrier.invariant late c.put-put.ensures.value c.next_put-next.ensures
