use Rattle.std.proofs.Common.{◌≡◌, ◌-◌}
use Rattle.field_reading.specs.Reading.{items_at}
use Rattle.answer_read.specs.Tables.{carrier_at, carriers_at}
use Rattle.field_reading.proofs.Loops.{fronts}
use Rattle.answer_read.proofs.table.carriers.Given as goal

abbrev pub invariant-loop-c : goal.invariant-loop-c
invariant-loop-c l = fronts l.put.items l.off.items (items_at carrier_at l.c (l.count - l.c) l.rest) ≡ carriers_at l.count l.bytes
