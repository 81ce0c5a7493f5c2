use Rattle.machine_loops.specs.Reading.{OffsTo}
use Rattle.machine_loops.proofs.reading.note_all_resting.Given as goal

abbrev pub invariant-loop-tank : goal.invariant-loop-tank
invariant-loop-tank l = OffsTo l.line l.frames l.t l.line.hoists l.tank l.off.items
