use Rattle.machine_loops.specs.Reading.{OffsTo}
use Rattle.machine_loops.proofs.reading.note_all_carried.Given as goal

abbrev pub invariant-loop-h : goal.invariant-loop-h
invariant-loop-h l = OffsTo l.line l.frames l.t l.h 0 l.off.items
