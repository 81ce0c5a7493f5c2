use Rattle.machine_loops.specs.Reading.{PathTo}
use Rattle.machine_loops.proofs.reading.note_places.Given as goal

abbrev pub invariant-loop-h : goal.invariant-loop-h
invariant-loop-h l = PathTo l.line l.frames l.t l.h l.path.items
