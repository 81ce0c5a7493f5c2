use Rattle.machine_loops.specs.Reading.{PartsTo}
use Rattle.machine_loops.proofs.reading.shown_timetable.Given as goal

abbrev pub invariant-loop-t : goal.invariant-loop-t
invariant-loop-t l = PartsTo l.line l.frames l.t l.parts
