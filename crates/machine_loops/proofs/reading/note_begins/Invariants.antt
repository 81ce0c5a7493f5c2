use Rattle.machine_loops.specs.Reading.{MovesTo}
use Rattle.machine_loops.proofs.reading.note_begins.Given as goal

abbrev pub invariant-loop-h : goal.invariant-loop-h
invariant-loop-h l = MovesTo l.line l.frames l.t l.h l.start.items l.hoist.items l.tank.items
