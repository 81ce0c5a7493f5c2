-- The positions of the ticks so far are in the table.
use Rattle.path_envelope.specs.Slots.{IsWritten}
use Rattle.path_envelope.proofs.slots.write_motion.Given as goal

abbrev pub invariant-loop-u : goal.invariant-loop-u
invariant-loop-u l = IsWritten l.motion l.start l.period l.u l.initial.table l.table
