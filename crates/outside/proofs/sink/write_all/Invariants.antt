-- So far the first bytes of the text were appended, and no counter fell.
use Rattle.std.proofs.Common.{length, ◌-◌, ◌≡◌, ◌≤◌, take}
use Rattle.outside.specs.Sink.{appended}
use Rattle.outside.proofs.sink.write_all.Given as goal

abbrev pub invariant-loop-at : goal.invariant-loop-at
invariant-loop-at g l =
    (l.at ≤ length l.text)
    × (g.K.Sink.written l.sink ≡ appended (g.K.Sink.written l.fn.sink) (take l.at l.text))
    × (g.K.Sink.faults l.fn.sink ≤ g.K.Sink.faults l.sink)
    × (g.K.Sink.wants l.fn.sink ≤ g.K.Sink.wants l.sink)

abbrev pub decreases-loop-at : goal.decreases-loop-at
decreases-loop-at g l = length l.text - l.at
