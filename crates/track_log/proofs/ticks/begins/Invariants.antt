use Rattle.std.proofs.Common.{◌≡◌, ◌-◌}
use Rattle.field_reading.specs.Reading.{with_front}
use Rattle.track_log.specs.Reading.{at_most, begins_at}
use Rattle.track_log.proofs.ticks.begins.Given as goal

abbrev pub invariant-loop-h : goal.invariant-loop-h
invariant-loop-h l =
    with_front l.tanks.items (at_most l.left (begins_at l.line l.h (l.line.hoists - l.h) l.rest)) ≡ at_most l.fn.left (begins_at l.line 0 l.line.hoists l.bytes)
