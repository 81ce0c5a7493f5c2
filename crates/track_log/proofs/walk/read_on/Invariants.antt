use Rattle.std.proofs.Common.{◌≡◌, ◌-◌}
use Rattle.track_log.specs.Logs.{most_ticks}
use Rattle.track_log.specs.Reading.{lines_at, behind}
use Rattle.track_log.proofs.walk.read_on.Given as goal

abbrev pub invariant-loop-tick : goal.invariant-loop-tick
invariant-loop-tick l = behind (lines_at l.line l.tick (most_ticks - l.tick) l.rest) ≡ behind (lines_at l.line l.first (most_ticks - l.first) l.bytes)
