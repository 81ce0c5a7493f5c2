use Rattle.std.proofs.Common.{◌≡◌, ◌++◌, drop}
use Rattle.track_log.specs.Logs.{begins_text}
use Rattle.track_log.proofs.recording.push_begins.Given as goal

abbrev pub invariant-loop-h : goal.invariant-loop-h
invariant-loop-h l = l.text.items ++ begins_text l.h (drop l.h l.tanks) ≡ l.fn.text.items ++ begins_text 0 l.tanks
