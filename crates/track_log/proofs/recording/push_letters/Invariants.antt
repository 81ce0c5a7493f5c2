use Rattle.std.proofs.Common.{◌≡◌, ◌++◌, flat_map, take}
use Rattle.track_log.specs.Logs.{go_word}
use Rattle.track_log.proofs.recording.push_letters.Given as goal

abbrev pub invariant-loop-one : goal.invariant-loop-one
invariant-loop-one l = l.text.items ≡ l.fn.text.items ++ flat_map go_word (take l.one-index l.go)
