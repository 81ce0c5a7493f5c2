use Rattle.std.proofs.Common.{◌≡◌, ◌++◌, flat_map}
use Rattle.track_log.specs.Logs.{position_text}
use Rattle.track_log.specs.Recording.{places_of}
use Rattle.track_log.proofs.recording.push_places.Given as goal

abbrev pub invariant-loop-h : goal.invariant-loop-h
invariant-loop-h g l = l.text.items ≡ l.fn.text.items ++ flat_map position_text (places_of l.h (g.D.Driver.place l.driver))
