use Rattle.std.proofs.Common.{◌≡◌, ◌-◌}
use Rattle.field_reading.specs.Reading.{items_at, with_front}
use Rattle.track_log.specs.Reading.{position_at}
use Rattle.track_log.proofs.positions.positions.Given as goal

abbrev pub invariant-loop-h : goal.invariant-loop-h
invariant-loop-h l = with_front l.at.items (items_at (λ h. position_at) l.h (l.hoists - l.h) l.rest) ≡ items_at (λ h. position_at) 0 l.hoists l.bytes
