use Rattle.std.proofs.Common.{◌≡◌, ◌-◌}
use Rattle.field_reading.specs.Reading.{items_at, with_front}
use Rattle.track_log.specs.Reading.{letter_at}
use Rattle.track_log.proofs.ticks.letters.Given as goal

abbrev pub invariant-loop-h : goal.invariant-loop-h
invariant-loop-h l =
    with_front l.go.items (items_at (λ h. letter_at l.tick) l.h (l.hoists - l.h) l.rest) ≡ items_at (λ h. letter_at l.tick) 0 l.hoists l.bytes
