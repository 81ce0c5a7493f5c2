use Rattle.std.proofs.Common.{◌≡◌, ◌-◌}
use Rattle.field_reading.specs.Reading.{items_at, with_front}
use Rattle.answer_read.specs.Lines.{token_at}
use Rattle.answer_read.proofs.lines.tokens.Given as goal

abbrev pub invariant-loop-i : goal.invariant-loop-i
invariant-loop-i l = with_front l.items.items (items_at (λ i. token_at) l.i (l.count - l.i) l.rest) ≡ items_at (λ i. token_at) 0 l.count l.bytes
