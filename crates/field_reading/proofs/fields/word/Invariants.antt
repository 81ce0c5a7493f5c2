use Rattle.std.proofs.Common.{◌≡◌, length}
use Rattle.field_reading.specs.Reading.{word_at}
use Rattle.field_reading.proofs.fields.word.Given as goal

abbrev pub invariant-loop-wanted : goal.invariant-loop-wanted
invariant-loop-wanted l = word_at l.wanted l.rest ≡ word_at l.word l.bytes

abbrev pub decreases-loop-wanted : goal.decreases-loop-wanted
decreases-loop-wanted l = length l.wanted
