use Rattle.field_reading.proofs.Numbers.{number_read}
use Rattle.field_reading.proofs.SignedNumbers.{signed_read}
use Rattle.field_reading.proofs.Words.{one_word}
use Rattle.field_reading.proofs.laws.reading.Goals as goal

pub returns : goal.returns
returns c = record { numbers = number_read; signed = signed_read; words = one_word (λ w. w) }
