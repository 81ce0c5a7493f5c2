-- What the readers read.
use Rattle.std.specs.Prelude.{◌≡◌, ℕ, ◌^◌, ◌<◌, ◌≤◌, List, decimal}
use Rattle.std.specs.Fmt.{signed_decimal}
use Rattle.field_reading.specs.Reading.{◌>>=◌, word_at, number_at, signed_at}
use Rattle.field_reading.specs.Reads.{Reads, Any, NoDigit, InRange, IsSmall}
use Rattle.std.specs.Prelude.{Ok}

-- a number in a range is read from its decimal text alone, and else the bytes break where no such text goes on
abbrev pub NumbersAreRead : Type 0
NumbersAreRead =
    (least most : ℕ) (bytes : List ℕ) → least ≤ 1 → least ≤ most → most < 2 ^ 64 → Reads (InRange least most) decimal NoDigit bytes (number_at least most bytes)

-- the same of a number that may be negative
abbrev pub SignedAreRead : Type 0
SignedAreRead = (most : ℕ) (bytes : List ℕ) → 1 ≤ most → most < 2 ^ 63 → Reads (IsSmall most) signed_decimal NoDigit bytes (signed_at most bytes)

-- the same of a word
abbrev pub WordsAreRead : Type 0
WordsAreRead =
    (word bytes : List ℕ) → Reads (λ w. w ≡ word) (λ w. w) Any bytes (word_at word bytes >>= λ rest. Ok (word, rest))
