-- Numbers with places behind the point.
use Rattle.std.specs.Prelude.{ℕ, ◌*◌, ◌/◌, ◌%◌, List, ◌++◌, codes, decimal}

-- tenths, with one place behind the point
abbrev pub tenths : ℕ → List ℕ
tenths n = decimal (n / 10) ++ (codes "." ++ decimal (n % 10))

-- thousandths, with three places behind the point
abbrev pub thousandths : ℕ → List ℕ
thousandths n =
    decimal (n / 1000) ++ (codes "." ++ (decimal (n / 100 % 10) ++ (decimal (n / 10 % 10) ++ decimal (n % 10))))

-- ticks, and how many percent of the period they are, rounded down to tenths
abbrev pub share_words : ℕ → ℕ → List ℕ
share_words ticks period = decimal ticks ++ (codes " (" ++ (tenths (ticks * 1000 / period) ++ codes " %)"))

-- how many carriers enter in 1000 ticks, rounded down to thousandths
abbrev pub rate_words : ℕ → ℕ → List ℕ
rate_words degree period = thousandths (degree * 1000000 / period)
