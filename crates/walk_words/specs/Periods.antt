-- The periods that a closed walk leaves, and the words for them.
use Rattle.std.specs.Prelude.{ℕ, zero, suc, ◌≤◌, ◌/◌, ℤ, pos, negsuc, neg_ℤ, List, ◌++◌, codes, decimal}
use Rattle.std.specs.Int.{div_ceil}
use Rattle.std.specs.Fmt.{signed_decimal}
use Rattle.cycle_walk.specs.declared.sums.Sums.{Sums}
use Rattle.walk_words.specs.Places.{signed_count_text}
pub use Rattle.walk_words.specs.declared.periods.Periods.{Periods}
use Rattle.walk_words.specs.declared.periods.Periods.TheVariants.{All, Least, Most, Nothing}

-- a period is among these
abbrev pub IsAmong : Periods → ℕ → Type 0
IsAmong All t = Unit {0}
IsAmong (Least p) t = p ≤ t
IsAmong (Most p) t = t ≤ p
IsAmong Nothing t = ⊥

-- those that are at most as long as q of them have so many ticks
abbrev pub most_by : ℕ → ℕ → Periods
most_by ticks zero = All
most_by ticks (suc q) = Most (ticks / suc q)

-- the periods that walks leave whose constraints add up to w ticks and q periods: those with w + q * period at most 0
abbrev pub left_by : ℤ → ℤ → Periods
left_by (pos w) (negsuc q) = Least (div_ceil w (suc q))
left_by (negsuc w) (negsuc q) = All
left_by (pos zero) (pos q) = most_by 0 q
left_by (pos (suc w)) (pos q) = Nothing
left_by (negsuc w) (pos q) = most_by (suc w) q

abbrev pub periods_of : Sums → Periods
periods_of s = left_by s.w s.q

abbrev pub periods_text : Periods → List ℕ
periods_text All = codes ", which every period has room for"
periods_text (Least p) = codes ", so the period is at least " ++ decimal p
periods_text (Most p) = codes ", so the period is at most " ++ decimal p
periods_text Nothing = codes ", which no period has room for"

-- the sums of a walk and the periods that follow
abbrev pub sums_text : Sums → List ℕ
sums_text s =
    codes "the walk takes "
    ++ (signed_decimal s.w
    ++ (codes " ticks in " ++ (signed_count_text (neg_ℤ s.q) ++ periods_text (periods_of s))))
