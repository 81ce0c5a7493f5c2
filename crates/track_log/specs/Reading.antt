-- How a log is read, from left to right.
use Rattle.std.specs.Prelude.{ℕ, zero, suc, ◌-◌, ◌+◌, List, [], ◌∷◌, length, codes, decimal, Bool, true, false, ◌&&◌, nat_lt}
use Rattle.std.specs.Prelude.{min, Option, Some, None, Result, Ok, Err, if◌then◌else◌}
use Rattle.hoist_base.specs.LineData.{LineData}
use Rattle.tick_machine.specs.declared.order.Go.{Go}
use Rattle.tick_machine.specs.declared.order.Go.TheVariants.{Stay, Low, High}
use Rattle.tick_machine.specs.declared.order.Order.{Order}
use Rattle.text_writing.specs.Texts.{end}
use Rattle.field_reading.specs.declared.stop.Stop.{Stop}
use Rattle.field_reading.specs.declared.stop.Stop.TheVariants as stops
use Rattle.field_reading.specs.Reading.{◌>>=◌, word_at, number_at, kind_at, begins, next_at, ended, items_at}
use Rattle.track_log.specs.Logs.{TickLine, LogData, go_word, most_position, most_ticks}

-- where something else broke that left so many bytes, and went on further
abbrev pub at_most : {A : Type 0} → ℕ → Result A ℕ → Result A ℕ
at_most left (Ok x) = Ok x
at_most left (Err other) = Err (min left other)

-- what goes on behind a word, or where the word breaks what may stand in its place; where both break, what goes on
-- further
abbrev pub or_at : {A : Type 0} → Result (List ℕ) ℕ → (List ℕ → Result A ℕ) → Result A ℕ → Result A ℕ
or_at (Ok rest) behind other = behind rest
or_at (Err left) behind other = at_most left other

-- ---- a tick line

-- at tick 0 every letter is that of a hoist that stays
abbrev pub goes : ℕ → List Go
goes zero = Stay ∷ []
goes (suc t) = Stay ∷ Low ∷ High ∷ []

unfoldable pub letter_at : ℕ → List ℕ → Result (Go × List ℕ) ℕ
letter_at t bytes = kind_at go_word (goes t) bytes

abbrev pub letters_at : ℕ → ℕ → List ℕ → Result (List Go × List ℕ) ℕ
letters_at hoists t bytes = items_at (λ h. letter_at t) 0 hoists bytes

-- a word that may stand there, and what comes next
abbrev pub flag_at : {A : Type 0} → List ℕ → (List ℕ → Result (A × List ℕ) ℕ) → List ℕ → Result ((Bool × A) × List ℕ) ℕ
flag_at word next bytes =
    or_at (word_at word bytes) (λ rest. next rest >>= λ x. Ok ((true, x.0), x.1))
    (next bytes >>= λ x. Ok ((false, x.0), x.1))

-- that hoist h begins a move
unfoldable pub begin_at : ℕ → List ℕ → Result (List ℕ) ℕ
begin_at h bytes = do
  a ← word_at (codes " begin ") bytes
  b ← word_at (decimal h) a
  word_at (codes " ") b

-- to a tank
unfoldable pub tank_at : LineData → List ℕ → Result (Option ℕ × List ℕ) ℕ
tank_at l bytes = number_at 0 (length l.tanks - 1) bytes >>= λ x. Ok (Some x.0, x.1)

-- the begins of the n hoists from h on, and the end of the line
unfoldable pub begins_at : LineData → ℕ → ℕ → List ℕ → Result (List (Option ℕ) × List ℕ) ℕ
begins_at l h zero bytes = word_at end bytes >>= λ rest. Ok ([], rest)
begins_at l h (suc n) bytes =
    or_at (begin_at h bytes) (λ rest. tank_at l rest >>= λ x. begins_at l (h + 1) n x.1 >>= λ y. Ok (x.0 ∷ y.0, y.1))
    (begins_at l (h + 1) n bytes >>= λ y. Ok (None ∷ y.0, y.1))

-- behind the letters
unfoldable pub tail_at : LineData → List ℕ → Result ((Bool × (Bool × List (Option ℕ))) × List ℕ) ℕ
tail_at l bytes = flag_at (codes " off") (flag_at (codes " put") (begins_at l 0 l.hoists)) bytes

abbrev pub tick_of : List Go × (Bool × (Bool × List (Option ℕ))) → TickLine
tick_of x = record { go = x.0; off = x.1.0; put = x.1.1.0; begin = x.1.1.1 }

unfoldable pub tick_at : LineData → ℕ → List ℕ → Result (TickLine × List ℕ) ℕ
tick_at l t bytes = next_at (letters_at l.hoists t) (tail_at l) bytes >>= λ x. Ok (tick_of x.0, x.1)

-- ---- the log

unfoldable pub end_at : List ℕ → Result (List TickLine × List ℕ) ℕ
end_at bytes = word_at (codes "end\n") bytes >>= λ rest. Ok ([], rest)

-- the lines from tick t on, so many at most, and the end, which doesn't stand before the line of tick 0
unfoldable pub lines_at : LineData → ℕ → ℕ → List ℕ → Result (List TickLine × List ℕ) ℕ
lines_at l t zero bytes = end_at bytes
lines_at l t (suc more) bytes =
    if nat_lt 0 t && begins 101 bytes
    then end_at bytes
    else (tick_at l t bytes >>= λ x. lines_at l (t + 1) more x.1 >>= λ y. Ok (x.0 ∷ y.0, y.1))

unfoldable pub position_at : List ℕ → Result (ℕ × List ℕ) ℕ
position_at bytes = do
  a ← word_at (codes " ") bytes
  number_at 0 most_position a

-- the positions of the hoists
unfoldable pub places_at : ℕ → List ℕ → Result (List ℕ × List ℕ) ℕ
places_at hoists bytes = ended (items_at (λ h. position_at) 0 hoists bytes)

abbrev pub log_of : List ℕ × List TickLine → LogData
log_of x = record { at = x.0; ticks = x.1 }

unfoldable pub log_at : LineData → List ℕ → Result (LogData × List ℕ) ℕ
log_at l bytes = do
  a ← word_at (codes "hoist log 1\nat") bytes
  x ← next_at (places_at l.hoists) (lines_at l 0 most_ticks) a
  Ok (log_of x.0, x.1)

-- ---- how the code reads

-- the order that a tick line was read into
abbrev pub line_of : Order → TickLine
line_of o = record { go = o.go.items; off = o.off; put = o.put; begin = o.begin.items }

-- the stop that went on further: another word broke where it left so many bytes
abbrev pub further : ℕ → Stop → Stop
further left stops.Memory = stops.Memory
further left (stops.Broken other) = stops.Broken (min left other)

-- whether the word stands there, what comes next, and how many bytes are left behind the furthest break so far
abbrev pub flagged : Result (List ℕ) ℕ → List ℕ → ℕ → Bool × List ℕ × ℕ
flagged (Ok rest) bytes left = (true, rest, left)
flagged (Err other) bytes left = (false, bytes, min left other)

-- what is left behind what was read
abbrev pub behind : {A : Type 0} → Result (A × List ℕ) ℕ → Result (List ℕ) ℕ
behind r = r >>= λ x. Ok x.1
