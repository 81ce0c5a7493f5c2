-- Logs of what the control of a line did, and their texts.
use Rattle.std.specs.Prelude.{◌≡◌, ℕ, ◌+◌, ◌≤◌, ◌<◌, Bool, true, false, Option, Some, None, IfSome, List, [], ◌∷◌, ◌++◌, length}
use Rattle.std.specs.Prelude.{get_or, codes, decimal, flat_map, All}
use Rattle.hoist_base.specs.LineData.{LineData}
use Rattle.tick_machine.specs.declared.order.Go.{Go}
use Rattle.tick_machine.specs.declared.order.Go.TheVariants.{Stay, Low, High}
use Rattle.text_writing.specs.Texts.{end}
use Rattle.field_reading.specs.Fronts as fronts

-- the greatest number of tick lines, and the greatest position
abbrev pub most_ticks : ℕ
most_ticks = 100000

abbrev pub most_position : ℕ
most_position = 1000

-- what was ordered for one tick: where each hoist goes, whether a carrier is taken off and put on, and the tank to
-- which each hoist begins a move, where it does
pub record TickLine : Type 0 where
  pub go : List Go
  pub off : Bool
  pub put : Bool
  pub begin : List (Option ℕ)

-- where each hoist is at tick 0, and what was ordered for tick 0 and those after it
pub record LogData : Type 0 where
  pub at : List ℕ
  pub ticks : List TickLine

-- no orders
abbrev pub idle : TickLine
idle = record { go = []; off = false; put = false; begin = [] }

abbrev pub tick_line : List TickLine → ℕ → TickLine
tick_line ticks t = get_or ticks t idle

-- ---- which are logs of a line

-- there are orders for each hoist, and each begin is to a tank of the line
pub record FitsTick (l : LineData) (x : TickLine) : Type 0 where
  pub go : length x.go ≡ l.hoists
  pub begin : length x.begin ≡ l.hoists
  pub tanks : All (λ b. IfSome b (λ tank. tank < length l.tanks)) x.begin

-- a position for each hoist, and 1 to 100,000 ticks; at tick 0 no hoist moves
pub record IsLog (l : LineData) (log : LogData) : Type 0 where
  pub hoists : length log.at ≡ l.hoists
  pub positions : All (λ x. x ≤ most_position) log.at
  pub some : 1 ≤ length log.ticks
  pub few : length log.ticks ≤ most_ticks
  pub ticks : All (FitsTick l) log.ticks
  pub still : All (λ go. go ≡ Stay) (tick_line log.ticks 0).go

-- ---- their texts

abbrev pub go_word : Go → List ℕ
go_word Stay = codes "s"
go_word Low = codes "l"
go_word High = codes "h"

-- a word that stands there where it is ordered
abbrev pub flag_text : List ℕ → Bool → List ℕ
flag_text word true = word
flag_text word false = []

-- hoist h begins a move to a tank
abbrev pub begin_front : ℕ → List ℕ
begin_front h = codes " begin " ++ (decimal h ++ codes " ")

-- the begins of the hoists from h on
abbrev pub begins_text : ℕ → List (Option ℕ) → List ℕ
begins_text h [] = []
begins_text h (None ∷ others) = begins_text (h + 1) others
begins_text h (Some tank ∷ others) = begin_front h ++ (decimal tank ++ begins_text (h + 1) others)

-- a letter for each hoist, off, put, and the begins by hoist
abbrev pub tick_text : TickLine → List ℕ
tick_text x =
    flat_map go_word x.go
    ++ (flag_text (codes " off") x.off ++ (flag_text (codes " put") x.put ++ (begins_text 0 x.begin ++ end)))

abbrev pub position_text : ℕ → List ℕ
position_text x = codes " " ++ decimal x

abbrev pub log_text : LogData → List ℕ
log_text log =
    codes "hoist log 1\nat"
    ++ (flat_map position_text log.at ++ (end ++ (flat_map tick_text log.ticks ++ codes "end\n")))

-- the bytes are the text of this log of the line
pub record IsTextOf (l : LineData) (bytes : List ℕ) (log : LogData) : Type 0 where
  pub fits : IsLog l log
  pub text : bytes ≡ log_text log

-- the text of some log of the line begins so
abbrev pub GoesOn : LineData → List ℕ → Type 0
GoesOn l front = fronts.GoesOn (IsLog l) log_text front

-- the bytes are the text of no log of the line, and their longest front that the text of one begins with has n bytes
abbrev pub BreaksAt : LineData → List ℕ → ℕ → Type 0
BreaksAt l bytes n = fronts.BreaksAt (IsLog l) log_text bytes n
