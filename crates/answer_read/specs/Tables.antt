-- How the lines of the timetable are read.
use Rattle.std.specs.Prelude.{ℕ, ◌-◌, List, length, codes, decimal, get_or, map, Option, Some, None, Result, Ok, nat_lt, if◌then◌else◌}
use Rattle.std.specs.List.{concat}
use Rattle.hoist_base.specs.declared.ids.VisitId.{VisitId}
use Rattle.hoist_base.specs.LineData.{LineData, stage, last_stage, move_count, visit_count, visit_at}
use Rattle.hoist_base.specs.LineData as numbered
use Rattle.timetable.specs.TimetableData.{TimetableData, last_tick}
use Rattle.answer_text.specs.Limits.{most_period, most_position}
use Rattle.field_reading.specs.Reading.{◌>>=◌, word_at, known_pair_at, number_at, begins, both_at, ended, items_at}

-- items of two numbers each, as two lists
abbrev pub unzipped : Result (List (ℕ × ℕ) × List ℕ) ℕ → Result ((List ℕ × List ℕ) × List ℕ) ℕ
unzipped r = r >>= λ x. Ok ((map (λ (p : ℕ × ℕ). p.0) x.0, map (λ (p : ℕ × ℕ). p.1) x.0), x.1)

-- items that are lists, as one list
abbrev pub joined : Result (List (List ℕ) × List ℕ) ℕ → Result (List ℕ × List ℕ) ℕ
joined r = r >>= λ x. Ok (concat x.0, x.1)

-- when carrier c is put on and taken off
unfoldable pub carrier_at : ℕ → List ℕ → Result ((ℕ × ℕ) × List ℕ) ℕ
carrier_at c bytes = do
  a ← word_at (codes "carrier ") bytes
  b ← word_at (decimal c) a
  d ← word_at (codes " put ") b
  ended (both_at (number_at 0 last_tick) (codes " off ") (number_at 0 last_tick) d)

unfoldable pub carriers_at : ℕ → List ℕ → Result ((List ℕ × List ℕ) × List ℕ) ℕ
carriers_at count bytes = unzipped (items_at carrier_at 0 count bytes)

-- the tank of a visit to a stage that has several
unfoldable pub chosen_at : LineData → VisitId → List ℕ → Result (ℕ × List ℕ) ℕ
chosen_at l v bytes = do
  a ← word_at (codes "choice ") bytes
  b ← known_pair_at v.carrier v.stage a
  d ← word_at (codes " ") b
  x ← ended (number_at 0 (length (stage l v.stage).tanks - 1) d)
  Ok (get_or (stage l v.stage).tanks x.0 0, x.1)

-- the tank of the visit with this number: nothing is written of a stage with one tank
unfoldable pub choice_at : LineData → ℕ → List ℕ → Result (ℕ × List ℕ) ℕ
choice_at l i bytes =
    if nat_lt 1 (length (stage l (visit_at l i).stage).tanks)
    then chosen_at l (visit_at l i) bytes
    else Ok (get_or (stage l (visit_at l i).stage).tanks 0 0, bytes)

unfoldable pub choices_at : LineData → List ℕ → Result (List ℕ × List ℕ) ℕ
choices_at l bytes = items_at (choice_at l) 0 (visit_count l) bytes

-- when the move with this number starts, and its hoist
unfoldable pub move_at : LineData → ℕ → List ℕ → Result ((ℕ × ℕ) × List ℕ) ℕ
move_at l i bytes = do
  a ← word_at (codes "move ") bytes
  b ← known_pair_at (numbered.move_at l i).carrier (numbered.move_at l i).step a
  d ← word_at (codes " start ") b
  ended (both_at (number_at 0 last_tick) (codes " hoist ") (number_at 0 (l.hoists - 1)) d)

unfoldable pub moves_at : LineData → List ℕ → Result ((List ℕ × List ℕ) × List ℕ) ℕ
moves_at l bytes = unzipped (items_at (move_at l) 0 (move_count l) bytes)

unfoldable pub position_at : List ℕ → Result (ℕ × List ℕ) ℕ
position_at bytes = do
  a ← word_at (codes " ") bytes
  number_at 0 most_position a

-- the positions of hoist h
unfoldable pub path_at : ℕ → ℕ → List ℕ → Result (List ℕ × List ℕ) ℕ
path_at period h bytes = do
  a ← word_at (codes "path ") bytes
  b ← word_at (decimal h) a
  ended (items_at (λ t. position_at) 0 period b)

unfoldable pub paths_at : ℕ → ℕ → List ℕ → Result (List ℕ × List ℕ) ℕ
paths_at hoists period bytes = joined (items_at (path_at period) 0 hoists bytes)

-- the timetable of what was read
abbrev pub table_of : LineData → ℕ → List ℕ × List ℕ → List ℕ → List ℕ × List ℕ → List ℕ → TimetableData
table_of l period carriers tanks moves paths = record {
  period = period;
  steps = last_stage l;
  put = carriers.0;
  off = carriers.1;
  start = moves.0;
  hoist = moves.1;
  path = paths;
  tank = tanks;
}

unfoldable pub table_at : LineData → List ℕ → Result (TimetableData × List ℕ) ℕ
table_at l bytes = do
  period ← ended (number_at 1 most_period bytes)
  carriers ← carriers_at l.degree period.1
  tanks ← choices_at l carriers.1
  moves ← moves_at l tanks.1
  paths ← paths_at l.hoists period.0 moves.1
  Ok (table_of l period.0 carriers.0 tanks.0 moves.0 paths.0, paths.1)

-- the word none, or a timetable
unfoldable pub timetable_at : LineData → List ℕ → Result (Option TimetableData × List ℕ) ℕ
timetable_at l bytes =
    if begins 110 bytes
    then (word_at (codes "none\n") bytes >>= λ rest. Ok (None, rest))
    else (table_at l bytes >>= λ x. Ok (Some x.0, x.1))
