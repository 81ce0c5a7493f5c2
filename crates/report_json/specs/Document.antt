-- The document of an answer: which value stands for each part of the line, of the answer and of its timetable. The
-- members of an object stand in the order of their names' bytes.
use Rattle.std.specs.Prelude.{ℕ, ◌+◌, ◌-◌, List, ◌++◌, codes, length, get_or, map, Option, Some, None}
use Rattle.std.specs.List.{range_with_len}
use Rattle.hoist_base.specs.LineData.{LineData, stage, tank, position_of, move_at, move_count}
use Rattle.line_model.specs.Motion.{duration}
use Rattle.line_model.specs.Timetable.{Timetable, motion}
use Rattle.timetable.specs.Faults.{arrival, departure, least_dwell}
use Rattle.answer_text.specs.Words.{verdict_text}
use Rattle.answer_text.specs.declared.answer.Answer.{Answer}
use Rattle.serde_json.specs.Data.{Data, null, number, string, array, object, unsigned, member, no_members}
use Rattle.serde_json.specs.View.{items_of}
use Rattle.serde_json.specs.Written.{compact_text}

-- a number
abbrev pub count : ℕ → Data
count n = number (unsigned n)

-- a number, or null where there is none
abbrev pub count_or_null : Option ℕ → Data
count_or_null None = null
count_or_null (Some n) = count n

-- the values of the first n numbers, in their order
abbrev pub listed : (ℕ → Data) → ℕ → Data
listed value n = array (items_of (map value (range_with_len 0 n)))

-- ---- the line

-- a tank: its position, and its name
unfoldable pub tank_value : LineData → ℕ → Data
tank_value l i = object (member (codes "at") (count (position_of l i)) (member (codes "name") (string (tank l i).name) no_members))

-- a stage, with the numbers of its tanks
unfoldable pub stage_value : LineData → ℕ → Data
stage_value l k =
    object
    (member (codes "lift") (count (stage l k).lift)
    (member (codes "lower") (count (stage l k).lower)
    (member (codes "max") (count_or_null (stage l k).max)
    (member (codes "min") (count (stage l k).min)
    (member (codes "tanks") (listed (λ j. count (get_or (stage l k).tanks j 0)) (length (stage l k).tanks)) no_members)))))

-- the line, as its file has it
unfoldable pub line_value : LineData → Data
line_value l =
    object
    (member (codes "degree") (count l.degree)
    (member (codes "gap") (count l.gap)
    (member (codes "hoists") (count l.hoists)
    (member (codes "load") (count l.load)
    (member (codes "max_period") (count l.max_period)
    (member (codes "stages") (listed (stage_value l) (length l.stages))
    (member (codes "tanks") (listed (tank_value l) (length l.tanks))
    (member (codes "track") (count l.track)
    (member (codes "unload") (count l.unload) no_members)))))))))

-- ---- the timetable

-- a stay: the ticks at which the carrier begins and ends its rest in its tank, the ticks between, and the window of the
-- stage
unfoldable pub stay_value : LineData → Timetable → ℕ → ℕ → Data
stay_value l p c k =
    object
    (member (codes "begin") (count (arrival l p c k))
    (member (codes "dwell") (count (departure l p c k - arrival l p c k))
    (member (codes "end") (count (departure l p c k))
    (member (codes "max") (count_or_null (stage l k).max)
    (member (codes "min") (count (least_dwell l k))
    (member (codes "stage") (count k)
    (member (codes "tank") (count (p.tank c k)) no_members)))))))

-- a carrier, with its stays by stage
unfoldable pub carrier_value : LineData → Timetable → ℕ → Data
carrier_value l p c =
    object
    (member (codes "carrier") (count c)
    (member (codes "off") (count (p.off c))
    (member (codes "put") (count (p.put c))
    (member (codes "stays") (listed (stay_value l p c) (length l.stages)) no_members))))

-- a move: its hoist, and the ticks at which it starts and ends
unfoldable pub move_value : LineData → Timetable → ℕ → ℕ → Data
move_value l p c k =
    object
    (member (codes "carrier") (count c)
    (member (codes "end") (count (p.start c k + duration (motion l p c k)))
    (member (codes "hoist") (count (p.hoist c k))
    (member (codes "start") (count (p.start c k))
    (member (codes "step") (count k) no_members)))))

-- a hoist, with its position at each tick of the period
unfoldable pub hoist_value : Timetable → ℕ → Data
hoist_value p h =
    object (member (codes "hoist") (count h) (member (codes "positions") (listed (λ t. count (p.path h t)) p.period) no_members))

-- ---- the whole

unfoldable pub document : LineData → Answer → Timetable → Data
document l a p =
    object
    (member (codes "bound") (count a.bound)
    (member (codes "carriers") (listed (carrier_value l p) l.degree)
    (member (codes "hoists") (listed (hoist_value p) l.hoists)
    (member (codes "line") (line_value l)
    (member (codes "moves") (listed (λ i. move_value l p (move_at l i).carrier (move_at l i).step) (move_count l))
    (member (codes "period") (count p.period)
    (member (codes "verdict") (string (verdict_text a.verdict))
    (member (codes "version") (count 1) no_members))))))))

-- the document's one text, without blanks, as one line
abbrev pub json_text : LineData → Answer → Timetable → List ℕ
json_text l a p = compact_text (document l a p) ++ codes "\n"
