-- The lines of the timetable.
use Rattle.std.specs.Prelude.{ℕ, ◌==◌, List, [], ◌++◌, codes, decimal, length, flat_map, if◌then◌else◌, nat_lt, Option, Some, None}
use Rattle.std.specs.List.{range_with_len, position_or_len}
use Rattle.hoist_base.specs.LineData.{LineData, stage, last_stage}
use Rattle.line_model.specs.Timetable.{Timetable}
use Rattle.timetable.specs.TimetableData.{TimetableData, timetable_of}
use Rattle.text_writing.specs.Texts.{end, pair_text}

abbrev pub carrier_line : Timetable → ℕ → List ℕ
carrier_line p c = codes "carrier " ++ (decimal c ++ (codes " put " ++ (decimal (p.put c) ++ (codes " off " ++ (decimal (p.off c) ++ end)))))

-- the place of a tank in the list of a stage
abbrev pub choice_number : LineData → ℕ → ℕ → ℕ
choice_number l k i = position_or_len (λ j. j == i) (stage l k).tanks

-- the tank that a carrier uses, where the stage has several
abbrev pub choice_line : LineData → Timetable → ℕ → ℕ → List ℕ
choice_line l p c k =
    if nat_lt 1 (length (stage l k).tanks)
    then codes "choice " ++ (pair_text c k ++ (codes " " ++ (decimal (choice_number l k (p.tank c k)) ++ end)))
    else []

abbrev pub move_line : Timetable → ℕ → ℕ → List ℕ
move_line p c k = codes "move " ++ (pair_text c k ++ (codes " start " ++ (decimal (p.start c k) ++ (codes " hoist " ++ (decimal (p.hoist c k) ++ end)))))

-- the positions of a hoist, tick by tick
abbrev pub path_line : Timetable → ℕ → List ℕ
path_line p h = codes "path " ++ (decimal h ++ (flat_map (λ t. codes " " ++ decimal (p.path h t)) (range_with_len 0 p.period) ++ end))

-- for the first numbers, one after another
abbrev pub each_below : ℕ → (ℕ → List ℕ) → List ℕ
each_below count line = flat_map line (range_with_len 0 count)

abbrev pub table_text : LineData → Timetable → List ℕ
table_text l p =
    decimal p.period
    ++ (end
    ++ (each_below l.degree (carrier_line p)
    ++ (each_below l.degree (λ c. each_below (length l.stages) (choice_line l p c))
    ++ (each_below l.degree (λ c. each_below (last_stage l) (move_line p c))
    ++ each_below l.hoists (path_line p)))))

abbrev pub timetable_text : LineData → Option TimetableData → List ℕ
timetable_text l None = codes "none\n"
timetable_text l (Some d) = table_text l (timetable_of d)
