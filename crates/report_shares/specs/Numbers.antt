-- The numbers of an answer, as a section of a report.
use Rattle.std.specs.Prelude.{ℕ, ◌-◌, List, ◌++◌, codes, decimal, map}
use Rattle.std.specs.List.{range_with_len}
use Rattle.hoist_base.specs.LineData.{LineData, last_stage}
use Rattle.line_model.specs.Timetable.{Timetable}
use Rattle.timetable.specs.Faults.{arrival, departure}
use Rattle.answer_text.specs.declared.answer.Answer.{Answer}
use Rattle.answer_text.specs.declared.answer.Verdict.{Verdict}
use Rattle.answer_text.specs.declared.answer.Verdict.TheVariants.{Optimal, Nothing, Unfinished}
use Rattle.answer_text.specs.Words.{verdict_text}
use Rattle.markup.specs.declared.words.Tag.TheVariants as tags
use Rattle.markup.specs.Forms.{Form, fresh, holding, holding_all}
use Rattle.report_dwells.specs.Cells.{section, heading, cell, number_cell}
use Rattle.report_shares.specs.Figures.{rate_words}

-- a name and the words that belong to it
abbrev pub fact : List ℕ → List ℕ → Form
fact name words = holding (holding (fresh tags.Row) (heading name)) (cell words)

-- a name and its number
abbrev pub number_fact : List ℕ → ℕ → Form
number_fact name n = holding (holding (fresh tags.Row) (heading name)) (number_cell n)

-- a table with a name and its words behind what it has
abbrev pub with_fact : Form → List ℕ → List ℕ → Form
with_fact table name words = holding table (fact name words)

-- a table with a name and its number behind what it has
abbrev pub with_number : Form → List ℕ → ℕ → Form
with_number table name n = holding table (number_fact name n)

-- the ticks of a carrier in the line: from when it is lifted at the load until it rests at the unload
abbrev pub line_time : LineData → Timetable → ℕ → ℕ
line_time l p c = arrival l p c (last_stage l) - departure l p c 0

abbrev pub carrier_words : ℕ → List ℕ
carrier_words c = codes "ticks of carrier " ++ (decimal c ++ codes " in the line")

abbrev pub carrier_fact : LineData → Timetable → ℕ → Form
carrier_fact l p c = number_fact (carrier_words c) (line_time l p c)

-- the period is known to be the least, or how many ticks it is above what is known of the least
abbrev pub gap_words : Verdict → ℕ → ℕ → List ℕ
gap_words Optimal period bound = codes "optimal"
gap_words Nothing period bound = codes "open: gap " ++ decimal (period - bound)
gap_words Unfinished period bound = codes "open: gap " ++ decimal (period - bound)

-- a table with the period, the carriers of a period and those of 1000 ticks behind what it has
abbrev pub with_period : Form → ℕ → ℕ → Form
with_period table degree period =
    with_fact
    (with_number (with_number table (codes "period") period) (codes "carriers in a period") degree)
    (codes "carriers in 1000 ticks")
    (rate_words degree period)

-- a table with the time of each carrier in the line behind what it has
abbrev pub with_carriers : Form → LineData → Timetable → Form
with_carriers table l p = holding_all table (map (carrier_fact l p) (range_with_len 0 l.degree))

-- a table with the verdict, the bound, the questions and what is open behind what it has
abbrev pub with_verdict : Form → Answer → ℕ → Form
with_verdict table a period =
    with_fact
    (with_number
    (with_number (with_fact table (codes "verdict") (verdict_text a.verdict)) (codes "bound") a.bound)
    (codes "questions")
    a.splits)
    (codes "result")
    (gap_words a.verdict period a.bound)

abbrev pub table : LineData → Answer → Timetable → Form
table l a p = with_verdict (with_carriers (with_period (fresh tags.Table) l.degree p.period) l p) a p.period

-- the numbers of an answer and its timetable, in ticks
abbrev pub numbers : LineData → Answer → Timetable → Form
numbers l a p = holding (section (codes "numbers") (codes "Numbers")) (table l a p)
