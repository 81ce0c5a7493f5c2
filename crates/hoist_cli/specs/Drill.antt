-- The drill of a seed: its line, solved and checked, and a run of its timetable.
use Rattle.std.specs.Prelude.{◌≡◌, ℕ, List, ◌++◌, codes, decimal, length, Option, Some, None}
use Rattle.hoist_base.specs.LineData.{LineData}
use Rattle.timetable.specs.TimetableData.{TimetableData, timetable_of}
use Rattle.line_gen.specs.Generated.{generated}
use Rattle.answer_text.specs.declared.answer.Answer.{Answer}
use Rattle.answer_text.specs.Words.{verdict_text}
use Rattle.startup_rundown.specs.RunLog.{last_tick}
use Rattle.cert_checker.specs.Rules.{KeepsRules}
use Rattle.solve_line.specs.AnswerOf.{IsSolution}
use Rattle.hoist_cli.specs.declared.status.Status.TheVariants.{Done}
use Rattle.hoist_cli.specs.Reading.{Replies}

-- the splits that a drill may spend, and the carriers of its run
abbrev pub drill_budget : ℕ
drill_budget = 400

abbrev pub drill_carriers : ℕ
drill_carriers = 5

abbrev pub period_text : Option TimetableData → List ℕ
period_text None = codes "none"
period_text (Some t) = decimal t.period

-- how many carriers are run, to which tick
abbrev pub played_text : LineData → Option TimetableData → List ℕ
played_text l None = codes "none"
played_text l (Some t) = codes "5 to " ++ decimal (last_tick l (timetable_of t) drill_carriers)

-- the line
abbrev pub made_text : ℕ → LineData → List ℕ
made_text seed l = codes "drill " ++ (decimal seed ++ (codes "\nstages " ++ (decimal (length l.stages) ++ (codes "\nhoists " ++ decimal l.hoists))))

-- the answer to it
abbrev pub found_text : Answer → List ℕ
found_text a =
    codes "\nverdict "
    ++ (verdict_text a.verdict
    ++ (codes "\nbound "
    ++ (decimal a.bound
    ++ (codes "\nsplits "
    ++ (decimal a.splits
    ++ (codes "\nperiod "
    ++ period_text a.timetable))))))

abbrev pub drill_text : ℕ → LineData → Answer → List ℕ
drill_text seed l a = made_text seed l ++ (found_text a ++ (codes "\ncheck accepted\nrun " ++ (played_text l a.timetable ++ codes "\n")))

-- the text for the answer of the search of the seed's line, which keeps the checker's rules
abbrev pub DrillReply : ℕ → Replies
DrillReply seed status text =
    (a : Answer) × IsSolution (generated seed) drill_budget a × KeepsRules (generated seed) a × (status ≡ Done)
    × (text ≡ drill_text seed (generated seed) a)
