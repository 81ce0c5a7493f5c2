-- The text of a run: how many carriers it has, its first and its last tick, and what happens to them, a line an event.
use Rattle.std.specs.Prelude.{ℕ, List, ◌++◌, codes, decimal, flat_map}
use Rattle.hoist_base.specs.LineData.{LineData}
use Rattle.line_model.specs.Timetable.{Timetable}
use Rattle.tick_machine.specs.declared.event.What.{What}
use Rattle.tick_machine.specs.declared.event.What.TheVariants.{Set, Off, Put, Begin}
use Rattle.tick_machine.specs.declared.event.Event.{Event}
use Rattle.text_writing.specs.Texts.{end, pair_text}
use Rattle.startup_rundown.specs.RunLog.{first_tick, last_tick, run_log}

-- what happens, and to which carrier
abbrev pub what_text : What → List ℕ
what_text (Set c k) = codes " set " ++ pair_text c k
what_text (Off c) = codes " off " ++ decimal c
what_text (Put c) = codes " put " ++ decimal c
what_text (Begin c k h) = codes " begin " ++ (pair_text c k ++ (codes " hoist " ++ decimal h))

abbrev pub event_line : Event → List ℕ
event_line e = decimal e.tick ++ (what_text e.what ++ end)

-- the run of the first n carriers, from its first put to its last off, with its log in order; at the end the line is
-- empty
abbrev pub run_text : LineData → Timetable → ℕ → List ℕ
run_text l p n =
    codes "run "
    ++ (decimal n
    ++ (codes "\nfrom "
    ++ (decimal (first_tick l p)
    ++ (codes " to "
    ++ (decimal (last_tick l p n)
    ++ (codes "\n"
    ++ (flat_map event_line (run_log l p n)
    ++ codes "empty\n")))))))
