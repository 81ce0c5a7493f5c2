use Rattle.timetable.specs.TimetableData.{timetable_of}
use Rattle.gantt_report.proofs.Cells.{AreDrawn}
use Rattle.gantt_report.proofs.drawing.draw_hoists.Given as goal

abbrev pub invariant-loop-h : goal.invariant-loop-h
invariant-loop-h l = AreDrawn l.line (timetable_of l.t) l.tick l.h l.row.items
