use Rattle.std.proofs.Common.{◌≡◌, false}
use Rattle.std.specs.List.{list_any, range_with_len}
use Rattle.timetable.specs.TimetableData.{timetable_of}
use Rattle.report_shares.specs.Ticks.{carries_at}
use Rattle.report_shares.proofs.ticks.carries.Given as goal

abbrev pub invariant-loop-i : goal.invariant-loop-i
invariant-loop-i l = list_any (carries_at l.line (timetable_of l.t) l.h l.tick) (range_with_len 0 l.i) ≡ false
