use Rattle.std.proofs.Common.{◌≡◌, map}
use Rattle.std.specs.List.{range_with_len}
use Rattle.timetable.specs.TimetableData.{timetable_of}
use Rattle.markup.specs.Forms.{holding_all}
use Rattle.report_shares.specs.Shares.{hoist_row}
use Rattle.report_shares.proofs.hoists.with_hoists.Given as goal

abbrev pub invariant-loop-h : goal.invariant-loop-h
invariant-loop-h l = l.table ≡ holding_all l.fn.table (map (hoist_row l.line (timetable_of l.t)) (range_with_len 0 l.h))
