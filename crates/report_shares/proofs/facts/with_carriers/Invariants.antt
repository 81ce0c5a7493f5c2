use Rattle.std.proofs.Common.{◌≡◌, map}
use Rattle.std.specs.List.{range_with_len}
use Rattle.timetable.specs.TimetableData.{timetable_of}
use Rattle.markup.specs.Forms.{holding_all}
use Rattle.report_shares.specs.Numbers.{carrier_fact}
use Rattle.report_shares.proofs.facts.with_carriers.Given as goal

abbrev pub invariant-loop-c : goal.invariant-loop-c
invariant-loop-c l = l.table ≡ holding_all l.fn.table
    (map (carrier_fact l.line (timetable_of l.t)) (range_with_len 0 l.c))
