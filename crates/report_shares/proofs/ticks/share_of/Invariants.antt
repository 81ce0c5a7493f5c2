use Rattle.std.proofs.Common.{◌≡◌, ◌+◌}
use Rattle.std.specs.List.{count_by, range_with_len}
use Rattle.timetable.specs.TimetableData.{timetable_of}
use Rattle.report_shares.specs.Ticks.{carries, drives, stands}
use Rattle.report_shares.proofs.ticks.share_of.Given as goal

abbrev pub invariant-loop-tick : goal.invariant-loop-tick
invariant-loop-tick l =
    (l.share.carrying ≡ count_by (carries l.line (timetable_of l.t) l.h) (range_with_len 0 l.tick))
    × (l.share.driving ≡ count_by (drives l.line (timetable_of l.t) l.h) (range_with_len 0 l.tick))
    × (l.share.standing ≡ count_by (stands l.line (timetable_of l.t) l.h) (range_with_len 0 l.tick))
    × (l.share.carrying + l.share.driving + l.share.standing ≡ l.tick)
