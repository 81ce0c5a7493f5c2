-- What the ticks of a hoist are.
use Rattle.std.specs.Prelude.{◌≡◌, ℕ, ◌+◌, ◌<◌, ◌↔◌, IsTrue}
use Rattle.hoist_base.specs.LineData.{LineData}
use Rattle.hoist_base.specs.Valid.{IsLine}
use Rattle.line_model.specs.Timetable.{Timetable}
use Rattle.gantt_report.specs.Chart.{Carries}
use Rattle.report_shares.specs.Ticks.{carries, carrying, driving, standing}

-- the ticks of carrying, of driving without a load and of standing add up to the period
abbrev pub SharesAddUp : Type 0
SharesAddUp = (l : LineData) (p : Timetable) (h : ℕ) → carrying l p h + driving l p h + standing l p h ≡ p.period

-- in every timetable of a line a tick is counted as one of carrying exactly where the hoist carries
abbrev pub CarryingIsTold : Type 0
CarryingIsTold =
    (l : LineData) (p : Timetable) (h t : ℕ) → IsLine l → t < p.period → IsTrue (carries l p h t) ↔ Carries l p h t
