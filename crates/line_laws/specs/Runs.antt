-- Runs of legal timetables.
use Rattle.std.specs.Prelude.{ℕ}
use Rattle.hoist_base.specs.LineData.{LineData}
use Rattle.hoist_base.specs.Valid.{IsLine}
use Rattle.line_model.specs.Timetable.{Timetable}
use Rattle.line_model.specs.Legal.{IsLegal}
use Rattle.line_model.specs.Run.{KeepsWindows}

abbrev pub RunsKeepWindows : Type 0
RunsKeepWindows = (l : LineData) (p : Timetable) (carriers : ℕ) → IsLine l → IsLegal l p → KeepsWindows l p carriers
