-- That a text tells its log.
use Rattle.std.specs.Prelude.{◌≡◌}
use Rattle.hoist_base.specs.LineData.{LineData}
use Rattle.hoist_base.specs.Valid.{IsLine}
use Rattle.track_log.specs.Logs.{LogData, IsLog, log_text}

-- no two logs of a line have the same text
abbrev pub TextsTellLogs : Type 0
TextsTellLogs = (l : LineData) (a b : LogData) → IsLine l → IsLog l a → IsLog l b → log_text a ≡ log_text b → a ≡ b
