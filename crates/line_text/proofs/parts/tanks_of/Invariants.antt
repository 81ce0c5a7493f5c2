use Rattle.std.proofs.Common.{◌≡◌, take, map}
use Rattle.toml.specs.View.{view}
use Rattle.line_text.specs.File.{tank_of}
use Rattle.line_text.proofs.parts.tanks_of.Given as goal

abbrev pub invariant-loop-table : goal.invariant-loop-table
invariant-loop-table l = l.tanks.items ≡ map tank_of (map view (take l.table-index l.tables))
