use Rattle.std.proofs.Common.{take, map}
use Rattle.toml.specs.View.{view}
use Rattle.line_text.specs.File.{tank_of}
use Rattle.line_text.specs.Names.{IsNumbering}
use Rattle.line_text.proofs.parts.numbers_of.Given as goal

abbrev pub invariant-loop-i : goal.invariant-loop-i
invariant-loop-i l = IsNumbering l.numbers (map tank_of (map view (take l.i l.tables)))
