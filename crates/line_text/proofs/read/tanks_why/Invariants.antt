use Rattle.std.proofs.Common.{◌≡◌, length, map}
use Rattle.toml.specs.View.{view}
use Rattle.hoist_base.specs.Firsts.{first_some, numbers_from}
use Rattle.line_text.specs.File.{tank_why}
use Rattle.line_text.proofs.read.tanks_why.Given as goal

abbrev pub invariant-loop-i : goal.invariant-loop-i
invariant-loop-i l =
    first_some (tank_why l.track (map view l.tanks)) (numbers_from 0 (length l.tanks))
    ≡ first_some (tank_why l.track (map view l.tanks)) (numbers_from l.i (length l.tanks))
