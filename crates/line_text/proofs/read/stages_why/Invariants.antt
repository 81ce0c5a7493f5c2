use Rattle.std.proofs.Common.{◌≡◌, length, map}
use Rattle.toml.specs.View.{view}
use Rattle.hoist_base.specs.Firsts.{first_some, numbers_from}
use Rattle.line_text.specs.File.{stage_why}
use Rattle.line_text.proofs.read.stages_why.Given as goal

abbrev pub invariant-loop-k : goal.invariant-loop-k
invariant-loop-k l =
    first_some (stage_why l.version (map view l.stages)) (numbers_from 0 (length l.stages))
    ≡ first_some (stage_why l.version (map view l.stages)) (numbers_from l.k (length l.stages))
