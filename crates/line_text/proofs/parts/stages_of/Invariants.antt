use Rattle.std.proofs.Common.{◌≡◌, List, length, take, map}
use Rattle.toml.specs.View.{view}
use Rattle.hoist_base.specs.declared.tank.Tank.{Tank}
use Rattle.line_text.specs.File.{stage_of}
use Rattle.line_text.specs.Names.{IsNumbering}
use Rattle.line_text.proofs.parts.stages_of.Given as goal

abbrev pub invariant-loop-table : goal.invariant-loop-table
invariant-loop-table l = (tanks : List Tank) → IsNumbering l.numbers tanks → l.count ≡ length tanks
    → l.stages.items ≡ map (stage_of tanks) (map view (take l.table-index l.tables))
