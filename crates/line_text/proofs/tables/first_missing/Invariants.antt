use Rattle.std.proofs.Common.{◌≡◌, drop}
use Rattle.toml.specs.View.{view}
use Rattle.hoist_base.specs.Firsts.{first_some}
use Rattle.line_text.specs.Tables.{missing_why}
use Rattle.line_text.proofs.tables.first_missing.Given as goal

abbrev pub invariant-loop-rule : goal.invariant-loop-rule
invariant-loop-rule l =
    first_some (missing_why l.place (view l.table)) l.rules ≡ first_some (missing_why l.place (view l.table)) (drop l.rule-index l.rules)
