use Rattle.std.proofs.Common.{◌≡◌, map, take}
use Rattle.markup.specs.Forms.{holding_all}
use Rattle.walk_words.specs.Walks.{step_row}
use Rattle.walk_words.proofs.table.with_steps.Given as goal

-- the constraints so far have their rows
abbrev pub invariant-loop-name : goal.invariant-loop-name
invariant-loop-name l = l.table ≡ holding_all l.fn.table (map (step_row l.line l.path) (take l.name-index l.walk))
