use Rattle.std.proofs.Common.{rules}
use Rattle.choice_tree.specs.declared.constraint.Constraint.TheVariants.{Min}
use Rattle.walk_words.specs.Walks.{step_row}
use Rattle.walk_words.proofs.Texts.{holds_none, holds_more}
use Rattle.walk_words.proofs.table.with_steps.Goals as goal

pub loop-name-init : goal.loop-name-init
loop-name-init c = holds_none c.args.table (step_row c.args.line.now c.args.path.now) c.args.walk.now

pub loop-name-preserved : goal.loop-name-preserved
loop-name-preserved c =
    holds_more c.args.table c.loop-name.table c.in_ok-table.table c.in_ok-step.step
    (step_row c.args.line.now c.args.path.now)
    c.args.walk.now c.loop-name.name-index (Min 0 0) (search rules) c.loop-name.invariant
    (search rules) c.in_ok-table.ensures
