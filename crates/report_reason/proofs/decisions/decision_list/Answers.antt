use Rattle.std.proofs.Common.{codes, ap, ◌∙◌}
use Rattle.markup.specs.declared.words.Key.TheVariants as keys
use Rattle.markup.specs.Forms.{having}
use Rattle.path_constraints.specs.Tanks.{no_decision}
use Rattle.report_reason.specs.Decisions.{decision_item}
use Rattle.report_reason.proofs.Paths.{holds_start, holds_next}
use Rattle.report_reason.proofs.decisions.decision_list.Goals as goal

pub loop-i-init : goal.loop-i-init
loop-i-init c =
    (c.in_ok-list.ensures ∙ ap (λ x. having x keys.Class (codes "choices")) c.new.ensures)
    ∙ holds_start _ (decision_item c.args.line.now c.args.path.now) c.args.path.now

pub loop-i-preserved : goal.loop-i-preserved
loop-i-preserved c =
    holds_next _ c.loop-i.list c.in_ok-list-2.list c.in_ok-item.item
    (decision_item c.args.line.now c.args.path.now) c.args.path.now c.loop-i.i
    no_decision c.loop-i-test.true c.loop-i.invariant c.in_ok-item.ensures c.in_ok-list-2.ensures
