use Rattle.std.proofs.Common.{List, sym, subst, ◌∙◌}
use Rattle.choice_tree.specs.declared.question.Decision.{Decision}
use Rattle.path_constraints.specs.Proves.{IsClosedWalk}
use Rattle.report_reason.proofs.Setting.{set_usable}
use Rattle.report_reason.proofs.Sections.{at_node}
use Rattle.report_reason.proofs.section.section_at.Goals as goal

pub setting_walk-requires-clause-fits : goal.setting_walk-requires-clause-fits
setting_walk-requires-clause-fits c =
    (at_node c.args.line.now c.args.answer.now c.args.node c.in_ok-path.path.items c.as_slice.result.now
    c.node.result.now c.in_ok-path.ensures.valid
    c.requires.text c.requires.kept c.requires.there c.in_ok-path.ensures.path c.as_slice.ensures.value
    c.node.ensures.value).0

pub setting_walk-requires-clause-high : goal.setting_walk-requires-clause-high
setting_walk-requires-clause-high c =
    (at_node c.args.line.now c.args.answer.now c.args.node c.in_ok-path.path.items c.as_slice.result.now
    c.node.result.now c.in_ok-path.ensures.valid
    c.requires.text c.requires.kept c.requires.there c.in_ok-path.ensures.path c.as_slice.ensures.value
    c.node.ensures.value).2

pub branch_section-requires-clause-fits : goal.branch_section-requires-clause-fits
branch_section-requires-clause-fits c =
    (at_node c.args.line.now c.args.answer.now c.args.node c.in_ok-path.path.items c.as_slice-in-Some.result.now
    c.node.result.now c.in_ok-path.ensures.valid
    c.requires.text c.requires.kept c.requires.there c.in_ok-path.ensures.path c.as_slice-in-Some.ensures.value
    c.node.ensures.value).0

pub branch_section-requires-clause-closed : goal.branch_section-requires-clause-closed
branch_section-requires-clause-closed c =
    let r =
    at_node c.args.line.now c.args.answer.now c.args.node c.in_ok-path.path.items c.as_slice.result.now
    c.node.result.now c.in_ok-path.ensures.valid
    c.requires.text c.requires.kept c.requires.there c.in_ok-path.ensures.path c.as_slice.ensures.value
    c.node.ensures.value in
    let usable =
    set_usable c.args.line.now c.as_slice.result.now c.args.answer.now.bound c.node.result.now c.in-Some.proof.now r.1
    r.2 (sym c.in-Some.ensures) in
    subst (λ (ds : List Decision). IsClosedWalk c.args.line.now ds c.in-Some.proof.now)
    (c.as_slice.ensures.value ∙ sym c.as_slice-in-Some.ensures.value)
    usable.0

pub branch_section-requires-clause-walk : goal.branch_section-requires-clause-walk
branch_section-requires-clause-walk c =
    let r =
    at_node c.args.line.now c.args.answer.now c.args.node c.in_ok-path.path.items c.as_slice.result.now
    c.node.result.now c.in_ok-path.ensures.valid
    c.requires.text c.requires.kept c.requires.there c.in_ok-path.ensures.path c.as_slice.ensures.value
    c.node.ensures.value in
    (set_usable c.args.line.now c.as_slice.result.now c.args.answer.now.bound c.node.result.now c.in-Some.proof.now r.1
    r.2 (sym c.in-Some.ensures)).1
