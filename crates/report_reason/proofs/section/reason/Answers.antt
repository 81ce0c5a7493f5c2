use Rattle.std.proofs.Common.{ℕ, List, length, ap, subst, arith}
use Rattle.report_reason.specs.Reason.{IsSectionAt}
use Rattle.report_reason.proofs.Sections.{read_there, section_shown, none_next, none_all, none_shown}
use Rattle.report_reason.proofs.section.reason.Goals as goal

pub section_at-requires-clause-there : goal.section_at-requires-clause-there
section_at-requires-clause-there c =
    (read_there c.args.answer.now.tree c.in_ok-order.order.items c.loop-number.number c.index.result.now
    c.in_ok-order.ensures.valid
    c.in_ok-order.ensures.order (omega (arith, c.loop-number-test.true, c.len-number-end.ensures)) c.index.ensures).2

pub returns-in-Some : goal.returns-in-Some
returns-in-Some c =
    let read =
    read_there c.args.answer.now.tree c.in_ok-order.order.items c.loop-number.number c.index.result.now
    c.in_ok-order.ensures.valid
    c.in_ok-order.ensures.order (omega (arith, c.loop-number-test.true, c.len-number-end.ensures)) c.index.ensures in
    section_shown c.args.line.now c.args.answer.now c.loop-number.number c.index.result.now c.in-Some.section read.0
    read.1 c.loop-number.invariant
    (subst (IsSectionAt c.args.line.now c.args.answer.now c.index.result.now) c.in-Some.is c.in_ok-section.ensures)

pub loop-number-preserved : goal.loop-number-preserved
loop-number-preserved c =
    let read =
    read_there c.args.answer.now.tree c.in_ok-order.order.items c.loop-number.number c.index.result.now
    c.in_ok-order.ensures.valid
    c.in_ok-order.ensures.order (omega (arith, c.loop-number-test.true, c.len-number-end.ensures)) c.index.ensures in
    none_next c.args.line.now c.args.answer.now c.loop-number.number c.index.result.now c.in_ok-order.ensures.valid
    read.1 c.loop-number.invariant
    (subst (IsSectionAt c.args.line.now c.args.answer.now c.index.result.now) c.in_default.is c.in_ok-section.ensures)

pub returns : goal.returns
returns c =
    let size = ap (λ (xs : List ℕ). length xs) c.in_ok-order.ensures.order in
    none_shown c.args.line.now c.args.answer.now c.none_section.result
    (none_all c.args.line.now c.args.answer.now c.loop-number.number
    (omega (arith, size, c.loop-number-test.false, c.len-number-end.ensures))
    c.loop-number.invariant)
    c.none_section.ensures
