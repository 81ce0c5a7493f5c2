use Rattle.std.proofs.Common.{length, sym, ap, arith}
use Rattle.std.proofs.lemmas.Bool.{eqb-true, eqb-false}
use Rattle.answer_text.specs.declared.answer.Answer.{Answer}
use Rattle.answer_read.specs.declared.answer.AnswerRead.TheVariants.{Ready}
use Rattle.answer_read.specs.Parts.{answer_at}
use Rattle.answer_read.proofs.Whole.{text_found, more_found, break_found, same_read, never_broken, broken_is}
use Rattle.answer_read.proofs.answer.read_answer.Goals as goal

pub returns-then-is_empty-clause-found : goal.returns-then-is_empty-clause-found
returns-then-is_empty-clause-found c =
    text_found c.args.line.now c.args.bytes.now c.in-Ok.rest.now c.in-Ok.answer c.single-single.ensures.valid c.requires c.in-Ok.ensures
    (eqb-true (length c.in-Ok.rest.now) 0 (sym c.if-is_empty.ensures))

pub returns-then-is_empty-clause-only : goal.returns-then-is_empty-clause-only
returns-then-is_empty-clause-only c =
    λ a h. ap (λ (x : Answer). Ready x) (same_read c.args.line.now c.args.bytes.now c.in-Ok.rest.now c.in-Ok.answer a c.single-single.ensures.valid
    c.in-Ok.ensures h).0

pub returns-else-is_empty-clause-found : goal.returns-else-is_empty-clause-found
returns-else-is_empty-clause-found c =
    let ne = eqb-false (length c.in-Ok.rest.now) 0 (sym c.if-is_empty.ensures) in
    rw c.saturating_sub.ensures (more_found c.args.line.now c.args.bytes.now c.in-Ok.rest.now c.in-Ok.answer c.single-single.ensures.valid c.requires
    c.in-Ok.ensures (omega (arith, ne)))

pub returns-else-is_empty-clause-only : goal.returns-else-is_empty-clause-only
returns-else-is_empty-clause-only c = λ a h.
    absurd (eqb-false (length c.in-Ok.rest.now) 0 (sym c.if-is_empty.ensures)
    (same_read c.args.line.now c.args.bytes.now c.in-Ok.rest.now c.in-Ok.answer a c.single-single.ensures.valid c.in-Ok.ensures h).1)

pub returns-in-Err-Broken-clause-found : goal.returns-in-Err-Broken-clause-found
returns-in-Err-Broken-clause-found c =
    rw c.saturating_sub-in-Err-Broken.ensures (break_found c.args.line.now c.args.bytes.now c.in-Err-Broken.left c.single-single.ensures.valid c.requires
    (broken_is c.in-Err-Broken.field-0 c.in-Err-Broken.left (answer_at c.args.line.now c.args.bytes.now) c.in-Err-Broken.field-0-is c.in-Err-Broken.ensures))

pub returns-in-Err-Broken-clause-only : goal.returns-in-Err-Broken-clause-only
returns-in-Err-Broken-clause-only c = λ a h.
    absurd (never_broken c.args.line.now c.args.bytes.now c.in-Err-Broken.left a c.single-single.ensures.valid
    (broken_is c.in-Err-Broken.field-0 c.in-Err-Broken.left (answer_at c.args.line.now c.args.bytes.now) c.in-Err-Broken.field-0-is c.in-Err-Broken.ensures) h)
