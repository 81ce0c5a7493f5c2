use Rattle.std.proofs.Common.{length, sym, arith}
use Rattle.std.proofs.lemmas.Bool.{eqb-true, eqb-false}
use Rattle.track_log.specs.Reading.{log_at}
use Rattle.track_log.proofs.Begins.{broken_is}
use Rattle.track_log.proofs.Finish.{text_found, text_only, more_found, no_more, break_found, never_broken}
use Rattle.track_log.proofs.followed.follow.Goals as goal

pub returns-then-is_empty-clause-found : goal.returns-then-is_empty-clause-found
returns-then-is_empty-clause-found c =
    text_found c.args.line.now c.args.bytes.now c.in-Ok.rest.now c.in-Ok.followed c.walk.ensures.valid c.in-Ok.ensures.read
    (eqb-true (length c.in-Ok.rest.now) 0 (sym c.if-is_empty.ensures))

pub returns-then-is_empty-clause-only : goal.returns-then-is_empty-clause-only
returns-then-is_empty-clause-only c = λ log h.
    text_only c.args.line.now c.args.bytes.now c.in-Ok.rest.now c.in-Ok.followed log c.walk.ensures.valid c.in-Ok.ensures.read h

pub returns-else-is_empty-clause-found : goal.returns-else-is_empty-clause-found
returns-else-is_empty-clause-found c =
    let ne = eqb-false (length c.in-Ok.rest.now) 0 (sym c.if-is_empty.ensures) in
    rw c.saturating_sub.ensures (more_found c.args.line.now c.args.bytes.now c.in-Ok.rest.now c.in-Ok.followed c.walk.ensures.valid c.in-Ok.ensures.read
    (omega (arith, ne)))

pub returns-else-is_empty-clause-only : goal.returns-else-is_empty-clause-only
returns-else-is_empty-clause-only c = λ log h.
    absurd (eqb-false (length c.in-Ok.rest.now) 0 (sym c.if-is_empty.ensures)
    (no_more c.args.line.now c.args.bytes.now c.in-Ok.rest.now c.in-Ok.followed log c.walk.ensures.valid c.in-Ok.ensures.read h))

pub returns-in-Err-Broken-clause-found : goal.returns-in-Err-Broken-clause-found
returns-in-Err-Broken-clause-found c =
    rw c.saturating_sub-in-Err-Broken.ensures (break_found c.args.line.now c.args.bytes.now c.in-Err-Broken.left c.walk.ensures.valid
    (broken_is c.in-Err-Broken.field-0 c.in-Err-Broken.left (log_at c.args.line.now c.args.bytes.now)
    c.in-Err-Broken.field-0-is c.in-Err-Broken.ensures.broken))

pub returns-in-Err-Broken-clause-only : goal.returns-in-Err-Broken-clause-only
returns-in-Err-Broken-clause-only c = λ log h.
    never_broken c.args.line.now c.args.bytes.now c.in-Err-Broken.left log c.walk.ensures.valid
    (broken_is c.in-Err-Broken.field-0 c.in-Err-Broken.left (log_at c.args.line.now c.args.bytes.now)
    c.in-Err-Broken.field-0-is c.in-Err-Broken.ensures.broken) h
