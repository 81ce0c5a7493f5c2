use Rattle.std.proofs.Common.{ℕ, Option, List, Result, Ok, ap, ◌∙◌}
use Rattle.std.proofs.lemmas.Result.{err_from_is_err_and}
use Rattle.field_reading.specs.Reading.{◌>>=◌}
use Rattle.track_log.specs.Reading.{at_most, begins_at, tail_at}
use Rattle.track_log.proofs.Tails.{tail_is, fails_as, fails_then}
use Rattle.track_log.proofs.ticks.tail.Goals as goal

pub returns-in_err-rest : goal.returns-in_err-rest
returns-in_err-rest c =
    let l = c.args.line.now in
    let p = err_from_is_err_and c.from_residual-in_err-rest.result c.from_residual-in_err-rest.ensures.1 in
    let whole = tail_is l c.args.bytes.now c.in_ok-off.rest.now c.in_ok-put.rest.now c.in_ok-off.left c.in_ok-put.left
    c.in_ok-off.off c.in_ok-put.put c.requires
    c.in_ok-off.ensures.flag c.in_ok-put.ensures.flag in
    let read = at_most c.in_ok-put.left (begins_at l 0 l.hoists c.in_ok-put.rest.now) in
    rw (p.1, p.2) (fails_as c.in_err-rest.field-0.0 (tail_at l c.args.bytes.now) (read >>= λ x. Ok ((c.in_ok-off.off, (c.in_ok-put.put, x.0)), x.1)) whole
    (fails_then c.in_err-rest.field-0.0 read (λ x. Ok ((c.in_ok-off.off, (c.in_ok-put.put, x.0)), x.1)) c.in_err-rest.ensures))

pub returns : goal.returns
returns c =
    let l = c.args.line.now in
    tail_is l c.args.bytes.now c.in_ok-off.rest.now c.in_ok-put.rest.now c.in_ok-off.left c.in_ok-put.left c.in_ok-off.off c.in_ok-put.put c.requires
    c.in_ok-off.ensures.flag c.in_ok-put.ensures.flag
    ∙ ap (λ (r : Result (List (Option ℕ) × List ℕ) ℕ). r >>= λ x. Ok ((c.in_ok-off.off, (c.in_ok-put.put, x.0)), x.1)) c.in_ok-rest.ensures
