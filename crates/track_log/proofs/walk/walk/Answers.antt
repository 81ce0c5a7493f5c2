use Rattle.std.proofs.Common.{◌≡◌, ◌≤◌, ℕ, List, All, Ok, length, sym, ap, subst, ◌∙◌}
use Rattle.std.proofs.lemmas.Result.{err_from_is_err_and}
use Rattle.field_reading.specs.Gives.{Fails}
use Rattle.track_log.specs.Logs.{most_ticks, most_position}
use Rattle.track_log.specs.Reading.{lines_at, log_at, places_at}
use Rattle.track_log.specs.Following.{IsPlayedOut, IsReadOut}
use Rattle.track_log.proofs.Finish.{if_ok, if_err, word_fails, places_fail, lines_fail, rest_fails, played_out, first_departs}
use Rattle.track_log.proofs.Spaced.{places_fit}
use Rattle.track_log.proofs.walk.walk.Goals as goal

pub returns-in_err-rest-clause-broken : goal.returns-in_err-rest-clause-broken
returns-in_err-rest-clause-broken c =
    let p = err_from_is_err_and c.from_residual.result c.from_residual.ensures.1 in
    rw (p.1, p.2) (word_fails c.args.line.now c.args.bytes.now c.in_err-rest.field-0.0 c.in_err-rest.ensures)

pub returns-in_err-at-clause-broken : goal.returns-in_err-at-clause-broken
returns-in_err-at-clause-broken c =
    let p = err_from_is_err_and c.from_residual-in_err-at.result c.from_residual-in_err-at.ensures.1 in
    rw (p.1, p.2) (places_fail c.args.line.now c.args.bytes.now c.in_ok-rest.rest.now c.in_err-at.field-0.0 c.in_ok-rest.ensures
    (subst (λ (n : ℕ). Fails c.in_err-at.field-0.0 (places_at n c.in_ok-rest.rest.now)) c.hoists-hoists.ensures.value c.in_err-at.ensures))

pub unspaced-requires-clause-count : goal.unspaced-requires-clause-count
unspaced-requires-clause-count c =
    let l = c.args.line.now in
    let read = ap (λ (n : ℕ). places_at n c.in_ok-rest.rest.now) (sym c.hoists-hoists.ensures.value) ∙ c.in_ok-at.ensures in
    ap length c.as_slice.ensures.value ∙ (places_fit l c.in_ok-rest.rest.now c.in_ok-at.at.items c.in_ok-at.rest.now read).0

pub unspaced-requires-clause-small : goal.unspaced-requires-clause-small
unspaced-requires-clause-small c =
    let l = c.args.line.now in
    let read = ap (λ (n : ℕ). places_at n c.in_ok-rest.rest.now) (sym c.hoists-hoists.ensures.value) ∙ c.in_ok-at.ensures in
    subst (λ (xs : List ℕ). All (λ x. x ≤ most_position) xs) (sym c.as_slice.ensures.value)
    (places_fit l c.in_ok-rest.rest.now c.in_ok-at.at.items c.in_ok-at.rest.now read).1

pub play-requires-clause-count : goal.play-requires-clause-count
play-requires-clause-count c =
    let l = c.args.line.now in
    let read = ap (λ (n : ℕ). places_at n c.in_ok-rest.rest.now) (sym c.hoists-hoists.ensures.value) ∙ c.in_ok-at.ensures in
    ap length c.as_slice-in-None.ensures.value ∙ (places_fit l c.in_ok-rest.rest.now c.in_ok-at.at.items c.in_ok-at.rest.now read).0

pub returns-in-None-clause-read : goal.returns-in-None-clause-read
returns-in-None-clause-read c =
    let l = c.args.line.now in
    let bytes = c.args.bytes.now in
    let at = c.as_slice-in-None.result.now in
    let b = c.in_ok-at.rest.now in
    let read : places_at l.hoists c.in_ok-rest.rest.now ≡ Ok (at, b) =
    ap (λ (n : ℕ). places_at n c.in_ok-rest.rest.now) (sym c.hoists-hoists.ensures.value) ∙ c.in_ok-at.ensures
    ∙ ap (λ (xs : List ℕ). Ok (xs, b)) (sym c.as_slice-in-None.ensures.value) in
    if_ok (λ x. IsPlayedOut l at (lines_at l 0 most_ticks b) x.0 x.1.now) (λ x. IsReadOut l (log_at l bytes) x.0 x.1.now) c.play.result
    (λ x h. played_out l bytes c.in_ok-rest.rest.now at b x.1.now x.0 c.in_ok-rest.ensures read h) c.play.ensures.played

pub returns-in-None-clause-broken : goal.returns-in-None-clause-broken
returns-in-None-clause-broken c =
    let l = c.args.line.now in
    let bytes = c.args.bytes.now in
    let b = c.in_ok-at.rest.now in
    let read = ap (λ (n : ℕ). places_at n c.in_ok-rest.rest.now) (sym c.hoists-hoists.ensures.value) ∙ c.in_ok-at.ensures in
    if_err (λ e. Fails e (lines_at l 0 most_ticks b)) (λ e. Fails e (log_at l bytes)) c.play.result
    (λ e h. lines_fail l bytes c.in_ok-rest.rest.now c.in_ok-at.at.items b e c.in_ok-rest.ensures read h) c.play.ensures.broken

pub returns-in_err-rest-in-Some-clause-broken : goal.returns-in_err-rest-in-Some-clause-broken
returns-in_err-rest-in-Some-clause-broken c =
    let l = c.args.line.now in
    let read = ap (λ (n : ℕ). places_at n c.in_ok-rest.rest.now) (sym c.hoists-hoists.ensures.value) ∙ c.in_ok-at.ensures in
    let p = err_from_is_err_and c.from_residual-in_err-rest-in-Some.result c.from_residual-in_err-rest-in-Some.ensures.1 in
    rw (p.1, p.2) (rest_fails l c.args.bytes.now c.in_ok-rest.rest.now c.in_ok-at.at.items c.in_ok-at.rest.now c.in_err-rest-in-Some.field-0.0
    c.in_ok-rest.ensures read c.in_err-rest-in-Some.ensures)

pub returns-clause-read : goal.returns-clause-read
returns-clause-read c =
    let l = c.args.line.now in
    let at = c.as_slice.result.now in
    let b = c.in_ok-at.rest.now in
    let read : places_at l.hoists c.in_ok-rest.rest.now ≡ Ok (at, b) =
    ap (λ (n : ℕ). places_at n c.in_ok-rest.rest.now) (sym c.hoists-hoists.ensures.value) ∙ c.in_ok-at.ensures
    ∙ ap (λ (xs : List ℕ). Ok (xs, b)) (sym c.as_slice.ensures.value) in
    first_departs l c.args.bytes.now c.in_ok-rest.rest.now at b c.in_ok-rest-in-Some.rest.now c.in-Some.breach c.in_ok-rest.ensures read
    (sym c.in-Some.ensures) c.in_ok-rest-in-Some.ensures
