-- One move more, and all.
use Rattle.std.proofs.Common.{◌≡◌, ℕ, get_or, refl, arith}
use Rattle.hoist_base.specs.LineData.{move_count}
use Rattle.path_envelope.proofs.FirstLemmas.{Seen}
use Rattle.path_envelope.proofs.FitLemmas.{none_yet, fit_more, fit_all}
use Rattle.search_rows.proofs.envelopes.fits.Goals as goal

pub loop-number-init : goal.loop-number-init
loop-number-init c = none_yet c.args.line.now c.args.route.now c.args.period c.args.starts.now c.args.hoists.now

pub loop-number-preserved : goal.loop-number-preserved
loop-number-preserved c =
    let l = c.args.line.now in
    let n : ℕ = c.loop-number.number in
    let seen : Seen l c.args.route.now n c.motion_of.result = record {
      inside = omega (arith, c.loop-number-test.true, c.move_count-number-end.ensures.value);
      some = omega (arith, c.move_at.ensures.there.1);
      motion = rw c.move_at.ensures.value at c.motion_of.ensures.value;
    } in
    fit_more l c.args.route.now c.args.period c.args.starts.now c.args.hoists.now n (get_or c.args.hoists.now n 0) c.motion_of.result seen
    (omega (arith, c.if-starts-number-gt1000000000.false)) refl (omega (
      arith,
      c.if-hoist-hoists.false,
      c.hoists.ensures.value,
    )) (c.if-not-reaches.ensures.0 refl) c.loop-number.invariant

pub returns : goal.returns
returns c =
    let l = c.args.line.now in
    let count : c.move_count-count.result ≡ move_count l = c.move_count-count.ensures.value in
    let count' : c.move_count-number-end.result ≡ move_count l = c.move_count-number-end.ensures.value in
    fit_all l c.args.route.now c.args.period c.args.starts.now c.args.hoists.now c.loop-number.number c.requires
    (omega (arith, c.if-period-lt1.false)) (omega (arith, c.if-period-gt20000.false))
    (omega (arith, c.if-starts-count.false, count)) (omega (arith, c.if-hoists-count.false, count))
    (omega (arith, count', c.loop-number-test.false, c.loop-number.auto)) c.loop-number.invariant
