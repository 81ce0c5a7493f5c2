use Rattle.std.proofs.Common.{◌≡◌, ◌+◌, ◌&&◌, not, cond, sym, ap, ◌∙◌, arith}
use Rattle.timetable.specs.TimetableData.{timetable_of}
use Rattle.report_shares.specs.Ticks.{carries, changes, drives, stands}
use Rattle.report_shares.proofs.Adding.{count_more, one}
use Rattle.report_shares.proofs.ticks.share_of.Goals as goal

pub loop-tick-preserved : goal.loop-tick-preserved
loop-tick-preserved c =
    let l = c.args.line.now in
    let p = timetable_of c.args.t.now in
    let h = c.args.h in
    let t = c.loop-tick.tick in
    let (carried, driven, stood, whole) = c.loop-tick.invariant in
    let carrying : c.with_tick-share.result.carrying ≡ c.loop-tick.share.carrying + cond (carries l p h t) 1 0 =
    c.with_tick-share.ensures.carrying ∙ ap (λ x. c.loop-tick.share.carrying + cond x 1 0) c.carries.ensures in
    let driving : c.with_tick-share.result.driving
    ≡ c.loop-tick.share.driving + cond (not (carries l p h t) && changes p h t) 1 0 =
    c.with_tick-share.ensures.driving
    ∙ ap (λ x. c.loop-tick.share.driving + cond (not x && c.changes.result) 1 0) c.carries.ensures
    ∙ ap (λ y. c.loop-tick.share.driving + cond (not (carries l p h t) && y) 1 0) c.changes.ensures in
    let standing : c.with_tick-share.result.standing
    ≡ c.loop-tick.share.standing + cond (not (carries l p h t) && not (changes p h t)) 1 0 =
    c.with_tick-share.ensures.standing
    ∙ ap (λ x. c.loop-tick.share.standing + cond (not x && not c.changes.result) 1 0) c.carries.ensures
    ∙ ap (λ y. c.loop-tick.share.standing + cond (not (carries l p h t) && not y) 1 0) c.changes.ensures in (
      carrying ∙ ap (λ n. n + cond (carries l p h t) 1 0) carried ∙ sym (count_more (carries l p h) t),
      driving ∙ ap (λ n. n + cond (not (carries l p h t) && changes p h t) 1 0) driven ∙ sym
          (count_more (drives l p h) t),
      standing ∙ ap (λ n. n + cond (not (carries l p h t) && not (changes p h t)) 1 0) stood ∙ sym
          (count_more (stands l p h) t),
      omega (arith, carrying, driving, standing, whole, one (carries l p h t) (changes p h t)),
    )
