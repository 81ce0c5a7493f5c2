use Rattle.std.proofs.Common.{◌≡◌, ◌∙◌, ℕ, ap, arith}
use Rattle.std.specs.Prelude.{◌-ℤ◌}
use Rattle.std.proofs.lemmas.Int.{ints}
use mir.Val.{to_z, of_z}
use mir.Syntax.{w32}
use Rattle.hoist_base.specs.declared.ids.VisitId.{VisitId}
use Rattle.path_constraints.specs.declared.holds.Moment.{Moment}
use Rattle.path_constraints.specs.Holds.{begin_of, end_of, tick_of}
use Rattle.path_constraints.specs.Ticks.{tick_at}
use Rattle.path_constraints.proofs.HoldLemmas.{begin_same, end_same}
use Rattle.period_constraints.specs.Stays.{lasting}
use Rattle.period_constraints.proofs.stays.stay_at.Goals as goal

pub returns : goal.returns
returns c =
    let l = c.args.line.now in
    let tanks = c.args.tanks.now in
    let s = tick_at c.args.ticks.now in
    let v = c.visit_at-visit.result in
    let tick = λ (m : Moment). tick_of l s m -ℤ s 0 in
    let lasts = λ (k : ℕ). lasting l tanks v.carrier k in
    let begins = begin_same l (λ d j. c.lasting.result) (lasting l tanks) v.carrier v.stage
    (λ some. c.lasting.ensures.value ∙ ap lasts c.saturating_sub.ensures) in
    let ends = end_same l (λ d j. c.lasting-2.result) (lasting l tanks) v.carrier v.stage
    (c.lasting-2.ensures.value ∙ ap lasts c.inner.ensures.value) in
    let x = c.since_first.result in
    let y = c.since_first-2.result in
    let is_x : to_z w32 (of_z w32 x) ≡ x = omega (arith, ints, c.since_first.ensures.near) in
    let is_y : to_z w32 (of_z w32 y) ≡ y = omega (arith, ints, c.since_first-2.ensures.near) in
    record {
      begin = is_x ∙ c.since_first.ensures.value ∙ ap tick (c.begin_of-begin.ensures.value ∙ begins)
          ∙ ap (λ (w : VisitId). tick (begin_of l (lasting l tanks) w.carrier w.stage)) c.visit_at-visit.ensures.value;
      end = is_y ∙ c.since_first-2.ensures.value ∙ ap tick (c.end_of-end.ensures.value ∙ ends)
          ∙ ap (λ (w : VisitId). tick (end_of l (lasting l tanks) w.carrier w.stage)) c.visit_at-visit.ensures.value;
      near = (omega (arith, ints, c.since_first.ensures.near), omega (arith, ints, c.since_first-2.ensures.near));
    }
