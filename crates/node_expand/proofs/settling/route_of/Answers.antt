use Rattle.std.proofs.Common.{◌≡◌, ℕ, sym, subst, ap, arith, List, Some, get_or, length}
use Rattle.hoist_base.specs.declared.ids.VisitId.{VisitId}
use Rattle.hoist_base.specs.LineData.{visit_count, visit_at}
use Rattle.hoist_base.specs.Routes.{route_tank}
use Rattle.path_constraints.specs.Tanks.{tank_below}
use Rattle.node_expand.proofs.SettledLemmas.{by_number, tank_read, tank_serves, noted_more}
use Rattle.node_expand.proofs.settling.route_of.Goals as goal

pub loop-number-preserved : goal.loop-number-preserved
loop-number-preserved c =
    let l = c.args.line.now in
    let path = c.args.path.now in
    let v = c.visit_at.result in
    let inv = c.loop-number.invariant in
    let read =
    tank_read l path v.carrier v.stage c.tanks_below.result.now c.tanks_below.ensures.value
    (c.requires.settled v.carrier v.stage c.visit_at.ensures.there) in
    let P : VisitId → Type 0 = λ x. tank_below l path x.carrier x.stage ≡ Some (get_or c.tanks_below.result.now 0 0) in
    noted_more (λ j. tank_below l path (visit_at l j).carrier (visit_at l j).stage) _ _ c.loop-number.number _ inv.0 inv.1
    (subst P c.visit_at.ensures.value read) c.in_ok-push.ensures.items

pub returns-clause-value : goal.returns-clause-value
returns-clause-value c d k visit =
    let l = c.args.line.now in
    let path = c.args.path.now in
    let count : c.loop-number.number ≡ visit_count l =
    omega (arith, c.loop-number-test.false, c.loop-number.auto.number-end, c.visit_count-count.ensures.value) in
    let P : List ℕ → Type 0 = λ xs. tank_below l path d k ≡ Some (route_tank l xs d k) in
    subst P (sym c.from_vec.ensures)
    (by_number (λ a b n. tank_below l path a b ≡ Some n) l.degree (length l.stages) c.loop-number.number c.loop-number.numbers.items count
    c.loop-number.invariant.1 d k visit.0 visit.1)

pub returns-clause-route : goal.returns-clause-route
returns-clause-route c =
    let l = c.args.line.now in
    let count : c.loop-number.number ≡ visit_count l =
    omega (arith, c.loop-number-test.false, c.loop-number.auto.number-end, c.visit_count-count.ensures.value) in
    record {
      count = omega (arith, count, c.loop-number.invariant.0, ap (λ (xs : List ℕ). length xs) c.from_vec.ensures);
      serves = λ d k visit. tank_serves l c.args.path.now d k _ c.requires.fits (returns-clause-value c d k visit);
    }
