use Rattle.std.proofs.Common.{◌≡◌, ℕ, sym, subst, arith, List, Some, get_or}
use Rattle.hoist_base.specs.declared.ids.MoveId.{MoveId}
use Rattle.hoist_base.specs.LineData.{last_stage, move_number, move_count, move_at}
use Rattle.path_constraints.specs.Hoists.{hoist_below}
use Rattle.node_expand.proofs.SettledLemmas.{by_number, noted_more}
use Rattle.node_expand.proofs.settling.hoists_of.Goals as goal

pub loop-number-preserved : goal.loop-number-preserved
loop-number-preserved c =
    let l = c.args.line.now in
    let path = c.args.path.now in
    let inv = c.loop-number.invariant in
    let P : MoveId → Type 0 = λ m. hoist_below l path m.carrier m.step ≡ Some c.hoist_of.result in
    let here = subst P c.move_at.ensures.value c.hoist_of.ensures in
    noted_more (λ j. hoist_below l path (move_at l j).carrier (move_at l j).step) _ _ c.loop-number.number _ inv.0 inv.1 here
    c.in_ok-push.ensures.items

pub returns-clause-value : goal.returns-clause-value
returns-clause-value c d k move =
    let l = c.args.line.now in
    let path = c.args.path.now in
    let count : c.loop-number.number ≡ move_count l =
    omega (arith, c.loop-number-test.false, c.loop-number.auto.number-end, c.move_count-count.ensures.value) in
    let P : List ℕ → Type 0 = λ xs. hoist_below l path d k ≡ Some (get_or xs (move_number l d k) 0) in
    subst P (sym c.from_vec.ensures)
    (by_number (λ a b n. hoist_below l path a b ≡ Some n) l.degree (last_stage l) c.loop-number.number c.loop-number.numbers.items count
    c.loop-number.invariant.1 d k move.0 (omega (arith, move.1)))
