use Rattle.std.proofs.Common.{◌∙◌, ◌-◌, ◌<◌, ◌++◌, ◌∷◌, [], sym, ap, append_assoc, length, get_or, List, pos, arith}
use Rattle.std.specs.Prelude.{slice_index}
use Rattle.std.proofs.lemmas.Int.{ints}
use Rattle.longest_path.specs.declared.systems.Arc.{Arc}
use Rattle.longest_path.specs.System.{sum_w, sum_q}
use Rattle.cycle_walk.specs.Closed.{back_to}
use Rattle.cycle_walk.proofs.BackLemmas.{back_split}
use Rattle.cycle_walk.proofs.walks.walk_along.Goals as goal

pub loop-t-preserved : goal.loop-t-preserved
loop-t-preserved c =
    let s = c.args.s.now in
    let t = c.loop-t.t in
    let first = c.args.first in
    let f = slice_index c.args.back.now in
    let k = get_or c.args.back.now (t - 1) 0 in
    let inv = c.loop-t.invariant in
    let in_list : k < length s.arcs = c.requires.arcs (t - 1) (omega (arith, c.loop-t-test.true, inv.1)) in
    let is = ap (λ (xs : List Arc). get_or xs k (record { from = 0; to = 0; w = pos 0; q = pos 0 })) c.arcs.ensures.value in
    let w_is = ap (λ (b : Arc). b.w) is in
    let q_is = ap (λ (b : Arc). b.q) is in
    let sizes = c.arcs.ensures.valid.sizes k in_list in
    let split = back_split f first t (omega (arith, c.loop-t-test.true)) in
    let w_split = ap (sum_w s) split in
    let q_split = ap (sum_q s) split in (
      omega (arith, c.loop-t-test.true),
      omega (arith, inv.1),
      rw c.in_ok-push.ensures.items (append_assoc c.loop-t.arcs.items (k ∷ []) (back_to f first (t - 1 - first))
          ∙ ap (λ xs. c.loop-t.arcs.items ++ xs) (sym split) ∙ inv.2),
      omega (arith, ints, w_is, sizes.0, w_split, inv.3, inv.5, c.requires.end.1, c.loop-t.w-is),
      omega (arith, ints, q_is, sizes.1, q_split, inv.4, inv.6, c.requires.end.1, c.loop-t.q-is),
      omega (arith, ints, w_is, sizes.0, inv.5, c.requires.end.1, inv.1, c.loop-t-test.true, c.loop-t.w-is),
      omega (arith, ints, q_is, sizes.1, inv.6, c.requires.end.1, inv.1, c.loop-t-test.true, c.loop-t.q-is),
    )
