use Rattle.std.proofs.Common.{⊎_elim, arith, subst, ℕ, ◌<◌}
use Rattle.path_constraints.specs.Tanks.{IsStuck}
use Rattle.node_expand.proofs.NoneLemmas.{none_more}
use Rattle.node_expand.proofs.stuck.first_stuck.Goals as goal

pub returns-in-Some : goal.returns-in-Some
returns-in-Some c =
    let l = c.args.line.now in
    let path = c.args.path.now in
    let found = c.in-Some.ensures in
    let lt : c.loop-carrier.carrier < l.degree = omega (arith, c.loop-carrier-test.true, c.degree-carrier-end.ensures.value) in
    record {
      move = (lt, found.0);
      stuck = found.1;
      first = λ d k move before stuck.
          ⊎_elim (λ earlier. c.loop-carrier.invariant d k earlier move.1 stuck)
          (λ same. let P : ℕ → Type 0 = λ j. IsStuck l path j k in found.2 k same.1 (subst P same.0 stuck)) before;
    }

pub loop-carrier-preserved : goal.loop-carrier-preserved
loop-carrier-preserved c d k lt step stuck =
    none_more (λ j. IsStuck c.args.line.now c.args.path.now j k) c.loop-carrier.carrier
    (λ j earlier. c.loop-carrier.invariant j k earlier step) (c.in_default.ensures k step) d lt stuck
