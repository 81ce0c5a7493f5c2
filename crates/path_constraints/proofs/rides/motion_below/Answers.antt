use Rattle.std.proofs.Common.{inl, inr, sym, ap, ◌+◌, ◌∙◌, List, ℕ}
use Rattle.std.specs.Prelude.{flat_map, map}
use Rattle.line_model.specs.Motion.{motion_between}
use Rattle.path_constraints.specs.Tanks.{one_of, tanks_below}
use Rattle.path_constraints.proofs.TankLemmas.{not_one}
use Rattle.path_constraints.proofs.rides.motion_below.Goals.{then-from-ne1-via-then-from-ne1, then-from-ne1-via-else-from-ne1+then-to-ne1}
use Rattle.path_constraints.proofs.rides.motion_below.Goals as goal

pub returns-then-from-ne1-clause-value : goal.returns-then-from-ne1-clause-value
returns-then-from-ne1-clause-value c =
    let l = c.args.line.now in
    let m = c.args.m in
    let path = c.args.path.now in
    let none = not_one (λ i j. motion_between l m.step i j) c.tanks_before-from.result.now c.tanks_after-to.result.now c.tanks_before-from.ensures.some
    c.tanks_after-to.ensures.some
    (elim c.then-from-ne1.branch [
      | then-from-ne1-via-then-from-ne1 w ↦ inl w.if-from-ne1.true
      | then-from-ne1-via-else-from-ne1+then-to-ne1 w ↦ inr
          w.if-to-ne1.true
    ]) in
    sym (ap (λ (xs : List ℕ). one_of (flat_map (λ i. map (λ j. motion_between l m.step i j) (tanks_below l path m.carrier (m.step + 1))) xs))
    (sym c.tanks_before-from.ensures.value)
    ∙ ap (λ (ys : List ℕ). one_of (flat_map (λ i. map (λ j. motion_between l m.step i j) ys) c.tanks_before-from.result.now))
    (sym c.tanks_after-to.ensures.value)
    ∙ none)
