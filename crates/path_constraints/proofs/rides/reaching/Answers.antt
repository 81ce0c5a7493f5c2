use Rattle.std.proofs.Common.{◌≡◌, ◌+◌, ◌-◌, sym, subst, arith, rules, ℕ, Bool, ◌<◌}
use Rattle.path_constraints.specs.Hoists.{reaches_motion, hoists_reaching}
use Rattle.choice_tree.specs.Nodes.{numbers_from}
use Rattle.std.specs.Prelude.{filter, slice_get}
use Rattle.path_constraints.proofs.RideLemmas.{found_here, found_later, found_past, reaches_yes, reaches_no}
use Rattle.path_constraints.proofs.rides.reaching.Goals.{then-reaches+else-left-eq0, else-reaches}
use Rattle.path_constraints.proofs.rides.reaching.Goals as goal

pub returns-then-left-eq0-clause-value : goal.returns-then-left-eq0-clause-value
returns-then-left-eq0-clause-value c =
    let l = c.args.line.now in
    let a = c.args.a in
    let f : ℕ → Bool = λ h. reaches_motion l h a in
    found_here f c.loop-h.h l.hoists c.loop-h.left _ (omega (arith, c.loop-h-test.true, c.hoists-h-end.ensures.value))
    (reaches_yes l c.loop-h.h a (c.reaches.ensures.0 c.if-reaches.true)) c.if-left-eq0.true c.loop-h.invariant

pub loop-h-preserved : goal.loop-h-preserved
loop-h-preserved c =
    let l = c.args.line.now in
    let a = c.args.a in
    let f : ℕ → Bool = λ h. reaches_motion l h a in
    let h = c.loop-h.h in
    let lt : h < l.hoists = omega (arith, c.loop-h-test.true, c.hoists-h-end.ensures.value) in
    elim c.if-reaches.branch [
      | then-reaches+else-left-eq0 w ↦
          found_later f h l.hoists c.loop-h.left c.if-reaches.left _ lt (reaches_yes l h a (c.reaches.ensures.0 w.if-reaches.true))
          (omega (arith, w.left-is, w.if-left-eq0.false)) c.loop-h.invariant
      | else-reaches w ↦
          let same : c.if-reaches.left ≡ c.loop-h.left = w.left-is in
          let P : ℕ → Type 0 = λ n. slice_get (filter f (numbers_from (h + 1) (l.hoists - (h + 1)))) n ≡ slice_get (hoists_reaching l a) c.args.number in
          subst P (sym same) (found_past f h l.hoists c.loop-h.left _ lt (reaches_no l h a (λ r. search rules)) c.loop-h.invariant)
    ]
