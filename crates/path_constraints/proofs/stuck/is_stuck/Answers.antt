use Rattle.std.proofs.Common.{◌≡◌, ℕ, ⊎_elim, refl, sym, ◌∙◌, subst, arith}
use Rattle.std.proofs.lemmas.Bool.{cases_lt, false≢true}
use Rattle.path_constraints.specs.Tanks.{MayReach}
use Rattle.path_constraints.proofs.stuck.is_stuck.Goals.{else-may_serve-via-then-may_serve+else-may_serve-2, else-may_serve-via-else-may_serve}
use Rattle.path_constraints.proofs.stuck.is_stuck.Goals as goal

pub returns-then-may_serve-2 : goal.returns-then-may_serve-2
returns-then-may_serve-2 c =
    let from = rw c.tanks_before-from.ensures.value at c.if-may_serve.ensures in
    let to = rw c.tanks_after-to.ensures.value at c.if-may_serve-2.ensures in
    (λ e. absurd (false≢true e), λ stuck. absurd (stuck c.loop-h.h (omega (arith, c.loop-h-test.true, c.hoists-h-end.ensures.value)) (from.0 refl, to.0 refl)))

pub loop-h-preserved : goal.loop-h-preserved
loop-h-preserved c g lt reach =
    let l = c.args.line.now in
    let P : ℕ → Type 0 = λ h. MayReach l c.args.path.now h c.args.m.carrier c.args.m.step in
    ⊎_elim (λ below. c.loop-h.invariant g below reach)
    (λ ge.
    let e : g ≡ c.loop-h.h = omega (arith, lt, ge) in
    let here = subst P e reach in
    elim c.else-may_serve.branch [
      | else-may_serve-via-then-may_serve+else-may_serve-2 w ↦
          let to = rw c.tanks_after-to.ensures.value at w.may_serve-then-may_serve.ensures in
          false≢true (sym w.if-may_serve-2.false ∙ to.1 here.1)
      | else-may_serve-via-else-may_serve w ↦
          let from = rw c.tanks_before-from.ensures.value at c.may_serve.ensures in
          false≢true (sym w.if-may_serve.false ∙ from.1 here.0)
    ])
    (cases_lt g c.loop-h.h)

pub returns : goal.returns
returns c =
    (λ e h lt. c.loop-h.invariant h (omega (arith, lt, c.loop-h-test.false, c.hoists-h-end.ensures.value)), λ stuck. refl)
