use Rattle.std.proofs.Common.{◌≡◌, ℕ, suc, ◌<◌, ⊎_elim, subst, sym, length, arith}
use Rattle.std.proofs.lemmas.Bool.{cases_eq}
use Rattle.longest_path.specs.Rounds.{number}
use Rattle.longest_path.specs.Near.{IsNearest}
use Rattle.longest_path.proofs.rounds.bring_near.Goals as goal

pub returns-then-old-eq1-clause-row : goal.returns-then-old-eq1-clause-row
returns-then-old-eq1-clause-row c i i_in =
    let old = c.args.old.now in
    let at : i ≡ 0 = omega (arith, i_in, c.if-old-eq1.true) in
    subst (λ (x : ℕ). IsNearest (length old) c.args.near.now (number old) x (number c.bring_alone.new.new x)) (sym at) c.bring_alone.ensures.row

pub returns-clause-row : goal.returns-clause-row
returns-clause-row c i i_in =
    let old = c.args.old.now in
    let near = c.args.near.now in
    ⊎_elim
    (λ e. subst (λ (x : ℕ). IsNearest (length old) near (number old) x (number c.bring_ends.new.new x)) (sym e) c.bring_ends.ensures.first)
    (λ after.
    ⊎_elim
    (λ end. c.bring_ends.ensures.last i end)
    (λ before.
    let between : suc i < length old = omega (arith, i_in, before) in
    let positive : 0 < i = omega (arith, after) in
    subst (IsNearest (length old) near (number old) i) (sym (c.bring_ends.ensures.between i positive between)) (c.bring_between.ensures.row i positive between))
    (cases_eq (suc i) (length old)))
    (cases_eq i 0)
