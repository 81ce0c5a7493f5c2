use Rattle.std.proofs.Common.{refl}
use Rattle.path_constraints.proofs.NameLemmas.{listed, named}
use Rattle.path_constraints.proofs.systems.constraint_of.Goals as goal

pub returns-then-not-is_constraint-clause-listed : goal.returns-then-not-is_constraint-clause-listed
returns-then-not-is_constraint-clause-listed c =
    let l = c.args.line.now in
    (λ e. cc, λ h. let is = c.is_constraint.ensures.value.1 (named l c.args.path.now c.args.name h) in let off = c.if-not-is_constraint.true in cc)

pub returns-clause-listed : goal.returns-clause-listed
returns-clause-listed c =
    let l = c.args.line.now in
    let two = c.is_constraint.ensures.valid.limits.stages.0 in
    (λ e. listed l c.args.path.now c.args.name two (c.is_constraint.ensures.value.0 c.if-not-is_constraint.false), λ h. refl)
