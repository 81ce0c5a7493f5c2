use Rattle.std.proofs.Common.{sym, ◌∙◌, ap, subst, Option, Some, IfSome, ◌-◌, ◌*◌, arith}
use Rattle.collision_pairs.specs.declared.span.Span.{Span}
use Rattle.collision_pairs.specs.Forbidden.{IsForbidden, IsSpanOf}
use Rattle.collision_pairs.specs.Clash.{corners, around_all, turned_answer, IsTight}
use Rattle.collision_pairs.proofs.ClashLemmas.{clash_once, clash_above, clash_below, has_no_holes, are_tight}
use Rattle.collision_pairs.proofs.pairs.clash.Goals as goal

pub returns-then-ha-hb-clause-value : goal.returns-then-ha-hb-clause-value
returns-then-ha-hb-clause-value c = ap Some c.at_once.ensures ∙ sym (clash_once c.args.line.now c.args.a c.args.ha c.args.b c.args.hb (omega arith))

pub returns-then-ha-hb-clause-span : goal.returns-then-ha-hb-clause-span
returns-then-ha-hb-clause-span c =
    let l = c.args.line.now in
    let Holds : Option Span → Type 0 = λ x. IsSpanOf x (IsForbidden l c.args.a c.args.ha c.args.b c.args.hb) in
    subst Holds (sym (returns-then-ha-hb-clause-value c)) (has_no_holes l c.args.a c.args.ha c.args.b c.args.hb c.requires.motions.0 c.requires.motions.1)

pub returns-then-ha-hb-2-clause-value : goal.returns-then-ha-hb-2-clause-value
returns-then-ha-hb-2-clause-value c =
    c.too_near.ensures ∙ ap (λ gap. around_all ((c.args.hb - c.args.ha) * gap) (corners c.args.a) (corners c.args.b)) c.gap.ensures.value
    ∙ sym (clash_above c.args.line.now c.args.a c.args.ha c.args.b c.args.hb (omega arith))

pub returns-then-ha-hb-2-clause-span : goal.returns-then-ha-hb-2-clause-span
returns-then-ha-hb-2-clause-span c =
    let l = c.args.line.now in
    let Holds : Option Span → Type 0 = λ x. IsSpanOf x (IsForbidden l c.args.a c.args.ha c.args.b c.args.hb) in
    subst Holds (sym (returns-then-ha-hb-2-clause-value c)) (has_no_holes l c.args.a c.args.ha c.args.b c.args.hb c.requires.motions.0 c.requires.motions.1)

pub returns-then-ha-hb-2-clause-tight : goal.returns-then-ha-hb-2-clause-tight
returns-then-ha-hb-2-clause-tight c =
    let Holds : Option Span → Type 0 = λ x. IfSome x IsTight in
    subst Holds (sym (returns-then-ha-hb-2-clause-value c))
    (are_tight c.args.line.now c.args.a c.args.ha c.args.b c.args.hb c.gap.ensures.valid c.requires.motions.0
    c.requires.motions.1 c.requires.hoists.0 c.requires.hoists.1)

pub returns-else-ha-hb-2-clause-value : goal.returns-else-ha-hb-2-clause-value
returns-else-ha-hb-2-clause-value c =
    c.turn.ensures ∙ ap turned_answer c.too_near-else-ha-hb-2.ensures
    ∙ ap (λ gap. turned_answer (around_all ((c.args.ha - c.args.hb) * gap) (corners c.args.b) (corners c.args.a))) c.gap-else-ha-hb-2.ensures.value
    ∙ sym (clash_below c.args.line.now c.args.a c.args.ha c.args.b c.args.hb (omega arith))

pub returns-else-ha-hb-2-clause-span : goal.returns-else-ha-hb-2-clause-span
returns-else-ha-hb-2-clause-span c =
    let l = c.args.line.now in
    let Holds : Option Span → Type 0 = λ x. IsSpanOf x (IsForbidden l c.args.a c.args.ha c.args.b c.args.hb) in
    subst Holds (sym (returns-else-ha-hb-2-clause-value c)) (has_no_holes l c.args.a c.args.ha c.args.b c.args.hb c.requires.motions.0 c.requires.motions.1)

pub returns-else-ha-hb-2-clause-tight : goal.returns-else-ha-hb-2-clause-tight
returns-else-ha-hb-2-clause-tight c =
    let Holds : Option Span → Type 0 = λ x. IfSome x IsTight in
    subst Holds (sym (returns-else-ha-hb-2-clause-value c))
    (are_tight c.args.line.now c.args.a c.args.ha c.args.b c.args.hb c.gap-else-ha-hb-2.ensures.valid
    c.requires.motions.0 c.requires.motions.1 c.requires.hoists.0 c.requires.hoists.1)
