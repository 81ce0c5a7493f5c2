use Rattle.std.proofs.Common.{List, ap, sym, ◌∙◌, get_or, length}
use Rattle.hoist_base.specs.declared.stage.Stage.{Stage}
use Rattle.line_text.proofs.WrittenLemmas.{first_stage, last_stage, inner_stage}
use Rattle.line_text.proofs.write.push_stage.Goals as goal

pub returns-in_ok-push_number : goal.returns-in_ok-push_number
returns-in_ok-push_number c =
    first_stage c.args.line.now c.args.k c.index-stages-k.result _ _ _ _ c.requires.stage
    (c.index-stages-k.is ∙ ap (λ (stages : List Stage). get_or stages c.args.k c.index-stages-k.result) c.stages-stages.ensures.value)
    c.if-k-eq0.true c.in_ok-push_header.ensures c.in_ok-push_only_tank.ensures c.in_ok-push_number.ensures

pub returns-in_ok-push_number-2 : goal.returns-in_ok-push_number-2
returns-in_ok-push_number-2 c =
    last_stage c.args.line.now c.args.k c.index-stages-k.result _ _ _ _ c.requires.stage
    (c.index-stages-k.is ∙ ap (λ (stages : List Stage). get_or stages c.args.k c.index-stages-k.result) c.stages-stages.ensures.value)
    c.if-k-eq0.false (c.if-k-stages.true ∙ ap (λ (stages : List Stage). length stages) c.stages-stages.ensures.value)
    c.in_ok-push_header.ensures c.in_ok-push_only_tank-2.ensures c.in_ok-push_number-2.ensures

pub returns-in_ok-push_inner : goal.returns-in_ok-push_inner
returns-in_ok-push_inner c =
    inner_stage c.args.line.now c.args.k c.args.single c.index-stages-k.result _ _ _ c.requires.version c.requires.stage
    (c.index-stages-k.is ∙ ap (λ (stages : List Stage). get_or stages c.args.k c.index-stages-k.result) c.stages-stages.ensures.value)
    c.if-k-eq0.false (λ last. c.if-k-stages.false (last ∙ ap (λ (stages : List Stage). length stages) (sym c.stages-stages.ensures.value)))
    c.in_ok-push_header.ensures c.in_ok-push_inner.ensures
