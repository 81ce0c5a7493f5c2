use Rattle.std.proofs.lemmas.Result.{on_ok_weaker}
use Rattle.std.proofs.Common.{◌∷◌, [], ◌++◌, codes, decimal, unwrap_or, ap, ◌∙◌}
use Rattle.hoist_base.specs.LineData.{stage}
use Rattle.walk_words.specs.Steps.{stay_text}
use Rattle.walk_words.proofs.Texts.{grown}
use Rattle.walk_words.proofs.steps.push_max.Goals as goal

pub returns : goal.returns
returns c =
    let l = c.args.line.now in
    let path = c.args.path.now in
    let v = c.args.v in
    on_ok_weaker c.push_word_number.result
    (λ after. grown c.args.text.now.items c.push_stay.new.text.items (stay_text l path v.carrier v.stage)
    ((c.push_word_number.new.text.items, codes "most " ++ decimal (unwrap_or (stage l v.stage).max 0))
    ∷ []) c.in_ok-push_stay.ensures (
      (after ∙ ap (λ x. c.push_stay.new.text.items ++ (codes "most " ++ decimal x)) c.max_of.ensures),
      tt,
    )) c.push_word_number.ensures
