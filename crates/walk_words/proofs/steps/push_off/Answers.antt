use Rattle.std.proofs.lemmas.Result.{on_ok_weaker}
use Rattle.std.proofs.Common.{◌∷◌, [], ◌++◌, codes, decimal, ap, ◌∙◌}
use Rattle.hoist_base.specs.LineData.{stage}
use Rattle.walk_words.proofs.Texts.{grown}
use Rattle.walk_words.proofs.steps.push_off.Goals as goal

pub returns : goal.returns
returns c =
    let l = c.args.line.now in
    let k = c.args.stage in
    on_ok_weaker c.push_word_number-2.result
    (λ after. grown c.args.text.now.items c.push_word_number.new.text.items (codes " is lowered in " ++ decimal (stage l k).lower)
    ((c.push_word_number-2.new.text.items, codes " and stays for at least " ++ decimal l.unload)
    ∷ []) (c.in_ok-push_word_number.ensures ∙ ap (λ x. c.args.text.now.items ++ (codes " is lowered in " ++ decimal x)) c.lower_of.ensures) (
      (after ∙ ap (λ x. c.push_word_number.new.text.items ++ (codes " and stays for at least " ++ decimal x)) c.unload-unload.ensures.value),
      tt,
    )) c.push_word_number-2.ensures
