use Rattle.std.proofs.lemmas.Result.{on_ok_weaker}
use Rattle.std.proofs.Common.{◌∷◌, [], ◌++◌, codes, decimal, ap, ◌∙◌}
use Rattle.hoist_base.specs.LineData.{stage}
use Rattle.walk_words.specs.Places.{place, carrier_text}
use Rattle.walk_words.specs.Steps.{next_text}
use Rattle.walk_words.proofs.Texts.{grown}
use Rattle.walk_words.proofs.steps.push_entry.Goals as goal

pub returns : goal.returns
returns c =
    let l = c.args.line.now in
    let path = c.args.path.now in
    let k = c.args.carrier in
    on_ok_weaker c.push_word_number-2.result
    (λ after. grown c.args.text.now.items c.push_carrier.new.text.items (carrier_text k)
    ((c.extend_from_slice.new.self.items, codes " is lifted off ")
    ∷ (c.push_place.new.text.items, place l path k 0)
    ∷ (c.push_word_number.new.text.items, codes " in " ++ decimal (stage l 0).lift)
    ∷ (c.extend_from_slice-2.new.self.items, codes ", then ")
    ∷ (c.push_next.new.text.items, next_text l k)
    ∷ (c.push_word_number-2.new.text.items, codes " is put on and stays for at least " ++ decimal l.load)
    ∷ []) c.in_ok-push_carrier.ensures (
      c.in_ok-extend_from_slice.ensures.items,
      (
        c.in_ok-push_place.ensures,
        (
          (c.in_ok-push_word_number.ensures ∙ ap (λ x. c.push_place.new.text.items ++ (codes " in " ++ decimal x)) c.lift_of.ensures),
          (
            c.in_ok-extend_from_slice-2.ensures.items,
            (
              c.in_ok-push_next.ensures,
              (
                (after ∙ ap (λ x. c.push_next.new.text.items ++ (codes " is put on and stays for at least " ++ decimal x)) c.load-load.ensures.value),
                tt,
              ),
            ),
          ),
        ),
      ),
    )) c.push_word_number-2.ensures
