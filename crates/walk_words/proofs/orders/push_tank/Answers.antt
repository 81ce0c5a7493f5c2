use Rattle.std.proofs.lemmas.Result.{on_ok_weaker}
use Rattle.std.proofs.Common.{rules, w64, ◌∷◌, [], ◌++◌, codes, decimal, ap, ◌∙◌}
use Rattle.walk_words.specs.Places.{place, carrier_text, later_text}
use mir.Val.{SFits}
use Rattle.std.proofs.lemmas.Int.{to_z-of_z}
use Rattle.walk_words.proofs.Texts.{grown}
use Rattle.walk_words.proofs.orders.push_tank.Goals as goal

pub returns : goal.returns
returns c =
    let l = c.args.line.now in
    let path = c.args.path.now in
    let a = c.args.first in
    let b = c.args.second in
    let fits : SFits w64 c.args.q = search rules in
    on_ok_weaker c.push_later.result
    (λ after. grown c.args.text.now.items c.push_place.new.text.items (place l path a.carrier a.stage)
    ((c.extend_from_slice.new.self.items, codes " is left by ")
    ∷ (c.push_carrier.new.text.items, carrier_text a.carrier)
    ∷ (c.push_word_number.new.text.items, codes " at stage " ++ decimal a.stage)
    ∷ (c.extend_from_slice-2.new.self.items, codes " before ")
    ∷ (c.push_carrier-2.new.text.items, carrier_text b.carrier)
    ∷ (c.push_word_number-2.new.text.items, codes " comes there at stage " ++ decimal b.stage)
    ∷ (c.push_later.new.text.items, later_text c.args.q)
    ∷ []) c.in_ok-push_place.ensures (
      c.in_ok-extend_from_slice.ensures.items,
      (
        c.in_ok-push_carrier.ensures,
        (
          c.in_ok-push_word_number.ensures,
          (
            c.in_ok-extend_from_slice-2.ensures.items,
            (
              c.in_ok-push_carrier-2.ensures,
              (
                c.in_ok-push_word_number-2.ensures,
                (
                  after ∙ ap (λ z. c.push_word_number-2.new.text.items ++ later_text z) (to_z-of_z w64 c.args.q fits),
                  tt,
                ),
              ),
            ),
          ),
        ),
      ),
    )) c.push_later.ensures
