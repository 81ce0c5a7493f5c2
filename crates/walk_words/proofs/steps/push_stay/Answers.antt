use Rattle.std.proofs.lemmas.Result.{on_ok_weaker}
use Rattle.std.proofs.Common.{◌∷◌, [], codes}
use Rattle.walk_words.specs.Places.{place, carrier_text}
use Rattle.walk_words.proofs.Texts.{grown, at_ok}
use Rattle.walk_words.proofs.steps.push_stay.Goals as goal

pub returns : goal.returns
returns c =
    let l = c.args.line.now in
    let path = c.args.path.now in
    let v = c.args.v in
    on_ok_weaker c.extend_from_slice-2.result
    (λ after. grown c.args.text.now.items c.push_carrier.new.text.items (carrier_text v.carrier)
    ((c.extend_from_slice.new.self.items, codes " is brought to ")
    ∷ (c.push_place.new.text.items, place l path v.carrier v.stage)
    ∷ (c.extend_from_slice-2.new.self.items, codes " and stays there for at ")
    ∷ []) c.in_ok-push_carrier.ensures (
      c.in_ok-extend_from_slice.ensures.items,
      (
        c.in_ok-push_place.ensures,
        (
          after,
          tt,
        ),
      ),
    )) (at_ok c.extend_from_slice-2.result c.push_place.new.text.items c.extend_from_slice-2.new.self.items
    (codes " and stays there for at ") c.extend_from_slice-2.ensures.items)
