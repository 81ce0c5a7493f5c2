use Rattle.std.proofs.lemmas.Result.{on_ok_weaker}
use Rattle.std.proofs.Common.{◌∷◌, [], codes, ◌+◌}
use Rattle.walk_words.specs.Places.{place, carrier_text}
use Rattle.walk_words.proofs.Texts.{grown, at_ok}
use Rattle.walk_words.proofs.steps.push_repeat.Goals as goal

pub returns : goal.returns
returns c =
    let l = c.args.line.now in
    let path = c.args.path.now in
    let b = c.args.carrier in
    let k = c.args.step in
    on_ok_weaker c.extend_from_slice-4.result
    (λ after. grown c.args.text.now.items c.extend_from_slice.new.self.items (codes "the hoist that brings ")
    ((c.push_carrier.new.text.items, carrier_text b)
    ∷ (c.extend_from_slice-2.new.self.items, codes " from ")
    ∷ (c.push_place.new.text.items, place l path b k)
    ∷ (c.extend_from_slice-3.new.self.items, codes " to ")
    ∷ (c.push_place-2.new.text.items, place l path b (k + 1))
    ∷ (c.extend_from_slice-4.new.self.items, codes " is back where it began one period later")
    ∷ []) c.in_ok-extend_from_slice.ensures.items (
      c.in_ok-push_carrier.ensures,
      (
        c.in_ok-extend_from_slice-2.ensures.items,
        (
          c.in_ok-push_place.ensures,
          (
            c.in_ok-extend_from_slice-3.ensures.items,
            (
              c.in_ok-push_place-2.ensures,
              (
                after,
                tt,
              ),
            ),
          ),
        ),
      ),
    )) (at_ok c.extend_from_slice-4.result c.push_place-2.new.text.items c.extend_from_slice-4.new.self.items
    (codes " is back where it began one period later") c.extend_from_slice-4.ensures.items)
