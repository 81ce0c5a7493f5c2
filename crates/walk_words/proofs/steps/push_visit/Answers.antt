use Rattle.std.proofs.lemmas.Result.{on_ok_weaker}
use Rattle.std.proofs.Common.{◌∷◌, [], codes}
use Rattle.walk_words.specs.Places.{place, carrier_text}
use Rattle.walk_words.specs.Steps.{leaving_text}
use Rattle.walk_words.proofs.Texts.{grown}
use Rattle.walk_words.proofs.steps.push_visit.Goals as goal

pub returns : goal.returns
returns c =
    let l = c.args.line.now in
    let path = c.args.path.now in
    let v = c.args.v in
    on_ok_weaker c.push_leaving.result
    (λ after. grown c.args.text.now.items c.push_place.new.text.items (place l path v.carrier v.stage)
    ((c.extend_from_slice.new.self.items, codes " is free again one period later: ")
    ∷ (c.push_carrier.new.text.items, carrier_text v.carrier)
    ∷ (c.push_leaving.new.text.items, leaving_text l v.stage)
    ∷ []) c.in_ok-push_place.ensures (
      c.in_ok-extend_from_slice.ensures.items,
      (
        c.in_ok-push_carrier.ensures,
        (
          after,
          tt,
        ),
      ),
    )) c.push_leaving.ensures
