use Rattle.std.proofs.lemmas.Result.{on_ok_weaker}
use Rattle.std.proofs.Common.{rules, w64, ◌∷◌, [], ◌++◌, codes, ap, ◌∙◌}
use Rattle.walk_words.specs.Places.{later_text}
use Rattle.walk_words.specs.Steps.{lifted_text}
use mir.Val.{SFits}
use Rattle.std.proofs.lemmas.Int.{to_z-of_z}
use Rattle.walk_words.proofs.Texts.{grown}
use Rattle.walk_words.proofs.orders.push_hoist.Goals as goal

pub returns : goal.returns
returns c =
    let l = c.args.line.now in
    let path = c.args.path.now in
    let a = c.args.first in
    let b = c.args.second in
    let fits : SFits w64 c.args.q = search rules in
    on_ok_weaker c.push_later.result
    (λ after. grown c.args.text.now.items c.extend_from_slice.new.self.items (codes "so that no hoists collide, ")
    ((c.push_lifted.new.text.items, lifted_text l path a.carrier a.step)
    ∷ (c.extend_from_slice-2.new.self.items, codes " before ")
    ∷ (c.push_lifted-2.new.text.items, lifted_text l path b.carrier b.step)
    ∷ (c.push_later.new.text.items, later_text c.args.q)
    ∷ []) c.in_ok-extend_from_slice.ensures.items (
      c.in_ok-push_lifted.ensures,
      (
        c.in_ok-extend_from_slice-2.ensures.items,
        (
          c.in_ok-push_lifted-2.ensures,
          (
            after ∙ ap (λ z. c.push_lifted-2.new.text.items ++ later_text z) (to_z-of_z w64 c.args.q fits),
            tt,
          ),
        ),
      ),
    )) c.push_later.ensures
