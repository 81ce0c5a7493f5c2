use Rattle.std.proofs.Common.{◌+◌, codes}
use Rattle.std.proofs.lemmas.Result.{on_ok_weaker}
use Rattle.walk_words.specs.Places.{carrier_text}
use Rattle.walk_words.proofs.Texts.{picks_first, at_ok}
use Rattle.walk_words.proofs.steps.push_next.Goals as goal

pub returns-then-is_last_carrier : goal.returns-then-is_last_carrier
returns-then-is_last_carrier c =
    on_ok_weaker c.extend_from_slice.result
    (λ after. picks_first c.args.text.now.items c.extend_from_slice.new.self.items
    (codes "carrier 0 of the next period") (carrier_text (c.args.carrier + 1)) c.is_last_carrier.result _
    c.is_last_carrier.ensures.value c.if-is_last_carrier.true after)
    (at_ok c.extend_from_slice.result c.args.text.now.items c.extend_from_slice.new.self.items
    (codes "carrier 0 of the next period") c.extend_from_slice.ensures.items)
