use Rattle.std.proofs.Common.{◌≡◌, ◌++◌, take, length, decimal}
use Rattle.std.specs.List.{flat_map}
use Rattle.answer_text.specs.Fields.{token_text}
use Rattle.answer_text.proofs.fields.push_walk.Given as goal

abbrev pub invariant-loop-token : goal.invariant-loop-token
invariant-loop-token l =
    l.text.items ≡ l.fn.text.items ++ (decimal (length l.tokens) ++ flat_map token_text (take l.token-index l.tokens))
