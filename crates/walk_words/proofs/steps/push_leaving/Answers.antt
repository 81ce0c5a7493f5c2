use Rattle.std.proofs.lemmas.Result.{on_ok_weaker}
use Rattle.walk_words.specs.Steps.{off_text, swap_text}
use Rattle.walk_words.proofs.Texts.{picks_first}
use Rattle.walk_words.proofs.steps.push_leaving.Goals as goal

pub returns-then-is_last_stage : goal.returns-then-is_last_stage
returns-then-is_last_stage c =
    let l = c.args.line.now in
    let k = c.args.stage in
    on_ok_weaker c.push_off.result
    (λ after. picks_first c.args.text.now.items c.push_off.new.text.items (off_text l k)
    (swap_text l k) c.is_last_stage.result _
    c.is_last_stage.ensures c.if-is_last_stage.true after)
    c.push_off.ensures
