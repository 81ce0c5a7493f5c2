use Rattle.std.proofs.Common.{◌∙◌, ap, not, Some, None}
use Rattle.line_text.specs.Tables.{is_listed}
use Rattle.line_text.proofs.Items.{unlisted_is}
use Rattle.line_text.proofs.tables.unknown_key.Goals as goal

pub returns-in-Some-first_unlisted : goal.returns-in-Some-first_unlisted
returns-in-Some-first_unlisted c =
    ap Some c.as_str.ensures.value
    ∙ unlisted_is (λ key. not (is_listed c.args.rules.now key)) (Some c.in-Some-first_unlisted.key.now) c.in-Some.members.now _
    c.in-Some-first_unlisted.ensures.ordered c.in-Some.ensures c.in-Some-first_unlisted.ensures.found

pub returns-in-None : goal.returns-in-None
returns-in-None c =
    unlisted_is (λ key. not (is_listed c.args.rules.now key)) None c.in-Some.members.now _
    c.in-None.ensures.ordered c.in-Some.ensures c.in-None.ensures.found
