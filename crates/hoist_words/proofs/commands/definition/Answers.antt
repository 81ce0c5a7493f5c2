use Rattle.std.proofs.Common.{◌≡◌, ◌∙◌, ap, ap₂, codes, is_some, nat_lt}
use Rattle.std.proofs.lemmas.Result.{IfOk-weaker}
use Rattle.clap.specs.Words.{app_of, new_app, rule_of, with_rule}
use Rattle.hoist_words.specs.Commands.{positional_rule, with_rule_if}
use Rattle.hoist_words.proofs.commands.definition.Goals as goal

pub returns : goal.returns
returns c =
    let row = c.args.row.now in
    let first : app_of c.in_ok-command.command ≡ with_rule (new_app c.args.name.now) (positional_rule (codes "first")) =
    c.in_ok-command.ensures.shape c.positional.ensures.local ∙ ap₂ with_rule c.new.ensures.app c.positional.ensures.rule in
    let second = c.in_ok-command-2.ensures ∙ ap₂ (with_rule_if (nat_lt 1 row.files)) c.positional-2.ensures.rule first in
    let third = c.in_ok-command-3.ensures
    ∙ ap (λ b. with_rule_if b (rule_of c.option.result) (app_of c.in_ok-command-2.command)) c.is_some.ensures
    ∙ ap₂ (with_rule_if (is_some row.budget)) c.option.ensures.rule second in
    let fourth = c.in_ok-command-4.ensures
    ∙ ap (λ b. with_rule_if b (rule_of c.option-2.result) (app_of c.in_ok-command-3.command)) c.is_some-2.ensures
    ∙ ap₂ (with_rule_if (is_some row.workers)) c.option-2.ensures.rule third in
    let fifth = c.in_ok-command-5.ensures
    ∙ ap (λ b. with_rule_if b (rule_of c.option-3.result) (app_of c.in_ok-command-4.command)) c.is_some-3.ensures
    ∙ ap₂ (with_rule_if (is_some row.carriers)) c.option-3.ensures.rule fourth in
    IfOk-weaker c.with_argument-5.result _ _
    (λ r is. is ∙ ap (λ b. with_rule_if b (rule_of c.option-4.result) (app_of c.in_ok-command-5.command)) c.is_some-4.ensures
    ∙ ap₂ (with_rule_if (is_some row.upto)) c.option-4.ensures.rule fifth)
    c.with_argument-5.ensures
