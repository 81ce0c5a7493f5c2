use Rattle.std.proofs.Common.{◌≡◌, map, ap, ◌∙◌}
use Rattle.markup.specs.Forms.{Form, holding, holding_all}
use Rattle.walk_words.specs.Walks.{step_row, sums_row, sums_of, blank_table, walk_table}
use Rattle.walk_words.proofs.Texts.{if_ok_weaker}
use Rattle.walk_words.proofs.Named.{closed_named}
use Rattle.walk_words.proofs.table.walk_table.Goals as goal

pub with_steps-requires-clause-named : goal.with_steps-requires-clause-named
with_steps-requires-clause-named c = closed_named c.args.line.now c.args.path.now c.args.walk.now c.requires.closed

pub sums_of-requires-clause-named : goal.sums_of-requires-clause-named
sums_of-requires-clause-named c = closed_named c.args.line.now c.args.path.now c.args.walk.now c.requires.closed

pub returns : goal.returns
unfolding walk_table
returns c =
    let l = c.args.line.now in
    let path = c.args.path.now in
    let walk = c.args.walk.now in
    let rows = map (step_row l path) walk in
    let steps : c.in_ok-steps.steps ≡ holding_all blank_table rows =
    c.in_ok-steps.ensures ∙ ap (λ (table : Form). holding_all table rows) c.in_ok-blank.ensures in
    let last : c.in_ok-last.last
    ≡ sums_row (sums_of l path walk) = c.in_ok-last.ensures ∙ ap sums_row c.sums_of.ensures.value in
    if_ok_weaker c.holding.result (λ e. e ≡ holding c.in_ok-steps.steps c.in_ok-last.last)
    (λ e. e ≡ walk_table l path walk)
    (λ e is. is ∙ (λ i. holding (steps i) (last i))) c.holding.ensures
