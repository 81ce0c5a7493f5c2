use Rattle.std.proofs.Common.{ℕ, List, ◌++◌, ap, ◌∙◌}
use Rattle.line_text.specs.Written.{tank_name, quoted}
use Rattle.line_text.proofs.WrittenLemmas.{names_behind}
use Rattle.line_text.proofs.write.push_names.Goals as goal

pub returns-in_ok-push_more_names : goal.returns-in_ok-push_more_names
returns-in_ok-push_more_names c =
    names_behind (tank_name c.args.line.now) c.args.tanks.now c.in-Some.rest.now c.in-Some.first.now c.args.text.now.items c.push_quoted.new.text.items
    c.push_more_names.new.text.items c.in-Some.ensures.cases.0
    (c.in_ok-push_quoted.ensures ∙ ap (λ (name : List ℕ). c.args.text.now.items ++ quoted name) c.tank_name.ensures) c.in_ok-push_more_names.ensures
