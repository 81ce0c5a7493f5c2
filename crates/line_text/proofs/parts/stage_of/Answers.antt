use Rattle.std.proofs.Common.{◌≡◌, ◌∙◌, map}
use Rattle.toml.specs.View.{view}
use Rattle.line_text.specs.File.{number_of, stage_names}
use Rattle.line_text.proofs.Numbering.{numbers_same}
use Rattle.line_text.proofs.parts.stage_of.Goals as goal

pub returns : goal.returns
returns c = λ tanks numbering same.
    let found : c.from_vec.result ≡ map (number_of tanks) (stage_names (view c.args.table.now))
    = c.from_vec.ensures ∙ c.in_ok-tanks.ensures ∙ numbers_same c.args.numbers.now tanks c.args.count _ numbering same in
    cc
