use Rattle.std.proofs.Common.{arith}
use Rattle.std.proofs.lemmas.Map.Text.{text_keys}
use Rattle.line_text.proofs.parts.add_name.Goals as goal
use Rattle.line_text.proofs.parts.add_name.Goals.{in-Ok, in-Err}

pub returns : goal.returns
returns c =
    elim c.match-insert.branch [
      | in-Ok w ↦ rw w.result-is (λ q. grind (arith, text_keys))
      | in-Err w ↦ rw w.result-is tt
    ]
