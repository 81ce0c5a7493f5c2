use Rattle.std.proofs.Common.{◌≡◌, ap, ◌∙◌}
use Rattle.hoist_base.specs.LineData.{is_single}
use Rattle.hoist_base.proofs.SingleLemmas.{single_is}
use Rattle.check_text.specs.Reasons.{checked_of}
use Rattle.hoist_cli.proofs.Meanings.{accepts_of}
use Rattle.hoist_cli.proofs.checking.judged.Goals as goal

pub returns : goal.returns
returns g c =
    let l = c.args.line.now in
    let answer = c.in_ok-checked.checked in
    let single : c.single.result ≡ is_single l = single_is l c.single.result c.single.ensures.value in (
      answer,
      c.in_ok-checked.ensures.first,
      accepts_of l c.args.answer.now answer (c.in_ok-checked.ensures.kept.0) c.in_ok-checked.ensures.bounds,
      c.status_on-status.ensures,
      c.in_ok-text.ensures ∙ ap (λ b. checked_of b answer) single,
    )
