use Rattle.std.proofs.Common.{inr}
use Rattle.report_cli.proofs.drawing.answer_file.Goals as goal

pub returns : goal.returns
returns g c =
    inr (
      c.in_ok-line.line,
      c.in_ok-line.ensures.line,
      inr (c.in_ok-line.answer, c.in_ok-line.ensures.answer, c.in_ok-reply.ensures),
    )
