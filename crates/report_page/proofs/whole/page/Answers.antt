use Rattle.std.proofs.Common.{◌∙◌, ap}
use Rattle.markup.specs.Forms.{document_text}
use Rattle.report_page.proofs.whole.page.Goals as goal

pub returns-clause-page : goal.returns-clause-page
returns-clause-page c =
    (c.in_ok-why.why, c.in_ok-why.ensures, c.in_ok-text.ensures.text ∙ ap document_text c.in_ok-whole.ensures)
