-- The longer texts of the page.
use Rattle.std.specs.Prelude.{ℕ, List}
use Rattle.report_page.specs.declared.style.TheConstants.{STYLE}
use Rattle.report_page.specs.declared.diagram.TheConstants.{READING}

-- how the page looks
unfoldable pub style_sheet : List ℕ
style_sheet = STYLE.now

-- how the diagram is read
unfoldable pub reading_words : List ℕ
reading_words = READING.now
