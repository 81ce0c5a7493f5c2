-- The page of an answer with a timetable.
use Rattle.std.specs.Prelude.{◌≡◌, ℕ, List, ◌++◌, codes, decimal, length}
use Rattle.hoist_base.specs.LineData.{LineData}
use Rattle.line_model.specs.Timetable.{Timetable}
use Rattle.answer_text.specs.declared.answer.Answer.{Answer}
use Rattle.markup.specs.declared.words.Tag.TheVariants as tags
use Rattle.markup.specs.declared.words.Key.TheVariants as keys
use Rattle.markup.specs.Forms.{Form, fresh, having, saying, holding, document_text}
use Rattle.report_dwells.specs.Dwells.{dwells}
use Rattle.report_shares.specs.Shares.{shares}
use Rattle.report_shares.specs.Numbers.{numbers}
use Rattle.report_reason.specs.Reason.{IsReason}
use Rattle.report_page.specs.Parts.{said}
use Rattle.report_page.specs.Timeway.{timeway}
use Rattle.report_page.specs.Texts.{style_sheet}

-- what the page is of
unfoldable pub title_words : Timetable → List ℕ
title_words p = codes "Hoist timetable: period " ++ decimal p.period

-- how many tanks and stages there are
abbrev pub place_words : LineData → List ℕ
place_words l = codes "Tanks: " ++ (decimal (length l.tanks) ++ (codes ", stages: " ++ decimal (length l.stages)))

-- how many carriers there are in a period
unfoldable pub carrier_words : LineData → List ℕ
carrier_words l = codes ", carriers in a period: " ++ decimal l.degree

-- how many hoists there are, and carriers in a period
abbrev pub mover_words : LineData → List ℕ
mover_words l = codes ", hoists: " ++ (decimal l.hoists ++ carrier_words l)

-- how large the line is
unfoldable pub line_words : LineData → List ℕ
line_words l = place_words l ++ mover_words l

-- the head: the character set, the title and the style sheet
unfoldable pub head : Timetable → Form
head p =
    holding
    (holding
    (holding (fresh tags.Head) (having (fresh tags.Meta) keys.Charset (codes "utf-8")))
    (said tags.Title (title_words p)))
    (said tags.Style style_sheet)

-- a body that holds what the page is of alone
unfoldable pub opening : LineData → Timetable → Form
opening l p = holding (holding (fresh tags.Body) (said tags.Heading (title_words p)))
    (said tags.Paragraph (line_words l))

-- the body with the dwells and the shares behind what it holds
unfoldable pub with_tables : LineData → Timetable → Form → Form
with_tables l p begun = holding (holding begun (dwells l p)) (shares l p)

-- the body: what the page is of, and its sections: the numbers, the diagram, the dwells, the shares and the reason
unfoldable pub body : LineData → Answer → Timetable → Form → Form
body l a p reason = holding (with_tables l p (holding (holding (opening l p) (numbers l a p)) (timeway l p))) reason

-- the whole element, with its reason
unfoldable pub root : LineData → Answer → Timetable → Form → Form
root l a p reason = holding (holding (having (fresh tags.Html) keys.Lang (codes "en")) (head p)) (body l a p reason)

-- the text is that of a page of the line, the answer and the timetable, with a reason why the period isn't smaller
abbrev pub IsPage : LineData → Answer → Timetable → List ℕ → Type 0
IsPage l a p text = (reason : Form) × IsReason l a reason × (text ≡ document_text (root l a p reason))
