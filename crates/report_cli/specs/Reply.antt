-- What the program prints, and the status that it ends with, for its words and for what was read.
use Rattle.std.specs.Prelude.{◌≡◌, ℕ, ◌⊎◌, List, codes}
use Rattle.hoist_cli.specs.declared.status.Status.TheVariants.{Words}
use Rattle.hoist_cli.specs.Reading.{Replies, Reading, AnswerReply}
use Rattle.report_words.specs.declared.words.Form.{Form}
use Rattle.report_words.specs.Request.{AsksReport, AskNoReport}
use Rattle.report_cli.specs.Drawn.{IsAnswered}

abbrev pub usage : List ℕ
usage = codes "usage: hoist_report [--json] FILE ANSWER\n"

-- the usage where the words ask for nothing; else a refusal of a file that they name, or what the answer calls for
abbrev pub IsReply : Reading → List (List ℕ) → Replies
IsReply r words status text =
    (AskNoReport words × (status ≡ Words) × (text ≡ usage))
    ⊎ ((form : Form) × (file : List ℕ) × (answer : List ℕ) × AsksReport words form file answer
    × AnswerReply r file answer (IsAnswered form) status text)
