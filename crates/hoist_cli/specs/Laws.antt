-- What holds of any two runs.
use Rattle.std.specs.Prelude.{◌≡◌, ◌≢◌, ℕ, List, Some}
use Rattle.outside.specs.Shelf.{Files}
use Rattle.hoist_words.specs.Request.{AsksSolve}
use Rattle.hoist_cli.specs.declared.status.Status.{Status}
use Rattle.hoist_cli.specs.declared.status.Status.TheVariants.{Read}
use Rattle.hoist_cli.specs.Reading.{reading}
use Rattle.hoist_cli.specs.Reply.{IsReply}

-- runs whose words ask to solve one file with one budget, over shelves that tell the same files, give one text with one
-- status, however many workers there are, but where a read failed
abbrev pub WorkersDoNotMatter : Type 0
WorkersDoNotMatter =
    (files : Files) (before after before' after' : ℕ) (words words' : List (List ℕ)) (file : List ℕ) (budget workers workers' : ℕ)
    (status status' : Status) (text text' : List ℕ)
    → AsksSolve words file budget workers → AsksSolve words' file budget workers'
    → IsReply (reading (Some files) before after) words status text
    → IsReply (reading (Some files) before' after') words' status' text'
    → status ≢ Read → status' ≢ Read → (status ≡ status') × (text ≡ text')
