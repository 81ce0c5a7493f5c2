-- What the program prints, and the status that it ends with, for its words and for what was read.
use Rattle.std.specs.Prelude.{◌≡◌, ℕ, ◌⊎◌, List, codes}
use Rattle.hoist_cli.specs.declared.status.Status.TheVariants.{Words}
use Rattle.hoist_cli.specs.Reading.{Replies, Reading, AfterLine}
use Rattle.prove_words.specs.Request.{AsksProof, AskNoProof}
use Rattle.prove_cli.specs.Proved.{IsProved}

abbrev pub usage : List ℕ
usage = codes "usage: hoist_prove FILE [--nodes N]\n"

-- the usage where the words ask for nothing; else a refusal of the file that they name, or what its line calls for
abbrev pub IsReply : Reading → List (List ℕ) → Replies
IsReply r words status text =
    (AskNoProof words × (status ≡ Words) × (text ≡ usage))
    ⊎ ((file : List ℕ) × (nodes : ℕ) × AsksProof words file nodes × AfterLine r file IsProved status text)
