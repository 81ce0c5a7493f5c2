-- What the words of the program mean. Word 0 is the program's name.
use Rattle.std.specs.Prelude.{◌≡◌, ℕ, ◌⊎◌, List, [], ◌∷◌, drop, codes, Option, Some, None}
use Rattle.hoist_words.specs.Request.{IsFileName}
use Rattle.report_words.specs.declared.words.Form.{Form}
use Rattle.report_words.specs.declared.words.Form.TheVariants.{Page, Json}
use Rattle.report_words.specs.declared.words.Asked.{Asked}
use Rattle.report_words.specs.declared.words.Placed.{Placed}
use Rattle.report_words.specs.declared.words.Placed.TheVariants.{Two, Three}

abbrev pub option : List ℕ
option = codes "--json"

-- the words are a line's file and an answer's file, in this order, and for JSON the option before, between or behind
-- them
abbrev pub Say : List (List ℕ) → Form → List ℕ → List ℕ → Type 0
Say words Page file answer = words ≡ file ∷ answer ∷ []
Say words Json file answer =
    (words ≡ option ∷ file ∷ answer ∷ [])
    ⊎ ((words ≡ file ∷ option ∷ answer ∷ []) ⊎ (words ≡ file ∷ answer ∷ option ∷ []))

-- the words ask for the answer of one file to the line of another, in this form
pub record AsksReport (words : List (List ℕ)) (form : Form) (file answer : List ℕ) : Type 0 where
  pub say : Say (drop 1 words) form file answer
  pub file_name : IsFileName file
  pub answer_name : IsFileName answer

-- the words ask for nothing that the program does
abbrev pub AskNoReport : List (List ℕ) → Type 0
AskNoReport words = (form : Form) (file answer : List ℕ) → AsksReport words form file answer → ⊥

-- what the words ask for, or that they ask for nothing
abbrev pub IsAskedBy : List (List ℕ) → Option Asked → Type 0
IsAskedBy words None = AskNoReport words
IsAskedBy words (Some asked) = AsksReport words asked.form asked.file.now asked.answer.now

-- ---- words by their count

abbrev pub words_in : Placed → List (List ℕ)
words_in (Two a b) = a.now ∷ b.now ∷ []
words_in (Three a b c) = a.now ∷ b.now ∷ c.now ∷ []

-- these words, or that no words say two files
abbrev pub IsBehind : List (List ℕ) → Option Placed → Type 0
IsBehind words None = (form : Form) (file answer : List ℕ) → Say words form file answer → ⊥
IsBehind words (Some behind) = words ≡ words_in behind

-- the words say these files in this form, and no other files with names; or no such files
abbrev pub IsSaidBy : List (List ℕ) → Option Asked → Type 0
IsSaidBy words None = (form : Form) (file answer : List ℕ) → Say words form file answer → IsFileName file → IsFileName answer → ⊥
IsSaidBy words (Some asked) =
    Say words asked.form asked.file.now asked.answer.now
    × ((form : Form) (file answer : List ℕ) → Say words form file answer → IsFileName file → IsFileName answer
    → (form ≡ asked.form) × ((file ≡ asked.file.now) × (answer ≡ asked.answer.now)))
