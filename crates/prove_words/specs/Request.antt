-- What the words of the program mean. Word 0 is the program's name.
use Rattle.std.specs.Prelude.{◌≡◌, ℕ, ◌⊎◌, List, [], ◌∷◌, ◌++◌, drop, codes, Option, Some, None}
use Rattle.hoist_words.specs.Request.{IsFileName, IsValue}
use Rattle.hoist_words.specs.Found.{listed}
use Rattle.prove_words.specs.declared.words.Asked.{Asked}
use Rattle.prove_words.specs.declared.words.Placed.{Placed}
use Rattle.prove_words.specs.declared.words.Placed.TheVariants.{One, Two, Three}
use Rattle.prove_words.specs.declared.words.FileWithValue.{FileWithValue}

-- the option with this value, as one word or as two
abbrev pub IsOption : List (List ℕ) → List ℕ → Type 0
IsOption option value = (option ≡ (codes "--nodes=" ++ value) ∷ []) ⊎ (option ≡ codes "--nodes" ∷ value ∷ [])

-- the words are a file, and before or behind it the option, with the one value of these; or a file alone where there is
-- none
abbrev pub Say : List (List ℕ) → List ℕ → List (List ℕ) → Type 0
Say words file [] = words ≡ file ∷ []
Say words file (value ∷ []) =
    (option : List (List ℕ)) × IsOption option value × ((words ≡ file ∷ option) ⊎ (words ≡ option ++ (file ∷ [])))
Say words file (value ∷ other ∷ values) = ⊥

-- how many nodes a search expands at most where the words don't say it, and the most that they may say
abbrev pub default_nodes : ℕ
default_nodes = 300000

abbrev pub most_nodes : ℕ
most_nodes = 1000000000

-- the words ask for a proof for the line of a file, whose search expands so many nodes at most: the option is given at
-- most once, with a number in its decimal digits
pub record AsksProof (words : List (List ℕ)) (file : List ℕ) (nodes : ℕ) : Type 0 where
  pub values : List (List ℕ)
  pub say : Say (drop 1 words) file values
  pub name : IsFileName file
  pub number : IsValue values default_nodes 0 most_nodes nodes

-- the words ask for nothing that the program does
abbrev pub AskNoProof : List (List ℕ) → Type 0
AskNoProof words = (file : List ℕ) (nodes : ℕ) → AsksProof words file nodes → ⊥

-- what the words ask for, or that they ask for nothing
abbrev pub IsAskedBy : List (List ℕ) → Option Asked → Type 0
IsAskedBy words None = AskNoProof words
IsAskedBy words (Some asked) = AsksProof words asked.file.now asked.nodes

-- ---- words by their count

abbrev pub words_in : Placed → List (List ℕ)
words_in (One a) = a.now ∷ []
words_in (Two a b) = a.now ∷ b.now ∷ []
words_in (Three a b c) = a.now ∷ b.now ∷ c.now ∷ []

-- these words, or that no words say a file and the option
abbrev pub IsBehind : List (List ℕ) → Option Placed → Type 0
IsBehind words None = (file : List ℕ) (values : List (List ℕ)) → Say words file values → ⊥
IsBehind words (Some behind) = words ≡ words_in behind

-- the words say this file and this value, and no other file with a name; or no such file
abbrev pub IsParted : List (List ℕ) → Option FileWithValue → Type 0
IsParted words None = (file : List ℕ) (values : List (List ℕ)) → Say words file values → IsFileName file → ⊥
IsParted words (Some parted) =
    Say words parted.file.now (listed parted.value)
    × ((file : List ℕ) (values : List (List ℕ)) → Say words file values → IsFileName file
    → (file ≡ parted.file.now) × (values ≡ listed parted.value))
