-- The list of files: what it is, and how far bytes go on as one.
use Rattle.std.specs.Prelude.{◌≡◌, ◌≢◌, ℕ, ◌≤◌, List, [], ◌∷◌, ◌++◌, length, flat_map, All, ⊤}
use Rattle.text_writing.specs.Texts.{end}
use Rattle.field_reading.specs.Fronts.{BreaksAt}
use Rattle.file_list.specs.declared.read.ListRead.{ListRead}
use Rattle.file_list.specs.declared.read.ListRead.TheVariants.{Ready, Broken}

abbrev pub most_names : ℕ
most_names = 64

-- of the bytes of a name
abbrev pub most_bytes : ℕ
most_bytes = 255

-- a byte that can be seen
abbrev pub IsSeen : ℕ → Type 0
IsSeen byte = (33 ≤ byte) × (byte ≤ 126)

-- the first byte is no dash
abbrev pub HasNoDash : List ℕ → Type 0
HasNoDash [] = ⊤
HasNoDash (byte ∷ bytes) = byte ≢ 45

-- 1 to 255 bytes that can be seen, the first of them no dash
pub record IsName (name : List ℕ) : Type 0 where
  pub some : 1 ≤ length name
  pub few : length name ≤ most_bytes
  pub seen : All IsSeen name
  pub no_dash : HasNoDash name

-- 1 to 64 names
pub record IsFileList (names : List (List ℕ)) : Type 0 where
  pub some : 1 ≤ length names
  pub few : length names ≤ most_names
  pub each : All IsName names

-- each name, and the end of its line
abbrev pub list_text : List (List ℕ) → List ℕ
list_text names = flat_map (λ (name : List ℕ). name ++ end) names

-- a right answer about the bytes: they are the text of this list, or of none, and break where the longest front ends
abbrev pub IsListRead : List ℕ → ListRead → Type 0
IsListRead bytes (Ready names) = IsFileList names × (bytes ≡ list_text names)
IsListRead bytes (Broken offset) = BreaksAt IsFileList list_text bytes offset
