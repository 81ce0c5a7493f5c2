-- The front of a list: whole names, and the bytes of one that isn't ended yet.
use Rattle.std.specs.Prelude.{◌≡◌, ◌≢◌, ℕ, ◌≤◌, ◌<◌, List, [], ◌++◌, length, All}
use Rattle.file_list.specs.FileList.{most_names, most_bytes, IsSeen, HasNoDash, IsName, list_text}

-- no more names than a list may have, and where another was begun there is room for it
pub record IsFront (names : List (List ℕ)) (name : List ℕ) : Type 0 where
  pub each : All IsName names
  pub few : length names ≤ most_names
  pub seen : All IsSeen name
  pub short : length name ≤ most_bytes
  pub no_dash : HasNoDash name
  pub room : 1 ≤ length name → length names < most_names

-- what was read
abbrev pub front_text : List (List ℕ) → List ℕ → List ℕ
front_text names name = list_text names ++ name

-- the name behind these names may go on with this byte
pub record CanFollow (names : List (List ℕ)) (name : List ℕ) (byte : ℕ) : Type 0 where
  pub seen : IsSeen byte
  pub short : length name < most_bytes
  pub no_dash : name ≡ [] → byte ≢ 45
  pub room : length names < most_names

-- the byte neither ends the name nor goes on with it
pub record IsStuck (names : List (List ℕ)) (name : List ℕ) (byte : ℕ) : Type 0 where
  pub no_end : byte ≡ 10 → name ≡ []
  pub no_more : CanFollow names name byte → ⊥
