-- Named files: what a shelf holds, and what stands under a name.
use Rattle.std.specs.Prelude.{ℕ, List, [], ◌∷◌, map, if◌then◌else◌, String, Vec, string_bytes, Option, Some, None, unwrap_or}
use Rattle.std.specs.Str.{bytes_eq}
use Rattle.std.specs.declared.alloc.Global.{Global}

-- files in an order, each as its name and its bytes
abbrev pub Files : Type 0
Files = List (List ℕ × List ℕ)

-- the bytes of the first file of this name; None where no file has it
abbrev pub file_of : Files → List ℕ → Option (List ℕ)
file_of [] name = None
file_of (file ∷ files) name = if bytes_eq file.0 name then Some file.1 else file_of files name

-- the bytes that a name stands for: those of its first file, and no bytes where no file has it
abbrev pub bytes_of : Files → List ℕ → List ℕ
bytes_of files name = unwrap_or (file_of files name) []

-- the files that a list of owned names and owned bytes stands for
abbrev pub files_of : List (String Global × Vec ℕ Global) → Files
files_of files = map (λ file. (string_bytes file.0, file.1.items)) files
