-- Reading from left to right. A reading gives the value and the bytes after it, or how many bytes are left behind the
-- longest front with which some text goes on.
use Rattle.std.specs.Prelude.{ℕ, zero, suc, ◌+◌, ◌*◌, ◌-◌, ℤ, pos, neg_ℤ, codes, decimal, List, [], ◌∷◌, ◌++◌, length}
use Rattle.std.specs.Prelude.{Bool, false, ◌&&◌, Result, Ok, Err, nat_lt, nat_le, min, ◌==◌, if◌then◌else◌}
use Rattle.text_writing.specs.Texts.{end}

infixl 10 ◌>>=◌
abbrev pub ◌>>=◌ : {A B : Type 0} → Result A ℕ → (A → Result B ℕ) → Result B ℕ
(Ok x) >>= f = f x
(Err e) >>= f = Err e

-- a word that is fixed
unfoldable pub word_at : List ℕ → List ℕ → Result (List ℕ) ℕ
word_at [] bytes = Ok bytes
word_at (w ∷ ws) [] = Err 0
word_at (w ∷ ws) (b ∷ bytes) = if w == b then word_at ws bytes else Err (length (b ∷ bytes))

-- these two numbers with a blank between them
unfoldable pub known_pair_at : ℕ → ℕ → List ℕ → Result (List ℕ) ℕ
known_pair_at first second bytes = do
  a ← word_at (decimal first) bytes
  b ← word_at (codes " ") a
  word_at (decimal second) b

abbrev pub is_digit : ℕ → Bool
is_digit b = nat_le 48 b && nat_le b 57

-- the digits behind those of n
unfoldable pub digits_at : ℕ → ℕ → List ℕ → Result (ℕ × List ℕ) ℕ
digits_at most n [] = Ok (n, [])
digits_at most n (b ∷ bytes) =
    if is_digit b
    then (if nat_lt 0 n && nat_le (n * 10 + (b - 48)) most then digits_at most (n * 10 + (b - 48)) bytes else Err (length (b ∷ bytes)))
    else Ok (n, b ∷ bytes)

-- a number from least, 0 or 1, to most
unfoldable pub number_at : ℕ → ℕ → List ℕ → Result (ℕ × List ℕ) ℕ
number_at least most [] = Err 0
number_at least most (b ∷ bytes) =
    if is_digit b && (nat_le (least + 48) b && nat_le b (most + 48)) then digits_at most (b - 48) bytes else Err (length (b ∷ bytes))

abbrev pub begins : ℕ → List ℕ → Bool
begins b [] = false
begins b (x ∷ bytes) = x == b

-- a number that may be negative, of size up to most
unfoldable pub signed_at : ℕ → List ℕ → Result (ℤ × List ℕ) ℕ
signed_at most [] = Err 0
signed_at most (b ∷ bytes) =
    if b == 45
    then (number_at 1 most bytes >>= λ x. Ok (neg_ℤ (pos x.0), x.1))
    else (number_at 0 most (b ∷ bytes) >>= λ x. Ok (pos x.0, x.1))

-- the first reading, or where it breaks the second; where both break, what goes on further
abbrev pub kind_or : {K : Type 0} → K → Result (List ℕ) ℕ → Result (K × List ℕ) ℕ → Result (K × List ℕ) ℕ
kind_or k (Ok rest) others = Ok (k, rest)
kind_or k (Err left) (Ok x) = Ok x
kind_or k (Err left) (Err other) = Err (min left other)

-- the kind whose word comes next
unfoldable pub kind_at : {K : Type 0} → (K → List ℕ) → List K → List ℕ → Result (K × List ℕ) ℕ
kind_at word [] bytes = Err (length bytes)
kind_at word (k ∷ kinds) bytes = kind_or k (word_at (word k) bytes) (kind_at word kinds bytes)

-- two fields with a word between
abbrev pub both_at : {A B : Type 0} → (List ℕ → Result (A × List ℕ) ℕ) → List ℕ → (List ℕ → Result (B × List ℕ) ℕ) → List ℕ → Result ((A × B) × List ℕ) ℕ
both_at first word second bytes = do
  a ← first bytes
  between ← word_at word a.1
  b ← second between
  Ok ((a.0, b.0), b.1)

-- two fields, one after the other
abbrev pub next_at : {A B : Type 0} → (List ℕ → Result (A × List ℕ) ℕ) → (List ℕ → Result (B × List ℕ) ℕ) → List ℕ → Result ((A × B) × List ℕ) ℕ
next_at first second bytes = do
  a ← first bytes
  b ← second a.1
  Ok ((a.0, b.0), b.1)

-- a field, and the end of the line
abbrev pub ended : {A : Type 0} → Result (A × List ℕ) ℕ → Result (A × List ℕ) ℕ
ended r = r >>= λ x. word_at end x.1 >>= λ rest. Ok (x.0, rest)

-- n items one after the other, numbered from i on
unfoldable pub items_at : {A : Type 0} → (ℕ → List ℕ → Result (A × List ℕ) ℕ) → ℕ → ℕ → List ℕ → Result (List A × List ℕ) ℕ
items_at item i zero bytes = Ok ([], bytes)
items_at item i (suc n) bytes = do
  first ← item i bytes
  others ← items_at item (i + 1) n first.1
  Ok (first.0 ∷ others.0, others.1)

-- items until none is open: each closes one and opens as many as its arity; fuel bounds how many are read
unfoldable pub forest_at : {A : Type 0} → (A → ℕ) → (List ℕ → Result (A × List ℕ) ℕ) → ℕ → ℕ → List ℕ → Result (List A × List ℕ) ℕ
forest_at arity item zero trees bytes = Err (length bytes)
forest_at arity item (suc fuel) zero bytes = Ok ([], bytes)
forest_at arity item (suc fuel) (suc trees) bytes = do
  first ← item bytes
  others ← forest_at arity item fuel (trees + arity first.0) first.1
  Ok (first.0 ∷ others.0, others.1)

-- what was read before, and what is still read
abbrev pub with_front : {A : Type 0} → List A → Result (List A × List ℕ) ℕ → Result (List A × List ℕ) ℕ
with_front front read = read >>= λ x. Ok (front ++ x.0, x.1)
