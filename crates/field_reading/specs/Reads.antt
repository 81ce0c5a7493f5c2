-- What a reader of one field promises: the value that was read is the only one whose text agrees with the bytes past
-- it, and where reading broke off, the text of some value begins with all that was read, and that of none goes on.
use Rattle.std.specs.Prelude.{◌≡◌, ℕ, ◌≤◌, ℤ, List, [], ◌∷◌, ◌++◌, length, Bool, false, Result, Ok, Err, ◌⊎◌, unsigned_abs}
use Rattle.field_reading.specs.Reading.{is_digit}

-- both are at their end, or go on with one byte
abbrev pub SameHead : List ℕ → List ℕ → Type 0
SameHead [] [] = Unit {0}
SameHead [] (b ∷ ys) = ⊥
SameHead (a ∷ xs) [] = ⊥
SameHead (a ∷ xs) (b ∷ ys) = a ≡ b

-- the value a was read, and rest is left: any text that agrees past it is one of a
pub record IsRead {A : Type 0} (Fits : A → Type 0) (text : A → List ℕ) (Stops : List ℕ → Type 0) (bytes : List ℕ) (a : A) (rest : List ℕ) : Type 0 where
  pub fits : Fits a
  pub is : bytes ≡ text a ++ rest
  pub only : (b : A) (t y : List ℕ) → Fits b → Stops t → text b ++ t ≡ text a ++ y → SameHead y rest → b ≡ a

-- some text begins with front, and none agrees past it
pub record IsBroken {A : Type 0} (Fits : A → Type 0) (text : A → List ℕ) (Stops : List ℕ → Type 0) (bytes : List ℕ) (left : ℕ) : Type 0 where
  pub front : List ℕ
  pub back : List ℕ
  pub is : bytes ≡ front ++ back
  pub left_is : left ≡ length back
  pub some : A
  pub fits : Fits some
  pub more : List ℕ
  pub begun : text some ≡ front ++ more
  pub none : (b : A) (t y : List ℕ) → Fits b → Stops t → text b ++ t ≡ front ++ y → SameHead y back → ⊥

abbrev pub Reads : {A : Type 0} → (A → Type 0) → (A → List ℕ) → (List ℕ → Type 0) → List ℕ → Result (A × List ℕ) ℕ → Type 0
Reads Fits text Stops bytes (Ok x) = IsRead Fits text Stops bytes x.0 x.1
Reads Fits text Stops bytes (Err left) = IsBroken Fits text Stops bytes left

-- ---- what may stand behind a field, and what fits it

-- anything may follow
abbrev pub Any : List ℕ → Type 0
Any t = Unit {0}

-- no digit comes next
abbrev pub NoDigit : List ℕ → Type 0
NoDigit [] = Unit {0}
NoDigit (b ∷ bytes) = is_digit b ≡ false

abbrev pub InRange : ℕ → ℕ → ℕ → Type 0
InRange least most n = (least ≤ n) × (n ≤ most)

-- the size of a number that may be negative
abbrev pub IsSmall : ℕ → ℤ → Type 0
IsSmall most z = unsigned_abs z ≤ most

-- one of these kinds
abbrev pub In : {K : Type 0} → List K → K → Type 0
In [] k = ⊥
In (j ∷ kinds) k = (k ≡ j) ⊎ In kinds k

-- no word begins another
abbrev pub AreApart : {K : Type 0} → (K → List ℕ) → List K → Type 0
AreApart {K = K} word kinds = (j k : K) (t y : List ℕ) → In kinds j → In kinds k → word j ++ t ≡ word k ++ y → j ≡ k
