-- The order in which questions are asked.
use Rattle.std.specs.Prelude.{◌≡◌, ℕ, ◌<◌, ◌⊎◌, List, [], ◌∷◌, Option, Some, None, ℤ, ◌<ℤ◌}
use Rattle.hoist_base.specs.LineData.{LineData}
use Rattle.choice_tree.specs.declared.question.Question.{Question}
use Rattle.choice_tree.specs.declared.question.Question.TheVariants.{Assign, TankOrder, HoistOrder, Choose}
use Rattle.choice_tree.specs.declared.question.Decision.{Decision}
use Rattle.path_constraints.specs.Questions.{Stands, Fits, Fails, shift_of}

-- tanks are chosen first, then the orders of visits and of moves, and hoists last
abbrev pub kind_of : Question → ℕ
kind_of (Choose v) = 0
kind_of (TankOrder a b q) = 1
kind_of (HoistOrder a b q) = 2
kind_of (Assign m) = 3

-- whom a question names
abbrev pub names_of : Question → List ℕ
names_of (Choose v) = v.carrier ∷ v.stage ∷ []
names_of (TankOrder a b q) = a.carrier ∷ a.stage ∷ b.carrier ∷ b.stage ∷ []
names_of (HoistOrder a b q) = a.carrier ∷ a.step ∷ b.carrier ∷ b.step ∷ []
names_of (Assign m) = m.carrier ∷ m.step ∷ []

-- the first numbers that differ say which comes first
abbrev pub NamesBefore : List ℕ → List ℕ → Type 0
NamesBefore [] ys = ⊥
NamesBefore (x ∷ xs) [] = ⊥
NamesBefore (x ∷ xs) (y ∷ ys) = (x < y) ⊎ ((x ≡ y) × NamesBefore xs ys)

-- question x is asked before question y: by kind, then by names, then by q from the most negative
abbrev pub ComesBefore : Question → Question → Type 0
ComesBefore x y =
    (kind_of x < kind_of y)
    ⊎ ((kind_of x ≡ kind_of y) × (NamesBefore (names_of x) (names_of y) ⊎ ((names_of x ≡ names_of y) × (shift_of x <ℤ shift_of y))))

-- a question that may stand below the path and that the ticks leave open, over every whole q
pub record IsAsked (l : LineData) (path : List Decision) (ticks : ℕ → ℤ) (period : ℕ) (question : Question) : Type 0 where
  pub stands : Stands l path question
  pub fails : Fails l path ticks period question

-- the first question of all that are asked, or none where none is
abbrev pub IsFirstQuestion : LineData → List Decision → (ℕ → ℤ) → ℕ → Option Question → Type 0
IsFirstQuestion l path ticks period None = (x : Question) → IsAsked l path ticks period x → ⊥
IsFirstQuestion l path ticks period (Some question) =
    Fits l path question × Fails l path ticks period question
    × ((x : Question) → IsAsked l path ticks period x → ComesBefore x question → ⊥)
