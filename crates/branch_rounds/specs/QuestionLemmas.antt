-- One question is the first below a path.
use Rattle.std.proofs.Common.{⊎_elim, inl, inr, ◌⊎◌, ◌≡◌, ℕ, zero, suc, List, [], ◌∷◌, length, get_or, refl, sym, ◌∙◌, ap, arith, ℤ, Some}
use Rattle.std.proofs.lemmas.Int.{ints, by_lt_z}
use Rattle.std.proofs.lemmas.Bool.{cases_order}
use Rattle.hoist_base.specs.LineData.{LineData}
use Rattle.choice_tree.specs.declared.question.Question.{Question}
use Rattle.choice_tree.specs.declared.question.Question.TheVariants.{Assign, TankOrder, HoistOrder, Choose}
use Rattle.choice_tree.specs.declared.question.Decision.{Decision}
use Rattle.path_constraints.specs.Questions.{shift_of}
use Rattle.period_constraints.specs.Order.{kind_of, names_of, NamesBefore, ComesBefore, IsAsked, IsFirstQuestion}

-- ---- a question by its kind, its names and its shift

abbrev question_by : ℕ → List ℕ → ℤ → Question
question_by zero names q = Choose (record { carrier = get_or names 0 0; stage = get_or names 1 0 })
question_by (suc zero) names q =
    TankOrder (record { carrier = get_or names 0 0; stage = get_or names 1 0 }) (record { carrier = get_or names 2 0; stage = get_or names 3 0 }) q
question_by (suc (suc zero)) names q =
    HoistOrder (record { carrier = get_or names 0 0; step = get_or names 1 0 }) (record { carrier = get_or names 2 0; step = get_or names 3 0 }) q
question_by (suc (suc (suc n))) names q = Assign (record { carrier = get_or names 0 0; step = get_or names 1 0 })

is_by : (x : Question) → question_by (kind_of x) (names_of x) (shift_of x) ≡ x
is_by (Choose v) = refl
is_by (TankOrder a b q) = refl
is_by (HoistOrder a b q) = refl
is_by (Assign m) = refl

same_question : (x y : Question) → kind_of x ≡ kind_of y → names_of x ≡ names_of y → shift_of x ≡ shift_of y → x ≡ y
same_question x y kind names shift =
    sym (is_by x) ∙ ap (λ (n : ℕ). question_by n (names_of x) (shift_of x)) kind
    ∙ ap (λ (ns : List ℕ). question_by (kind_of y) ns (shift_of x)) names
    ∙ ap (λ (q : ℤ). question_by (kind_of y) (names_of y) q) shift ∙ is_by y

-- ---- the order of questions

abbrev names_size : ℕ → ℕ
names_size zero = 2
names_size (suc zero) = 4
names_size (suc (suc zero)) = 4
names_size (suc (suc (suc n))) = 2

size_is : (x : Question) → length (names_of x) ≡ names_size (kind_of x)
size_is (Choose v) = refl
size_is (TankOrder a b q) = refl
size_is (HoistOrder a b q) = refl
size_is (Assign m) = refl

names_order : (xs ys : List ℕ) → length xs ≡ length ys → (xs ≡ ys) ⊎ (NamesBefore xs ys ⊎ NamesBefore ys xs)
names_order [] [] e = inl refl
names_order [] (y ∷ ys) e = absurd (omega (arith, e))
names_order (x ∷ xs) [] e = absurd (omega (arith, e))
names_order (x ∷ xs) (y ∷ ys) e =
    ⊎_elim
    (λ same.
    ⊎_elim
    (λ rest. inl (ap (λ (n : ℕ). n ∷ xs) same ∙ ap (λ (ns : List ℕ). y ∷ ns) rest))
    (λ differ. ⊎_elim (λ lt. inr (inl (inr (same, lt)))) (λ gt. inr (inr (inr (sym same, gt)))) differ)
    (names_order xs ys (omega (arith, e))))
    (λ differ. ⊎_elim (λ lt. inr (inl (inl lt))) (λ gt. inr (inr (inl gt))) differ)
    (cases_order x y)

abbrev InOrder : Question → Question → Type 0
InOrder x y = (x ≡ y) ⊎ (ComesBefore x y ⊎ ComesBefore y x)

in_order : (x y : Question) → InOrder x y
in_order x y =
    ⊎_elim
    (λ kind.
    ⊎_elim
    (λ names.
    by_lt_z {P = InOrder x y} (shift_of x) (shift_of y)
    (λ lt. inr (inl (inr (kind, inr (names, lt)))))
    (λ ge.
    by_lt_z {P = InOrder x y} (shift_of y) (shift_of x)
    (λ gt. inr (inr (inr (sym kind, inr (sym names, gt)))))
    (λ le. inl (same_question x y kind names (omega (arith, ints, ge, le))))))
    (λ differ. ⊎_elim (λ lt. inr (inl (inr (kind, inl lt)))) (λ gt. inr (inr (inr (sym kind, inl gt)))) differ)
    (names_order (names_of x) (names_of y) (size_is x ∙ ap names_size kind ∙ sym (size_is y))))
    (λ differ. ⊎_elim (λ lt. inr (inl (inl lt))) (λ gt. inr (inr (inl gt))) differ)
    (cases_order (kind_of x) (kind_of y))

pub first_question_is_one : (l : LineData) (path : List Decision) (ticks : ℕ → ℤ) (period : ℕ) (x y : Question)
    → IsFirstQuestion l path ticks period (Some x)
    → IsFirstQuestion l path ticks period (Some y) → x ≡ y
first_question_is_one l path ticks period x y first other =
    let asked : IsAsked l path ticks period x = record { stands = first.0.stands; fails = first.1 } in
    let asked' : IsAsked l path ticks period y = record { stands = other.0.stands; fails = other.1 } in
    ⊎_elim (λ e. e)
    (λ differ. ⊎_elim (λ lt. absurd (other.2 x asked lt)) (λ gt. absurd (first.2 y asked' gt)) differ)
    (in_order x y)
