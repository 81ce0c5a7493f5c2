-- Escaped words have no raw marks.
use Rattle.std.proofs.Common.{◌≡◌, ◌≢◌, ℕ, ◌==◌, false, List, [], ◌∷◌, ◌++◌, All, ⊎_elim, refl, sym, subst, arith}
use Rattle.std.proofs.lemmas.Bool.{cases_eq}
use Rattle.std.proofs.lemmas.Bool.Decides.{nat_tests}
use Rattle.std.proofs.lemmas.List.Elements.{All-from_recursion, All-append}
use Rattle.markup.specs.Escape.{escape_of, escaped, IsInner}

for_38 : All IsInner (escape_of 38)
for_38 = All-from_recursion IsInner (escape_of 38) (
  (
    (λ e. omega (arith, e)),
    (λ e. omega (arith, e)),
    (λ e. omega (arith, e)),
  ),
  (
    ((λ e. omega (arith, e)), (λ e. omega (arith, e)), (λ e. omega (arith, e))),
    (
      ((λ e. omega (arith, e)), (λ e. omega (arith, e)), (λ e. omega (arith, e))),
      (
        ((λ e. omega (arith, e)), (λ e. omega (arith, e)), (λ e. omega (arith, e))),
        (((λ e. omega (arith, e)), (λ e. omega (arith, e)), (λ e. omega (arith, e))), tt),
      ),
    ),
  ),
)

for_60 : All IsInner (escape_of 60)
for_60 = All-from_recursion IsInner (escape_of 60) (
  (
    (λ e. omega (arith, e)),
    (λ e. omega (arith, e)),
    (λ e. omega (arith, e)),
  ),
  (
    ((λ e. omega (arith, e)), (λ e. omega (arith, e)), (λ e. omega (arith, e))),
    (
      ((λ e. omega (arith, e)), (λ e. omega (arith, e)), (λ e. omega (arith, e))),
      (((λ e. omega (arith, e)), (λ e. omega (arith, e)), (λ e. omega (arith, e))), tt),
    ),
  ),
)

for_62 : All IsInner (escape_of 62)
for_62 = All-from_recursion IsInner (escape_of 62) (
  (
    (λ e. omega (arith, e)),
    (λ e. omega (arith, e)),
    (λ e. omega (arith, e)),
  ),
  (
    ((λ e. omega (arith, e)), (λ e. omega (arith, e)), (λ e. omega (arith, e))),
    (
      ((λ e. omega (arith, e)), (λ e. omega (arith, e)), (λ e. omega (arith, e))),
      (((λ e. omega (arith, e)), (λ e. omega (arith, e)), (λ e. omega (arith, e))), tt),
    ),
  ),
)

for_34 : All IsInner (escape_of 34)
for_34 = All-from_recursion IsInner (escape_of 34) (
  (
    (λ e. omega (arith, e)),
    (λ e. omega (arith, e)),
    (λ e. omega (arith, e)),
  ),
  (
    ((λ e. omega (arith, e)), (λ e. omega (arith, e)), (λ e. omega (arith, e))),
    (
      ((λ e. omega (arith, e)), (λ e. omega (arith, e)), (λ e. omega (arith, e))),
      (
        ((λ e. omega (arith, e)), (λ e. omega (arith, e)), (λ e. omega (arith, e))),
        (
          ((λ e. omega (arith, e)), (λ e. omega (arith, e)), (λ e. omega (arith, e))),
          (((λ e. omega (arith, e)), (λ e. omega (arith, e)), (λ e. omega (arith, e))), tt),
        ),
      ),
    ),
  ),
)

other_number : (i j : ℕ) → i ≢ j → (i == j) ≡ false
other_number i j e = grind (arith, nat_tests)

plain : (b : ℕ) → (b == 38) ≡ false → (b == 60) ≡ false → (b == 62) ≡ false → (b == 34) ≡ false → escape_of b ≡ b ∷ []
plain b amp less more quote = rw (amp, less, more, quote) refl

of_byte : (b : ℕ) → All IsInner (escape_of b)
of_byte b =
    ⊎_elim (λ e. subst (λ x. All IsInner (escape_of x)) (sym e) for_38)
    (λ amp. ⊎_elim (λ e. subst (λ x. All IsInner (escape_of x)) (sym e) for_60)
    (λ less. ⊎_elim (λ e. subst (λ x. All IsInner (escape_of x)) (sym e) for_62)
    (λ more. ⊎_elim (λ e. subst (λ x. All IsInner (escape_of x)) (sym e) for_34)
    (λ quote.
    subst (λ (xs : List ℕ). All IsInner xs)
    (sym (plain b (other_number b 38 amp) (other_number b 60 less) (other_number b 62 more) (other_number b 34 quote)))
    (All-from_recursion IsInner (b ∷ []) ((less, more, quote), tt)))
    (cases_eq b 34))
    (cases_eq b 62))
    (cases_eq b 60))
    (cases_eq b 38)

pub nothing_raw : (words : List ℕ) → All IsInner (escaped words)
nothing_raw [] = All-from_recursion IsInner [] tt
nothing_raw (b ∷ words) = All-append IsInner (escape_of b) (escaped words) (of_byte b) (nothing_raw words)
