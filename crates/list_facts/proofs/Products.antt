-- Whole numbers times a natural number.
use Rattle.std.proofs.Common.{◌≡◌, ℕ, ◌*◌, ap, arith, pos, ℤ}
use Rattle.std.specs.Prelude.{◌+ℤ◌, ◌-ℤ◌, ◌*ℤ◌, ◌≤ℤ◌, unsigned_abs}
use Rattle.std.proofs.lemmas.Int.{ints}
use borrow.Author.Differences.{sum_is_lem}

-- a sum times a natural number
pub times_add : (a b : ℤ) (n : ℕ) → (a +ℤ b) *ℤ pos n ≡ a *ℤ pos n +ℤ b *ℤ pos n
times_add a b n = omega (arith, ints, ap (λ (m : ℕ). m * n) (sum_is_lem a b))

pub times_mono : (a b : ℤ) (n : ℕ) → a ≤ℤ b → (a *ℤ pos n) ≤ℤ (b *ℤ pos n)
times_mono a b n le =
    let m = unsigned_abs (b -ℤ a) in
    let e : b ≡ a +ℤ pos m = omega (arith, ints, le) in
    omega (arith, ints, ap (λ (z : ℤ). z *ℤ pos n) e, times_add a (pos m) n)
