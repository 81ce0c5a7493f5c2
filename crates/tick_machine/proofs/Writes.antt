-- A function with one value changed.
use Rattle.std.proofs.Common.{◌≡◌, ℕ, ap}
use Rattle.std.specs.Prelude.{cond}
use Rattle.std.proofs.lemmas.Bool.{ne_eqb, eq-eqb}
use Rattle.tick_machine.specs.Scene.{with}

pub with_same : {A : Type 0} (f : ℕ → A) (i : ℕ) (v : A) (j : ℕ) → i ≡ j → with f i v j ≡ v
with_same f i v j e = ap (λ b. cond b v (f j)) (eq-eqb i j e)

pub with_other : {A : Type 0} (f : ℕ → A) (i : ℕ) (v : A) (j : ℕ) → (i ≡ j → ⊥) → with f i v j ≡ f j
with_other f i v j ne = ap (λ b. cond b v (f j)) (ne_eqb i j ne)
