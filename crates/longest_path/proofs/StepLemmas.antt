-- Steps of a round: one more step on a row.
use Rattle.std.proofs.Common.{◌≡◌, ℕ, ◌+◌, ◌<◌, ◌≤◌, inl, inr, ⊎_elim, List, length, set, sym, ap, ◌∙◌, ℤ, pos, ◌+ℤ◌, get_or-set_same, get_or-set_other, arith}
use Rattle.std.specs.Prelude.{unsigned_abs}
use Rattle.std.specs.Int.{int_max}
use Rattle.std.proofs.lemmas.Int.{ints, clamps, by_lt_z}
use Rattle.std.proofs.lemmas.Bool.{cases_eq}
use Rattle.longest_path.specs.declared.room.Step.{Step}
use Rattle.longest_path.specs.Rounds.{number}
use Rattle.longest_path.specs.Steps.{step, IsRound}

-- ---- a round
-- one step more
pub round_more : (steps : List Step) (nodes n : ℕ) (row base : ℕ → ℤ) (new : List ℤ) (one : Step) (offer z : ℤ)
    → ((i : ℕ) → i < nodes → IsRound steps n row i (base i) (number new i)) → length new ≡ nodes → one ≡ step steps n
    → one.to < nodes → offer ≡ row one.from +ℤ one.weight → z ≡ int_max (number new one.to) offer → (i : ℕ) → i < nodes
    → IsRound steps (n + 1) row i (base i) (number (set new one.to z) i)
round_more steps nodes n row base new one offer z h count is to_in sum max_is i i_in =
    let at = h i i_in in
    let to : one.to ≡ (step steps n).to = ap (λ (x : Step). x.to) is in
    let gives : offer ≡ row (step steps n).from +ℤ (step steps n).weight = sum ∙ ap (λ (x : Step). row x.from +ℤ x.weight) is in
    ⊎_elim
    (λ same.
    let now : number (set new one.to z) i ≡ z = ap (number (set new one.to z)) same ∙ get_or-set_same new one.to z (pos 0) (omega (arith, to_in, count)) in
    let was : number new i ≡ number new one.to = ap (number new) same in
    record {
      keeps = omega (arith, ints, clamps, now, was, max_is, at.keeps);
      brings = λ p less ends.
          ⊎_elim
          (λ e. omega (arith, ints, clamps, now, was, max_is, gives, ap (λ x. row (step steps x).from +ℤ (step steps x).weight) e))
          (λ ne. omega (arith, ints, clamps, now, was, max_is, at.brings p (omega (arith, less, ne)) ends))
          (cases_eq p n);
      some =
          by_lt_z (number new one.to) offer
          (λ lt. inr (n, omega arith, sym to ∙ sym same, omega (arith, ints, clamps, now, max_is, gives, lt)))
          (λ le.
          let kept : number (set new one.to z) i ≡ number new i = omega (arith, ints, clamps, now, was, max_is, le) in
          ⊎_elim (λ e. inl (kept ∙ e)) (λ (p, less, ends, is_z). inr (p, omega (arith, less), ends, is_z ∙ sym kept)) at.some);
    })
    (λ other.
    let now : number (set new one.to z) i ≡ number new i = get_or-set_other new one.to i z (pos 0) other in
    record {
      keeps = omega (arith, ints, now, at.keeps);
      brings = λ p less ends.
          ⊎_elim
          (λ e. absurd (other (sym ends ∙ ap (λ x. (step steps x).to) e ∙ sym to)))
          (λ ne. omega (arith, ints, now, at.brings p (omega (arith, less, ne)) ends))
          (cases_eq p n);
      some = ⊎_elim (λ e. inl (now ∙ e)) (λ (p, less, ends, is_z). inr (p, omega (arith, less), ends, is_z ∙ sym now)) at.some;
    })
    (cases_eq i one.to)

-- before any step
pub round_none : (steps : List Step) (row : ℕ → ℤ) (i : ℕ) (base z : ℤ) → z ≡ base → IsRound steps 0 row i base z
round_none steps row i base z e = record { keeps = omega (arith, ints, e); brings = λ p less ends. absurd (omega (arith, less)); some = inl e }

pub round_small : (steps : List Step) (n : ℕ) (row : ℕ → ℤ) (i : ℕ) (base z : ℤ)
    → ((p : ℕ) → p < n → unsigned_abs (step steps p).weight ≤ 30000000000000)
    → ((j : ℕ) → unsigned_abs (row j) ≤ 40000000000000000) → unsigned_abs base ≤ 200000000000000000
    → IsRound steps n row i base z → unsigned_abs z ≤ 200000000000000000
round_small steps n row i base z light small begins h =
    ⊎_elim
    (λ kept. omega (arith, ints, kept, begins))
    (λ (p, less, ends, is). omega (arith, ints, is, small (step steps p).from, light p less))
    h.some
