-- The tank at a position: there is at most one.
use Rattle.std.proofs.Common.{◌≡◌, ℕ, zero, suc, ◌+◌, ◌≤◌, ◌<◌, None, Some, ⊎_elim, sym, ap, ◌∙◌, arith}
use Rattle.std.specs.Prelude.{Bool, cond}
use Rattle.std.proofs.lemmas.Bool.{cases_eq, eq-eqb, ne_eqb}
use Rattle.tick_machine.specs.Layout.{Layout, IsLayout}
use Rattle.tick_machine.specs.Points.{tank_among}

pub no_tank_next : (l : Layout) (at n : ℕ) → tank_among l at n ≡ None → (l.place n ≡ at → ⊥)
    → tank_among l at (n + 1) ≡ None
no_tank_next l at n none other =
    let e : n + 1 ≡ suc n = omega arith in
    ap (tank_among l at) e ∙ ap (λ (b : Bool). cond b (Some n) (tank_among l at n)) (ne_eqb (l.place n) at other) ∙ none

pub tank_at_is : (l : Layout) (at n i : ℕ) → IsLayout l → n ≤ l.tanks → i < n → l.place i ≡ at
    → tank_among l at n ≡ Some i
tank_at_is l at zero i layout le lt here = absurd (omega arith)
tank_at_is l at (suc n) i layout le lt here =
    ⊎_elim
    (λ same. ap (λ (b : Bool). cond b (Some n) (tank_among l at n)) (eq-eqb (l.place n) at (ap l.place (sym same) ∙ here)) ∙ ap (λ (j : ℕ). Some j) (sym same))
    (λ other.
    let apart : l.place n ≡ at → ⊥ = λ e. other (layout.places i n (omega arith) (omega arith) (here ∙ sym e)) in
    ap (λ (b : Bool). cond b (Some n) (tank_among l at n)) (ne_eqb (l.place n) at apart) ∙ tank_at_is l at n i layout (omega arith) (omega arith) here)
    (cases_eq i n)
