-- Reads of walk values from a table.
use Rattle.std.proofs.Common.{◌≡◌, ℕ, suc, ◌+◌, ◌*◌, ◌<◌, ◌≤◌, List, sym, ap, ◌∙◌, ◌&&◌, ℤ, ◌+ℤ◌, arith}
use Rattle.std.specs.Ordering.{int_eq}
use Rattle.std.proofs.lemmas.Int.{ints}
use Rattle.std.proofs.lemmas.Bool.{eq-eqb}
use Rattle.longest_path.specs.declared.systems.Arc.{Arc}
use Rattle.longest_path.specs.System.{SystemData, arc, weight}
use Rattle.longest_path.specs.Rounds.{weights_at, number}
use Rattle.cycle_walk.specs.Values.{value, AreValues}
use Rattle.cycle_walk.specs.Closed.{fits}

-- a read of a row of walk values
pub reads : (s : SystemData) (period n r i k x : ℕ) (rows : List ℤ) → AreValues s period n rows → k ≡ s.nodes → r ≤ n
    → i < s.nodes → x ≡ r * k + i → number rows x ≡ value s (weights_at s period) r i
reads s period n r i k x rows h e le p at =
    let same = ap (λ y. r * y) e in
    let place : x ≡ r * s.nodes + i = omega (arith, same, at) in
    ap (number rows) place ∙ h.is r i le p

-- what the test of a constraint says
pub gives_test : (s : SystemData) (period m j k : ℕ) (a : Arc) (x w y : ℤ) → a ≡ arc s k
    → x ≡ value s (weights_at s period) m a.from → w ≡ weight a period → y ≡ value s (weights_at s period) (suc m) j
    → a.to ≡ j → fits s (weights_at s period) m j k ≡ int_eq (x +ℤ w) y
gives_test s period m j k a x w y is from weighs wanted to =
    let wt = weights_at s period in
    let at : (arc s k).to ≡ j = ap (λ (b : Arc). b.to) (sym is) ∙ to in
    let sum : value s wt m (arc s k).from +ℤ wt k ≡ x +ℤ w = ap (λ (b : Arc). value s wt m b.from +ℤ weight b period)
    (sym is) ∙ (omega (arith, ints, from, weighs)) in
    ap (λ b. b && int_eq (value s wt m (arc s k).from +ℤ wt k) (value s wt (suc m) j)) (eq-eqb (arc s k).to j at)
    ∙ ap (λ z. int_eq z (value s wt (suc m) j)) sum ∙ ap (λ z. int_eq (x +ℤ w) z) (sym wanted)
