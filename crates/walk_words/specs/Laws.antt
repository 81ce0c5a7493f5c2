-- That the periods which are stated are those that a walk leaves.
use Rattle.std.specs.Prelude.{ℕ, ◌↔◌, ◌<◌, ◌≤◌, ◌≡◌}
use Rattle.longest_path.specs.System.{Refutes}
use Rattle.cycle_walk.specs.declared.sums.Sums.{Sums}
use Rattle.walk_words.specs.declared.periods.Periods.TheVariants.{Least}
use Rattle.walk_words.specs.Periods.{IsAmong, periods_of}

-- a closed walk refutes exactly the periods that aren't among those which its sums leave
abbrev pub PeriodsAreExact : Type 0
PeriodsAreExact = (s : Sums) (t : ℕ) → Refutes s.w s.q t ↔ (IsAmong (periods_of s) t → ⊥)

-- a stated least period is exactly the first that the walk doesn't refute: all before it are refuted, and none from
-- it on
abbrev pub BoundIsExact : Type 0
BoundIsExact =
    (s : Sums) (p t : ℕ) → periods_of s ≡ Least p → (t < p → Refutes s.w s.q t) × (p ≤ t → Refutes s.w s.q t → ⊥)
