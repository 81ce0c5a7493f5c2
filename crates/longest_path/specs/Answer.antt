-- The answer of `least`.
use Rattle.std.specs.Prelude.{ℕ, ◌≤◌, ◌-◌, ◌*◌, get_or, pos, unsigned_abs}
use Rattle.longest_path.specs.declared.least_ticks.LeastTicks.{LeastTicks}
use Rattle.longest_path.specs.declared.least_ticks.LeastTicks.TheVariants.{Feasible, Positive}
use Rattle.longest_path.specs.System.{SystemData, IsLeastSolution, HasNoSolution, AreWithin}

-- the least solution, or that there is none
abbrev pub IsLeastAnswer : SystemData → ℕ → LeastTicks → Type 0
IsLeastAnswer s period (Feasible ticks) = IsLeastSolution s period ticks.items
IsLeastAnswer s period Positive = HasNoSolution s period

-- no tick of the answer is larger than this, either way
abbrev pub HasTicksWithin : ℕ → LeastTicks → Type 0
HasTicksWithin most (Feasible ticks) = (i : ℕ) → unsigned_abs (get_or ticks.items i (pos 0)) ≤ most
HasTicksWithin most Positive = Unit {0}

-- where no constraint asks more than w, no tick is larger than one w for each step to another node
abbrev pub KeepsWithin : SystemData → ℕ → LeastTicks → Type 0
KeepsWithin s period answer = (w : ℕ) → AreWithin s period w → HasTicksWithin ((s.nodes - 1) * w) answer
