-- The sweep of a line.
use Rattle.std.specs.Prelude.{◌≡◌, ℕ, ◌≤◌}
use Rattle.hoist_base.specs.LineData.{LineData}
use Rattle.hoist_base.specs.Limits.{max_degree}
use Rattle.hoist_base.specs.Valid.{IsLine}
use Rattle.degree_sweep.specs.declared.swept.Swept.{Swept}
use Rattle.degree_sweep.specs.Sweep.{IsSwept}

-- a line, the greatest degree and a budget have one sweep
abbrev pub SweepIsOne : Type 0
SweepIsOne =
    (l : LineData) (upto budget : ℕ) (s s' : Swept) → IsLine l → upto ≤ max_degree → budget ≤ 20000 → IsSwept l upto budget s → IsSwept l upto budget s'
    → s ≡ s'
