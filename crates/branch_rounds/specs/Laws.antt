-- The outcome of a search.
use Rattle.std.specs.Prelude.{◌≡◌, ℕ, ◌≤◌}
use Rattle.hoist_base.specs.LineData.{LineData}
use Rattle.hoist_base.specs.Valid.{IsLine}
use Rattle.branch_rounds.specs.declared.outcome.Outcome.{Outcome}
use Rattle.branch_rounds.specs.Grown.{IsGrown}

-- a line and a budget have one outcome
abbrev pub SearchIsOne : Type 0
SearchIsOne =
    (l : LineData) (budget : ℕ) (o o' : Outcome) → IsLine l → budget ≤ 20000 → IsGrown l budget o → IsGrown l budget o' → o ≡ o'
