-- One hoist's row: where it is at each tick of a period.
use Rattle.std.specs.Prelude.{◌≡◌, ℕ, zero, suc, ◌+◌, ◌-◌, ◌*◌, ◌%◌, ◌<◌, ◌≤◌, List, Option, None, length, get_or, max, IfSome}
use Rattle.std.specs.Option.{unwrap_or, option_map_or}
use Rattle.hoist_base.specs.LineData.{LineData}

-- the tick after tick t: after the last comes the first
abbrev pub next : ℕ → ℕ → ℕ
next period t = (t + 1) % period

-- from each tick to the next, the last to the first too, a row changes by at most 1
abbrev pub IsSlow : ℕ → (ℕ → ℕ) → Type 0
IsSlow period row = (t : ℕ) → t < period → (row t ≤ row (next period t) + 1) × (row (next period t) ≤ row t + 1)

-- a slow row that leaves room for the hoists below, is at or above all fixed positions, and a gap above the row below
pub record Suffices (l : LineData) (period h : ℕ) (asked : List (Option ℕ)) (low : Option (List ℕ)) (row : ℕ → ℕ) : Type 0 where
  pub room : (t : ℕ) → t < period → h * l.gap ≤ row t
  pub fixed : (t : ℕ) → t < period → IfSome (get_or asked t None) (λ at. at ≤ row t)
  pub above : (t : ℕ) → t < period → IfSome low (λ below. get_or below t 0 + l.gap ≤ row t)
  pub slow : IsSlow period row

-- the least such row
pub record IsLeastRow (l : LineData) (period h : ℕ) (fixed : List (Option ℕ)) (low : Option (List ℕ)) (row : List ℕ) : Type 0 where
  pub count : length row ≡ period
  pub suffices : Suffices l period h fixed low (λ t. get_or row t 0)
  pub least : (other : ℕ → ℕ) → Suffices l period h fixed low other → (t : ℕ) → t < period → get_or row t 0 ≤ other t

-- what hoist h needs at tick t by itself: the greatest of the three
abbrev pub need : LineData → ℕ → List (Option ℕ) → Option (List ℕ) → ℕ → ℕ
need l h fixed low t =
    max (h * l.gap) (max (unwrap_or (get_or fixed t None) 0) (option_map_or (λ below. get_or below t 0 + l.gap) low 0))

-- each height is what some tick needs, less the ticks from there to here, n forward and m back round the period
abbrev pub ComesFrom : ℕ → (ℕ → ℕ) → (ℕ → ℕ) → Type 0
ComesFrom period needed row =
    (t : ℕ) → t < period
    → (s : ℕ) × (m : ℕ) × (n : ℕ) × (s < period) × ((s + n) % period ≡ (t + m) % period) × (row t + (m + n) ≡ needed s)

-- the height carried to tick i from height c before tick 0: at each tick it falls by 1, or is raised to the row
abbrev pub carried : (ℕ → ℕ) → ℕ → ℕ → ℕ
carried row c zero = c
carried row c (suc i) = max (carried row c i - 1) (row i)

-- a row that was raised no more than needed for it to fall by at most 1 from each tick to the next
pub record IsRaised (period : ℕ) (old new : ℕ → ℕ) : Type 0 where
  pub least : (t : ℕ) → t < period → old t ≤ new t
  pub falls : (t : ℕ) → t < period → new t ≤ new (next period t) + 1
  pub rises : (t : ℕ) → t < period → new (next period t) ≤ max (new t) (old (next period t))
  pub from : (t : ℕ) → t < period → (s : ℕ) × (m : ℕ) × (s < period) × ((s + m) % period ≡ t) × (new t + m ≡ old s)
