-- What moves fix, by tick of the period; and rows of hoists from the lowest up.
use Rattle.std.specs.Prelude.{◌≡◌, ◌≢◌, ℕ, ◌+◌, ◌-◌, ◌*◌, ◌%◌, ◌<◌, ◌≤◌, ◌⊎◌, List, Option, None, Some, length, get_or, drop}
use Rattle.hoist_base.specs.LineData.{LineData, IsMove, move_number, move_count}
use Rattle.hoist_base.specs.Routes.{IsRoute}
use Rattle.line_model.specs.declared.motion.Motion.{Motion}
use Rattle.line_model.specs.Motion.{duration, place}
use Rattle.line_model.specs.Timetable.{Timetable, motion}
use Rattle.path_envelope.specs.Duties.{duties, HaveReach}
use Rattle.path_envelope.specs.Envelope.{IsLowestAt}
use Rattle.path_envelope.specs.Rows.{IsSlow}

-- u ticks after its start, move (c, k) has hoist h at this position at tick s of the period
pub record FixesSlot (l : LineData) (p : Timetable) (h s position : ℕ) : Type 0 where
  pub c : ℕ
  pub k : ℕ
  pub u : ℕ
  pub move : IsMove l c k
  pub within : u ≤ duration (motion l p c k)
  pub hoist : p.hoist c k ≡ h
  pub slot : (p.start c k + u) % p.period ≡ s
  pub at : position ≡ place (motion l p c k) u

-- the position that a table has for tick s of the period
abbrev pub held : List (Option ℕ) → ℕ → Option ℕ
held table s = get_or table s None

-- the first n positions of a motion that starts at a tick are in the table, besides what was there
pub record IsWritten (m : Motion) (start period n : ℕ) (old new : List (Option ℕ)) : Type 0 where
  pub count : length new ≡ length old
  pub kept : (s at : ℕ) → held old s ≡ Some at → held new s ≡ Some at
  pub sound : (s at : ℕ) → held new s ≡ Some at
      → (held old s ≡ Some at) ⊎ ((u : ℕ) × (u < n) × ((start + u) % period ≡ s) × (at ≡ place m u))
  pub written : (u : ℕ) → u < n → held new ((start + u) % period) ≡ Some (place m u)

-- they are, up to one for which another position stands there
pub record IsDouble (m : Motion) (start period : ℕ) (old new : List (Option ℕ)) : Type 0 where
  pub u : ℕ
  pub other : ℕ
  pub within : u ≤ duration m
  pub so_far : IsWritten m start period u old new
  pub there : held new ((start + u) % period) ≡ Some other
  pub differs : other ≢ place m u

-- the table has where the moves numbered below n fix hoist h, and nothing else
pub record IsTable (l : LineData) (p : Timetable) (h n : ℕ) (table : List (Option ℕ)) : Type 0 where
  pub count : length table ≡ p.period
  pub sound : (s at : ℕ) → held table s ≡ Some at → FixesSlot l p h s at
  pub written : (c k u : ℕ) → IsMove l c k → move_number l c k < n → p.hoist c k ≡ h → u ≤ duration (motion l p c k)
      → held table ((p.start c k + u) % p.period) ≡ Some (place (motion l p c k) u)

-- hoist h's row: lowest, slow and through what its moves fix
pub record IsLayer (l : LineData) (p : Timetable) (h : ℕ) (row : ℕ → ℕ) : Type 0 where
  pub lowest : (t : ℕ) → t < p.period → IsLowestAt l p h t (row t)
  pub slow : IsSlow p.period row
  pub through : (s at : ℕ) → FixesSlot l p h s at → row s ≡ at

-- the entry of hoist h at tick t
abbrev pub entry : Timetable → List ℕ → ℕ → ℕ → ℕ
entry p rows h t = get_or rows (h * p.period + t) 0

-- the rows of the lowest n hoists, a gap apart
pub record AreLayers (l : LineData) (p : Timetable) (n : ℕ) (rows : List ℕ) : Type 0 where
  pub count : length rows ≡ n * p.period
  pub layer : (h : ℕ) → h < n → IsLayer l p h (entry p rows h)
  pub apart : (h t : ℕ) → h + 1 < n → t < p.period → entry p rows h t + l.gap ≤ entry p rows (h + 1) t

-- the row below hoist h, the last of h rows
pub record IsLastRow (rows : List ℕ) (period h : ℕ) (low : List ℕ) : Type 0 where
  pub some : 1 ≤ h
  pub count : length low ≡ period
  pub is : low ≡ drop ((h - 1) * period) rows

-- the row below hoist h is the lowest; below hoist 0 there is none
abbrev pub IsBelow : LineData → Timetable → ℕ → Option (List ℕ) → Type 0
IsBelow l p h None = h ≡ 0
IsBelow l p h (Some below) = (g : ℕ) × (h ≡ g + 1) × ((t : ℕ) → t < p.period → IsLowestAt l p g t (get_or below t 0))

-- lists of starts and hoists by move, and a route, that paths can be asked for
pub record AreMoves (l : LineData) (route : List ℕ) (period : ℕ) (starts hoists : List ℕ) : Type 0 where
  pub route_fits : IsRoute l route
  pub period_fits : (1 ≤ period) × (period ≤ 20000)
  pub start_count : length starts ≡ move_count l
  pub start_small : (i : ℕ) → get_or starts i 0 ≤ 1000000000
  pub hoist_count : length hoists ≡ move_count l
  pub reach : HaveReach l (duties l route period starts hoists)
