-- The limits of a line, by name. Lengths and positions are in ticks of travel, times in ticks.
use Rattle.std.specs.Prelude.{ℕ}

-- the longest track, and the widest gap between neighbouring hoists
abbrev pub max_track : ℕ
max_track = 1000

abbrev pub max_gap : ℕ
max_gap = 100

abbrev pub max_hoists : ℕ
max_hoists = 6

-- the most carriers that enter in one period
abbrev pub max_degree : ℕ
max_degree = 4

-- the greatest `max_period`
abbrev pub period_limit : ℕ
period_limit = 20000

-- the longest bound on a dwell: in a tank, at the load and at the unload
abbrev pub max_dwell : ℕ
max_dwell = 20000

-- the longest lift and the longest lower
abbrev pub max_lift : ℕ
max_lift = 500

abbrev pub max_lower : ℕ
max_lower = 500

abbrev pub min_tanks : ℕ
min_tanks = 2

abbrev pub max_tanks : ℕ
max_tanks = 64

abbrev pub min_stages : ℕ
min_stages = 2

abbrev pub max_stages : ℕ
max_stages = 32

-- the most tanks that one stage may use
abbrev pub max_tanks_of_stage : ℕ
max_tanks_of_stage = 4

-- the most bytes of a tank's name
abbrev pub max_name : ℕ
max_name = 32
