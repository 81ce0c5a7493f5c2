-- The numbers that a text may name, whatever its line has.
use Rattle.std.specs.Prelude.{ℕ}

-- of a bound: one tick more than the greatest period
abbrev pub most_bound : ℕ
most_bound = 20001

-- of splits
abbrev pub most_splits : ℕ
most_splits = 1000000000

-- of a period
abbrev pub most_period : ℕ
most_period = 20000

-- of a position on the track
abbrev pub most_position : ℕ
most_position = 1000

-- of a carrier
abbrev pub most_carrier : ℕ
most_carrier = 3

-- of a step or a stage
abbrev pub most_stage : ℕ
most_stage = 32

-- of a decision on a path
abbrev pub most_decision : ℕ
most_decision = 19999

-- of a walk's constraints
abbrev pub most_tokens : ℕ
most_tokens = 1000

-- of a split's children
abbrev pub most_children : ℕ
most_children = 6

-- of the periods between two moves or visits
abbrev pub most_shift : ℕ
most_shift = 1000000000
