-- A line as data: what contracts see of a `Line`. Stages, tanks and visits go by number, from 0.
use Rattle.std.specs.Prelude.{◌≡◌, ℕ, ◌+◌, ◌-◌, ◌*◌, ◌/◌, ◌%◌, ◌<◌, ◌==◌, Bool, List, [], length, get_or, None}
use Rattle.std.specs.List.{Contains, list_all}
use Rattle.hoist_base.specs.declared.tank.Tank.{Tank}
use Rattle.hoist_base.specs.declared.stage.Stage.{Stage}
use Rattle.hoist_base.specs.declared.ids.MoveId.{MoveId}
use Rattle.hoist_base.specs.declared.ids.VisitId.{VisitId}

pub record LineData : Type 0 where
  pub track : ℕ
  pub gap : ℕ
  pub hoists : ℕ
  pub degree : ℕ
  pub max_period : ℕ
  pub load : ℕ
  pub unload : ℕ
  pub tanks : List Tank
  pub stages : List Stage

-- what stands for a stage or a tank that isn't there
abbrev pub no_stage : Stage
no_stage = record { tanks = []; min = 0; max = None; lift = 0; lower = 0 }

abbrev pub no_tank : Tank
no_tank = record { name = []; at = 0 }

abbrev pub stage : LineData → ℕ → Stage
stage l k = get_or l.stages k no_stage

abbrev pub tank : LineData → ℕ → Tank
tank l i = get_or l.tanks i no_tank

-- the position of a tank on the track
abbrev pub position_of : LineData → ℕ → ℕ
position_of l i = (tank l i).at

-- the unload's stage
abbrev pub last_stage : LineData → ℕ
last_stage l = length l.stages - 1

-- the step of a carrier's last move: there are as many inner stages
abbrev pub last_step : LineData → ℕ
last_step l = length l.stages - 2

-- k is a stage of the line
abbrev pub IsStageOf : LineData → ℕ → Type 0
IsStageOf l k = k < length l.stages

-- k is the step of a move, from stage k to stage k + 1
abbrev pub IsStep : LineData → ℕ → Type 0
IsStep l k = k + 1 < length l.stages

-- the move of a step by one of the carriers that enter in one period
abbrev pub IsMove : LineData → ℕ → ℕ → Type 0
IsMove l c k = (c < l.degree) × IsStep l k

-- the visit of a stage by one of them
abbrev pub IsVisit : LineData → ℕ → ℕ → Type 0
IsVisit l c k = (c < l.degree) × IsStageOf l k

-- lists by move hold the moves of carrier 0 in the order of their steps, then those of carrier 1, and so on
abbrev pub move_number : LineData → ℕ → ℕ → ℕ
move_number l c k = c * last_stage l + k

abbrev pub move_count : LineData → ℕ
move_count l = l.degree * last_stage l

-- the move with a number
abbrev pub move_at : LineData → ℕ → MoveId
move_at l i = record { carrier = i / last_stage l; step = i % last_stage l }

-- lists by visit hold the visits in the same way, by carrier and then by stage
abbrev pub visit_number : LineData → ℕ → ℕ → ℕ
visit_number l c k = c * length l.stages + k

abbrev pub visit_count : LineData → ℕ
visit_count l = l.degree * length l.stages

-- the visit with a number
abbrev pub visit_at : LineData → ℕ → VisitId
visit_at l i = record { carrier = i / length l.stages; stage = i % length l.stages }

-- tank i is one of the tanks of stage k
abbrev pub Serves : LineData → ℕ → ℕ → Type 0
Serves l i k = Contains (stage l k).tanks i

-- every stage has one tank
abbrev pub IsSingle : LineData → Type 0
IsSingle l = (k : ℕ) → IsStageOf l k → length (stage l k).tanks ≡ 1

-- the same as a test
abbrev pub is_single : LineData → Bool
is_single l = list_all (λ (s : Stage). length s.tanks == 1) l.stages
