-- When the parts of a line are a line: every limit, and the rules between the parts.
use Rattle.std.specs.Prelude.{◌≡◌, ◌≢◌, ℕ, ◌+◌, ◌-◌, ◌*◌, ◌<◌, ◌≤◌, ◌⊎◌, List, length, get_or, None, IfSome, All}
use Rattle.hoist_base.specs.declared.stage.Stage.{Stage}
use Rattle.hoist_base.specs.Limits.{max_track, max_gap, max_hoists, max_degree, period_limit, max_dwell, max_lift, max_lower, min_tanks, max_tanks, min_stages, max_stages, max_tanks_of_stage, max_name}
use Rattle.hoist_base.specs.LineData.{LineData, stage, tank, position_of, last_stage, IsStageOf, IsStep, Serves}

-- a letter, a digit, _ or -
abbrev pub IsNameByte : ℕ → Type 0
IsNameByte b =
    ((65 ≤ b) × (b ≤ 90)) ⊎ (((97 ≤ b) × (b ≤ 122)) ⊎ (((48 ≤ b) × (b ≤ 57)) ⊎ ((b ≡ 95) ⊎ (b ≡ 45))))

-- some of these, and no more than a name may have
abbrev pub IsName : List ℕ → Type 0
IsName name = (1 ≤ length name) × (length name ≤ max_name) × All IsNameByte name

-- the numbers of the line itself
pub record IsWithinLimits (l : LineData) : Type 0 where
  pub track : (1 ≤ l.track) × (l.track ≤ max_track)
  pub gap : (1 ≤ l.gap) × (l.gap ≤ max_gap)
  pub hoists : (1 ≤ l.hoists) × (l.hoists ≤ max_hoists)
  pub degree : (1 ≤ l.degree) × (l.degree ≤ max_degree)
  pub max_period : (1 ≤ l.max_period) × (l.max_period ≤ period_limit)
  pub load : l.load ≤ max_dwell
  pub unload : l.unload ≤ max_dwell
  pub tanks : (min_tanks ≤ length l.tanks) × (length l.tanks ≤ max_tanks)
  pub stages : (min_stages ≤ length l.stages) × (length l.stages ≤ max_stages)

-- every tank has a name and a position of its own, on the track
pub record HasTanks (l : LineData) : Type 0 where
  pub names : (i : ℕ) → i < length l.tanks → IsName (tank l i).name
  pub names_differ : (i j : ℕ) → i < j → j < length l.tanks → (tank l i).name ≢ (tank l j).name
  pub on_track : (i : ℕ) → i < length l.tanks → position_of l i ≤ l.track
  pub places_differ : (i j : ℕ) → i < j → j < length l.tanks → position_of l i ≢ position_of l j

-- a stage at an end of the line has one tank and no window
pub record IsEnd (s : Stage) : Type 0 where
  pub one_tank : length s.tanks ≡ 1
  pub no_least : s.min ≡ 0
  pub no_greatest : s.max ≡ None

-- every stage has tanks of the line, none twice, and no tank of the next stage
pub record HasStages (l : LineData) : Type 0 where
  pub count : (k : ℕ) → IsStageOf l k → (1 ≤ length (stage l k).tanks) × (length (stage l k).tanks ≤ max_tanks_of_stage)
  pub there : (k i : ℕ) → Serves l i k → i < length l.tanks
  pub once : (k a b : ℕ) → a < b → b < length (stage l k).tanks
      → get_or (stage l k).tanks a 0 ≢ get_or (stage l k).tanks b 0
  pub moves_away : (k i j : ℕ) → IsStep l k → Serves l i k → Serves l j (k + 1) → i ≢ j

-- times and windows of the stages
pub record HasTimes (l : LineData) : Type 0 where
  pub first : IsEnd (stage l 0)
  pub last : IsEnd (stage l (last_stage l))
  pub no_lower : (stage l 0).lower ≡ 0
  pub no_lift : (stage l (last_stage l)).lift ≡ 0
  pub lift : (k : ℕ) → IsStep l k → (1 ≤ (stage l k).lift) × ((stage l k).lift ≤ max_lift)
  pub lower : (k : ℕ) → IsStep l k → (1 ≤ (stage l (k + 1)).lower) × ((stage l (k + 1)).lower ≤ max_lower)
  pub least : (k : ℕ) → IsStep l (k + 1) → (1 ≤ (stage l (k + 1)).min) × ((stage l (k + 1)).min ≤ max_dwell)
  pub greatest : (k : ℕ) → IsStep l (k + 1)
      → IfSome (stage l (k + 1)).max (λ m. ((stage l (k + 1)).min ≤ m) × (m ≤ max_dwell))

pub record IsLine (l : LineData) : Type 0 where
  pub limits : IsWithinLimits l
  pub tanks : HasTanks l
  pub stages : HasStages l
  pub times : HasTimes l
  -- the hoists have room beside one another
  pub room : (l.hoists - 1) * l.gap ≤ l.track
