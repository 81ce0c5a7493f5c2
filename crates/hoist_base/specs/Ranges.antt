-- The numbers of a line one by one, each in its range. The rules between them are those of `Flaws`.
use Rattle.std.specs.Prelude.{◌≡◌, ℕ, ◌+◌, ◌<◌, ◌≤◌, length, IfSome}
use Rattle.hoist_base.specs.Limits.{max_dwell, max_lift, max_lower, max_tanks_of_stage}
use Rattle.hoist_base.specs.LineData.{LineData, stage, position_of, last_stage, IsStageOf, IsStep}
use Rattle.hoist_base.specs.Valid.{IsWithinLimits, IsEnd}

-- the load and the unload have one tank and no window; nothing is lowered into the load nor lifted out of the unload
pub record HasEnds (l : LineData) : Type 0 where
  pub first : IsEnd (stage l 0)
  pub last : IsEnd (stage l (last_stage l))
  pub no_lower : (stage l 0).lower ≡ 0
  pub no_lift : (stage l (last_stage l)).lift ≡ 0

-- the number of tanks of stage k, the times of the move from it to the next, and the window of the next if that is an
-- inner stage
pub record HasRangesAt (l : LineData) (k : ℕ) : Type 0 where
  pub count : (1 ≤ length (stage l k).tanks) × (length (stage l k).tanks ≤ max_tanks_of_stage)
  pub lift : IsStep l k → (1 ≤ (stage l k).lift) × ((stage l k).lift ≤ max_lift)
  pub lower : IsStep l k → (1 ≤ (stage l (k + 1)).lower) × ((stage l (k + 1)).lower ≤ max_lower)
  pub least : IsStep l (k + 1) → (1 ≤ (stage l (k + 1)).min) × ((stage l (k + 1)).min ≤ max_dwell)
  pub greatest : IsStep l (k + 1) → IfSome (stage l (k + 1)).max (λ m. (1 ≤ m) × (m ≤ max_dwell))

pub record HasRanges (l : LineData) : Type 0 where
  pub limits : IsWithinLimits l
  pub on_track : (i : ℕ) → i < length l.tanks → position_of l i ≤ l.track
  pub ends : HasEnds l
  pub stages : (k : ℕ) → IsStageOf l k → HasRangesAt l k
