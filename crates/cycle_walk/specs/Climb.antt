-- The climb from period 1 to the least feasible period below a cap.
use Rattle.std.specs.Prelude.{ℕ, zero, suc, ◌≤◌, ◌<◌, nat_lt, cond, ◌⊎◌, Option, Some, None, IfSome, unsigned_abs}
use Rattle.std.specs.Int.{div_ceil, is_negative}
use Rattle.longest_path.specs.System.{SystemData, Refutes}
use Rattle.cycle_walk.specs.declared.climbing.Climbed.{Climbed}
use Rattle.cycle_walk.specs.declared.climbing.Climbed.TheVariants.{Floor, Shut}
use Rattle.cycle_walk.specs.Closed.{WalkData, closed_walk_of, IsFeasible}

abbrev pub match_walk : Option WalkData → Climbed → (WalkData → Climbed) → Climbed
match_walk None floor next = floor
match_walk (Some walk) floor next = next walk

-- the least period that a walk does not refute, where its q is below 0
abbrev pub least_kept : WalkData → ℕ
least_kept walk = div_ceil (unsigned_abs walk.w) (unsigned_abs walk.q)

-- from a period and the last walk on; fuel bounds the steps, and the cap is fuel enough
abbrev pub climb_from : SystemData → ℕ → ℕ → ℕ → Option WalkData → Climbed
climb_from s cap zero period low = Shut low None
climb_from s cap (suc fuel) period low =
    cond (nat_lt period cap)
    (match_walk (closed_walk_of s period) (Floor period low)
    (λ walk. cond (is_negative walk.q) (climb_from s cap fuel (least_kept walk) (Some walk)) (Shut low (Some walk))))
    (Shut low None)

abbrev pub climbed : SystemData → ℕ → Climbed
climbed s cap = climb_from s cap cap 1 None

-- Floor has the least feasible period below the cap, and Shut says that there is none
abbrev pub IsLeastFeasible : SystemData → ℕ → Climbed → Type 0
IsLeastFeasible s cap (Floor period low) =
    (1 ≤ period) × (period < cap) × IsFeasible s period × ((t : ℕ) → 1 ≤ t → t < period → IsFeasible s t → ⊥)
IsLeastFeasible s cap (Shut low high) = (t : ℕ) → 1 ≤ t → t < cap → IsFeasible s t → ⊥

-- the walk, where there is one, refutes a period
abbrev pub Gives : Option WalkData → ℕ → Type 0
Gives None t = ⊥
Gives (Some walk) t = Refutes walk.w walk.q t

-- the walks of the answer refute each period that it rules out
abbrev pub AreRefuted : ℕ → Climbed → Type 0
AreRefuted cap (Floor period low) = (t : ℕ) → 1 ≤ t → t < period → Gives low t
AreRefuted cap (Shut low high) = (t : ℕ) → 1 ≤ t → t < cap → Gives low t ⊎ Gives high t

-- each walk of the answer
abbrev pub AllWalks : (WalkData → Type 0) → Climbed → Type 0
AllWalks P (Floor period low) = IfSome low P
AllWalks P (Shut low high) = IfSome low P × IfSome high P
