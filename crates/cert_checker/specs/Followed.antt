-- What is known of a walk once it was followed along the constraints of its path.
use Rattle.std.specs.Prelude.{◌≡◌, ℕ, ◌<◌, ◌≤◌, ◌⊎◌, List, length, Option, Some, None, MatchOption}
use Rattle.hoist_base.specs.LineData.{LineData}
use Rattle.longest_path.specs.System.{Refutes}
use Rattle.choice_tree.specs.declared.question.Decision.{Decision}
use Rattle.choice_tree.specs.declared.constraint.Constraint.{Constraint}
use Rattle.path_constraints.specs.Constraints.{IsConstraint, arc_of}
use Rattle.cycle_walk.specs.declared.sums.Sums.{Sums}
use Rattle.cycle_walk.specs.Refuting as walk
use Rattle.cert_checker.specs.declared.walks.Followed.{Followed}
use Rattle.cert_checker.specs.Walks.{followers, token_at}
use Rattle.cert_checker.specs.Flaws.{sums_of}

-- ---- sums and periods

-- the walk with these sums, where there is one, refutes the period
abbrev pub Gives : Option Sums → ℕ → Type 0
Gives None t = ⊥
Gives (Some s) t = Refutes s.w s.q t

abbrev pub AreSmall : Option Sums → Type 0
AreSmall None = Unit {0}
AreSmall (Some s) = walk.AreSmall s

-- all periods from 1 on and before this one are refuted by one of the two
abbrev pub AllGiven : Option Sums → Option Sums → ℕ → Type 0
AllGiven low high period = (t : ℕ) → 1 ≤ t → t < period → Gives low t ⊎ Gives high t

-- the least period below the bound that neither refutes, or none where all are refuted
abbrev pub IsLeastUngiven : Option Sums → Option Sums → ℕ → Option ℕ → Type 0
IsLeastUngiven low high bound answer =
    MatchOption answer (AllGiven low high bound)
    (λ p. (1 ≤ p) × (p < bound) × (Gives low p → ⊥) × (Gives high p → ⊥) × AllGiven low high p)

-- ---- one walk

-- constraint j is not on the path, and all before it are
abbrev pub IsFirstStray : LineData → List Decision → List Constraint → ℕ → Type 0
IsFirstStray l path walk j =
    (j < length walk) × (IsConstraint l path (token_at walk j) → ⊥)
    × ((k : ℕ) → k < j → IsConstraint l path (token_at walk k))

-- constraint j ends where the next one begins, the last where the first does
abbrev pub IsTied : LineData → List Decision → List Constraint → ℕ → Type 0
IsTied l path walk j = (arc_of l path (token_at walk j)).to ≡ (arc_of l path (token_at (followers walk) j)).from

-- the first that doesn't, or none
abbrev pub IsFirstLoose : LineData → List Decision → List Constraint → Option ℕ → Type 0
IsFirstLoose l path walk answer =
    MatchOption answer ((k : ℕ) → k < length walk → IsTied l path walk k)
    (λ j. (j < length walk) × (IsTied l path walk j → ⊥) × ((k : ℕ) → k < j → IsTied l path walk k))

pub record IsFollowed (l : LineData) (path : List Decision) (walk : List Constraint) (f : Followed) : Type 0 where
  pub some : 1 ≤ length walk
  pub count : f.count ≡ length walk
  pub few : f.count ≤ 1000
  pub there : (k : ℕ) → k < length walk → IsConstraint l path (token_at walk k)
  pub sums : f.sums ≡ sums_of l path walk
  pub small : AreSmall (Some f.sums)
  pub loose : IsFirstLoose l path walk f.loose

abbrev pub IsFollowedOr : LineData → List Decision → Option (List Constraint) → Option Followed → Type 0
IsFollowedOr l path None None = Unit {0}
IsFollowedOr l path None (Some f) = ⊥
IsFollowedOr l path (Some walk) None = ⊥
IsFollowedOr l path (Some walk) (Some f) = IsFollowed l path walk f

-- a walk that isn't there has no constraint off the path
abbrev pub IsFirstStrayOr : LineData → List Decision → Option (List Constraint) → ℕ → Type 0
IsFirstStrayOr l path None j = ⊥
IsFirstStrayOr l path (Some walk) j = IsFirstStray l path walk j
