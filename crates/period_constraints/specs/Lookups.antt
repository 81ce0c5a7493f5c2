-- What is reckoned once for a line: the rides of its steps and their clashes.
use Rattle.std.specs.Prelude.{◌≡◌, ℕ, ◌/◌, ◌%◌, ◌<◌, ◌≤◌, List, length, get_or, Option, None, IfSome}
use Rattle.hoist_base.specs.LineData.{LineData}
use Rattle.collision_pairs.specs.declared.span.Span.{Span}
use Rattle.collision_pairs.specs.Clash.{IsTight}
use Rattle.path_constraints.specs.declared.rides.Ride.{Ride}
use Rattle.path_constraints.specs.Hoists.{clash_between}
use Rattle.period_constraints.specs.Starts.{IsRide, ride_in, IsTable}

-- rides, and the clash of each with each, row by row
pub record LookupData : Type 0 where
  pub rides : List Ride
  pub spans : List (Option Span)

-- they are those of the line
abbrev pub IsLookupOf : LineData → LookupData → Type 0
IsLookupOf l x = IsTable l x.rides x.spans

-- rides of the line, and not too many for a table
pub record AreRides (l : LineData) (rides : List Ride) : Type 0 where
  pub few : length rides ≤ 256
  pub each : (i : ℕ) → i < length rides → IsRide l (ride_in rides i)

-- the first clashes of a table, row by row
pub record AreSpans (l : LineData) (rides : List Ride) (spans : List (Option Span)) : Type 0 where
  pub clash : (k : ℕ) → k < length spans
      → get_or spans k None ≡ clash_between l (ride_in rides (k / length rides)) (ride_in rides (k % length rides))
  pub tight : (k : ℕ) → k < length spans → IfSome (get_or spans k None) IsTight
