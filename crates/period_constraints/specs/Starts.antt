-- Moves with their rides and the ticks of their starts, from the tick of move 0 on, and a table of the clashes of
-- rides.
use Rattle.std.specs.Prelude.{◌≡◌, ℕ, ◌+◌, ◌*◌, ◌<◌, ◌≤◌, List, length, get_or, Option, Some, None, IsSomeAnd, IfSome, option_and_then, option_map, ℤ, pos, ◌+ℤ◌, ◌-ℤ◌, unsigned_abs}
use Rattle.hoist_base.specs.LineData.{LineData, move_count, move_at}
use Rattle.line_model.specs.Motion.{IsMotion}
use Rattle.collision_pairs.specs.declared.span.Span.{Span}
use Rattle.collision_pairs.specs.Clash.{IsTight}
pub use Rattle.period_constraints.specs.declared.starts.Start.{Start}
use Rattle.path_constraints.specs.declared.rides.Ride.{Ride}
use Rattle.path_constraints.specs.Hoists.{hoist_by, hoists_reaching, clash_between}
use Rattle.period_constraints.specs.Pairs.{IsBetween}
use Rattle.period_constraints.specs.Stays.{motion_by}

-- a ride of the line
abbrev pub IsRide : LineData → Ride → Type 0
IsRide l x = IsMotion x.motion × (x.hoist < l.hoists)

abbrev pub no_ride : Ride
no_ride = record { motion = record { from = 0; to = 0; lift = 0; lower = 0 }; hoist = 0 }

abbrev pub ride_in : List Ride → ℕ → Ride
ride_in rides i = get_or rides i no_ride

-- the clash of each ride with each, row by row
pub record IsTable (l : LineData) (rides : List Ride) (spans : List (Option Span)) : Type 0 where
  pub few : length rides ≤ 256
  pub count : length spans ≡ length rides * length rides
  pub clash : (i j : ℕ) → i < length rides → j < length rides
      → get_or spans (i * length rides + j) None ≡ clash_between l (ride_in rides i) (ride_in rides j)
  pub tight : (k : ℕ) → k < length spans → IfSome (get_or spans k None) IsTight

-- the clash of two moves, where both have their rides
abbrev pub clash_rides : LineData → Option Ride → Option Ride → Option Span
clash_rides l x y = option_and_then (λ r. option_and_then (λ s. clash_between l r s) y) x

-- the start's ride is one of the line, and where it has a number, the one of that number
pub record IsNumbered (l : LineData) (rides : List Ride) (x : Start) : Type 0 where
  pub ride : IfSome x.ride (λ r. IsRide l r)
  pub number : IfSome x.number (λ n. (n < length rides) × (x.ride ≡ Some (ride_in rides n)))
  pub near : unsigned_abs x.tick ≤ 900000

-- two starts, the second q periods later, clash
abbrev pub AreClashing : LineData → Start → Start → ℕ → ℤ → Type 0
AreClashing l a b period q =
    IsSomeAnd (clash_rides l a.ride b.ride) (λ span. IsBetween ((a.tick -ℤ b.tick) -ℤ span.before) ((a.tick -ℤ b.tick) +ℤ span.after) period q)

abbrev pub no_start : Start
no_start = record { ride = None; number = None; tick = pos 0 }

abbrev pub start : List Start → ℕ → Start
start xs i = get_or xs i no_start

abbrev pub AreNumbered : LineData → List Ride → List Start → Type 0
AreNumbered l rides xs = (i : ℕ) → i < length xs → IsNumbered l rides (start xs i)

-- starts i and j do
pub record AreMeeting (l : LineData) (xs : List Start) (period : ℕ) (i j : ℕ) (q : ℤ) : Type 0 where
  pub before : i < j
  pub there : j < length xs
  pub clash : AreClashing l (start xs i) (start xs j) period q

-- the ride of move (c, k) between these tanks, where its hoist is settled
abbrev pub ride_by : LineData → List ℕ → Option ℕ → ℕ → ℕ → Option Ride
ride_by l tanks assigned c k =
    option_map (λ h. record { motion = motion_by l tanks c k; hoist = h }) (hoist_by (hoists_reaching l (motion_by l tanks c k)) assigned)

-- one for each move: its ride and its tick
pub record IsStart (l : LineData) (tanks : List ℕ) (assigned : Option ℕ) (ticks : ℕ → ℤ) (i : ℕ) (x : Start) : Type 0 where
  pub ride : x.ride ≡ ride_by l tanks assigned (move_at l i).carrier (move_at l i).step
  pub tick : x.tick ≡ ticks i -ℤ ticks 0

pub record AreStarts (l : LineData) (tanks : List ℕ) (assigned : List (Option ℕ)) (ticks : ℕ → ℤ) (xs : List Start) : Type 0 where
  pub count : length xs ≡ move_count l
  pub each : (i : ℕ) → i < move_count l → IsStart l tanks (get_or assigned i None) ticks i (start xs i)
