-- Reading a timetable off the frames of a loop: lists that hold what the frames that have been read tell of it.
use Rattle.std.specs.Prelude.{◌≡◌, ℕ, zero, suc, ◌+◌, ◌*◌, ◌%◌, ◌^◌, ◌≤◌, ◌<◌, ◌⊎◌, max, Option, Some, None, List, All, length, get_or, set}
use Rattle.hoist_base.specs.LineData.{LineData, move_number, move_count, visit_number, visit_count}
use Rattle.timetable.specs.declared.parts.TimetableParts.{TimetableParts}
use Rattle.tick_machine.specs.declared.frame.Carry.{Carry}
use Rattle.tick_machine.specs.declared.frame.Hold.{Hold}
use Rattle.tick_machine.specs.declared.frame.Rest.TheVariants.{Resting}
use Rattle.tick_machine.specs.declared.frame.Frame.{Frame}
use Rattle.tick_machine.specs.Scene.{Scene, IsSized, hold_of}
use Rattle.machine_loops.specs.declared.seen.Seen.{Seen}
use Rattle.machine_loops.specs.Loops.{IsLoop, frame_at, IsInLine, IsPutAt}
use Rattle.machine_loops.specs.Lists.{scenes}

-- the frames of a loop, few enough to be read
pub record IsReadable (l : LineData) (frames : List Frame) : Type 0 where
  pub sized : All (IsSized l) frames
  pub few : length frames ≤ 20000
  pub known : (scenes frames 0).next < 2 ^ 61
  pub loop : IsLoop l (length frames) (scenes frames)

-- the frames continued for ever
abbrev pub for_ever : LineData → List Frame → ℕ → Scene
for_ever l frames = frame_at l (length frames) (scenes frames)

-- the carrier that is put on as the (c + 1)st after the first frame
abbrev pub carrier_of : LineData → List Frame → ℕ → ℕ
carrier_of l frames c = (for_ever l frames 0).next + c

-- carrier d's copy z periods later is the one that is put on as the (c + 1)st from `first` on
pub record IsTurn (degree first d c z : ℕ) : Type 0 where
  pub there : c < degree
  pub same : d + z * degree ≡ first + c

-- the carrier, and the tick at which it is where carrier d is in frame t
pub record IsSeen (l : LineData) (frames : List Frame) (t d : ℕ) (seen : Seen) : Type 0 where
  pub periods : ℕ
  pub turn : IsTurn l.degree (scenes frames 0).next d seen.carrier periods
  pub tick : seen.tick ≡ t + periods * length frames

-- the carrier that rests in a tank, if there is one
abbrev pub IsRester : Option Hold → Option ℕ → Type 0
IsRester o (Some c) = (k : ℕ) × (age : ℕ) × (o ≡ Some (hold_of c k (Resting age)))
IsRester o None = (c k age : ℕ) → o ≡ Some (hold_of c k (Resting age)) → ⊥

-- frame s is one of the first t, or frame t, of which numbers below n have been read
abbrev pub IsBefore : ℕ → ℕ → ℕ → ℕ → Type 0
IsBefore t n s i = (s < t) ⊎ ((s ≡ t) × (i < n))

-- the frame of tick s has been read so far
abbrev pub IsRead : List Frame → ℕ → ℕ → ℕ → ℕ → Type 0
IsRead frames t n s i = IsBefore t n (s % length frames) i

-- when the carriers are put on, by tick t
pub record PutsTo (l : LineData) (frames : List Frame) (t : ℕ) (puts : List ℕ) : Type 0 where
  pub count : length puts ≡ l.degree
  pub told : (c s : ℕ) → c < l.degree → s ≤ t → IsPutAt (for_ever l frames) (carrier_of l frames c) s
      → get_or puts c 0 ≡ s

-- a tick after which the carrier isn't seen any more: 0, or the tick before it the carrier is in the line
abbrev pub IsAfterIn : (ℕ → Scene) → ℕ → ℕ → Type 0
IsAfterIn frames c zero = Unit {0}
IsAfterIn frames c (suc s) = IsInLine (frames s) c

-- the first ticks after all those at which carriers are seen, carried or at rest
pub record OffsTo (l : LineData) (frames : List Frame) (t h i : ℕ) (offs : List ℕ) : Type 0 where
  pub count : length offs ≡ l.degree
  pub after : (c : ℕ) → c < l.degree → IsAfterIn (for_ever l frames) (carrier_of l frames c) (get_or offs c 0)
  pub carried : (c s j : ℕ) (y : Carry) → c < l.degree → (for_ever l frames s).carry j ≡ Some y
      → y.carrier ≡ carrier_of l frames c → IsRead frames t h s j → s < get_or offs c 0
  pub rested : (c s j k age : ℕ) → c < l.degree
      → (for_ever l frames s).hold j ≡ Some (hold_of (carrier_of l frames c) k (Resting age))
      → IsRead frames t i s j → s < get_or offs c 0

-- they are so from now on also of the carrier that is seen in frame t
pub record IsNoted (l : LineData) (frames : List Frame) (t d : ℕ) (old new : List ℕ) : Type 0 where
  pub seen : Seen
  pub is : IsSeen l frames t d seen
  pub written : new ≡ set old seen.carrier (max (get_or old seen.carrier 0) (seen.tick + 1))

-- hoist h begins the carry y of carrier c at tick s
pub record IsBegun (frames : ℕ → Scene) (c s h : ℕ) (y : Carry) : Type 0 where
  pub is : (frames s).carry h ≡ Some y
  pub new : y.elapsed ≡ 0
  pub carrier : y.carrier ≡ c

-- the lists have it as carrier c's move
pub record HasMove (l : LineData) (c s h : ℕ) (y : Carry) (starts hoists tanks : List ℕ) : Type 0 where
  pub start : get_or starts (move_number l c y.step) 0 ≡ s
  pub hoist : get_or hoists (move_number l c y.step) 0 ≡ h
  pub from : get_or tanks (visit_number l c y.step) 0 ≡ y.from
  pub to : get_or tanks (visit_number l c (y.step + 1)) 0 ≡ y.to

-- the moves that begin, with their hoists and tanks
pub record MovesTo (l : LineData) (frames : List Frame) (t h : ℕ) (starts hoists tanks : List ℕ) : Type 0 where
  pub start_count : length starts ≡ move_count l
  pub hoist_count : length hoists ≡ move_count l
  pub tank_count : length tanks ≡ visit_count l
  pub told : (c s j : ℕ) (y : Carry) → c < l.degree → IsBegun (for_ever l frames) (carrier_of l frames c) s j y
      → IsRead frames t h s j → HasMove l c s j y starts hoists tanks

-- where the hoists are
pub record PathTo (l : LineData) (frames : List Frame) (t h : ℕ) (path : List ℕ) : Type 0 where
  pub count : length path ≡ l.hoists * length frames
  pub told : (j s : ℕ) → j < l.hoists → s < length frames → IsBefore t h s j
      → get_or path (j * length frames + s) 0 ≡ (scenes frames s).at j

-- parts that hold what the first t frames tell
pub record PartsTo (l : LineData) (frames : List Frame) (t : ℕ) (d : TimetableParts) : Type 0 where
  pub period : d.period ≡ length frames
  pub puts : PutsTo l frames t d.put.items
  pub offs : OffsTo l frames t 0 0 d.off.items
  pub moves : MovesTo l frames t 0 d.start.items d.hoist.items d.tank.items
  pub path : PathTo l frames t 0 d.path.items
