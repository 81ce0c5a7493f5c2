-- Frames and orders as functions of the numbers of hoists and tanks.
use Rattle.std.specs.Prelude.{◌≡◌, ℕ, Bool, Option, None, cond, ◌==◌, length, get_or}
use Rattle.hoist_base.specs.LineData.{LineData}
use Rattle.tick_machine.specs.declared.frame.Carry.{Carry}
use Rattle.tick_machine.specs.declared.frame.Rest.{Rest}
use Rattle.tick_machine.specs.declared.frame.Hold.{Hold}
use Rattle.tick_machine.specs.declared.frame.Frame.{Frame}
use Rattle.tick_machine.specs.declared.order.Go.{Go}
use Rattle.tick_machine.specs.declared.order.Go.TheVariants.{Stay}
use Rattle.tick_machine.specs.declared.order.Order.{Order}

-- a frame: where each hoist is and what it carries, who holds each tank, and the carrier that is put on next
pub record Scene : Type 0 where
  pub at : ℕ → ℕ
  pub carry : ℕ → Option Carry
  pub hold : ℕ → Option Hold
  pub next : ℕ

-- an order: where each hoist goes, to which tank it begins a move, and whether a carrier is taken off and put on
pub record Command : Type 0 where
  pub go : ℕ → Go
  pub begin : ℕ → Option ℕ
  pub off : Bool
  pub put : Bool

-- nothing is carried by a hoist, or held by a tank, that isn't there
abbrev pub scene_of : Frame → Scene
scene_of f = record {
  at = λ h. get_or f.at.items h 0;
  carry = λ h. get_or f.carry.items h None;
  hold = λ i. get_or f.hold.items i None;
  next = f.next;
}

-- a hoist that isn't there stays, and begins nothing
abbrev pub command_of : Order → Command
command_of o = record { go = λ h. get_or o.go.items h Stay; begin = λ h. get_or o.begin.items h None; off = o.off; put = o.put }

-- the lists of a frame have one entry for each hoist or tank
pub record IsSized (l : LineData) (f : Frame) : Type 0 where
  pub at : length f.at.items ≡ l.hoists
  pub carry : length f.carry.items ≡ l.hoists
  pub hold : length f.hold.items ≡ length l.tanks

-- those of an order have one for each hoist
pub record IsSizedOrder (hoists : ℕ) (o : Order) : Type 0 where
  pub go : length o.go.items ≡ hoists
  pub begin : length o.begin.items ≡ hoists

-- the function with v at i
abbrev pub with : {A : Type 0} → (ℕ → A) → ℕ → A → ℕ → A
with f i v j = cond (i == j) v (f j)

-- carrier c in a tank at stage k
abbrev pub hold_of : ℕ → ℕ → Rest → Hold
hold_of c k r = record { carrier = c; stage = k; rest = r }
