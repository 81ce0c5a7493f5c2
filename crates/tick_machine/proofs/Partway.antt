-- The frame rules, part way through the points of a tick.
use Rattle.std.specs.Prelude.{◌≡◌, ℕ, ◌+◌, ◌-◌, ◌≤◌, ◌<◌, Option, Some, true, min}
use Rattle.tick_machine.specs.declared.frame.Carry.{Carry}
use Rattle.tick_machine.specs.declared.frame.Hold.{Hold}
use Rattle.tick_machine.specs.declared.frame.Rest.{Rest}
use Rattle.tick_machine.specs.declared.frame.Rest.TheVariants.{Lowering, Resting, Lifting}
use Rattle.tick_machine.specs.Layout.{Layout, move_place}
use Rattle.tick_machine.specs.Scene.{Scene, hold_of}
use Rattle.tick_machine.specs.Points.{length_of}
use Rattle.tick_machine.specs.Rules.{RestsIn}

-- the carries that are past a bound at a hoist: where the first n hoists have done a point, one tick more counts
abbrev pub IsLifting : Layout → ℕ → ℕ → Carry → Type 0
IsLifting l free h y = y.elapsed + min 1 (free - h) ≤ l.lift y.step

abbrev pub IsLowering : Layout → ℕ → ℕ → Carry → Type 0
IsLowering l low h y = length_of l y < y.elapsed + l.lower (y.step + 1) + min 1 (low - h)

-- what a carry says of the tanks
pub record CarryPart (l : Layout) (set free low : ℕ) (f : Scene) (h : ℕ) (y : Carry) : Type 0 where
  pub there : h < l.hoists
  pub at : f.at h ≡ move_place l y.step y.from y.to y.elapsed
  pub step : y.step < l.last
  pub from : l.serves y.from y.step ≡ true
  pub to : l.serves y.to (y.step + 1) ≡ true
  pub known : y.carrier < f.next
  pub going : y.elapsed + min 1 (set - h) ≤ length_of l y
  pub lifting : IsLifting l free h y → f.hold y.from ≡ Some (hold_of y.carrier y.step Lifting)
  pub lowering : IsLowering l low h y → f.hold y.to ≡ Some (hold_of y.carrier (y.step + 1) Lowering)

-- the carry that a hold belongs to
pub record LiftedBy (l : Layout) (free : ℕ) (carry : ℕ → Option Carry) (i c k : ℕ) : Type 0 where
  pub h : ℕ
  pub y : Carry
  pub is : carry h ≡ Some y
  pub carrier : y.carrier ≡ c
  pub step : y.step ≡ k
  pub tank : y.from ≡ i
  pub on : IsLifting l free h y

pub record LoweredBy (l : Layout) (low : ℕ) (carry : ℕ → Option Carry) (i c k : ℕ) : Type 0 where
  pub h : ℕ
  pub y : Carry
  pub is : carry h ≡ Some y
  pub carrier : y.carrier ≡ c
  pub step : y.step + 1 ≡ k
  pub tank : y.to ≡ i
  pub on : IsLowering l low h y

abbrev pub RestPart : Layout → ℕ → ℕ → (ℕ → Option Carry) → ℕ → ℕ → ℕ → Rest → Type 0
RestPart l free low carry i c k Lowering = LoweredBy l low carry i c k
RestPart l free low carry i c k (Resting age) = Unit {0}
RestPart l free low carry i c k Lifting = LiftedBy l free carry i c k

pub record HoldPart (l : Layout) (free low : ℕ) (f : Scene) (i : ℕ) (x : Hold) : Type 0 where
  pub serves : l.serves i x.stage ≡ true
  pub known : x.carrier < f.next
  pub rest : RestPart l free low f.carry i x.carrier x.stage x.rest

pub record Parts (l : Layout) (set free low : ℕ) (f : Scene) : Type 0 where
  pub carries : (h : ℕ) (y : Carry) → f.carry h ≡ Some y → CarryPart l set free low f h y
  pub holds : (i : ℕ) (x : Hold) → f.hold i ≡ Some x → HoldPart l free low f i x
  pub one_hoist : (h h' : ℕ) (y y' : Carry) → f.carry h ≡ Some y → f.carry h' ≡ Some y' → y.carrier ≡ y'.carrier
      → h ≡ h'
  pub one_rest : (c i i' : ℕ) → RestsIn f c i → RestsIn f c i' → i ≡ i'
  pub not_both : (c i h : ℕ) (y : Carry) → RestsIn f c i → f.carry h ≡ Some y → y.carrier ≡ c → ⊥
