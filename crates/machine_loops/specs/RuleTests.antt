-- The frame rules hoist by hoist and tank by tank.
use Rattle.std.specs.Prelude.{◌≡◌, ℕ, ◌<◌, Some}
use Rattle.std.specs.Option.{option_map}
use Rattle.tick_machine.specs.declared.frame.Carry.{Carry}
use Rattle.tick_machine.specs.declared.frame.Hold.{Hold}
use Rattle.tick_machine.specs.declared.frame.Rest.TheVariants.{Resting}
use Rattle.tick_machine.specs.Layout.{Layout}
use Rattle.tick_machine.specs.Scene.{Scene, hold_of}
use Rattle.tick_machine.specs.Rules.{CarryRule, LeavesBy, ComesBy, HoldRule}
use Rattle.machine_loops.specs.Loops.{raised_carry, raised_hold}

-- what hoist h carries, and what tank i holds
pub record CarryKeeps (l : Layout) (f : Scene) (h : ℕ) : Type 0 where
  pub keeps : (y : Carry) → f.carry h ≡ Some y → CarryRule l f h y

pub record HoldKeeps (l : Layout) (f : Scene) (i : ℕ) : Type 0 where
  pub keeps : (x : Hold) → f.hold i ≡ Some x → HoldRule l f i x

-- hoist h carries c by the move of step k out of tank i, or to stage k into tank i
pub record Leaves (f : Scene) (i c k h : ℕ) : Type 0 where
  pub y : Carry
  pub by : LeavesBy f i c k h y

pub record Comes (f : Scene) (i c k h : ℕ) : Type 0 where
  pub y : Carry
  pub by : ComesBy f i c k h y

-- hoist j carries c only if it is hoist h, and tank j has c resting only if it is tank i
pub record CarriesOnlyAt (f : Scene) (c h j : ℕ) : Type 0 where
  pub at : (y : Carry) → f.carry j ≡ Some y → y.carrier ≡ c → j ≡ h

pub record RestsOnlyAt (f : Scene) (c i j : ℕ) : Type 0 where
  pub at : (k age : ℕ) → f.hold j ≡ Some (hold_of c k (Resting age)) → j ≡ i

-- hoist j doesn't carry c
pub record CarriesNot (f : Scene) (c j : ℕ) : Type 0 where
  pub not : (y : Carry) → f.carry j ≡ Some y → y.carrier ≡ c → ⊥

-- of n hoists and m tanks, no other than h carries what h carries, and who rests in tank i is nowhere else
pub record CarriesAlone (f : Scene) (n h : ℕ) : Type 0 where
  pub alone : (y : Carry) → f.carry h ≡ Some y → (j : ℕ) → j < n → CarriesOnlyAt f y.carrier h j

pub record RestsAlone (f : Scene) (n m i : ℕ) : Type 0 where
  pub alone : (c k age : ℕ) → f.hold i ≡ Some (hold_of c k (Resting age)) → (j : ℕ) → j < m → RestsOnlyAt f c i j
  pub not_carried : (c k age : ℕ) → f.hold i ≡ Some (hold_of c k (Resting age)) → (j : ℕ) → j < n → CarriesNot f c j

-- what hoist h carries, and what tank i holds, is the same by a carrier whose number is greater by `later`
pub record CarryIsLater (later : ℕ) (new old : Scene) (h : ℕ) : Type 0 where
  pub is : new.carry h ≡ option_map (raised_carry later) (old.carry h)

pub record HoldIsLater (later : ℕ) (new old : Scene) (i : ℕ) : Type 0 where
  pub is : new.hold i ≡ option_map (raised_hold later) (old.hold i)
