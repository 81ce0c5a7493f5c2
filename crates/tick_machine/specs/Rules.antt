-- The frame rules: what every frame of a run keeps, by itself.
use Rattle.std.specs.Prelude.{◌≡◌, ℕ, ◌+◌, ◌≤◌, ◌<◌, ◌↔◌, true, Some, IfSome}
use Rattle.hoist_base.specs.LineData.{LineData}
use Rattle.tick_machine.specs.declared.frame.Carry.{Carry}
use Rattle.tick_machine.specs.declared.frame.Hold.{Hold}
use Rattle.tick_machine.specs.declared.frame.Rest.{Rest}
use Rattle.tick_machine.specs.declared.frame.Rest.TheVariants.{Lowering, Resting, Lifting}
use Rattle.tick_machine.specs.declared.frame.Frame.{Frame}
use Rattle.tick_machine.specs.Layout.{Layout, layout_of, move_place}
use Rattle.tick_machine.specs.Scene.{Scene, scene_of, IsSized, hold_of}
use Rattle.tick_machine.specs.Points.{length_of}

-- positions on the track, each hoist at least the gap above the next lower one
pub record AreApart (l : Layout) (at : ℕ → ℕ) : Type 0 where
  pub within : (h : ℕ) → h < l.hoists → at h ≤ l.track
  pub gap : (h : ℕ) → h + 1 < l.hoists → at h + l.gap ≤ at (h + 1)

-- what hoist h carries is on the way of a move, where that move has it, and holds the tanks that it has to
pub record CarryRule (l : Layout) (f : Scene) (h : ℕ) (y : Carry) : Type 0 where
  pub there : h < l.hoists
  pub step : y.step < l.last
  pub from : l.serves y.from y.step ≡ true
  pub to : l.serves y.to (y.step + 1) ≡ true
  pub going : y.elapsed < length_of l y
  pub at : f.at h ≡ move_place l y.step y.from y.to y.elapsed
  pub lifting : (f.hold y.from ≡ Some (hold_of y.carrier y.step Lifting)) ↔ (y.elapsed < l.lift y.step)
  pub lowering : (f.hold y.to ≡ Some (hold_of y.carrier (y.step + 1) Lowering)) ↔ (length_of l y ≤ y.elapsed + l.lower (y.step + 1))
  pub known : y.carrier < f.next

-- hoist h carries c by the move of step k out of tank i
pub record LeavesBy (f : Scene) (i c k h : ℕ) (y : Carry) : Type 0 where
  pub is : f.carry h ≡ Some y
  pub carrier : y.carrier ≡ c
  pub step : y.step ≡ k
  pub tank : y.from ≡ i

-- hoist h carries c to stage k, into tank i
pub record ComesBy (f : Scene) (i c k h : ℕ) (y : Carry) : Type 0 where
  pub is : f.carry h ≡ Some y
  pub carrier : y.carrier ≡ c
  pub step : y.step + 1 ≡ k
  pub tank : y.to ≡ i

-- who is lifted or lowered is carried, and who rests does so no longer than it may
abbrev pub RestRule : Layout → Scene → ℕ → ℕ → ℕ → Rest → Type 0
RestRule l f i c k Lowering = (h : ℕ) × (y : Carry) × ComesBy f i c k h y
RestRule l f i c k (Resting age) = IfSome (l.greatest k) (λ m. age ≤ m)
RestRule l f i c k Lifting = (h : ℕ) × (y : Carry) × LeavesBy f i c k h y

-- a hold is of a carrier that was put on, in a tank of its stage
pub record HoldRule (l : Layout) (f : Scene) (i : ℕ) (x : Hold) : Type 0 where
  pub serves : l.serves i x.stage ≡ true
  pub known : x.carrier < f.next
  pub rest : RestRule l f i x.carrier x.stage x.rest

-- carrier c rests in tank i
abbrev pub RestsIn : Scene → ℕ → ℕ → Type 0
RestsIn f c i = (k : ℕ) × (age : ℕ) × (f.hold i ≡ Some (hold_of c k (Resting age)))

-- a carrier is in one place
pub record KeepsRules (l : Layout) (f : Scene) : Type 0 where
  pub apart : AreApart l f.at
  pub carries : (h : ℕ) (y : Carry) → f.carry h ≡ Some y → CarryRule l f h y
  pub holds : (i : ℕ) (x : Hold) → f.hold i ≡ Some x → HoldRule l f i x
  pub one_hoist : (h h' : ℕ) (y y' : Carry) → f.carry h ≡ Some y → f.carry h' ≡ Some y' → y.carrier ≡ y'.carrier
      → h ≡ h'
  pub one_rest : (c i i' : ℕ) → RestsIn f c i → RestsIn f c i' → i ≡ i'
  pub not_both : (c i h : ℕ) (y : Carry) → RestsIn f c i → f.carry h ≡ Some y → y.carrier ≡ c → ⊥

-- a frame of the line
pub record IsFrame (l : LineData) (f : Frame) : Type 0 where
  pub sized : IsSized l f
  pub rules : KeepsRules (layout_of l) (scene_of f)

-- the next carrier and all ages are below a bound
abbrev pub RestBelow : ℕ → Rest → Type 0
RestBelow b (Resting age) = age < b
RestBelow b rest = Unit {0}

pub record IsBelow (b : ℕ) (f : Scene) : Type 0 where
  pub next : f.next < b
  pub ages : (i : ℕ) → IfSome (f.hold i) (λ x. RestBelow b x.rest)
