-- The frame that a plan shows, part way through the points of a tick.
use Rattle.std.proofs.Common.{◌≡◌, ℕ, ◌+◌, ◌-◌, ◌≤◌, ◌<◌, Option, Some}
use Rattle.std.specs.Prelude.{min}
use Rattle.tick_machine.specs.declared.frame.Carry.{Carry}
use Rattle.tick_machine.specs.declared.frame.Hold.{Hold}
use Rattle.tick_machine.specs.declared.frame.Rest.{Rest}
use Rattle.tick_machine.specs.declared.frame.Rest.TheVariants.{Lowering, Resting, Lifting}
use Rattle.tick_machine.specs.Scene.{Scene, hold_of}
use Rattle.startup_rundown.proofs.Plan.{Plan, IsVisit, IsMove}

-- how many have done their part of a tick's points 4, 5 and 6, 7 and 8, and 9
pub record Clock : Type 0 where
  pub tick : ℕ
  pub set : ℕ
  pub free : ℕ
  pub low : ℕ
  pub begin : ℕ

-- what is to come by the one with number h begins here: the tick, or the next one where the first n have done theirs
abbrev pub until : ℕ → ℕ → ℕ → ℕ
until t n h = t + min 1 (n - h)

-- the rest of visit k of carrier c
abbrev pub IsRest : Plan → Clock → ℕ → ℕ → Rest → Type 0
IsRest s a c k Lowering = until a.tick a.set (s.setter c k) ≤ s.rest c k
IsRest s a c k (Resting age) =
    (s.rest c k < until a.tick a.set (s.setter c k)) × (until a.tick a.begin (s.lifter c k) ≤ s.lift c k) × (age + s.rest c k ≡ a.tick)
IsRest s a c k Lifting = (s.rest c k < until a.tick a.set (s.setter c k)) × (s.lift c k < until a.tick a.begin (s.lifter c k))

-- the visit holds its tank
abbrev pub IsHeld : Plan → Clock → ℕ → ℕ → Rest → Type 0
IsHeld s a c k r =
    (s.enter c k < until a.tick a.low (s.lowerer c k)) × (until a.tick a.free (s.lifter c k) ≤ s.leave c k) × IsRest s a c k r

-- the move is under way
abbrev pub IsCarried : Plan → Clock → ℕ → ℕ → Type 0
IsCarried s a c k = (s.lift c k < until a.tick a.begin (s.lifter c k)) × (until a.tick a.set (s.lifter c k) ≤ s.rest c (k + 1))

abbrev pub carry_of : Plan → ℕ → ℕ → ℕ → Carry
carry_of s t c k = record { carrier = c; step = k; elapsed = t - s.lift c k; from = s.tank c k; to = s.tank c (k + 1) }

-- tanks hold the visits of which P says so, and no other
pub record ShowsHolds (s : Plan) (P : ℕ → ℕ → Rest → Type 0) (hold : ℕ → Option Hold) : Type 0 where
  pub held : (c k : ℕ) (r : Rest) → IsVisit s c k → P c k r → hold (s.tank c k) ≡ Some (hold_of c k r)
  pub holds : (i : ℕ) (x : Hold) → hold i ≡ Some x
      → IsVisit s x.carrier x.stage × (s.tank x.carrier x.stage ≡ i) × P x.carrier x.stage x.rest

-- hoists carry by the moves of which P says so, and by no other
pub record ShowsCarries (s : Plan) (t : ℕ) (P : ℕ → ℕ → Type 0) (carry : ℕ → Option Carry) : Type 0 where
  pub carried : (c k : ℕ) → IsMove s c k → P c k → carry (s.lifter c k) ≡ Some (carry_of s t c k)
  pub carries : (h : ℕ) (x : Carry) → carry h ≡ Some x
      → IsMove s x.carrier x.step × (s.lifter x.carrier x.step ≡ h) × P x.carrier x.step × (x ≡ carry_of s t x.carrier x.step)

-- the carriers below next are those that have been put on
pub record ShowsNext (s : Plan) (a : Clock) (next : ℕ) : Type 0 where
  pub few : next ≤ s.carriers
  pub below : (c : ℕ) → c < next → s.rest c 0 < until a.tick a.set (s.setter c 0)
  pub rest : (c : ℕ) → c < s.carriers → next ≤ c → until a.tick a.set (s.setter c 0) ≤ s.rest c 0

pub record Shows (s : Plan) (a : Clock) (f : Scene) : Type 0 where
  pub holds : ShowsHolds s (IsHeld s a) f.hold
  pub carries : ShowsCarries s a.tick (IsCarried s a) f.carry
  pub next : ShowsNext s a f.next
