-- What it is to drive a plan, from the empty frame.
use Rattle.std.proofs.Common.{◌≡◌, ℕ, ◌+◌, ◌≤◌, ◌<◌}
use Rattle.tick_machine.specs.declared.order.Go.TheVariants.{Stay}
use Rattle.tick_machine.specs.Layout.{Layout}
use Rattle.tick_machine.specs.Scene.{Command}
use Rattle.startup_rundown.proofs.Plan.{Plan, IsVisit, Orders, Motions}

-- the orders lead through the plan from its first tick on, which moves no hoist
pub record IsDriven (l : Layout) (s : Plan) (pos : ℕ → ℕ → ℕ) (orders : ℕ → Command) (first : ℕ) : Type 0 where
  pub still : (h : ℕ) → h < l.hoists → (orders first).go h ≡ Stay
  pub motions : (t : ℕ) → first ≤ t → Motions l s pos t (orders (t + 1))
  pub events : (t : ℕ) → first ≤ t → Orders s t (orders t)
  pub starts : (c k : ℕ) → IsVisit s c k → first ≤ s.enter c k
