-- A run by its visits: when each holds its tank, and who does what.
use Rattle.std.specs.Prelude.{◌≡◌, ℕ, ◌+◌, ◌≤◌, ◌<◌, true, Some, IfSome}
use Rattle.tick_machine.specs.Scene.{Command}
use Rattle.tick_machine.specs.declared.order.Go.{Go}
use Rattle.tick_machine.specs.declared.order.Go.TheVariants.{Stay, Low, High}
use Rattle.tick_machine.specs.Layout.{Layout, move_ticks, move_place}

pub record Plan : Type 0 where
  pub carriers : ℕ
  pub last : ℕ
  -- by carrier and stage: from when on a visit holds its tank, rests in it, is lifted, and holds it no longer
  pub enter : ℕ → ℕ → ℕ
  pub rest : ℕ → ℕ → ℕ
  pub lift : ℕ → ℕ → ℕ
  pub leave : ℕ → ℕ → ℕ
  pub tank : ℕ → ℕ → ℕ
  -- who lowers, sets down and lifts out. Hoist h is h + 1 at lowering, where the put is 0; else it is h, and the put
  -- and the off are `hoists`
  pub lowerer : ℕ → ℕ → ℕ
  pub setter : ℕ → ℕ → ℕ
  pub lifter : ℕ → ℕ → ℕ

abbrev pub IsVisit : Plan → ℕ → ℕ → Type 0
IsVisit s c k = (c < s.carriers) × (k ≤ s.last)

abbrev pub IsMove : Plan → ℕ → ℕ → Type 0
IsMove s c k = (c < s.carriers) × (k < s.last)

-- the move from stage k to the next
pub record IsMoving (l : Layout) (s : Plan) (c k : ℕ) : Type 0 where
  pub there : s.lifter c k < l.hoists
  pub lowerer : s.lowerer c (k + 1) ≡ s.lifter c k + 1
  pub setter : s.setter c (k + 1) ≡ s.lifter c k
  pub lasts : s.rest c (k + 1) ≡ s.lift c k + move_ticks l k (s.tank c k) (s.tank c (k + 1))
  pub lowers : s.enter c (k + 1) + l.lower (k + 1) ≡ s.rest c (k + 1)
  pub lifts : s.leave c k ≡ s.lift c k + l.lift k
  pub lift_takes : s.lift c k < s.leave c k
  pub apart : s.leave c k ≤ s.enter c (k + 1)
  pub lower_takes : s.enter c (k + 1) < s.rest c (k + 1)
  pub way : l.serves (s.tank c (k + 1)) (k + 1) ≡ true

pub record IsPut (l : Layout) (s : Plan) (c : ℕ) : Type 0 where
  pub lowerer : s.lowerer c 0 ≡ 0
  pub setter : s.setter c 0 ≡ l.hoists
  pub at_once : s.enter c 0 ≡ s.rest c 0
  pub tank : s.tank c 0 ≡ l.load_tank

pub record IsOff (l : Layout) (s : Plan) (c : ℕ) : Type 0 where
  pub lifter : s.lifter c s.last ≡ l.hoists
  pub at_once : s.lift c s.last ≡ s.leave c s.last
  pub tank : s.tank c s.last ≡ l.unload_tank

pub record IsPlan (l : Layout) (s : Plan) : Type 0 where
  pub last : s.last ≡ l.last
  pub some_move : 0 < s.last
  pub places : (i j : ℕ) → i < l.tanks → j < l.tanks → l.place i ≡ l.place j → i ≡ j
  pub tanks : (c k : ℕ) → IsVisit s c k → s.tank c k < l.tanks
  pub moves : (c k : ℕ) → IsMove s c k → IsMoving l s c k
  pub puts : (c : ℕ) → c < s.carriers → IsPut l s c
  pub offs : (c : ℕ) → c < s.carriers → IsOff l s c
  pub rests : (c k : ℕ) → IsVisit s c k → s.rest c k + l.least k ≤ s.lift c k
  pub in_time : (c k : ℕ) → IsVisit s c k → IfSome (l.greatest k) (λ m. s.lift c k ≤ s.rest c k + m)
  pub hold_alone : (t c k c' k' : ℕ) → IsVisit s c k → IsVisit s c' k' → s.tank c k ≡ s.tank c' k'
      → s.enter c k ≤ t → t < s.leave c k → s.enter c' k' ≤ t → t < s.leave c' k' → (c ≡ c') × (k ≡ k')
  pub carry_alone : (t c k c' k' : ℕ) → IsMove s c k → IsMove s c' k' → s.lifter c k ≡ s.lifter c' k'
      → s.lift c k ≤ t → t < s.rest c (k + 1) → s.lift c' k' ≤ t → t < s.rest c' (k' + 1) → (c ≡ c') × (k ≡ k')
  pub numbered : (c d : ℕ) → c < d → d < s.carriers → s.rest c 0 < s.rest d 0

-- the order that leads into the tick t: the events of that tick
pub record OffAt (s : Plan) (t : ℕ) : Type 0 where
  pub c : ℕ
  pub there : c < s.carriers
  pub at : s.leave c s.last ≡ t

pub record PutAt (s : Plan) (t : ℕ) : Type 0 where
  pub c : ℕ
  pub there : c < s.carriers
  pub at : s.rest c 0 ≡ t

pub record BeginAt (s : Plan) (t h to : ℕ) : Type 0 where
  pub c : ℕ
  pub k : ℕ
  pub there : IsMove s c k
  pub by : s.lifter c k ≡ h
  pub at : s.lift c k ≡ t
  pub to_tank : to ≡ s.tank c (k + 1)

pub record Orders (s : Plan) (t : ℕ) (o : Command) : Type 0 where
  pub off : o.off ≡ true → OffAt s t
  pub each_off : (c : ℕ) → c < s.carriers → s.leave c s.last ≡ t → o.off ≡ true
  pub put : o.put ≡ true → PutAt s t
  pub each_put : (c : ℕ) → c < s.carriers → s.rest c 0 ≡ t → o.put ≡ true
  pub begin : (h to : ℕ) → o.begin h ≡ Some to → BeginAt s t h to
  pub each_begin : (c k : ℕ) → IsMove s c k → s.lift c k ≡ t → o.begin (s.lifter c k) ≡ Some (s.tank c (k + 1))

-- positions by hoist and tick, on which the moves go
pub record IsTracked (l : Layout) (s : Plan) (pos : ℕ → ℕ → ℕ) : Type 0 where
  pub within : (h t : ℕ) → h < l.hoists → pos h t ≤ l.track
  pub gap : (h t : ℕ) → h + 1 < l.hoists → pos h t + l.gap ≤ pos (h + 1) t
  pub moves : (c k u : ℕ) → IsMove s c k → u ≤ move_ticks l k (s.tank c k) (s.tank c (k + 1))
      → pos (s.lifter c k) (s.lift c k + u) ≡ move_place l k (s.tank c k) (s.tank c (k + 1)) u

abbrev pub Goes : Go → ℕ → ℕ → Type 0
Goes Stay from to = to ≡ from
Goes Low from to = to + 1 ≡ from
Goes High from to = to ≡ from + 1

-- the order that leads from tick t to the next, in its motions
pub record Motions (l : Layout) (s : Plan) (pos : ℕ → ℕ → ℕ) (t : ℕ) (o : Command) : Type 0 where
  pub stays : (c k : ℕ) → IsMove s c k → s.lift c k ≤ t → t < s.rest c (k + 1) → o.go (s.lifter c k) ≡ Stay
  pub goes : (h : ℕ) → h < l.hoists
      → ((c k : ℕ) → IsMove s c k → s.lifter c k ≡ h → s.lift c k ≤ t → t < s.rest c (k + 1) → ⊥)
      → Goes (o.go h) (pos h t) (pos h (t + 1))
