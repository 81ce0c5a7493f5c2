-- Loops of frames: lists of frames that come again for ever, each time with later carriers.
use Rattle.std.specs.Prelude.{◌≡◌, ℕ, zero, suc, ◌+◌, ◌*◌, ◌/◌, ◌%◌, ◌≤◌, ◌<◌, ◌⊎◌, ◌==◌, cond, Option, Some, None, Ok}
use Rattle.std.specs.Option.{option_map}
use Rattle.hoist_base.specs.LineData.{LineData, last_stage}
use Rattle.hoist_base.specs.Valid.{IsLine}
use Rattle.line_model.specs.Timetable.{Timetable}
use Rattle.line_model.specs.Legal.{IsLegal, NoneBelow}
use Rattle.tick_machine.specs.declared.frame.Carry.{Carry}
use Rattle.tick_machine.specs.declared.frame.Hold.{Hold}
use Rattle.tick_machine.specs.declared.frame.Rest.TheVariants.{Resting}
use Rattle.tick_machine.specs.Layout.{layout_of}
use Rattle.tick_machine.specs.Scene.{Scene, Command, hold_of}
use Rattle.tick_machine.specs.Step.{step}
use Rattle.tick_machine.specs.Rules.{KeepsRules}

-- the same frame of carriers whose numbers are greater by d
abbrev pub raised_carry : ℕ → Carry → Carry
raised_carry d y = record y { carrier = y.carrier + d }

abbrev pub raised_hold : ℕ → Hold → Hold
raised_hold d x = record x { carrier = x.carrier + d }

abbrev pub raised : ℕ → Scene → Scene
raised d f = record {
  at = f.at;
  carry = λ h. option_map (raised_carry d) (f.carry h);
  hold = λ i. option_map (raised_hold d) (f.hold i);
  next = f.next + d;
}

-- the frame that comes after frame i: the next one of the list, and after the last one the first,
-- with the carriers of the next period
abbrev pub frame_after : LineData → ℕ → (ℕ → Scene) → ℕ → Scene
frame_after l period frames i = cond (i + 1 == period) (raised l.degree (frames 0)) (frames (i + 1))

-- by this order the machine steps from frame i to the frame after it
abbrev pub LeadsOn : LineData → ℕ → (ℕ → Scene) → ℕ → Command → Type 0
LeadsOn l period frames i order = step (layout_of l) order (frames i) ≡ Ok (frame_after l period frames i)

-- so many frames that keep the frame rules, each of which steps to the one after it by some order
pub record IsLoop (l : LineData) (period : ℕ) (frames : ℕ → Scene) : Type 0 where
  pub some : 1 ≤ period
  pub keeps : (i : ℕ) → i < period → KeepsRules (layout_of l) (frames i)
  pub steps : (i : ℕ) → i < period → (order : Command) × LeadsOn l period frames i order

-- the frames continued for ever: in each further period the carriers are later by the degree
abbrev pub frame_at : LineData → ℕ → (ℕ → Scene) → ℕ → Scene
frame_at l period frames t = raised (t / period * l.degree) (frames (t % period))

-- carrier c is in the line: a hoist carries it or it rests in a tank
abbrev pub IsCarriedIn : Scene → ℕ → Type 0
IsCarriedIn f c = (h : ℕ) × (y : Carry) × (f.carry h ≡ Some y) × (y.carrier ≡ c)

abbrev pub RestsSomewhere : Scene → ℕ → Type 0
RestsSomewhere f c = (i : ℕ) × (k : ℕ) × (age : ℕ) × (f.hold i ≡ Some (hold_of c k (Resting age)))

abbrev pub IsInLine : Scene → ℕ → Type 0
IsInLine f c = IsCarriedIn f c ⊎ RestsSomewhere f c

-- in the step to tick t carrier c is put on: from then on the next carrier is the one after it
abbrev pub IsPutAt : (ℕ → Scene) → ℕ → ℕ → Type 0
IsPutAt frames c zero = ⊥
IsPutAt frames c (suc t) = ((frames t).next ≡ c) × ((frames (suc t)).next ≡ c + 1)

-- in the step to tick t carrier c is taken off: it is in the line until then
abbrev pub IsOffAt : (ℕ → Scene) → ℕ → ℕ → Type 0
IsOffAt frames c zero = ⊥
IsOffAt frames c (suc t) = IsInLine (frames t) c × (IsInLine (frames (suc t)) c → ⊥)

-- the timetable that frames show: its carrier c is the one that is put on as the (c + 1)st after tick 0, and its ticks,
-- hoists and tanks are those of this carrier's put, moves and off; the path is that of the hoists in one period
pub record Shows (l : LineData) (ticks : ℕ) (frames : ℕ → Scene) (p : Timetable) : Type 0 where
  pub period : p.period ≡ ticks
  pub put : (c : ℕ) → c < l.degree → IsPutAt frames ((frames 0).next + c) (p.put c)
  pub off : (c : ℕ) → c < l.degree → IsOffAt frames ((frames 0).next + c) (p.off c)
  pub begin : (c k : ℕ) → c < l.degree → k < last_stage l
      → (frames (p.start c k)).carry (p.hoist c k)
      ≡ Some (record { carrier = (frames 0).next + c; step = k; elapsed = 0; from = p.tank c k; to = p.tank c (k + 1) })
  pub path : (h t : ℕ) → h < l.hoists → t < ticks → p.path h t ≡ (frames t).at h

-- a legal timetable of this period is shown by the frames
abbrev pub ShowLegal : LineData → ℕ → (ℕ → Scene) → Type 0
ShowLegal l period frames = (p : Timetable) × IsLegal l p × (p.period ≡ period) × Shows l period (frame_at l period frames) p

-- every loop shows a legal timetable of its length, whatever whole number that is
abbrev pub LoopsAreTimetables : Type 0
LoopsAreTimetables =
    (l : LineData) (period : ℕ) (frames : ℕ → Scene) → IsLine l → IsLoop l period frames → ShowLegal l period frames

-- hence a loop is no shorter than the least period of a legal timetable
abbrev pub NoLoopIsShorter : Type 0
NoLoopIsShorter =
    (l : LineData) (least : ℕ) → IsLine l → NoneBelow l least
    → (period : ℕ) (frames : ℕ → Scene) → IsLoop l period frames → least ≤ period

-- frame i keeps the frame rules, and its own order leads to the frame after it
pub record GoesOn (l : LineData) (period : ℕ) (frames : ℕ → Scene) (orders : ℕ → Command) (i : ℕ) : Type 0 where
  pub keeps : KeepsRules (layout_of l) (frames i)
  pub leads : LeadsOn l period frames i (orders i)

-- the frames are a loop by these orders
pub record IsLoopBy (l : LineData) (period : ℕ) (frames : ℕ → Scene) (orders : ℕ → Command) : Type 0 where
  pub some : 1 ≤ period
  pub goes_on : (i : ℕ) → i < period → GoesOn l period frames orders i

-- they aren't, and this is the first frame that breaks the frame rules or whose order doesn't lead to the frame after
-- it
pub record BreaksAt (l : LineData) (period : ℕ) (frames : ℕ → Scene) (orders : ℕ → Command) (index : ℕ) : Type 0 where
  pub there : index < period
  pub breaks : GoesOn l period frames orders index → ⊥
  pub before : (i : ℕ) → i < index → GoesOn l period frames orders i

-- what is said of the first frame at which they aren't, if there is one
abbrev pub IsFirstBreak : LineData → ℕ → (ℕ → Scene) → (ℕ → Command) → Option ℕ → Type 0
IsFirstBreak l period frames orders None = IsLoopBy l period frames orders
IsFirstBreak l period frames orders (Some index) = BreaksAt l period frames orders index
