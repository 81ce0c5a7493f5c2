-- What a runner holds, and what it asks of a tick: by the carriers of one period, whose ticks come again each period.
use Rattle.std.specs.Prelude.{◌≡◌, ℕ, ◌+◌, ◌-◌, ◌*◌, ◌/◌, ◌%◌, ◌≤◌, ◌<◌, ◌^◌, Bool, false, cond, ◌==◌, ◌&&◌, ◌||◌, nat_lt, Option, is_some}
use Rattle.hoist_base.specs.LineData.{LineData, last_stage}
use Rattle.hoist_base.specs.Valid.{IsLine}
use Rattle.line_model.specs.Motion.{duration}
use Rattle.line_model.specs.Timetable.{Timetable, position, motion}
use Rattle.line_model.specs.Legal.{IsLegal}
use Rattle.timetable.specs.TimetableData.{TimetableData, timetable_of, FitsLine, IsTimetable}
use Rattle.tick_machine.specs.declared.order.Go.{Go}
use Rattle.tick_machine.specs.declared.order.Go.TheVariants.{Stay}
use Rattle.tick_machine.specs.Layout.{layout_of}
use Rattle.tick_machine.specs.Rules.{AreApart}
use Rattle.startup_rundown.specs.Picks.{pick, pick_move}
use Rattle.startup_rundown.specs.RunLog as logs
use Rattle.startup_rundown.specs.Driving.{toward, order_into, first_place}

-- a line, a timetable of it, and the number of carriers of the run
pub record RunnerData : Type 0 where
  pub line : LineData
  pub timetable : TimetableData
  pub carriers : ℕ

-- the timetable is a legal one, and the run has 1 to 1,000 carriers
pub record IsRunner (r : RunnerData) : Type 0 where
  pub line : IsLine r.line
  pub timetable : IsTimetable r.timetable
  pub fits : FitsLine r.line r.timetable
  pub legal : IsLegal r.line (timetable_of r.timetable)
  pub carriers : (1 ≤ r.carriers) × (r.carriers ≤ 1000)

-- its first and its last tick
abbrev pub first_tick : RunnerData → ℕ
first_tick r = logs.first_tick r.line (timetable_of r.timetable)

abbrev pub last_tick : RunnerData → ℕ
last_tick r = logs.last_tick r.line (timetable_of r.timetable) r.carriers

-- the carrier that copies carrier c, some periods later, is one of the run
abbrev pub has_carrier : RunnerData → ℕ → ℕ → Bool
has_carrier r c turn = nat_lt (c + turn * r.line.degree) r.carriers

-- tick `at` of carrier c comes at tick t for a carrier of the run
abbrev pub is_due : RunnerData → ℕ → ℕ → ℕ → Bool
is_due r c at t = cond (nat_lt t at) false (((t - at) % r.timetable.period == 0) && has_carrier r c ((t - at) / r.timetable.period))

-- what starts at tick `at` of carrier c and lasts so long is under way from the tick before into tick t
abbrev pub is_under_way : RunnerData → ℕ → ℕ → ℕ → ℕ → Bool
is_under_way r c at long t =
    cond (nat_lt at t) (nat_lt ((t - 1 - at) % r.timetable.period) long && has_carrier r c ((t - 1 - at) / r.timetable.period)) false

-- hoist h begins move k of carrier c at tick t
abbrev pub begins_at : RunnerData → ℕ → ℕ → ℕ → ℕ → Bool
begins_at r t h c k = ((timetable_of r.timetable).hoist c k == h) && is_due r c ((timetable_of r.timetable).start c k) t

-- hoist h carries by move k of carrier c into tick t
abbrev pub carries_into : RunnerData → ℕ → ℕ → ℕ → ℕ → Bool
carries_into r t h c k =
    ((timetable_of r.timetable).hoist c k == h)
    && is_under_way r c ((timetable_of r.timetable).start c k) (duration (motion r.line (timetable_of r.timetable) c k)) t

-- what a machine asks of the run that drives it
pub record IsReady (l : LineData) (p : Timetable) (n : ℕ) : Type 0 where
  pub in_order : logs.first_tick l p ≤ logs.last_tick l p n
  pub small : logs.last_tick l p n < 2 ^ 61
  pub apart : AreApart (layout_of l) (first_place l p)
  pub still : (h : ℕ) → h < l.hoists → (order_into l p n (logs.first_tick l p)).go h ≡ Stay

-- hoist h carries a carrier of the run into tick t
abbrev pub is_loaded : RunnerData → ℕ → ℕ → Bool
is_loaded r t h = is_some (pick_move r.line.degree (last_stage r.line) (carries_into r t h) (λ c k. c))

-- the tank to which hoist h begins a move of the run at tick t
abbrev pub begin_of : RunnerData → ℕ → ℕ → Option ℕ
begin_of r t h = pick_move r.line.degree (last_stage r.line) (begins_at r t h) (λ c k. (timetable_of r.timetable).tank c (k + 1))

-- a carrier of the run is taken off, or put on, at tick t
abbrev pub takes_off : RunnerData → ℕ → Bool
takes_off r t = is_some (pick r.line.degree (λ c. is_due r c ((timetable_of r.timetable).off c) t) (λ c. c))

abbrev pub puts_on : RunnerData → ℕ → Bool
puts_on r t = is_some (pick r.line.degree (λ c. is_due r c ((timetable_of r.timetable).put c) t) (λ c. c))

-- where hoist h goes into tick t
abbrev pub go_of : RunnerData → ℕ → ℕ → Go
go_of r t h = cond ((t == first_tick r) || is_loaded r t h) Stay
    (toward (position (timetable_of r.timetable) h (t - 1)) (position (timetable_of r.timetable) h t))
