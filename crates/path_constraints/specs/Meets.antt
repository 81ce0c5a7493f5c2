-- What it is for a timetable to meet a child of a question; all durations, motions and hoists are the timetable's own.
use Rattle.std.specs.Prelude.{◌≡◌, ℕ, zero, suc, ◌/◌, ◌%◌, ◌<◌, List, length, slice_get, IsSomeAnd, Some, ℤ, pos, ◌≤ℤ◌, neg_ℤ}
use Rattle.hoist_base.specs.LineData.{LineData, stage, last_stage}
use Rattle.hoist_base.specs.declared.ids.MoveId.{MoveId}
use Rattle.hoist_base.specs.declared.ids.VisitId.{VisitId}
use Rattle.line_model.specs.Motion.{duration}
use Rattle.line_model.specs.Timetable.{Timetable, motion}
use Rattle.collision_pairs.specs.declared.span.Span.{Span}
use Rattle.choice_tree.specs.declared.question.Question.{Question}
use Rattle.choice_tree.specs.declared.question.Question.TheVariants.{Assign, TankOrder, HoistOrder, Choose}
use Rattle.choice_tree.specs.declared.question.Decision.{Decision}
use Rattle.path_constraints.specs.Tanks.{decision_at}
use Rattle.path_constraints.specs.Hoists.{Ride, hoists_reaching, clash_between}
use Rattle.path_constraints.specs.Holds.{begin_of, end_of, tick_of, periods_later}
use Rattle.path_constraints.specs.Questions.{offset_of}

-- the starts of a timetable by the numbers of the moves
abbrev pub ticks_of : LineData → Timetable → ℕ → ℤ
ticks_of l p i = pos (p.start (i / last_stage l) (i % last_stage l))

-- the durations of its moves
abbrev pub durations_of : LineData → Timetable → ℕ → ℕ → ℕ
durations_of l p c k = duration (motion l p c k)

abbrev pub ride_of : LineData → Timetable → ℕ → ℕ → Ride
ride_of l p c k = record { motion = motion l p c k; hoist = p.hoist c k }

-- child 0: b, that q periods later, begins its hold when a has ended its own; child 1: the other way round
abbrev pub MeetsTankOrder : LineData → Timetable → VisitId → VisitId → ℤ → ℕ → Type 0
MeetsTankOrder l p a b q zero =
    tick_of l (ticks_of l p) (end_of l (durations_of l p) a.carrier a.stage)
    ≤ℤ periods_later (tick_of l (ticks_of l p) (begin_of l (durations_of l p) b.carrier b.stage)) q p.period
MeetsTankOrder l p a b q (suc zero) =
    periods_later (tick_of l (ticks_of l p) (end_of l (durations_of l p) b.carrier b.stage)) q p.period
    ≤ℤ tick_of l (ticks_of l p) (begin_of l (durations_of l p) a.carrier a.stage)
MeetsTankOrder l p a b q (suc (suc child)) = ⊥

-- child 0: b, that q periods later, starts late enough after a; child 1: a late enough after b
abbrev pub MeetsSpan : Span → ℤ → ℕ → Type 0
MeetsSpan span offset zero = span.after ≤ℤ offset
MeetsSpan span offset (suc zero) = span.before ≤ℤ neg_ℤ offset
MeetsSpan span offset (suc (suc child)) = ⊥

abbrev pub MeetsHoistOrder : LineData → Timetable → MoveId → MoveId → ℤ → ℕ → Type 0
MeetsHoistOrder l p a b q child =
    IsSomeAnd (clash_between l (ride_of l p a.carrier a.step) (ride_of l p b.carrier b.step))
    (λ span. MeetsSpan span (offset_of l (ticks_of l p) p.period a b q) child)

-- the timetable meets the child: it uses the tank, has the hoist, or keeps the order
abbrev pub Meets : LineData → Timetable → Question → ℕ → Type 0
Meets l p (Assign m) child =
    slice_get (hoists_reaching l (motion l p m.carrier m.step)) child ≡ Some (p.hoist m.carrier m.step)
Meets l p (TankOrder a b q) child = MeetsTankOrder l p a b q child
Meets l p (HoistOrder a b q) child = MeetsHoistOrder l p a b q child
Meets l p (Choose v) child = slice_get (stage l v.stage).tanks child ≡ Some (p.tank v.carrier v.stage)

-- it meets every decision of the path
abbrev pub MeetsPath : LineData → Timetable → List Decision → Type 0
MeetsPath l p path = (i : ℕ) → i < length path → Meets l p (decision_at path i).question (decision_at path i).child
