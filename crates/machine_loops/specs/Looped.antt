-- What frames and orders are said to be: a loop with its timetable, or none.
use Rattle.std.specs.Prelude.{◌≡◌, ℕ}
use Rattle.hoist_base.specs.LineData.{LineData}
use Rattle.line_model.specs.Legal.{IsLegal}
use Rattle.timetable.specs.TimetableData.{TimetableData, timetable_of, IsTimetableOf}
use Rattle.tick_machine.specs.Scene.{Scene, Command}
use Rattle.machine_loops.specs.declared.looping.Looped.{Looped}
use Rattle.machine_loops.specs.declared.looping.Looped.TheVariants.{Made, Broken}
use Rattle.machine_loops.specs.Loops.{frame_at, Shows, IsLoopBy, BreaksAt}

-- the frames are a loop by these orders, and the timetable that they show is this one, which is legal
pub record IsTimetableOfLoop (l : LineData) (ticks : ℕ) (frames : ℕ → Scene) (orders : ℕ → Command) (t : TimetableData)
    : Type 0 where
  pub loop : IsLoopBy l ticks frames orders
  pub shows : Shows l ticks (frame_at l ticks frames) (timetable_of t)
  pub period : t.period ≡ ticks
  pub legal : IsLegal l (timetable_of t)
  pub fits : IsTimetableOf l t

abbrev pub IsLooped : LineData → ℕ → (ℕ → Scene) → (ℕ → Command) → Looped → Type 0
IsLooped l period frames orders (Made t) = IsTimetableOfLoop l period frames orders t
IsLooped l period frames orders (Broken index) = BreaksAt l period frames orders index
