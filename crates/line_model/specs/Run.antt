-- The run of a timetable: its carriers 0 to n - 1, from the first put to the last off.
-- Carrier c + degree * z of a run does what carrier c of the timetable does, z periods later.
use Rattle.std.specs.Prelude.{◌≡◌, ℕ, ◌+◌, ◌/◌, ◌%◌, ◌≤◌, ◌<◌, IfSome}
use Rattle.hoist_base.specs.LineData.{LineData, stage, last_step, IsStep, IsStageOf}
use Rattle.line_model.specs.declared.motion.Motion.{Motion}
use Rattle.line_model.specs.Motion.{motion_by, duration, place}
use Rattle.line_model.specs.Timetable.{Timetable, position, later}
use Rattle.line_model.specs.Legal.{IsTrack, hold_begin, hold_end}

-- the carrier of the timetable that carrier c of a run copies
abbrev pub copied : LineData → ℕ → ℕ
copied l c = c % l.degree

-- a tick of carrier c of a run, by the tick of the carrier that it copies
abbrev pub in_run : LineData → Timetable → ℕ → ℕ → ℕ
in_run l p c t = later p (c / l.degree) t

abbrev pub run_put : LineData → Timetable → ℕ → ℕ
run_put l p c = in_run l p c (p.put (copied l c))

abbrev pub run_off : LineData → Timetable → ℕ → ℕ
run_off l p c = in_run l p c (p.off (copied l c))

abbrev pub run_start : LineData → Timetable → ℕ → ℕ → ℕ
run_start l p c k = in_run l p c (p.start (copied l c) k)

abbrev pub run_hoist : LineData → Timetable → ℕ → ℕ → ℕ
run_hoist l p c k = p.hoist (copied l c) k

abbrev pub run_tank : LineData → Timetable → ℕ → ℕ → ℕ
run_tank l p c k = p.tank (copied l c) k

abbrev pub run_motion : LineData → Timetable → ℕ → ℕ → Motion
run_motion l p c k = motion_by l (run_tank l p c) k

-- hoist h carries carrier c of the run at tick t by its move of step k
pub record RunCarriesAt (l : LineData) (p : Timetable) (h c k t : ℕ) : Type 0 where
  pub step : IsStep l k
  pub hoist : run_hoist l p c k ≡ h
  pub from : run_start l p c k ≤ t
  pub before : t < run_start l p c k + duration (run_motion l p c k)

-- carrier c of the run holds tank i at tick t by its visit of stage k
pub record RunHoldsAt (l : LineData) (p : Timetable) (i c k t : ℕ) : Type 0 where
  pub stage : IsStageOf l k
  pub tank : run_tank l p c k ≡ i
  pub from : in_run l p c (hold_begin l p (copied l c) k) ≤ t
  pub before : t < in_run l p c (hold_end l p (copied l c) k)

-- each of the first n carriers of the run keeps its windows from the first to the last
pub record KeepsWindows (l : LineData) (p : Timetable) (n : ℕ) : Type 0 where
  pub least : (c k : ℕ) → c < n → IsStep l (k + 1)
      → run_start l p c k + duration (run_motion l p c k) + (stage l (k + 1)).min ≤ run_start l p c (k + 1)
  pub greatest : (c k : ℕ) → c < n → IsStep l (k + 1)
      → IfSome (stage l (k + 1)).max (λ m. run_start l p c (k + 1) ≤ run_start l p c k + duration (run_motion l p c k) + m)
  pub load : (c : ℕ) → c < n → run_put l p c + l.load ≤ run_start l p c 0
  pub unload : (c : ℕ) → c < n
      → run_start l p c (last_step l) + duration (run_motion l p c (last_step l)) + l.unload ≤ run_off l p c
  pub along : (c k u : ℕ) → c < n → IsStep l k → u ≤ duration (run_motion l p c k)
      → position p (run_hoist l p c k) (run_start l p c k + u) ≡ place (run_motion l p c k) u
  pub carried_alone : (h t c k c' k' : ℕ) → c < n → c' < n → RunCarriesAt l p h c k t → RunCarriesAt l p h c' k' t
      → (c ≡ c') × (k ≡ k')
  pub held_alone : (i t c k c' k' : ℕ) → c < n → c' < n → RunHoldsAt l p i c k t → RunHoldsAt l p i c' k' t
      → (c ≡ c') × (k ≡ k')
  pub track : IsTrack l p
