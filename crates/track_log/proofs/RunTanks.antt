-- A run of a legal timetable begins moves to tanks of the line alone.
use Rattle.std.proofs.Common.{◌≡◌, ℕ, ◌+◌, Option, Some, None, IfSome, length, refl, sym, subst, arith}
use Rattle.std.specs.Prelude.{◌<◌, ◌&&◌, ◌==◌}
use Rattle.hoist_base.specs.LineData.{LineData, last_stage, IsVisit}
use Rattle.hoist_base.specs.Valid.{IsLine}
use Rattle.line_model.specs.Timetable.{Timetable}
use Rattle.line_model.specs.Legal.{IsLegal}
use Rattle.line_model.specs.Run.{copied, run_start, run_hoist, run_tank}
use Rattle.timetable.specs.TimetableData.{TimetableData, timetable_of}
use Rattle.startup_rundown.specs.Driving.{order_into}
use Rattle.startup_rundown.specs.Runner.{RunnerData, first_tick, last_tick}
use Rattle.startup_rundown.proofs.Picks.{pick_move_found}
use Rattle.startup_rundown.proofs.RunPlan.{run_is}
use Rattle.track_log.specs.Recording.{BeginsAtTanks}

some_meets : {A : Type 0} (P : A → Type 0) (o : Option A) → ((v : A) → o ≡ Some v → P v) → IfSome o P
some_meets {A = A} P None meets = tt
some_meets {A = A} P (Some v) meets = meets v refl

run_begins : (l : LineData) (p : Timetable) (n first last : ℕ) → IsLine l → IsLegal l p
    → BeginsAtTanks l (order_into l p n) first last
run_begins l p n first last line legal t h from to lt =
    let run = run_is l p n line legal in
    some_meets (λ tank. tank < length l.tanks) ((order_into l p n t).begin h) (λ v e.
    let m = pick_move_found n (last_stage l) (λ c k. (run_hoist l p c k == h) && (run_start l p c k == t)) (λ c k. run_tank l p c (k + 1)) v e in
    let visit : IsVisit l (copied l m.0) (m.1 + 1) = (run.base m.0, omega (arith, m.2.1, line.limits.stages.0)) in
    subst (λ (tank : ℕ). tank < length l.tanks) m.4 (line.stages.there (m.1 + 1) (run_tank l p m.0 (m.1 + 1)) (legal.routed (copied l m.0) (m.1 + 1) visit)))

-- so does the runner of one
pub runner_begins : (l : LineData) (d : TimetableData) (n : ℕ) (r : RunnerData) → IsLine l → IsLegal l (timetable_of d) → r ≡ record { line = l; timetable = d; carriers = n }
    → BeginsAtTanks l (order_into r.line (timetable_of r.timetable) r.carriers) (first_tick r) (last_tick r)
runner_begins l d n r line legal same =
    let is : RunnerData = record { line = l; timetable = d; carriers = n } in
    let At : RunnerData → Type 0 = λ q. BeginsAtTanks l (order_into q.line (timetable_of q.timetable) q.carriers) (first_tick q) (last_tick q) in
    subst At (sym same) (run_begins l (timetable_of d) n (first_tick is) (last_tick is) line legal)
