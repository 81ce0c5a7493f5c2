-- The run that a runner drives, tick by tick, with the events of one tick at a time.
use Rattle.std.proofs.Common.{◌≡◌, ℕ, ◌+◌, ◌-◌, ◌≤◌, List, [], ◌++◌, Option, Result, Ok, Err, sym, ap, subst, ◌∙◌, arith, append_assoc}
use Rattle.std.specs.Prelude.{flat_map, codes, decimal}
use Rattle.std.proofs.lemmas.Grind.{flat_map-append}
use Rattle.std.proofs.lemmas.List.{append-nil}
use Rattle.hoist_base.specs.LineData.{LineData}
use Rattle.line_model.specs.Timetable.{Timetable}
use Rattle.timetable.specs.TimetableData.{TimetableData, timetable_of}
use Rattle.tick_machine.specs.declared.breach.Breach.{Breach}
use Rattle.tick_machine.specs.declared.event.Event.{Event}
use Rattle.tick_machine.specs.Layout.{Layout, layout_of}
use Rattle.tick_machine.specs.Scene.{Scene, Command, scene_of}
use Rattle.tick_machine.specs.Step.{step}
use Rattle.tick_machine.specs.Events.{events_of}
use Rattle.tick_machine.specs.Play.{Reached, Stop, empty_scene, step_to, next_step, reached_or}
use Rattle.tick_machine.specs.Playing.{PlayingData, reached}
use Rattle.tick_machine.proofs.Plays.{done, step_at, run_refused, run_done}
use Rattle.startup_rundown.specs.Driving.{order_into, first_place, RunsThrough}
use Rattle.startup_rundown.specs.RunLog.{first_tick, last_tick, run_log}
use Rattle.startup_rundown.specs.Runner.{RunnerData}
use Rattle.startup_rundown.specs.Runner as runners
use Rattle.run_text.specs.RunText.{event_line}

-- a frame with a log
abbrev pub with_log : Scene → List Event → Reached
with_log f log = record { frame = f; log = log }

-- the runner of a run
abbrev pub runner_of : LineData → TimetableData → ℕ → RunnerData
runner_of l d n = record { line = l; timetable = d; carriers = n }

-- before the run's first tick
abbrev pub start : LineData → Timetable → Reached
start l p = with_log (empty_scene (layout_of l) (first_place l p)) []

made_on : (l : Layout) (t : ℕ) (o : Command) (f g : Scene) (log new : List Event) (made : Result Scene Breach)
    → step_to l t o (with_log f []) made ≡ Ok (with_log g new)
    → step_to l t o (with_log f log) made ≡ Ok (with_log g (log ++ new))
made_on l t o f g log new (Err b) is = absurd (let e = is in cc)
made_on l t o f g log new (Ok h) is =
    let e : with_log h (events_of l t o f h) ≡ with_log g new = cc in
    ap (λ (r : Reached). Ok (with_log r.frame (log ++ r.log))) e

-- what a step adds to a log doesn't hang on what the log had before
pub next_on : (l : Layout) (t : ℕ) (o : Command) (f g : Scene) (log new : List Event)
    → next_step l t o (Ok (with_log f [])) ≡ Ok (with_log g new)
    → next_step l t o (Ok (with_log f log)) ≡ Ok (with_log g (log ++ new))
next_on l t o f g log new is = made_on l t o f g log new (step l o f) is

not_made_on : (l : Layout) (t : ℕ) (o : Command) (f : Scene) (log : List Event) (s : Stop) (made : Result Scene Breach)
    → step_to l t o (with_log f []) made ≡ Err s
    → step_to l t o (with_log f log) made ≡ Err s
not_made_on l t o f log s (Err b) is = is
not_made_on l t o f log s (Ok h) is = absurd (let e = is in cc)

pub not_next_on : (l : Layout) (t : ℕ) (o : Command) (f : Scene) (log : List Event) (s : Stop)
    → next_step l t o (Ok (with_log f [])) ≡ Err s
    → next_step l t o (Ok (with_log f log)) ≡ Err s
not_next_on l t o f log s is = not_made_on l t o f log s (step l o f) is

-- the machine that begins a run
pub begun : (l : LineData) (d : TimetableData) (n : ℕ) (r : RunnerData) (m : PlayingData) (t : ℕ) → r ≡ runner_of l d n
    → scene_of m.frame ≡ empty_scene (layout_of l) (first_place r.line (timetable_of r.timetable))
    → t ≡ runners.first_tick r
    → done (layout_of l) (order_into l (timetable_of d) n) (first_tick l (timetable_of d)) (start l (timetable_of d))
    (t - first_tick l (timetable_of d)) ≡ Ok (reached m [])
begun l d n r m t same frame first =
    let p = timetable_of d in
    let here : t ≡ first_tick l p = first ∙ ap runners.first_tick same in
    let none : t - first_tick l p ≡ 0 = omega arith in
    ap (done (layout_of l) (order_into l p n) (first_tick l p) (start l p)) none
    ∙ ap (λ (q : RunnerData). Ok (with_log (empty_scene (layout_of l) (first_place q.line (timetable_of q.timetable))) [])) (sym same)
    ∙ ap (λ (f : Scene). Ok (with_log f [])) (sym frame)

-- a tick of the run, with no events before it
pub played : (l : LineData) (d : TimetableData) (n : ℕ) (r : RunnerData) (m new : PlayingData) (t : ℕ) (breach : Option Breach) (old more : List Event)
    → r ≡ runner_of l d n → m.line ≡ l → m.tick ≡ t → old ≡ []
    → next_step (layout_of m.line) m.tick (order_into r.line (timetable_of r.timetable) r.carriers m.tick)
    (Ok (reached m old)) ≡ reached_or m.tick breach (reached new more)
    → next_step (layout_of l) t (order_into l (timetable_of d) n t) (Ok (reached m [])) ≡ reached_or t breach (reached new more)
played l d n r m new t breach old more same line tick none is =
    subst (λ (es : List Event). next_step (layout_of l) t (order_into l (timetable_of d) n t) (Ok (reached m es)) ≡ reached_or t breach (reached new more)) none
    (subst (λ (q : RunnerData). next_step (layout_of l) t (order_into q.line (timetable_of q.timetable) q.carriers t)
    (Ok (reached m old)) ≡ reached_or t breach (reached new more)) same
    (step_at m l t (order_into r.line (timetable_of r.timetable) r.carriers) breach (reached m old) (reached new more) line tick is))

-- a run that is made has no breach
pub not_done : (l : LineData) (p : Timetable) (n t : ℕ) (r : Reached) (s : Stop) → first_tick l p ≤ t
    → t ≤ last_tick l p n → RunsThrough l p n
    → done (layout_of l) (order_into l p n) (first_tick l p) (start l p) (t - first_tick l p) ≡ Ok r
    → next_step (layout_of l) t (order_into l p n t) (Ok r) ≡ Err s → ⊥
not_done l p n t r s from to (f, is, empty, next) so_far stops =
    let e = sym is ∙ run_refused (layout_of l) (order_into l p n) (first_tick l p) t (last_tick l p n) (start l p) (Ok r) s from to so_far stops in
    absurd (let g = e in cc)

-- and its log is that of the run
pub log_is : (l : LineData) (p : Timetable) (n t : ℕ) (f : Scene) (log : List Event) → first_tick l p ≤ last_tick l p n
    → t ≡ last_tick l p n + 1 → RunsThrough l p n
    → done (layout_of l) (order_into l p n) (first_tick l p) (start l p) (t - first_tick l p) ≡ Ok (with_log f log)
    → log ≡ run_log l p n
log_is l p n t f log le all (g, is, empty, next) so_far =
    let end : last_tick l p n + 1 - first_tick l p ≡ t - first_tick l p = omega arith in
    let made = run_done (layout_of l) (order_into l p n) (first_tick l p) (last_tick l p n) (start l p) (with_log f log) le
    (ap (done (layout_of l) (order_into l p n) (first_tick l p) (start l p)) end ∙ so_far) in
    let e : Ok (with_log f log) ≡ Ok (with_log g (run_log l p n)) = sym made ∙ is in
    let same : with_log f log ≡ with_log g (run_log l p n) = cc in
    ap (λ (r : Reached). r.log) same

-- the lines of no events
pub none_yet : (old : List ℕ) → old ≡ old ++ flat_map event_line []
none_yet old = sym (append-nil old)

-- the lines of more events
pub lines_more : (old text new : List ℕ) (log more : List Event) → text ≡ old ++ flat_map event_line log
    → new ≡ text ++ flat_map event_line more
    → new ≡ old ++ flat_map event_line (log ++ more)
lines_more old text new log more before after =
    after ∙ ap (λ (xs : List ℕ). xs ++ flat_map event_line more) before ∙ append_assoc old (flat_map event_line log) (flat_map event_line more)
    ∙ ap (λ (xs : List ℕ). old ++ xs) (sym (flat_map-append event_line log more))

-- the head of a text, by its ticks
abbrev pub head_of : ℕ → ℕ → ℕ → List ℕ
head_of n f l = codes "run " ++ (decimal n ++ (codes "\nfrom " ++ (decimal f ++ (codes " to " ++ (decimal l ++ codes "\n")))))

pub head_is : (n : ℕ) (none : List ℕ) (f f' l l' : ℕ) → f ≡ f' → l ≡ l'
    → none ++ head_of n f l ≡ none ++ head_of n f' l'
head_is n none f f' l l' a b = ap (λ k. none ++ head_of n k l) a ∙ ap (λ k. none ++ head_of n f' k) b

-- the head, the lines and the end
pub whole : (n f l : ℕ) (none head lines text events : List ℕ) → none ≡ []
    → head ≡ none ++ head_of n f l
    → lines ≡ head ++ events → text ≡ lines ++ codes "empty\n"
    → text ≡ codes "run " ++ (decimal n ++ (codes "\nfrom " ++ (decimal f ++ (codes " to " ++ (decimal l ++ (codes "\n" ++ (events ++ codes "empty\n")))))))
whole n f l none head lines text events a b d e =
    let rest = events ++ codes "empty\n" in
    e ∙ ap (λ (xs : List ℕ). xs ++ codes "empty\n") d ∙ append_assoc head events (codes "empty\n")
    ∙ ap (λ (xs : List ℕ). xs ++ rest) b
    ∙ ap (λ (xs : List ℕ). (xs ++ head_of n f l) ++ rest) a
    ∙ ap (λ (xs : List ℕ). codes "run " ++ xs) (append_assoc (decimal n) (codes "\nfrom " ++ (decimal f ++ (codes " to " ++ (decimal l ++ codes "\n")))) rest
    ∙ ap (λ (xs : List ℕ). decimal n ++ (codes "\nfrom " ++ xs)) (append_assoc (decimal f) (codes " to " ++ (decimal l ++ codes "\n")) rest
    ∙ ap (λ (xs : List ℕ). decimal f ++ (codes " to " ++ xs)) (append_assoc (decimal l) (codes "\n") rest)))
