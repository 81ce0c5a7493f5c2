-- The run of a driver, with ticks counted from its first one on.
use Rattle.std.proofs.Common.{◌≡◌, ℕ, zero, suc, ◌+◌, ◌-◌, ◌≤◌, ◌<◌, None, Result, Ok, Err, List, [], ◌∷◌, ◌++◌, map, inr, sym, refl, ap, subst, ◌∙◌, arith}
use Rattle.std.proofs.lemmas.List.{map-append}
use Rattle.hoist_base.specs.LineData.{LineData}
use Rattle.tick_machine.specs.declared.breach.Breach.{Breach}
use Rattle.tick_machine.specs.declared.event.What.{What}
use Rattle.tick_machine.specs.declared.event.Event.{Event}
use Rattle.tick_machine.specs.Layout.{Layout, layout_of}
use Rattle.tick_machine.specs.Rules.{AreApart}
use Rattle.tick_machine.specs.Scene.{Scene, Command}
use Rattle.tick_machine.specs.Step.{step}
use Rattle.tick_machine.specs.Events.{at_tick, whats_of, events_of}
use Rattle.tick_machine.specs.Play.{Reached, Stop, empty_scene, step_to, next_step, steps, run}
use Rattle.tick_machine.proofs.EmptyScenes.{empty_same}
use Rattle.track_log.specs.Following.{place, command, commands, last_of, unspaced, played}
use Rattle.track_log.specs.Recording.{line_to, places_of, recorded, sooner, GoesAs}
use Rattle.track_log.proofs.Spaced.{no_unspaced}
use Rattle.track_log.proofs.Recorded.{line_at, place_at, ticks_are}

-- what a run reaches, with ticks counted from `first` on
abbrev counted : ℕ → Result Reached Stop → Result Reached Stop
counted first (Ok r) = Ok (record { frame = r.frame; log = map (sooner first) r.log })
counted first (Err s) = Err (record { tick = s.tick - first; breach = s.breach })

events_sooner : (first t : ℕ) (whats : List What)
    → map (at_tick t) whats ≡ map (sooner first) (map (at_tick (first + t)) whats)
events_sooner first t [] = refl
events_sooner first t (w ∷ whats) =
    let e : t ≡ first + t - first = omega arith in
    ap (λ (n : ℕ). at_tick n w ∷ map (at_tick t) whats) e ∙ ap (λ (es : List Event). at_tick (first + t - first) w ∷ es) (events_sooner first t whats)

next_counted : (l : Layout) (first t : ℕ) (o : Command) (x : Result Reached Stop)
    → next_step l t o (counted first x) ≡ counted first (next_step l (first + t) o x)
next_counted l first t o (Err s) = refl
next_counted l first t o (Ok r) = by (step l o r.frame)
  where
    by : (y : Result Scene Breach) → step_to l t o (record { frame = r.frame; log = map (sooner first) r.log }) y ≡ counted first (step_to l (first + t) o r y)
    by (Err b) = let e : t ≡ first + t - first = omega arith in ap (λ (n : ℕ). Err (record { tick = n; breach = b })) e
    by (Ok g) =
        ap (λ (es : List Event). Ok (record { frame = g; log = map (sooner first) r.log ++ es })) (events_sooner first t (whats_of l o r.frame g))
        ∙ ap (λ (es : List Event). Ok (record { frame = g; log = es })) (sym (map-append (sooner first) r.log (events_of l (first + t) o r.frame g)))

steps_counted : (l : Layout) (orders late : ℕ → Command) (first n : ℕ) (r : Reached)
    → ((t : ℕ) → t ≤ n → orders t ≡ late (first + t))
    → steps l orders 0 (record { frame = r.frame; log = map (sooner first) r.log }) n ≡ counted first (steps l late first r n)
steps_counted l orders late first zero r same =
    let e : first + 0 ≡ first = omega arith in
    next_counted l first 0 (orders 0) (Ok r)
    ∙ ap (λ (o : Command). counted first (next_step l (first + 0) o (Ok r))) (same 0 (omega arith))
    ∙ ap (λ (t : ℕ). counted first (next_step l t (late t) (Ok r))) e
steps_counted l orders late first (suc n) r same =
    let t = suc n in
    let e : 0 + t ≡ t = omega arith in
    ap (λ (u : ℕ). next_step l u (orders u) (steps l orders 0 (record { frame = r.frame; log = map (sooner first) r.log }) n)) e
    ∙ ap (next_step l t (orders t)) (steps_counted l orders late first n r (λ u le. same u (omega (arith, le))))
    ∙ next_counted l first t (orders t) (steps l late first r n)
    ∙ ap (λ (o : Command). counted first (next_step l (first + t) o (steps l late first r n))) (same t (omega arith))

played_counted : (l : LineData) (first last : ℕ) (at : ℕ → ℕ) (orders : ℕ → Command) → first ≤ last
    → ((t : ℕ) → first ≤ t → t ≤ last → command (line_to l.hoists (orders t)) ≡ orders t)
    → played l (recorded l.hoists at orders first last) ≡ counted first (run (layout_of l) at orders first last)
played_counted l first last at orders order there =
    let n = l.hoists in
    let log = recorded n at orders first last in
    let count = ticks_are n first last at orders in
    let long : last_of log.ticks - 0 ≡ last - first = omega (arith, count) in
    let here : empty_scene (layout_of l) (place log.at) ≡ empty_scene (layout_of l) at =
    empty_same (layout_of l) (place log.at) at (λ h lt. place_at n h at lt) in
    let same : (t : ℕ) → t ≤ last - first → commands log.ticks t ≡ orders (first + t) =
    λ t le. ap command (line_at n first last t at orders order (omega (arith, order, le))) ∙ there (first + t) (omega arith) (omega (arith, order, le)) in
    ap (steps (layout_of l) (commands log.ticks) 0 (record { frame = empty_scene (layout_of l) (place log.at); log = [] })) long
    ∙ ap (λ (f : Scene). steps (layout_of l) (commands log.ticks) 0 (record { frame = f; log = [] }) (last - first)) here
    ∙ steps_counted (layout_of l) (commands log.ticks) orders first (last - first) (record { frame = empty_scene (layout_of l) at; log = [] }) same

pub goes_as : (l : LineData) (first last : ℕ) (at : ℕ → ℕ) (orders : ℕ → Command) → first ≤ last
    → AreApart (layout_of l) at
    → ((t : ℕ) → first ≤ t → t ≤ last → command (line_to l.hoists (orders t)) ≡ orders t)
    → GoesAs l (recorded l.hoists at orders first last) first last (run (layout_of l) at orders first last)
goes_as l first last at orders order apart there =
    by (run (layout_of l) at orders first last) (played_counted l first last at orders order there)
  where
    n : ℕ
    n = l.hoists

    spaced : unspaced (layout_of l) (place (places_of n at)) ≡ None
    spaced = no_unspaced (layout_of l) (place (places_of n at)) (record {
      within = λ h lt. subst (λ (x : ℕ). x ≤ l.track) (sym (place_at n h at lt)) (apart.within h lt);
      gap = λ h lt.
          let low : h < n = omega (arith, lt) in
          subst (λ (x : ℕ). x + l.gap ≤ place (places_of n at) (h + 1)) (sym (place_at n h at low))
          (subst (λ (x : ℕ). at h + l.gap ≤ x) (sym (place_at n (h + 1) at lt)) (apart.gap h lt));
    })

    by : (x : Result Reached Stop) → played l (recorded n at orders first last) ≡ counted first x
        → GoesAs l (recorded n at orders first last) first last x
    by (Ok r) e = record { spaced = spaced; last_is = (let count = ticks_are n first last at orders in omega (arith, count)); end = e }
    by (Err s) e = inr (spaced, e)
