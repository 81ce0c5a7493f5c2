-- A log that is read and played line by line.
use Rattle.std.proofs.Common.{◌≡◌, ℕ, zero, suc, ◌+◌, ◌-◌, ◌≤◌, ◌<◌, None, List, [], ◌∷◌, ◌++◌, length, codes, ◌⊎◌, inr, ⊎_elim}
use Rattle.std.proofs.Common.{Bool, true, false, Result, Ok, Err, refl, sym, ap, ◌∙◌, append_assoc, arith, length-append}
use Rattle.std.specs.Prelude.{◌&&◌, nat_lt}
use Rattle.std.proofs.lemmas.Bool.{and_parts, ltb-true}
use Rattle.std.proofs.lemmas.List.{append-nil, get_or_append_left, get_or_push}
use Rattle.hoist_base.specs.LineData.{LineData}
use Rattle.field_reading.specs.declared.stop.Stop.{Stop}
use Rattle.field_reading.specs.declared.stop.Stop.TheVariants as stops
use Rattle.field_reading.specs.Gives.{Fails}
use Rattle.field_reading.specs.Reading.{◌>>=◌, word_at, begins, with_front}
use Rattle.field_reading.proofs.Loops.{front_none}
use Rattle.tick_machine.specs.declared.breach.Breach.{Breach}
use Rattle.tick_machine.specs.declared.event.Event.{Event}
use Rattle.tick_machine.specs.declared.frame.Frame.{Frame}
use Rattle.tick_machine.specs.Layout.{Layout, layout_of}
use Rattle.tick_machine.specs.Scene.{Scene, Command, scene_of}
use Rattle.tick_machine.specs.Step.{step}
use Rattle.tick_machine.specs.Events.{events_of}
use Rattle.tick_machine.specs.Play as plays
use Rattle.tick_machine.specs.Play.{Reached, empty_scene, next_step, step_to}
use Rattle.tick_machine.proofs.Plays.{done, done_next, run_refused, run_done}
use Rattle.track_log.specs.declared.followed.Followed.TheVariants.{Follows, Departs}
use Rattle.track_log.specs.Logs.{TickLine, idle, most_ticks}
use Rattle.track_log.specs.Reading.{tick_at, end_at, lines_at, behind}
use Rattle.track_log.specs.Following.{place, command, commands, last_of, unspaced, IsPlayedOut}
use Rattle.track_log.proofs.Tails.{fails_then, fails_as}

-- the end comes next
abbrev pub is_end : ℕ → List ℕ → Bool
is_end t bytes = nat_lt 0 t && begins 101 bytes

-- ---- what is read next

abbrev cons : TickLine → Result (List TickLine × List ℕ) ℕ → Result (List TickLine × List ℕ) ℕ
cons o r = r >>= λ y. Ok (o ∷ y.0, y.1)

pub line_next : (l : LineData) (t : ℕ) (bytes : List ℕ) → t < most_ticks → is_end t bytes ≡ false
    → lines_at l t (most_ticks - t) bytes ≡ (tick_at l t bytes >>= λ x. cons x.0 (lines_at l (t + 1) (most_ticks - (t + 1)) x.1))
unfolding lines_at
line_next l t bytes lt ahead = let k : most_ticks - t ≡ suc (most_ticks - (t + 1)) = omega (arith, lt) in rw (k, ahead) refl

pub line_ends : (l : LineData) (t : ℕ) (bytes : List ℕ) → (is_end t bytes ≡ true) ⊎ (most_ticks ≤ t)
    → lines_at l t (most_ticks - t) bytes ≡ end_at bytes
unfolding lines_at
line_ends l t bytes ends = by (most_ticks - t) refl
  where
    by : (more : ℕ) → most_ticks - t ≡ more → lines_at l t more bytes ≡ end_at bytes
    by zero e = refl
    by (suc more) e = ⊎_elim (λ yes. rw yes refl) (λ past. absurd (omega (arith, past, e))) ends

-- the same, where only the bytes behind the lines are looked at
pub behind_next : (l : LineData) (t : ℕ) (bytes : List ℕ) (o : TickLine) (after : List ℕ) (total : Result (List ℕ) ℕ)
    → t < most_ticks → is_end t bytes ≡ false
    → tick_at l t bytes ≡ Ok (o, after) → behind (lines_at l t (most_ticks - t) bytes) ≡ total
    → behind (lines_at l (t + 1) (most_ticks - (t + 1)) after) ≡ total
behind_next l t bytes o after total lt ahead e so_far =
    let next = lines_at l (t + 1) (most_ticks - (t + 1)) after in
    let one : lines_at l t (most_ticks - t) bytes ≡ cons o next = line_next l t bytes lt ahead ∙ rw e refl in
    sym (same next) ∙ sym (ap behind one) ∙ so_far
  where
    same : (r : Result (List TickLine × List ℕ) ℕ) → behind (cons o r) ≡ behind r
    same (Ok x) = refl
    same (Err left) = refl

pub behind_breaks : (l : LineData) (t : ℕ) (bytes : List ℕ) (e : Stop) (total : Result (List ℕ) ℕ) → t < most_ticks
    → is_end t bytes ≡ false
    → Fails e (tick_at l t bytes) → behind (lines_at l t (most_ticks - t) bytes) ≡ total → Fails e total
behind_breaks l t bytes e total lt ahead fails so_far =
    let one = line_next l t bytes lt ahead in
    fails_as e total (behind (tick_at l t bytes >>= λ x. cons x.0 (lines_at l (t + 1) (most_ticks - (t + 1)) x.1))) (sym so_far ∙ ap behind one)
    (fails_then e (tick_at l t bytes >>= λ x. cons x.0 (lines_at l (t + 1) (most_ticks - (t + 1)) x.1)) (λ x. Ok x.1)
    (fails_then e (tick_at l t bytes) (λ x. cons x.0 (lines_at l (t + 1) (most_ticks - (t + 1)) x.1)) fails))

end_behind : (bytes : List ℕ) → behind (end_at bytes) ≡ word_at (codes "end\n") bytes
unfolding end_at
end_behind bytes = by (word_at (codes "end\n") bytes)
  where
    by : (r : Result (List ℕ) ℕ) → behind {A = List TickLine} (r >>= λ rest. Ok ([], rest)) ≡ r
    by (Ok rest) = refl
    by (Err left) = refl

pub behind_ends : (l : LineData) (t : ℕ) (bytes : List ℕ) (total : Result (List ℕ) ℕ)
    → (is_end t bytes ≡ true) ⊎ (most_ticks ≤ t)
    → behind (lines_at l t (most_ticks - t) bytes) ≡ total → total ≡ word_at (codes "end\n") bytes
behind_ends l t bytes total ends so_far = sym so_far ∙ ap behind (line_ends l t bytes ends) ∙ end_behind bytes

pub past_first : (t : ℕ) (bytes : List ℕ) → is_end t bytes ≡ true → t - 1 + 1 ≡ t
past_first t bytes e = let lt : 0 < t = ltb-true 0 t (and_parts (nat_lt 0 t) (begins 101 bytes) e).0 in omega (arith, lt)

-- ---- the run so far

abbrev pub start : LineData → List ℕ → Reached
start l at = record { frame = empty_scene (layout_of l) (place at); log = [] }

-- n lines were read, they lead to frame f, and with what comes next they are the lines of the log
pub record Walked (l : LineData) (at : List ℕ) (total : Result (List TickLine × List ℕ) ℕ) (n : ℕ) (rest : List ℕ) (f : Scene) : Type 0 where
  pub ticks : List TickLine
  pub events : List Event
  pub count : length ticks ≡ n
  pub read : with_front ticks (lines_at l n (most_ticks - n) rest) ≡ total
  pub reached : done (layout_of l) (commands ticks) 0 (start l at) n ≡ Ok (record { frame = f; log = events })

pub walk_starts : (l : LineData) (at bytes : List ℕ) (f : Scene) → f ≡ empty_scene (layout_of l) (place at)
    → Walked l at (lines_at l 0 most_ticks bytes) 0 bytes f
walk_starts l at bytes f e = record {
  ticks = [];
  events = [];
  count = refl;
  read = front_none (lines_at l 0 most_ticks bytes);
  reached = ap (λ (g : Scene). Ok (record { frame = g; log = [] })) (sym e);
}

-- orders that agree before tick n lead as far
done_same : (l : Layout) (f g : ℕ → Command) (r : Reached) (n : ℕ) → ((t : ℕ) → t < n → f t ≡ g t)
    → done l f 0 r n ≡ done l g 0 r n
done_same l f g r zero same = refl
done_same l f g r (suc n) same =
    let here : f (0 + n) ≡ g (0 + n) = let e : 0 + n ≡ n = omega arith in ap f e ∙ same n (omega arith) ∙ sym (ap g e) in
    ap (λ (o : Command). next_step l (0 + n) o (done l f 0 r n)) here
    ∙ ap (next_step l (0 + n) (g (0 + n))) (done_same l f g r n (λ t lt. same t (omega (arith, lt))))

commands_front : (xs ys : List TickLine) (t : ℕ) → t < length xs → commands (xs ++ ys) t ≡ commands xs t
commands_front xs ys t lt = ap command (get_or_append_left xs ys idle t lt)

commands_next : (xs : List TickLine) (o : TickLine) (ys : List TickLine)
    → commands ((xs ++ o ∷ []) ++ ys) (length xs) ≡ command o
commands_next xs o ys =
    let inside : length xs < length (xs ++ o ∷ []) = omega (arith, length-append xs (o ∷ [])) in
    commands_front (xs ++ o ∷ []) ys (length xs) inside ∙ ap command (get_or_push xs o idle (length xs) refl)

regroup : (front : List TickLine) (o : TickLine) (r : Result (List TickLine × List ℕ) ℕ)
    → with_front front (cons o r) ≡ with_front (front ++ o ∷ []) r
regroup front o (Ok x) = ap (λ (xs : List TickLine). Ok (xs, x.1)) (simp append_assoc)
regroup front o (Err left) = refl

-- one line more is read
read_more : (l : LineData) (front : List TickLine) (n : ℕ) (rest : List ℕ) (o : TickLine) (after : List ℕ) (total : Result (List TickLine × List ℕ) ℕ)
    → n < most_ticks
    → is_end n rest ≡ false → tick_at l n rest ≡ Ok (o, after)
    → with_front front (lines_at l n (most_ticks - n) rest) ≡ total
    → with_front (front ++ o ∷ []) (lines_at l (n + 1) (most_ticks - (n + 1)) after) ≡ total
read_more l front n rest o after total lt ahead e so_far =
    let next = lines_at l (n + 1) (most_ticks - (n + 1)) after in
    let one : lines_at l n (most_ticks - n) rest ≡ cons o next = line_next l n rest lt ahead ∙ rw e refl in
    sym (regroup front o next) ∙ sym (ap (with_front front) one) ∙ so_far

-- and a step is made
pub walk_more : (l : LineData) (at : List ℕ) (total : Result (List TickLine × List ℕ) ℕ) (n : ℕ) (rest : List ℕ) (f g : Scene) (o : TickLine) (after : List ℕ)
    → Walked l at total n rest f → n < most_ticks → is_end n rest ≡ false → tick_at l n rest ≡ Ok (o, after)
    → Ok g ≡ step (layout_of l) (command o) f
    → Walked l at total (n + 1) after g
walk_more l at total n rest f g o after w lt ahead e made =
    let m = layout_of l in
    let orders = commands (w.ticks ++ o ∷ []) in
    let before : done m orders 0 (start l at) n ≡ Ok (record { frame = f; log = w.events }) =
    done_same m orders (commands w.ticks) (start l at) n (λ t less. commands_front w.ticks (o ∷ []) t (omega (arith, w.count, less))) ∙ w.reached in
    let here : orders n ≡ command o =
    ap (λ (xs : List TickLine). commands xs n) (sym (append-nil (w.ticks ++ o ∷ [])))
    ∙ ap (commands ((w.ticks ++ o ∷ []) ++ [])) (sym w.count) ∙ commands_next w.ticks o [] in
    let events = w.events ++ events_of m n (command o) f g in
    let next : next_step m n (orders n) (Ok (record { frame = f; log = w.events })) ≡ Ok (record { frame = g; log = events }) =
    ap (λ (c : Command). next_step m n c (Ok (record { frame = f; log = w.events }))) here
    ∙ ap (step_to m n (command o) (record { frame = f; log = w.events })) (sym made) in
    let one : n + 1 ≡ n + 1 - 0 = omega arith in
    let zero_off : n - 0 ≡ n = omega arith in
    record {
      ticks = w.ticks ++ o ∷ [];
      events = events;
      count = omega (arith, length-append w.ticks (o ∷ []), w.count);
      read = read_more l w.ticks n rest o after total lt ahead e w.read;
      reached = ap (done m orders 0 (start l at)) one
          ∙ done_next m orders 0 n (start l at) (Ok (record { frame = f; log = w.events })) (Ok (record { frame = g; log = events })) (omega arith)
          (ap (done m orders 0 (start l at)) zero_off ∙ before) next;
    }

-- or none
pub walk_departs : (l : LineData) (at : List ℕ) (total : Result (List TickLine × List ℕ) ℕ) (n : ℕ) (rest : List ℕ) (f : Scene) (o : TickLine) (after : List ℕ)
    (breach : Breach) (left : List ℕ) → unspaced (layout_of l) (place at) ≡ None
    → Walked l at total n rest f → n < most_ticks → is_end n rest ≡ false → tick_at l n rest ≡ Ok (o, after)
    → Err breach ≡ step (layout_of l) (command o) f
    → behind (lines_at l (n + 1) (most_ticks - (n + 1)) after) ≡ Ok left
    → IsPlayedOut l at total (Departs n breach) left
walk_departs l at total n rest f o after breach left spaced w lt ahead e made others =
    out (lines_at l (n + 1) (most_ticks - (n + 1)) after) others (read_more l w.ticks n rest o after total lt ahead e w.read)
  where
    out : (r : Result (List TickLine × List ℕ) ℕ) → behind r ≡ Ok left → with_front (w.ticks ++ o ∷ []) r ≡ total
        → IsPlayedOut l at total (Departs n breach) left
    out (Err k) b so_far = absurd cc
    out (Ok x) b so_far =
        let m = layout_of l in
        let p : x.1 ≡ left = cc in
        let ticks = (w.ticks ++ o ∷ []) ++ x.0 in
        let orders = commands ticks in
        let flat : ticks ≡ w.ticks ++ (o ∷ x.0) = append_assoc w.ticks (o ∷ []) x.0 in
        let before : done m orders 0 (start l at) n ≡ Ok (record { frame = f; log = w.events }) =
        done_same m orders (commands w.ticks) (start l at) n
        (λ t less. ap (λ (xs : List TickLine). commands xs t) flat ∙ commands_front w.ticks (o ∷ x.0) t (omega (arith, w.count, less))) ∙ w.reached in
        let here : orders n ≡ command o = ap orders (sym w.count) ∙ commands_next w.ticks o x.0 in
        let stop : plays.Stop = record { tick = n; breach = breach } in
        let next : next_step m n (orders n) (Ok (record { frame = f; log = w.events })) ≡ Err stop =
        ap (λ (c : Command). next_step m n c (Ok (record { frame = f; log = w.events }))) here
        ∙ ap (step_to m n (command o) (record { frame = f; log = w.events })) (sym made) in
        let zero_off : n - 0 ≡ n = omega arith in
        let last : n ≤ last_of ticks = omega (arith, ap length flat, length-append w.ticks (o ∷ x.0), w.count) in
        let run = run_refused m orders 0 n (last_of ticks) (start l at) (Ok (record { frame = f; log = w.events })) stop (omega arith) last
        (ap (done m orders 0 (start l at)) zero_off ∙ before) next in
        (ticks, sym so_far ∙ ap (λ (y : List ℕ). Ok (ticks, y)) p, inr (spaced, run))

-- the end
pub walk_ends : (l : LineData) (at : List ℕ) (total : Result (List TickLine × List ℕ) ℕ) (n last : ℕ) (rest left : List ℕ) (end : Frame)
    → unspaced (layout_of l) (place at) ≡ None → Walked l at total n rest (scene_of end)
    → (is_end n rest ≡ true) ⊎ (most_ticks ≤ n) → last + 1 ≡ n
    → word_at (codes "end\n") rest ≡ Ok left → IsPlayedOut l at total (Follows last end) left
unfolding end_at
walk_ends l at total n last rest left end spaced w ends count e =
    let m = layout_of l in
    let orders = commands w.ticks in
    let lines : lines_at l n (most_ticks - n) rest ≡ Ok ([], left) = line_ends l n rest ends
    ∙ ap (λ (r : Result (List ℕ) ℕ). r >>= λ after. Ok ([], after)) e in
    let read : total ≡ Ok (w.ticks, left) =
    sym w.read ∙ ap (with_front w.ticks) lines ∙ ap (λ (xs : List TickLine). Ok (xs, left)) (append-nil w.ticks) in
    let last_is : last ≡ last_of w.ticks = omega (arith, w.count, count) in
    let one : last + 1 - 0 ≡ n = omega (arith, count) in
    let end_is : Reached = record { frame = scene_of end; log = w.events } in
    let run = run_done m orders 0 last (start l at) end_is (omega arith) (ap (done m orders 0 (start l at)) one ∙ w.reached) in
    (w.ticks, read, (w.events, record { spaced = spaced; last_is = last_is; end = ap (plays.run m (place at) orders 0) (sym last_is) ∙ run }))

-- ---- where reading breaks off

pub walk_breaks : (l : LineData) (at : List ℕ) (total : Result (List TickLine × List ℕ) ℕ) (n : ℕ) (rest : List ℕ) (f : Scene) (e : Stop)
    → Walked l at total n rest f → n < most_ticks → is_end n rest ≡ false → Fails e (tick_at l n rest) → Fails e total
walk_breaks l at total n rest f e w lt ahead fails =
    fails_as e total (with_front w.ticks (tick_at l n rest >>= λ x. cons x.0 (lines_at l (n + 1) (most_ticks - (n + 1)) x.1)))
    (sym w.read ∙ ap (with_front w.ticks) (line_next l n rest lt ahead))
    (fails_then e (tick_at l n rest >>= λ x. cons x.0 (lines_at l (n + 1) (most_ticks - (n + 1)) x.1)) (λ x. Ok (w.ticks ++ x.0, x.1))
    (fails_then e (tick_at l n rest) (λ x. cons x.0 (lines_at l (n + 1) (most_ticks - (n + 1)) x.1)) fails))

pub walk_stops : (l : LineData) (at : List ℕ) (total : Result (List TickLine × List ℕ) ℕ) (n : ℕ) (rest : List ℕ) (f : Scene) (e : Stop)
    → Walked l at total n rest f → (is_end n rest ≡ true) ⊎ (most_ticks ≤ n) → Fails e (word_at (codes "end\n") rest)
    → Fails e total
unfolding end_at
walk_stops l at total n rest f e w ends fails =
    fails_as e total (with_front w.ticks (word_at (codes "end\n") rest >>= λ left. Ok ([], left)))
    (sym w.read ∙ ap (with_front w.ticks) (line_ends l n rest ends))
    (fails_then e (word_at (codes "end\n") rest >>= λ left. Ok ([], left)) (λ x. Ok (w.ticks ++ x.0, x.1))
    (fails_then e (word_at (codes "end\n") rest) (λ left. Ok ([], left)) fails))

pub walk_fails : (l : LineData) (at : List ℕ) (total : Result (List TickLine × List ℕ) ℕ) (n : ℕ) (rest : List ℕ) (f : Scene) (o : TickLine) (after : List ℕ)
    (e : Stop) → Walked l at total n rest f → n < most_ticks → is_end n rest ≡ false → tick_at l n rest ≡ Ok (o, after)
    → Fails e (behind (lines_at l (n + 1) (most_ticks - (n + 1)) after)) → Fails e total
walk_fails l at total n rest f o after e w lt ahead read fails =
    let next = lines_at l (n + 1) (most_ticks - (n + 1)) after in
    fails_as e total (with_front (w.ticks ++ o ∷ []) next) (sym (read_more l w.ticks n rest o after total lt ahead read w.read)) (by e next fails)
  where
    by : (s : Stop) (r : Result (List TickLine × List ℕ) ℕ) → Fails s (behind r)
        → Fails s (with_front (w.ticks ++ o ∷ []) r)
    by stops.Memory r h = tt
    by (stops.Broken k) (Ok x) h = absurd cc
    by (stops.Broken k) (Err other) h = let p : other ≡ k = cc in ap (λ (m : ℕ). Err m) p
