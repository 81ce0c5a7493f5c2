-- Who is in the line, until when, and by which turn.
use Rattle.std.proofs.Common.{◌≡◌, ℕ, zero, suc, ◌+◌, ◌-◌, ◌*◌, ◌/◌, ◌%◌, ◌≤◌, ◌<◌, List, length, ◌⊎◌, inl, inr, ⊎_elim, sym, refl, ap, subst, ◌∙◌, arith}
use Rattle.std.proofs.lemmas.Bool.{cases_lt}
use Rattle.std.proofs.lemmas.Nat.{mul-le, div-add-mod', mod_below}
use Rattle.hoist_base.specs.LineData.{LineData}
use Rattle.hoist_base.specs.Valid.{IsLine}
use Rattle.tick_machine.specs.declared.frame.Carry.{Carry}
use Rattle.tick_machine.specs.declared.frame.Frame.{Frame}
use Rattle.tick_machine.specs.Layout.{Layout, layout_of}
use Rattle.tick_machine.specs.Scene.{Scene}
use Rattle.machine_loops.specs.Loops.{raised, frame_at, IsOffAt}
use Rattle.machine_loops.specs.Lists.{scenes}
use Rattle.machine_loops.specs.Reading.{IsReadable, for_ever, IsTurn, IsSeen}
use Rattle.machine_loops.specs.declared.seen.Seen.{Seen}
use Rattle.machine_loops.proofs.StepBack.{Comes}
use Rattle.machine_loops.proofs.StepOn.{IsIn}
use Rattle.machine_loops.proofs.StepFacts.{Passes}
use Rattle.machine_loops.proofs.Raised.{Sound, raised_in}
use Rattle.machine_loops.proofs.Unrolled.{Unrolled, unrolled, in_period}
use Rattle.machine_loops.proofs.History.{next_rises, rises}
use Rattle.machine_loops.proofs.Legality.{same_copy}
use Rattle.machine_loops.proofs.LoopLaws.{next_after, life}
use Rattle.machine_loops.proofs.CheckLemmas.{raised_none}

-- who is in the line after a step was in it before, or is put on
comes_from : (l : Layout) (f g : Scene) (i c k age : ℕ) → Comes l f g i c k age → IsIn f c ⊎ (f.next ≡ c)
comes_from l f g i c k zero comes = ⊎_elim (λ set. inl (inl (set.h, set.y, set.is, set.carrier))) (λ put. inr put.carrier) comes
comes_from l f g i c k (suc age) rests = inl (inr (i, k, age, rests))

in_before : (l : Layout) (f g : Scene) (c : ℕ) → Passes l f g → IsIn g c → IsIn f c ⊎ (f.next ≡ c)
in_before l f g c passes there =
    ⊎_elim
    (λ (h, y, is, same). ⊎_elim
    (λ begins. subst (λ (n : ℕ). IsIn f n ⊎ (f.next ≡ n)) same (comes_from l f g y.from y.carrier y.step begins.age begins.comes))
    (λ was. inl (inl (h, was.x, was.was, ap (λ (z : Carry). z.carrier) was.is ∙ same)))
    (passes.carried h y is))
    (λ (i, k, age, rests). comes_from l f g i c k age (passes.rests i c k age rests))
    there

known_in : (l : Layout) (f : Scene) (c : ℕ) → Sound l f → IsIn f c → c < f.next
known_in l f c sound there =
    ⊎_elim (λ (h, y, is, same). let known = (sound.carries h y is).known in omega arith) (λ (i, k, age, rests). sound.known i c k age rests) there

still_in : (l : LineData) (period : ℕ) (frames : ℕ → Scene) (n t c : ℕ) → Unrolled l period frames → c < (frames t).next
    → IsIn (frames (t + n)) c → IsIn (frames t) c
still_in l period frames zero t c run put there = let e : t + 0 ≡ t = omega arith in subst (λ (x : ℕ). IsIn (frames x) c) e there
still_in l period frames (suc n) t c run put there =
    let e : t + suc n ≡ suc (t + n) = omega arith in
    ⊎_elim
    (λ before. still_in l period frames n t c run put before)
    (λ next. absurd (let up = next_rises l period frames n t run in omega arith))
    (in_before (layout_of l) (frames (t + n)) (frames (suc (t + n))) c (run.passes (t + n)) (subst (λ (x : ℕ). IsIn (frames x) c) e there))

-- a carrier that is taken off doesn't come again
pub before_off : (l : LineData) (period : ℕ) (frames : ℕ → Scene) (c off s : ℕ) → Unrolled l period frames
    → IsOffAt frames c off
    → IsIn (frames s) c → s < off
before_off l period frames c zero s run off there = absurd off
before_off l period frames c (suc u) s run off there =
    ⊎_elim
    (λ lt. lt)
    (λ le.
    let put = known_in (layout_of l) (frames u) c (run.sound u) off.0 in
    let up = rises l period frames u (suc u) run (omega arith) in
    let e : suc u + (s - suc u) ≡ s = omega arith in
    absurd (off.1 (still_in l period frames (s - suc u) (suc u) c run (omega arith) (subst (λ (x : ℕ). IsIn (frames x) c) (sym e) there))))
    (cases_lt s (suc u))

-- the last tick at which one of the timetable's carriers is in the line
pub in_line_soon : (l : LineData) (period : ℕ) (frames : ℕ → Scene) (c s : ℕ) → Unrolled l period frames
    → period ≤ 20000
    → c < l.degree → IsIn (frames s) ((frames 0).next + c) → s < 1480000
in_line_soon l period frames c s run few lt there =
    let lives = life l period frames c run in
    let early = lives.early in
    let before = before_off l period frames ((frames 0).next + c) lives.off s run lives.is_off there in
    let degree = run.line.limits.degree.1 in
    let hoists = run.layout.hoists.1 in
    let tanks = run.layout.tanks in
    let a : (c + 1) * period ≤ 4 * 20000 = mul-le (c + 1) period 4 20000 (omega arith) few in
    let b : (l.hoists + (layout_of l).tanks) * period ≤ 70 * 20000 = mul-le (l.hoists + (layout_of l).tanks) period 70 20000 (omega arith) few in
    omega arith

-- the frames that are read
pub run_of : (l : LineData) (frames : List Frame) → IsLine l → IsReadable l frames
    → Unrolled l (length frames) (for_ever l frames)
run_of l frames line loop = unrolled l (length frames) (scenes frames) line loop.loop

pub copy_frame : (l : LineData) (period : ℕ) (frames : ℕ → Scene) (t z : ℕ) → t < period
    → frame_at l period frames (t + z * period) ≡ raised (z * l.degree) (frames t)
copy_frame l period frames t z lt =
    let e : t + z * period ≡ z * period + t = omega arith in
    ap (frame_at l period frames) e ∙ in_period l period frames z t lt

pub first_period : (l : LineData) (period : ℕ) (frames : ℕ → Scene) (t : ℕ) → t < period
    → frame_at l period frames t ≡ frames t
first_period l period frames t lt =
    let e : t ≡ t + 0 * period = omega arith in
    let none : 0 * l.degree ≡ 0 = omega arith in
    ap (frame_at l period frames) e ∙ copy_frame l period frames t 0 lt ∙ ap (λ (d : ℕ). raised d (frames t)) none ∙ raised_none (frames t)

pub next_is : (l : LineData) (frames : List Frame) (t : ℕ) → t < length frames
    → (for_ever l frames t).next ≡ (scenes frames t).next
next_is l frames t lt = ap (λ (f : Scene). f.next) (first_period l (length frames) (scenes frames) t lt)

-- carriers in the line are known in the period
pub known_soon : (l : LineData) (frames : List Frame) (t d : ℕ) → IsLine l → IsReadable l frames → t < length frames
    → IsIn (scenes frames t) d → d < (scenes frames 0).next + l.degree
known_soon l frames t d line loop lt there =
    let run = run_of l frames line loop in
    let here = next_is l frames t lt in
    let first = next_is l frames 0 (omega arith) in
    let there' : IsIn (for_ever l frames t) d = subst (λ (f : Scene). IsIn f d) (sym (first_period l (length frames) (scenes frames) t lt)) there in
    let known = known_in (layout_of l) (for_ever l frames t) d (run.sound t) there' in
    let up = rises l (length frames) (for_ever l frames) t (1 * length frames) run (omega arith) in
    let last = next_after l (length frames) (for_ever l frames) 1 run in
    omega arith

-- at its turn the carrier is in the line
pub seen_in : (l : LineData) (frames : List Frame) (t d : ℕ) (seen : Seen) → IsLine l → IsReadable l frames
    → t < length frames
    → IsIn (scenes frames t) d → IsSeen l frames t d seen
    → IsIn (for_ever l frames seen.tick) ((for_ever l frames 0).next + seen.carrier)
seen_in l frames t d seen line loop lt there is =
    let z = is.periods in
    let first = next_is l frames 0 (omega arith) in
    let same = is.turn.same in
    let tick = is.tick in
    let who : d + z * l.degree ≡ (for_ever l frames 0).next + seen.carrier = omega arith in
    subst (λ (c : ℕ). IsIn (for_ever l frames seen.tick) c) who
    (subst (λ (s : ℕ). IsIn (for_ever l frames s) (d + z * l.degree)) (sym tick)
    (subst (λ (f : Scene). IsIn f (d + z * l.degree)) (sym (copy_frame l (length frames) (scenes frames) t z lt))
    (raised_in (z * l.degree) (scenes frames t) d there)))

pub turn_soon : (l : LineData) (frames : List Frame) (t d c z : ℕ) → IsLine l → IsReadable l frames → t < length frames
    → IsIn (scenes frames t) d → IsTurn l.degree (scenes frames 0).next d c z → t + z * length frames < 1480000
turn_soon l frames t d c z line loop lt there turn =
    let seen : Seen = record { carrier = c; tick = t + z * length frames } in
    let is : IsSeen l frames t d seen = record { periods = z; turn = turn; tick = refl } in
    in_line_soon l (length frames) (for_ever l frames) c (t + z * length frames)
    (run_of l frames line loop) loop.few turn.there (seen_in l frames t d seen line loop lt there is)

-- a carrier has one turn
pub one_turn : (l : LineData) (frames : List Frame) (d c s : ℕ) (seen : Seen) → 1 ≤ length frames → c < l.degree
    → d + s / length frames * l.degree ≡ (for_ever l frames 0).next + c
    → IsSeen l frames (s % length frames) d seen → (c ≡ seen.carrier) × (s ≡ seen.tick)
one_turn l frames d c s seen some lt same is =
    let z = is.periods in
    let q = s / length frames in
    let first = next_is l frames 0 (omega arith) in
    let turn = is.turn.same in
    let tick = is.tick in
    let copy = same_copy (scenes frames 0).next l.degree c seen.carrier z q lt is.turn.there (omega arith) in
    let periods : z * length frames ≡ q * length frames = ap (λ (n : ℕ). n * length frames) copy.1 in
    let whole = div-add-mod' s (length frames) in
    (copy.0, omega arith)

-- division rounded up
pub rounded_up : (b r : ℕ) → 1 ≤ r → 1 ≤ b → (b ≤ (b + r - 1) / r * r) × ((b + r - 1) / r * r < b + r)
rounded_up b r some more =
    let whole = div-add-mod' (b + r - 1) r in
    let below = mod_below (b + r - 1) r some in
    (omega arith, omega arith)
