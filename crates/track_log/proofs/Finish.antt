-- What is answered of the bytes as a whole.
use Rattle.std.proofs.Common.{◌≡◌, ℕ, ◌-◌, ◌<◌, Some, IfOk, IfErr, List, [], ◌++◌, length, codes, inl, Result, Ok, Err, refl, sym, ap, subst, ◌∙◌}
use Rattle.std.proofs.lemmas.List.{append-nil, nil_from_length}
use Rattle.hoist_base.specs.LineData.{LineData}
use Rattle.hoist_base.specs.Valid.{IsLine}
use Rattle.field_reading.specs.declared.stop.Stop.{Stop}
use Rattle.field_reading.specs.declared.stop.Stop.TheVariants as stops
use Rattle.field_reading.specs.Gives.{Fails}
use Rattle.field_reading.specs.Reading.{◌>>=◌, word_at, next_at}
use Rattle.field_reading.specs.Reads.{IsRead, Reads, Any}
use Rattle.field_reading.proofs.Wholes.{whole_read, more_breaks, broken_breaks}
use Rattle.tick_machine.specs.declared.breach.Breach.{Breach}
use Rattle.tick_machine.specs.Layout.{layout_of}
use Rattle.track_log.specs.declared.followed.Followed.{Followed}
use Rattle.track_log.specs.declared.followed.Followed.TheVariants.{Follows, Departs, Broken}
use Rattle.track_log.specs.Logs.{TickLine, LogData, IsLog, log_text, IsTextOf, BreaksAt, most_ticks}
use Rattle.track_log.specs.Laws.{TextsTellLogs}
use Rattle.track_log.specs.Reading.{places_at, lines_at, log_of, log_at, behind}
use Rattle.track_log.specs.Following.{place, unspaced, IsOutcome, IsFollowed, IsPlayedOut, IsReadOut}
use Rattle.track_log.proofs.LogRead.{log_read}
use Rattle.track_log.proofs.Tails.{fails_then, fails_as}

abbrev pub head : List ℕ
head = codes "hoist log 1\nat"

pub if_ok : {X E : Type 0} (P Q : X → Type 0) (r : Result X E) → ((x : X) → P x → Q x) → IfOk r P → IfOk r Q
if_ok {X = X} {E = E} P Q (Ok x) h p = h x p
if_ok {X = X} {E = E} P Q (Err e) h p = p

pub if_err : {X E : Type 0} (P Q : E → Type 0) (r : Result X E) → ((e : E) → P e → Q e) → IfErr r P → IfErr r Q
if_err {X = X} {E = E} P Q (Ok x) h p = p
if_err {X = X} {E = E} P Q (Err e) h p = h e p

-- ---- from the parts of a log to the whole

abbrev with_places : List ℕ → Result (List TickLine × List ℕ) ℕ → Result (LogData × List ℕ) ℕ
with_places at r = r >>= λ x. Ok (log_of (at, x.0), x.1)

log_is : (l : LineData) (bytes a at b : List ℕ) → word_at head bytes ≡ Ok a → places_at l.hoists a ≡ Ok (at, b)
    → log_at l bytes ≡ with_places at (lines_at l 0 most_ticks b)
unfolding log_at
log_is l bytes a at b e f = rw (e, f) (by (lines_at l 0 most_ticks b))
  where
    paired : Result (List TickLine × List ℕ) ℕ → Result ((List ℕ × List TickLine) × List ℕ) ℕ
    paired r = r >>= λ x. Ok ((at, x.0), x.1)

    by : (r : Result (List TickLine × List ℕ) ℕ) → (paired r >>= λ x. Ok (log_of x.0, x.1)) ≡ with_places at r
    by (Ok x) = refl
    by (Err left) = refl

pub word_fails : (l : LineData) (bytes : List ℕ) (e : Stop) → Fails e (word_at head bytes) → Fails e (log_at l bytes)
unfolding log_at
word_fails l bytes e h =
    fails_then e (word_at head bytes) (λ a. next_at (places_at l.hoists) (lines_at l 0 most_ticks) a >>= λ x. Ok (log_of x.0, x.1)) h

pub places_fail : (l : LineData) (bytes a : List ℕ) (e : Stop) → word_at head bytes ≡ Ok a
    → Fails e (places_at l.hoists a) → Fails e (log_at l bytes)
unfolding log_at
places_fail l bytes a e is h =
    let rest : Result (LogData × List ℕ) ℕ = next_at (places_at l.hoists) (lines_at l 0 most_ticks) a >>= λ x. Ok (log_of x.0, x.1) in
    let one : log_at l bytes ≡ rest = rw is refl in
    fails_as e (log_at l bytes) rest one
    (fails_then e (next_at (places_at l.hoists) (lines_at l 0 most_ticks) a) (λ x. Ok (log_of x.0, x.1))
    (fails_then e (places_at l.hoists a) (λ x. lines_at l 0 most_ticks x.1 >>= λ y. Ok ((x.0, y.0), y.1)) h))

pub lines_fail : (l : LineData) (bytes a at b : List ℕ) (e : Stop) → word_at head bytes ≡ Ok a
    → places_at l.hoists a ≡ Ok (at, b)
    → Fails e (lines_at l 0 most_ticks b) → Fails e (log_at l bytes)
lines_fail l bytes a at b e is places h =
    fails_as e (log_at l bytes) (with_places at (lines_at l 0 most_ticks b)) (log_is l bytes a at b is places)
    (fails_then e (lines_at l 0 most_ticks b) (λ x. Ok (log_of (at, x.0), x.1)) h)

pub rest_fails : (l : LineData) (bytes a at b : List ℕ) (e : Stop) → word_at head bytes ≡ Ok a
    → places_at l.hoists a ≡ Ok (at, b)
    → Fails e (behind (lines_at l 0 (most_ticks - 0) b)) → Fails e (log_at l bytes)
rest_fails l bytes a at b e is places h = lines_fail l bytes a at b e is places (by e (lines_at l 0 most_ticks b) h)
  where
    by : (s : Stop) (r : Result (List TickLine × List ℕ) ℕ) → Fails s (behind r) → Fails s r
    by stops.Memory r h = tt
    by (stops.Broken k) (Ok x) h = absurd cc
    by (stops.Broken k) (Err other) h = let p : other ≡ k = cc in ap (λ (m : ℕ). Err m) p

pub played_out : (l : LineData) (bytes a at b rest : List ℕ) (answer : Followed) → word_at head bytes ≡ Ok a
    → places_at l.hoists a ≡ Ok (at, b)
    → IsPlayedOut l at (lines_at l 0 most_ticks b) answer rest → IsReadOut l (log_at l bytes) answer rest
played_out l bytes a at b rest answer is places h =
    (log_of (at, h.0), log_is l bytes a at b is places ∙ ap (with_places at) h.1, h.2)

-- positions that aren't spaced
pub first_departs : (l : LineData) (bytes a at b rest : List ℕ) (breach : Breach) → word_at head bytes ≡ Ok a
    → places_at l.hoists a ≡ Ok (at, b)
    → unspaced (layout_of l) (place at) ≡ Some breach → behind (lines_at l 0 (most_ticks - 0) b) ≡ Ok rest
    → IsReadOut l (log_at l bytes) (Departs 0 breach) rest
first_departs l bytes a at b rest breach is places e f = by (lines_at l 0 most_ticks b) (log_is l bytes a at b is places) f
  where
    by : (r : Result (List TickLine × List ℕ) ℕ) → log_at l bytes ≡ with_places at r → behind r ≡ Ok rest
        → IsReadOut l (log_at l bytes) (Departs 0 breach) rest
    by (Ok x) whole h =
        let p : x.1 ≡ rest = cc in
        (log_of (at, x.0), whole ∙ ap (λ (y : List ℕ). Ok (log_of (at, x.0), y)) p, inl (e, refl))
    by (Err left) whole h = absurd cc

-- ---- the bytes as a whole

read_as : (l : LineData) (bytes : List ℕ) (r : Result (LogData × List ℕ) ℕ) → IsLine l → log_at l bytes ≡ r
    → Reads (IsLog l) log_text Any bytes r
read_as l bytes r line e = subst (λ (x : Result (LogData × List ℕ) ℕ). Reads (IsLog l) log_text Any bytes x) e (log_read l bytes line)

-- the log whose text the bytes are is the one that was read
same_log : (l : LineData) (bytes rest : List ℕ) (log other : LogData) → IsLine l → log_at l bytes ≡ Ok (log, rest)
    → IsTextOf l bytes other
    → (log ≡ other) × (length rest ≡ 0)
same_log l bytes rest log other line e h =
    let both : Ok (log, rest) ≡ Ok (other, []) =
    sym e ∙ whole_read (IsLog l) log_text bytes other (log_at l bytes) h.fits h.text (log_read l bytes line) in
    let p : (log, rest) ≡ (other, []) = cc in
    (ap (λ (y : LogData × List ℕ). y.0) p, ap (λ (y : LogData × List ℕ). length y.1) p)

pub text_found : (l : LineData) (bytes rest : List ℕ) (answer : Followed) → IsLine l
    → IsReadOut l (log_at l bytes) answer rest → length rest ≡ 0
    → IsFollowed l bytes answer
text_found l bytes rest answer line h none = by answer h.2
  where
    text : IsTextOf l bytes h.0
    text =
        let read : IsRead (IsLog l) log_text Any bytes h.0 rest = read_as l bytes (Ok (h.0, rest)) line h.1 in
        record { fits = read.fits; text = read.is ∙ ap (λ (x : List ℕ). log_text h.0 ++ x) (nil_from_length rest none) ∙ append-nil (log_text h.0) }

    by : (f : Followed) → IsOutcome l h.0 f → IsFollowed l bytes f
    by (Follows last end) o = (h.0, text, o)
    by (Departs tick breach) o = (h.0, text, o)
    by (Broken offset) o = absurd o

pub text_only : (l : LineData) (bytes rest : List ℕ) (answer : Followed) (log : LogData) → IsLine l
    → IsReadOut l (log_at l bytes) answer rest
    → IsTextOf l bytes log → IsOutcome l log answer
text_only l bytes rest answer log line h text = subst (λ (x : LogData). IsOutcome l x answer) (same_log l bytes rest h.0 log line h.1 text).0 h.2

pub more_found : (l : LineData) (bytes rest : List ℕ) (answer : Followed) → IsLine l
    → IsReadOut l (log_at l bytes) answer rest → 0 < length rest
    → BreaksAt l bytes (length bytes - length rest)
more_found l bytes rest answer line h some = more_breaks (IsLog l) log_text bytes h.0 rest (read_as l bytes (Ok (h.0, rest)) line h.1) some

pub no_more : (l : LineData) (bytes rest : List ℕ) (answer : Followed) (log : LogData) → IsLine l
    → IsReadOut l (log_at l bytes) answer rest
    → IsTextOf l bytes log → length rest ≡ 0
no_more l bytes rest answer log line h text = (same_log l bytes rest h.0 log line h.1 text).1

pub break_found : (l : LineData) (bytes : List ℕ) (left : ℕ) → IsLine l → log_at l bytes ≡ Err left
    → BreaksAt l bytes (length bytes - left)
break_found l bytes left line e = broken_breaks (IsLog l) log_text bytes left (read_as l bytes (Err left) line e)

not_both : (r : Result (LogData × List ℕ) ℕ) (left : ℕ) (x : LogData × List ℕ) → r ≡ Err left → r ≡ Ok x → ⊥
not_both r left x e f = let both : Err left ≡ Ok x = sym e ∙ f in absurd cc

pub never_broken : (l : LineData) (bytes : List ℕ) (left : ℕ) (log : LogData) → IsLine l → log_at l bytes ≡ Err left
    → IsTextOf l bytes log → ⊥
never_broken l bytes left log line e h =
    not_both (log_at l bytes) left (log, []) e (whole_read (IsLog l) log_text bytes log (log_at l bytes) h.fits h.text (log_read l bytes line))

-- a text tells its log
pub texts_tell_logs : TextsTellLogs
texts_tell_logs l a b line fa fb e =
    (same_log l (log_text b) [] a b line (whole_read (IsLog l) log_text (log_text b) a (log_at l (log_text b)) fa (sym e) (log_read l (log_text b) line))
    (record { fits = fb; text = refl })).0
