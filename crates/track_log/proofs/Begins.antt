-- The begins of a tick line, hoist by hoist.
use Rattle.std.proofs.Common.{◌≡◌, ℕ, suc, ◌+◌, ◌-◌, ◌<◌, ◌≤◌, min, Option, None, List, [], ◌∷◌, ◌++◌, Bool, true, false, Result, Ok, Err, refl, sym, ap, ◌∙◌, append_assoc, arith}
use Rattle.std.proofs.lemmas.List.{append-nil}
use Rattle.text_writing.specs.Texts.{end}
use Rattle.field_reading.specs.declared.stop.Stop.{Stop}
use Rattle.field_reading.specs.declared.stop.Stop.TheVariants as stops
use Rattle.field_reading.specs.Gives.{Fails}
use Rattle.field_reading.specs.Reading.{◌>>=◌, word_at, with_front}
use Rattle.hoist_base.specs.LineData.{LineData}
use Rattle.track_log.specs.Reading.{at_most, or_at, flag_at, flagged, further, begin_at, tank_at, begins_at}

pub broken_is : {A : Type 0} (s : Stop) (left : ℕ) (r : Result A ℕ) → s ≡ stops.Broken left → Fails s r → r ≡ Err left
broken_is {A = A} stops.Memory left r e f = absurd cc
broken_is {A = A} (stops.Broken k) left r e f = let p : k ≡ left = cc in f ∙ ap (λ (x : ℕ). Err x) p

-- one more in front
regroup : {A : Type 0} (front : List A) (a : A) (left : ℕ) (read : Result (List A × List ℕ) ℕ)
    → with_front front (at_most left (read >>= λ x. Ok (a ∷ x.0, x.1))) ≡ with_front (front ++ a ∷ []) (at_most left read)
regroup {A = A} front a left (Ok x) = ap (λ (xs : List A). Ok (xs, x.1)) (simp append_assoc)
regroup front a left (Err other) = refl

twice : {A : Type 0} (a b : ℕ) (read : Result A ℕ) → at_most a (at_most b read) ≡ at_most (min a b) read
twice a b (Ok x) = refl
twice a b (Err other) = ap (λ (n : ℕ). Err n) (omega arith)

-- hoist h begins a move
pub begin_more : (l : LineData) (front : List (Option ℕ)) (count h left : ℕ) (bytes rest : List ℕ) (to : Option ℕ) (after : List ℕ)
    (total : Result (List (Option ℕ) × List ℕ) ℕ) → h < count → begin_at h bytes ≡ Ok rest → tank_at l rest ≡ Ok (to, after)
    → with_front front (at_most left (begins_at l h (count - h) bytes)) ≡ total
    → with_front (front ++ to ∷ []) (at_most left (begins_at l (h + 1) (count - (h + 1)) after)) ≡ total
unfolding begins_at
begin_more l front count h left bytes rest to after total lt e f so_far =
    let k : count - h ≡ suc (count - (h + 1)) = omega arith in
    let one : with_front front (at_most left (begins_at l h (count - h) bytes)) ≡ with_front (front ++ to ∷ [])
    (at_most left (begins_at l (h + 1) (count - (h + 1)) after)) =
    rw (k, e, f) (regroup front to left (begins_at l (h + 1) (count - (h + 1)) after)) in
    sym one ∙ so_far

-- but to no tank
pub begin_breaks : (l : LineData) (stop : Stop) (front : List (Option ℕ)) (count h left : ℕ) (bytes rest : List ℕ)
    (total : Result (List (Option ℕ) × List ℕ) ℕ) → h < count → begin_at h bytes ≡ Ok rest → Fails stop (tank_at l rest)
    → with_front front (at_most left (begins_at l h (count - h) bytes)) ≡ total → Fails (further left stop) total
unfolding begins_at
begin_breaks l stops.Memory front count h left bytes rest total lt e f so_far = tt
begin_breaks l (stops.Broken other) front count h left bytes rest total lt e f so_far =
    let k : count - h ≡ suc (count - (h + 1)) = omega arith in
    let one : with_front front (at_most left (begins_at l h (count - h) bytes)) ≡ Err (min left other) = rw (k, e, f) refl in
    sym so_far ∙ one

-- hoist h begins none
pub begin_none : (l : LineData) (front : List (Option ℕ)) (count h left other : ℕ) (bytes : List ℕ) (total : Result (List (Option ℕ) × List ℕ) ℕ)
    → h < count → begin_at h bytes ≡ Err other
    → with_front front (at_most left (begins_at l h (count - h) bytes)) ≡ total
    → with_front (front ++ None ∷ []) (at_most (min left other) (begins_at l (h + 1) (count - (h + 1)) bytes)) ≡ total
unfolding begins_at
begin_none l front count h left other bytes total lt e so_far =
    let k : count - h ≡ suc (count - (h + 1)) = omega arith in
    let read = begins_at l (h + 1) (count - (h + 1)) bytes >>= λ y. Ok (None ∷ y.0, y.1) in
    let one : with_front front (at_most left (begins_at l h (count - h) bytes)) ≡ with_front front (at_most left (at_most other read)) = rw (k, e) refl in
    sym (regroup front None (min left other) (begins_at l (h + 1) (count - (h + 1)) bytes)) ∙ sym (ap (with_front front) (twice left other read)) ∙ sym one
    ∙ so_far

-- the end of the line
pub begins_end : (l : LineData) (front : List (Option ℕ)) (count h left : ℕ) (bytes after : List ℕ) (total : Result (List (Option ℕ) × List ℕ) ℕ)
    → count ≤ h → word_at end bytes ≡ Ok after
    → with_front front (at_most left (begins_at l h (count - h) bytes)) ≡ total → total ≡ Ok (front, after)
unfolding begins_at
begins_end l front count h left bytes after total le e so_far =
    let k : count - h ≡ 0 = omega arith in
    let one : with_front front (at_most left (begins_at l h (count - h) bytes)) ≡ Ok (front, after) =
    rw (k, e) (ap (λ (xs : List (Option ℕ)). Ok (xs, after)) (append-nil front)) in
    sym so_far ∙ one

pub begins_stop : (l : LineData) (stop : Stop) (front : List (Option ℕ)) (count h left : ℕ) (bytes : List ℕ) (total : Result (List (Option ℕ) × List ℕ) ℕ)
    → count ≤ h → Fails stop (word_at end bytes)
    → with_front front (at_most left (begins_at l h (count - h) bytes)) ≡ total → Fails (further left stop) total
unfolding begins_at
begins_stop l stops.Memory front count h left bytes total le e so_far = tt
begins_stop l (stops.Broken other) front count h left bytes total le e so_far =
    let k : count - h ≡ 0 = omega arith in
    let one : with_front front (at_most left (begins_at l h (count - h) bytes)) ≡ Err (min left other) = rw (k, e) refl in
    sym so_far ∙ one

-- ---- a word that may stand there

pub flag_is : {A : Type 0} (word : List ℕ) (next : List ℕ → Result (A × List ℕ) ℕ) (bytes rest : List ℕ) (left most : ℕ) (flag : Bool)
    → flagged (word_at word bytes) bytes left ≡ (flag, rest, most)
    → at_most left (flag_at word next bytes) ≡ (at_most most (next rest) >>= λ x. Ok ((flag, x.0), x.1))
flag_is {A = A} word next bytes rest left most flag e = flag_by (word_at word bytes) e
  where
    passes : (b : Bool) (k : ℕ) (r : Result (A × List ℕ) ℕ) → at_most {A = (Bool × A) × List ℕ} k
        (r >>= λ x. Ok ((b, x.0), x.1)) ≡ (at_most k r >>= λ x. Ok ((b, x.0), x.1))
    passes b k (Ok x) = refl
    passes b k (Err other) = refl

    flag_by : (w : Result (List ℕ) ℕ) → flagged w bytes left ≡ (flag, rest, most)
        → at_most {A = (Bool × A) × List ℕ} left (or_at w (λ after. next after >>= λ x. Ok ((true, x.0), x.1)) (next bytes >>= λ x. Ok ((false, x.0), x.1)))
        ≡ (at_most most (next rest) >>= λ x. Ok ((flag, x.0), x.1))
    flag_by (Ok after) e =
        let b : true ≡ flag = ap (λ (x : Bool × List ℕ × ℕ). x.0) e in
        let r : after ≡ rest = ap (λ (x : Bool × List ℕ × ℕ). x.1) e in
        let m : left ≡ most = ap (λ (x : Bool × List ℕ × ℕ). x.2) e in
        rw (sym b, sym r, sym m) (passes true left (next after))
    flag_by (Err other) e =
        let b : false ≡ flag = ap (λ (x : Bool × List ℕ × ℕ). x.0) e in
        let r : bytes ≡ rest = ap (λ (x : Bool × List ℕ × ℕ). x.1) e in
        let m : min left other ≡ most = ap (λ (x : Bool × List ℕ × ℕ). x.2) e in
        rw (sym b, sym r, sym m) (twice {A = (Bool × A) × List ℕ} left other
        (next bytes >>= λ x. Ok ((false, x.0), x.1)) ∙ passes false (min left other) (next bytes))
