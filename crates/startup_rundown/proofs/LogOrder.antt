-- The log of a run holds nothing but what happens to its carriers, each event once and in order.
use Rattle.std.proofs.Common.{◌≡◌, ◌≢◌, ℕ, zero, suc, ◌+◌, ◌-◌, ◌≤◌, ◌<◌, Option, Some, None, List, [], ◌∷◌, ◌++◌, slice_index_or, inl, inr, ⊎_elim, sym, refl, ap, subst, ◌∙◌, arith, All, AllPairs}
use Rattle.std.specs.Prelude.{◌==◌, ◌&&◌, map}
use Rattle.std.proofs.lemmas.Bool.{eqb-true, and_parts}
use Rattle.std.proofs.lemmas.List.Elements.{All-nil, All-cons, All-append, All-map}
use Rattle.std.proofs.lemmas.List.Kept.{AllPairs-cons}
use Rattle.hoist_base.specs.LineData.{LineData, last_stage}
use Rattle.line_model.specs.Timetable.{Timetable}
use Rattle.line_model.specs.Run.{run_put, run_off, run_start, run_hoist}
use Rattle.tick_machine.specs.declared.event.What.{What}
use Rattle.tick_machine.specs.declared.event.What.TheVariants.{Set, Off, Put, Begin}
use Rattle.tick_machine.specs.declared.event.Event.{Event}
use Rattle.tick_machine.specs.Events.{given, collect, at_tick}
use Rattle.startup_rundown.specs.RunLog.{run_end, set_at, off_at, put_at, begin_at, whats_at, events_at, events_from, first_tick, last_tick, run_log}
use Rattle.startup_rundown.specs.LogLaws.{HappensAt, IsOfRun, kind_rank, hoist_rank, IsAhead, IsEarlier}
use Rattle.startup_rundown.proofs.Picks.{pick_found, pick_move_found}

-- ---- lists

-- each of the first list stands in R to each of the second
pairs_append : {X : Type 0} (R : X → X → Type 0) (xs ys : List X) → AllPairs R xs → AllPairs R ys
    → All (λ x. All (R x) ys) xs → AllPairs R (xs ++ ys)
pairs_append {X = X} R [] ys a b cross = b
pairs_append {X = X} R (x ∷ xs) ys a b cross =
    let head : All (R x) xs = λ j d lt. a 0 (suc j) d (omega arith) (omega arith) in
    let tail : AllPairs R xs = λ i j d lt in_it. a (suc i) (suc j) d (omega arith) (omega arith) in
    AllPairs-cons R x (xs ++ ys) (All-append (R x) xs ys head (cross 0 x (omega arith))) (pairs_append R xs ys tail b (λ i d lt. cross (suc i) d (omega arith)))

pairs_map : {X Y : Type 0} (R : Y → Y → Type 0) (f : X → Y) (xs : List X) → AllPairs (λ a b. R (f a) (f b)) xs
    → AllPairs R (map f xs)
pairs_map {X = X} {Y = Y} R f [] a = λ i j d lt in_it. absurd (omega arith)
pairs_map {X = X} {Y = Y} R f (x ∷ xs) a =
    let head : All (λ y. R (f x) (f y)) xs = λ j d lt. a 0 (suc j) d (omega arith) (omega arith) in
    let tail : AllPairs (λ u v. R (f u) (f v)) xs = λ i j d lt in_it. a (suc i) (suc j) d (omega arith) (omega arith) in
    AllPairs-cons R (f x) (map f xs) (All-map (R (f x)) f xs head) (pairs_map R f xs tail)

all_given : (P : What → Type 0) (o : Option What) → ((w : What) → o ≡ Some w → P w) → All P (given o)
all_given P None h = All-nil P
all_given P (Some w) h = All-cons P w [] (h w refl) (All-nil P)

pairs_given : (R : What → What → Type 0) (o : Option What) → AllPairs R (given o)
pairs_given R None i j d lt in_it = absurd (omega arith)
pairs_given R (Some w) i j d lt in_it = absurd (omega arith)

all_collect : (P : What → Type 0) (n : ℕ) (event : ℕ → Option What)
    → ((h : ℕ) (w : What) → h < n → event h ≡ Some w → P w) → All P (collect n event)
all_collect P zero event each = All-nil P
all_collect P (suc n) event each =
    All-append P (collect n event) (given (event n)) (all_collect P n event (λ h w lt e. each h w (omega arith) e))
    (all_given P (event n) (λ w e. each n w (omega arith) e))

-- ---- inside a tick

-- all are of one kind
abbrev OfKind : ℕ → What → Type 0
OfKind q w = kind_rank w ≡ q

abbrev UpTo : ℕ → What → Type 0
UpTo q w = kind_rank w ≤ q

-- of each hoist one of a kind at most
pairs_collect : (l : LineData) (p : Timetable) (q n : ℕ) (event : ℕ → Option What)
    → ((h : ℕ) (w : What) → event h ≡ Some w → (kind_rank w ≡ q) × (hoist_rank l p w ≡ h))
    → AllPairs (IsAhead l p) (collect n event)
pairs_collect l p q zero event each = λ i j d lt in_it. absurd (omega arith)
pairs_collect l p q (suc n) event each =
    let before : All (λ w. (kind_rank w ≡ q) × (hoist_rank l p w < n)) (collect n event) =
    all_collect (λ w. (kind_rank w ≡ q) × (hoist_rank l p w < n)) n event (λ h w lt e. let x = each h w e in (x.0, omega (arith, x.1))) in
    let last : All (λ w. (kind_rank w ≡ q) × (hoist_rank l p w ≡ n)) (given (event n)) =
    all_given (λ w. (kind_rank w ≡ q) × (hoist_rank l p w ≡ n)) (event n) (λ w e. each n w e) in
    pairs_append (IsAhead l p) (collect n event) (given (event n)) (pairs_collect l p q n event each) (pairs_given (IsAhead l p) (event n))
    (λ i d lt j d' lt'.
    let a = before i d lt in
    let b = last j d' lt' in
    inr (a.0 ∙ sym b.0, omega (arith, a.1, b.1)))

by_kind : (l : LineData) (p : Timetable) (q r : ℕ) (xs ys : List What) → q < r → All (UpTo q) xs → All (OfKind r) ys
    → All (λ x. All (IsAhead l p x) ys) xs
by_kind l p q r xs ys lt a b i d in_xs j d' in_ys =
    let x = a i d in_xs in
    let y = b j d' in_ys in
    inl (omega (arith, x, y, lt))

up_to : (q r : ℕ) (xs : List What) → q ≤ r → All (OfKind q) xs → All (UpTo r) xs
up_to q r xs le a i d lt = let x = a i d lt in omega (arith, x, le)

set_is : (l : LineData) (p : Timetable) (n t h : ℕ) (w : What) → set_at l p n t h ≡ Some w
    → (kind_rank w ≡ 0) × (hoist_rank l p w ≡ h) × HappensAt l p n t w
set_is l p n t h w e =
    let r = pick_move_found n (last_stage l) (λ c k. (run_hoist l p c k == h) && (run_end l p c k == t)) (λ c k. Set c (k + 1)) w e in
    let parts = and_parts (run_hoist l p r.0 r.1 == h) (run_end l p r.0 r.1 == t) r.3 in
    let by = eqb-true (run_hoist l p r.0 r.1) h parts.0 in
    let at = eqb-true (run_end l p r.0 r.1) t parts.1 in
    let back : r.1 + 1 - 1 ≡ r.1 = omega arith in
    let is : (kind_rank (Set r.0 (r.1 + 1)) ≡ 0) × (hoist_rank l p (Set r.0 (r.1 + 1)) ≡ h) × HappensAt l p n t (Set r.0 (r.1 + 1)) =
    (refl, ap (run_hoist l p r.0) back ∙ by, (r.2.0, omega arith, omega (arith, r.2.1), sym at ∙ sym (ap (run_end l p r.0) back))) in
    subst (λ (x : What). (kind_rank x ≡ 0) × (hoist_rank l p x ≡ h) × HappensAt l p n t x) r.4 is

off_is : (l : LineData) (p : Timetable) (n t : ℕ) (w : What) → off_at l p n t ≡ Some w
    → (kind_rank w ≡ 1) × HappensAt l p n t w
off_is l p n t w e =
    let r = pick_found n (λ c. run_off l p c == t) (λ c. Off c) w e in
    let is : (kind_rank (Off r.0) ≡ 1) × HappensAt l p n t (Off r.0) = (refl, (r.1, sym (eqb-true (run_off l p r.0) t r.2))) in
    subst (λ (x : What). (kind_rank x ≡ 1) × HappensAt l p n t x) r.3 is

put_is : (l : LineData) (p : Timetable) (n t : ℕ) (w : What) → put_at l p n t ≡ Some w
    → (kind_rank w ≡ 2) × HappensAt l p n t w
put_is l p n t w e =
    let r = pick_found n (λ c. run_put l p c == t) (λ c. Put c) w e in
    let is : (kind_rank (Put r.0) ≡ 2) × HappensAt l p n t (Put r.0) = (refl, (r.1, sym (eqb-true (run_put l p r.0) t r.2))) in
    subst (λ (x : What). (kind_rank x ≡ 2) × HappensAt l p n t x) r.3 is

begin_is : (l : LineData) (p : Timetable) (n t h : ℕ) (w : What) → begin_at l p n t h ≡ Some w
    → (kind_rank w ≡ 3) × (hoist_rank l p w ≡ h) × HappensAt l p n t w
begin_is l p n t h w e =
    let r = pick_move_found n (last_stage l) (λ c k. (run_hoist l p c k == h) && (run_start l p c k == t)) (λ c k. Begin c k h) w e in
    let parts = and_parts (run_hoist l p r.0 r.1 == h) (run_start l p r.0 r.1 == t) r.3 in
    let by = eqb-true (run_hoist l p r.0 r.1) h parts.0 in
    let at = eqb-true (run_start l p r.0 r.1) t parts.1 in
    let is : (kind_rank (Begin r.0 r.1 h) ≡ 3) × (hoist_rank l p (Begin r.0 r.1 h) ≡ h) × HappensAt l p n t (Begin r.0 r.1 h) =
    (refl, refl, (r.2.0, r.2.1, sym by, sym at)) in
    subst (λ (x : What). (kind_rank x ≡ 3) × (hoist_rank l p x ≡ h) × HappensAt l p n t x) r.4 is

whats_happen : (l : LineData) (p : Timetable) (n t : ℕ) → All (HappensAt l p n t) (whats_at l p n t)
whats_happen l p n t =
    let P = HappensAt l p n t in
    let a = collect l.hoists (set_at l p n t) in
    let b = given (off_at l p n t) in
    let c = given (put_at l p n t) in
    let d = collect l.hoists (begin_at l p n t) in
    let sets = all_collect P l.hoists (set_at l p n t) (λ h w lt e. (set_is l p n t h w e).2) in
    let offs = all_given P (off_at l p n t) (λ w e. (off_is l p n t w e).1) in
    let puts = all_given P (put_at l p n t) (λ w e. (put_is l p n t w e).1) in
    let begins = all_collect P l.hoists (begin_at l p n t) (λ h w lt e. (begin_is l p n t h w e).2) in
    All-append P (a ++ b ++ c) d (All-append P (a ++ b) c (All-append P a b sets offs) puts) begins

whats_ordered : (l : LineData) (p : Timetable) (n t : ℕ) → AllPairs (IsAhead l p) (whats_at l p n t)
whats_ordered l p n t =
    let R = IsAhead l p in
    let a = collect l.hoists (set_at l p n t) in
    let b = given (off_at l p n t) in
    let c = given (put_at l p n t) in
    let d = collect l.hoists (begin_at l p n t) in
    let sets : All (OfKind 0) a = all_collect (OfKind 0) l.hoists (set_at l p n t) (λ h w lt e. (set_is l p n t h w e).0) in
    let offs : All (OfKind 1) b = all_given (OfKind 1) (off_at l p n t) (λ w e. (off_is l p n t w e).0) in
    let puts : All (OfKind 2) c = all_given (OfKind 2) (put_at l p n t) (λ w e. (put_is l p n t w e).0) in
    let begins : All (OfKind 3) d = all_collect (OfKind 3) l.hoists (begin_at l p n t) (λ h w lt e. (begin_is l p n t h w e).0) in
    let ab : AllPairs R (a ++ b) =
    pairs_append R a b (pairs_collect l p 0 l.hoists (set_at l p n t) (λ h w e. let x = set_is l p n t h w e in (x.0, x.1)))
    (pairs_given R (off_at l p n t)) (by_kind l p 0 1 a b (omega arith) (up_to 0 0 a (omega arith) sets) offs) in
    let upto1 : All (UpTo 1) (a ++ b) = All-append (UpTo 1) a b (up_to 0 1 a (omega arith) sets) (up_to 1 1 b (omega arith) offs) in
    let abc : AllPairs R (a ++ b ++ c) = pairs_append R (a ++ b) c ab (pairs_given R (put_at l p n t)) (by_kind l p 1 2 (a ++ b) c (omega arith) upto1 puts) in
    let upto2 : All (UpTo 2) (a ++ b ++ c) =
    All-append (UpTo 2) (a ++ b) c (All-append (UpTo 2) a b (up_to 0 2 a (omega arith) sets)
    (up_to 1 2 b (omega arith) offs)) (up_to 2 2 c (omega arith) puts) in
    pairs_append R (a ++ b ++ c) d abc (pairs_collect l p 3 l.hoists (begin_at l p n t) (λ h w e. let x = begin_is l p n t h w e in (x.0, x.1)))
    (by_kind l p 2 3 (a ++ b ++ c) d (omega arith) upto2 begins)

-- ---- from tick to tick

events_happen : (l : LineData) (p : Timetable) (n t : ℕ) → All (IsOfRun l p n) (events_at l p n t)
events_happen l p n t = All-map (IsOfRun l p n) (at_tick t) (whats_at l p n t) (whats_happen l p n t)

events_ordered : (l : LineData) (p : Timetable) (n t : ℕ) → AllPairs (IsEarlier l p) (events_at l p n t)
events_ordered l p n t =
    let ahead = whats_ordered l p n t in
    pairs_map (IsEarlier l p) (at_tick t) (whats_at l p n t) (λ i j d lt in_it. inr (refl, ahead i j d lt in_it))

events_tick : (l : LineData) (p : Timetable) (n t : ℕ) → All (λ e. e.tick ≡ t) (events_at l p n t)
events_tick l p n t = All-map (λ e. e.tick ≡ t) (at_tick t) (whats_at l p n t) (λ i d lt. refl)

from_happen : (l : LineData) (p : Timetable) (n first m : ℕ) → All (IsOfRun l p n) (events_from l p n first m)
from_happen l p n first zero = events_happen l p n first
from_happen l p n first (suc m) =
    All-append (IsOfRun l p n) (events_from l p n first m) (events_at l p n (first + suc m)) (from_happen l p n first m) (events_happen l p n (first + suc m))

from_tick : (l : LineData) (p : Timetable) (n first m : ℕ) → All (λ e. e.tick ≤ first + m) (events_from l p n first m)
from_tick l p n first zero = λ i d lt. let e = events_tick l p n first i d lt in omega (arith, e)
from_tick l p n first (suc m) =
    let before = from_tick l p n first m in
    let last = events_tick l p n (first + suc m) in
    All-append (λ e. e.tick ≤ first + suc m) (events_from l p n first m) (events_at l p n (first + suc m))
    (λ i d lt. let e = before i d lt in omega (arith, e)) (λ i d lt. let e = last i d lt in omega (arith, e))

from_ordered : (l : LineData) (p : Timetable) (n first m : ℕ) → AllPairs (IsEarlier l p) (events_from l p n first m)
from_ordered l p n first zero = events_ordered l p n first
from_ordered l p n first (suc m) =
    let before = from_tick l p n first m in
    let last = events_tick l p n (first + suc m) in
    pairs_append (IsEarlier l p) (events_from l p n first m) (events_at l p n (first + suc m))
    (from_ordered l p n first m) (events_ordered l p n (first + suc m))
    (λ i d lt j d' lt'.
    let a = before i d lt in
    let b = last j d' lt' in
    inl (omega (arith, a, b)))

not_earlier : (l : LineData) (p : Timetable) (a b : Event) → IsEarlier l p a b → a ≢ b
not_earlier l p a b before same =
    let it : IsEarlier l p a a = subst (λ (x : Event). IsEarlier l p a x) (sym same) before in
    ⊎_elim (λ less. omega (arith, less)) (λ later. ⊎_elim (λ less. omega (arith, less)) (λ last. omega (arith, last.1)) later.1) it

pub log_only : (l : LineData) (p : Timetable) (n : ℕ) → All (IsOfRun l p n) (run_log l p n)
log_only l p n = from_happen l p n (first_tick l p) (last_tick l p n - first_tick l p)

pub log_ordered : (l : LineData) (p : Timetable) (n : ℕ) → AllPairs (IsEarlier l p) (run_log l p n)
log_ordered l p n = from_ordered l p n (first_tick l p) (last_tick l p n - first_tick l p)

pub log_once : (l : LineData) (p : Timetable) (n : ℕ) → AllPairs (λ a b. a ≢ b) (run_log l p n)
log_once l p n i j d lt in_it =
    let log = run_log l p n in
    not_earlier l p (slice_index_or log i d) (slice_index_or log j d) (log_ordered l p n i j d lt in_it)
