-- A timetable is legal exactly where it has no fault.
use Rattle.std.proofs.Common.{◌≡◌, ℕ, ◌+◌, ◌-◌, ◌*◌, ◌%◌, ◌<◌, ◌≤◌, inl, inr, length, get_or, arith, ap, refl, sym, ◌∙◌, subst, ⊎_elim}
use Rattle.std.specs.Prelude.{ℤ, pos, ◌-ℤ◌, ◌<ℤ◌, ◌≤ℤ◌, Bool, true, false, if◌then◌else◌, ◌==◌, Option, Some, None, MatchOption, IfSome}
use Rattle.std.specs.Int.{abs_diff}
use Rattle.std.proofs.lemmas.Bool.{cases_lt, cases_eq, ne_eqb, eq-eqb}
use Rattle.std.proofs.lemmas.Int.{ints, by_lt_z}
use Rattle.std.proofs.lemmas.Nat.{mod_below}
use Rattle.std.proofs.lemmas.Option.{IfSome_then}
use Rattle.std.proofs.Math.Nat.{mod-eq_of_lt, mod-add-mod, mul-le-mul_right}
use Rattle.hoist_base.specs.LineData.{LineData, stage, last_stage, last_step, IsMove, IsVisit, Serves}
use Rattle.hoist_base.specs.Valid.{IsLine}
use Rattle.line_model.specs.Motion.{duration, place}
use Rattle.line_model.specs.Timetable.{Timetable, position, motion}
use Rattle.line_model.specs.Legal.{IsLegal, IsTrack, IsCarried, AreHeldAlone, HasWindows, AreNumbered, IsRouted, CarriesAt, HoldsAt}
use Rattle.timetable.specs.declared.fault.Fault.{Fault}
use Rattle.timetable.specs.declared.fault.Fault.TheVariants.{Track, Gap, Speed, Motion, Carry, Dwell, Numbering, Hold}
use Rattle.timetable.specs.TimetableData.{TimetableData, FitsLine, IsTimetable, timetable_of}
use Rattle.timetable.proofs.Pairs.{number_below}
use Rattle.timetable.specs.Faults.{AreTwo, arrival, departure, dwell, least_dwell, IsOutside, next_put, HasFault}

abbrev pub HasNoFault : LineData → Timetable → Type 0
HasNoFault l p = (f : Fault) → HasFault l p f → ⊥

-- a tick and its place in the period
at_place : (p : Timetable) (h t : ℕ) → 0 < p.period → position p h (t % p.period) ≡ position p h t
at_place p h t lt =
    let small : t % p.period < p.period = mod_below t p.period lt in
    ap (p.path h) (mod-eq_of_lt small)

after_place : (p : Timetable) (h t : ℕ) → position p h (t % p.period + 1) ≡ position p h (t + 1)
after_place p h t = ap (p.path h) (mod-add-mod t p.period 1)

track_holds : (l : LineData) (p : Timetable) → 0 < p.period → HasNoFault l p → IsTrack l p
track_holds l p lt none =
    let small : (t : ℕ) → t % p.period < p.period = λ t. mod_below t p.period lt in
    let slow : (h t : ℕ) → h < l.hoists → abs_diff (position p h t) (position p h (t + 1)) ≤ 1 = λ h t there.
    let at = at_place p h t lt in
    let after = after_place p h t in
    ⊎_elim
    (λ fast. absurd (none (Speed h (t % p.period) (position p h (t % p.period)) (position p h (t % p.period + 1)))
    ((there, small t, omega (arith, at, after, fast)), refl, refl)))
    (λ le. le)
    (cases_lt 1 (abs_diff (position p h t) (position p h (t + 1)))) in
    record {
      spaced = λ t. record {
        within = λ h there.
            let at = at_place p h t lt in
            ⊎_elim
            (λ above. absurd (none (Track h (t % p.period) (position p h (t % p.period))) ((there, small t, omega (arith, at, above)), refl)))
            (λ le. le)
            (cases_lt l.track (position p h t));
        apart = λ h there.
            let at = at_place p h t lt in
            let at' = at_place p (h + 1) t lt in
            ⊎_elim
            (λ near. absurd (none (Gap h (t % p.period) (position p h (t % p.period))
            (position p (h + 1) (t % p.period))) ((there, small t, omega (arith, at, at', near)), refl, refl)))
            (λ le. le)
            (cases_lt (position p (h + 1) t) (position p h t + l.gap));
      };
      up = λ h t there. omega (arith, slow h t there);
      down = λ h t there. omega (arith, slow h t there);
    }

-- two copies that meet, where no two different ones do
alone_from : (P : ℕ → ℕ → ℕ → ℕ → ℤ → Type 0) (c k z c' k' z' : ℕ)
    → ((a b a' b' : ℕ) (s : ℤ) → AreTwo a b a' b' s → P a b a' b' s → ⊥) → P c k c' k' (pos z' -ℤ pos z)
    → P c' k' c k (pos z -ℤ pos z') → (c ≡ c') × (k ≡ k') × (z ≡ z')
alone_from P c k z c' k' z' none one other =
    ⊎_elim
    (λ less. absurd (none c k c' k' (pos z' -ℤ pos z) (inl less, λ e. omega (arith, less, e.0)) one))
    (λ ge. ⊎_elim
    (λ less. absurd (none c' k' c k (pos z -ℤ pos z') (inl less, λ e. omega (arith, less, e.0)) other))
    (λ ge'.
    let same : c ≡ c' = omega (arith, ge, ge') in
    ⊎_elim
    (λ less. absurd (none c k c' k' (pos z' -ℤ pos z) (inr (same, omega (arith, less)), λ e. omega (arith, less, e.1)) one))
    (λ ge''. ⊎_elim
    (λ less. absurd (none c' k' c k (pos z -ℤ pos z') (inr (sym same, omega (arith, less)), λ e. omega (arith, less, e.1)) other))
    (λ ge3.
    let same' : k ≡ k' = omega (arith, ge'', ge3) in
    ⊎_elim
    (λ e. (same, same', e))
    (λ ne. absurd (none c k c' k' (pos z' -ℤ pos z) (inr (same, omega (arith, same')), λ e. ne (omega (arith, ints, e.2))) one))
    (cases_eq z z'))
    (cases_lt k' k))
    (cases_lt k k'))
    (cases_lt c' c))
    (cases_lt c c')

abbrev CarryAtOnce : LineData → Timetable → ℕ → ℕ → ℕ → ℕ → ℤ → Type 0
CarryAtOnce l p c k c' k' s = (h : ℕ) × (t : ℕ) × (z : ℕ) × (z' : ℕ) × CarriesAt l p h c k z t × CarriesAt l p h c' k' z' t × (s ≡ pos z' -ℤ pos z)

abbrev HeldAtOnce : LineData → Timetable → ℕ → ℕ → ℕ → ℕ → ℤ → Type 0
HeldAtOnce l p c k c' k' s = (i : ℕ) × (t : ℕ) × (z : ℕ) × (z' : ℕ) × HoldsAt l p i c k z t × HoldsAt l p i c' k' z' t × (s ≡ pos z' -ℤ pos z)

carried_holds : (l : LineData) (p : Timetable) → ((c k : ℕ) → IsMove l c k → p.hoist c k < l.hoists) → HasNoFault l p
    → IsCarried l p
carried_holds l p there none = record {
  hoist = there;
  along = λ c k u m le.
      ⊎_elim
      (λ e. e)
      (λ ne. absurd (none (Motion (record { carrier = c; step = k }) u (place (motion l p c k) u)
      (position p (p.hoist c k) (p.start c k + u))) ((m, le, ne), refl, refl)))
      (cases_eq (position p (p.hoist c k) (p.start c k + u)) (place (motion l p c k) u));
  alone = λ h t c k z c' k' z' x y.
      alone_from (CarryAtOnce l p) c k z c' k' z'
      (λ a b a' b' s two at. none (Carry (record { carrier = a; step = b }) (record { carrier = a'; step = b' }) s) (two, at))
      (h, t, z, z', x, y, refl)
      (h, t, z', z, y, x, refl);
}

held_holds : (l : LineData) (p : Timetable) → HasNoFault l p → AreHeldAlone l p
held_holds l p none i t c k z c' k' z' x y =
    alone_from (HeldAtOnce l p) c k z c' k' z'
    (λ a b a' b' s two at. none (Hold (record { carrier = a; stage = b }) (record { carrier = a'; stage = b' }) s) (two, at))
    (i, t, z, z', x, y, refl)
    (i, t, z', z, y, x, refl)

when_not : (b : Bool) (x y : ℕ) → b ≡ false → (if b then x else y) ≡ y
when_not true x y e = absurd (let no : true ≡ false = e in cc)
when_not false x y e = refl

when_so : (b : Bool) (x y : ℕ) → b ≡ true → (if b then x else y) ≡ x
when_so true x y e = refl
when_so false x y e = absurd (let no : false ≡ true = e in cc)

-- the times at an inner stage and at the stations
arrival_next : (l : LineData) (p : Timetable) (c k : ℕ)
    → arrival l p c (k + 1) ≡ p.start c k + duration (motion l p c k)
arrival_next l p c k =
    let e : k + 1 - 1 ≡ k = omega arith in
    when_not (k + 1 == 0) (p.put c) (p.start c (k + 1 - 1) + duration (motion l p c (k + 1 - 1))) (ne_eqb (k + 1) 0 (λ x. omega (arith, x)))
    ∙ ap (λ (x : ℕ). p.start c x + duration (motion l p c x)) e

departure_inner : (l : LineData) (p : Timetable) (c k : ℕ) → (k ≡ last_stage l → ⊥) → departure l p c k ≡ p.start c k
departure_inner l p c k ne = when_not (k == last_stage l) (p.off c) (p.start c k) (ne_eqb k (last_stage l) ne)

departure_last : (l : LineData) (p : Timetable) (c : ℕ) → departure l p c (last_stage l) ≡ p.off c
departure_last l p c = when_so (last_stage l == last_stage l) (p.off c) (p.start c (last_stage l)) (eq-eqb (last_stage l) (last_stage l) refl)

least_inner : (l : LineData) (k : ℕ) → (k + 1 ≡ last_stage l → ⊥) → least_dwell l (k + 1) ≡ (stage l (k + 1)).min
least_inner l k ne =
    when_not (k + 1 == 0) l.load (if k + 1 == last_stage l then l.unload else (stage l (k + 1)).min) (ne_eqb (k + 1) 0 (λ x. omega (arith, x)))
    ∙ when_not (k + 1 == last_stage l) l.unload (stage l (k + 1)).min (ne_eqb (k + 1) (last_stage l) ne)

least_last : (l : LineData) → (last_stage l ≡ 0 → ⊥) → least_dwell l (last_stage l) ≡ l.unload
least_last l ne =
    when_not (last_stage l == 0) l.load (if last_stage l == last_stage l then l.unload else (stage l (last_stage l)).min) (ne_eqb (last_stage l) 0 ne)
    ∙ when_so (last_stage l == last_stage l) l.unload (stage l (last_stage l)).min (eq-eqb (last_stage l) (last_stage l) refl)

-- a dwell is in its window where it is not outside
enough : (l : LineData) (p : Timetable) (c k : ℕ) → HasNoFault l p → IsVisit l c k
    → pos (least_dwell l k) ≤ℤ dwell l p c k
enough l p c k none v =
    by_lt_z (dwell l p c k) (pos (least_dwell l k))
    (λ less. absurd (none (Dwell (record { carrier = c; stage = k }) (dwell l p c k)) ((v, inl less), refl)))
    (λ le. le)

not_above : (o : Option ℕ) (D : ℤ) → (MatchOption o ⊥ (λ m. pos m <ℤ D) → ⊥) → IfSome o (λ m. D ≤ℤ pos m)
not_above None D none = tt
not_above (Some m) D none = by_lt_z (pos m) D (λ lt. absurd (none lt)) (λ le. le)

not_too_long : (l : LineData) (p : Timetable) (c k : ℕ) → HasNoFault l p → IsVisit l c k
    → IfSome (stage l k).max (λ m. dwell l p c k ≤ℤ pos m)
not_too_long l p c k none v = not_above (stage l k).max (dwell l p c k)
    (λ long. none (Dwell (record { carrier = c; stage = k }) (dwell l p c k)) ((v, inr long), refl))

windows_hold : (l : LineData) (p : Timetable) → 2 ≤ length l.stages → HasNoFault l p → HasWindows l p
windows_hold l p two none = record {
  least = λ c k m.
      let inner : k + 1 ≡ last_stage l → ⊥ = λ e. omega (arith, e, m.1) in
      omega (
        arith,
        ints,
        enough l p c (k + 1) none (m.0, omega (arith, m.1)),
        arrival_next l p c k,
        departure_inner l p c (k + 1) inner,
        least_inner l k inner,
      );
  greatest = λ c k m.
      let inner : k + 1 ≡ last_stage l → ⊥ = λ e. omega (arith, e, m.1) in
      IfSome_then (stage l (k + 1)).max (not_too_long l p c (k + 1) none (m.0, omega (arith, m.1)))
      (λ x le. omega (arith, ints, le, arrival_next l p c k, departure_inner l p c (k + 1) inner));
  load = λ c lt.
      let first : 0 ≡ last_stage l → ⊥ = λ e. omega (arith, e, two) in
      omega (arith, ints, enough l p c 0 none (lt, omega (arith, two)), departure_inner l p c 0 first);
  unload = λ c lt.
      let e : last_stage l ≡ last_step l + 1 = omega (arith, two) in
      let last : last_stage l ≡ 0 → ⊥ = λ x. omega (arith, x, two) in
      let come : arrival l p c (last_stage l) ≡ p.start c (last_step l) + duration (motion l p c (last_step l)) = ap
      (arrival l p c) e ∙ arrival_next l p c (last_step l) in
      omega (arith, ints, enough l p c (last_stage l) none (lt, omega (arith, two)), come, departure_last l p c, least_last l last);
}

next_inner : (l : LineData) (p : Timetable) (c : ℕ) → (c + 1 ≡ l.degree → ⊥) → next_put l p c ≡ p.put (c + 1)
next_inner l p c ne = when_not (c + 1 == l.degree) (p.put 0 + p.period) (p.put (c + 1)) (ne_eqb (c + 1) l.degree ne)

next_around : (l : LineData) (p : Timetable) (c : ℕ) → c + 1 ≡ l.degree → next_put l p c ≡ p.put 0 + p.period
next_around l p c e = when_so (c + 1 == l.degree) (p.put 0 + p.period) (p.put (c + 1)) (eq-eqb (c + 1) l.degree e)

in_order : (l : LineData) (p : Timetable) (c : ℕ) → HasNoFault l p → c < l.degree → p.put c < next_put l p c
in_order l p c none lt =
    ⊎_elim (λ less. less) (λ ge. absurd (none (Numbering c (p.put c) (next_put l p c)) ((lt, ge), refl, refl))) (cases_lt (p.put c) (next_put l p c))

numbered_holds : (l : LineData) (p : Timetable) → 1 ≤ l.degree → HasNoFault l p → AreNumbered l p
numbered_holds l p some none = record {
  rising = λ c lt. omega (arith, in_order l p c none (omega (arith, lt)), next_inner l p c (λ e. omega (arith, e, lt)));
  around = omega (arith, in_order l p (l.degree - 1) none (omega (arith, some)), next_around l p (l.degree - 1) (omega (arith, some)));
}

-- the tanks and hoists of a timetable that fits the line
routed : (l : LineData) (d : TimetableData) → FitsLine l d → IsTimetable d → IsRouted l (timetable_of d)
routed l d fits valid c k v =
    let e : length l.stages ≡ d.steps + 1 = omega (arith, fits.steps, valid.steps) in
    subst (λ (n : ℕ). Serves l (get_or d.tank (c * n + k) 0) k) e (fits.route.serves c k v)

hoists_there : (l : LineData) (d : TimetableData) → FitsLine l d → IsTimetable d → (c k : ℕ) → IsMove l c k
    → (timetable_of d).hoist c k < l.hoists
hoists_there l d fits valid c k m =
    let below : c < length d.put = omega (arith, m.0, fits.put_count) in
    let step : k < d.steps = omega (arith, m.1, fits.steps) in
    let i : ℕ = c * d.steps + k in
    let lt : i < length d.put * d.steps = number_below c d.steps k (length d.put) below step in
    let row = valid.rows i (omega (arith, lt, valid.hoist_count)) in
    let h : ℕ = get_or d.hoist i 0 in
    ⊎_elim
    (λ less. less)
    (λ ge. let le : l.hoists ≤ h = ge in absurd (omega (arith, row, fits.path_count, mul-le-mul_right d.period le, valid.period)))
    (cases_lt h l.hoists)

pub no_fault_is_legal : (l : LineData) (d : TimetableData) → IsLine l → FitsLine l d → IsTimetable d
    → HasNoFault l (timetable_of d) → IsLegal l (timetable_of d)
no_fault_is_legal l d line fits valid none = record {
  period = valid.period.0;
  routed = routed l d fits valid;
  track = track_holds l (timetable_of d) valid.period.0 none;
  carried = carried_holds l (timetable_of d) (hoists_there l d fits valid) none;
  held = held_holds l (timetable_of d) none;
  windows = windows_hold l (timetable_of d) line.limits.stages.0 none;
  numbered = numbered_holds l (timetable_of d) line.limits.degree.0 none;
}

-- a bound that is not there, and one that is kept
no_bound : (o : Option ℕ) (D : ℤ) → o ≡ None → MatchOption o ⊥ (λ m. pos m <ℤ D) → ⊥
no_bound None D e long = long
no_bound (Some m) D e long = absurd (let no : Some m ≡ None = e in cc)

within_bound : (o : Option ℕ) (D : ℤ) → IfSome o (λ m. D ≤ℤ pos m) → MatchOption o ⊥ (λ m. pos m <ℤ D) → ⊥
within_bound None D le long = long
within_bound (Some m) D le long = omega (arith, ints, le, long)

-- a visit of a legal timetable is not outside its window
not_outside : (l : LineData) (p : Timetable) (c k : ℕ) → IsLine l → HasWindows l p → IsOutside l p c k → ⊥
not_outside l p c k line windows (v, outside) =
    ⊎_elim
    (λ last.
    let e : last_stage l ≡ last_step l + 1 = omega (arith, line.limits.stages) in
    let not_first : last_stage l ≡ 0 → ⊥ = λ x. omega (arith, x, line.limits.stages) in
    let come : arrival l p c k ≡ p.start c (last_step l) + duration (motion l p c (last_step l)) = ap (arrival l p c)
    (last ∙ e) ∙ arrival_next l p c (last_step l) in
    let go : departure l p c k ≡ p.off c = ap (departure l p c) last ∙ departure_last l p c in
    let least : least_dwell l k ≡ l.unload = ap (least_dwell l) last ∙ least_last l not_first in
    let no_greatest : (stage l k).max ≡ None = ap (λ (x : ℕ). (stage l x).max) last ∙ line.times.last.no_greatest in
    ⊎_elim
    (λ short. omega (arith, ints, short, windows.unload c v.0, come, go, least))
    (λ long. no_bound (stage l k).max (dwell l p c k) no_greatest long)
    outside)
    (λ inner.
    let go : departure l p c k ≡ p.start c k = departure_inner l p c k inner in
    ⊎_elim
    (λ first.
    let come : arrival l p c k ≡ p.put c = ap (arrival l p c) first in
    let least : least_dwell l k ≡ l.load = ap (least_dwell l) first in
    let go' : departure l p c k ≡ p.start c 0 = go ∙ ap (p.start c) first in
    let no_greatest : (stage l k).max ≡ None = ap (λ (x : ℕ). (stage l x).max) first ∙ line.times.first.no_greatest in
    ⊎_elim
    (λ short. omega (arith, ints, short, windows.load c v.0, come, go', least))
    (λ long. no_bound (stage l k).max (dwell l p c k) no_greatest long)
    outside)
    (λ later.
    let e : k ≡ k - 1 + 1 = omega (arith, later) in
    let m : IsMove l c (k - 1 + 1) = (v.0, omega (arith, e, inner, v.1)) in
    let come : arrival l p c k ≡ p.start c (k - 1) + duration (motion l p c (k - 1)) = ap (arrival l p c) e ∙ arrival_next l p c (k - 1) in
    let least : least_dwell l k ≡ (stage l (k - 1 + 1)).min = ap (least_dwell l) e ∙ least_inner l (k - 1) (λ x. inner (e ∙ x)) in
    let go' : departure l p c k ≡ p.start c (k - 1 + 1) = go ∙ ap (p.start c) e in
    ⊎_elim
    (λ short. omega (arith, ints, short, windows.least c (k - 1) m, come, go', least))
    (λ long. within_bound (stage l (k - 1 + 1)).max (dwell l p c k)
    (IfSome_then (stage l (k - 1 + 1)).max (windows.greatest c (k - 1) m) (λ x le. omega (arith, ints, le, come, go')))
    (subst (λ (x : ℕ). MatchOption (stage l x).max ⊥ (λ m. pos m <ℤ dwell l p c k)) e long))
    outside)
    (cases_eq k 0))
    (cases_eq k (last_stage l))

pub legal_has_none : (l : LineData) (p : Timetable) → IsLine l → IsLegal l p → HasNoFault l p
legal_has_none l p line legal (Track h t at) has = omega (arith, has.0.2, (legal.track.spaced t).within h has.0.0)
legal_has_none l p line legal (Gap h t low high) has = omega (arith, has.0.2, (legal.track.spaced t).apart h has.0.0)
legal_has_none l p line legal (Speed h t old new) has = omega (arith, has.0.2, legal.track.up h t has.0.0, legal.track.down h t has.0.0)
legal_has_none l p line legal (Motion m u want seen) has = has.0.2 (legal.carried.along m.carrier m.step u has.0.0 has.0.1)
legal_has_none l p line legal (Carry a b s) (two, (h, t, z, z', x, y, is)) =
    let same = legal.carried.alone h t a.carrier a.step z b.carrier b.step z' x y in
    two.1 (same.0, same.1, omega (arith, ints, is, same.2))
legal_has_none l p line legal (Dwell v ticks) has = not_outside l p v.carrier v.stage line legal.windows has.0
legal_has_none l p line legal (Numbering c put next) has =
    ⊎_elim
    (λ last.
    let e : c ≡ l.degree - 1 = omega (arith, last) in
    let same : p.put c ≡ p.put (l.degree - 1) = ap p.put e in
    omega (arith, has.0.1, next_around l p c last, legal.numbered.around, same))
    (λ inner. omega (arith, has.0.1, next_inner l p c inner, legal.numbered.rising c (omega (arith, inner, has.0.0))))
    (cases_eq (c + 1) l.degree)
legal_has_none l p line legal (Hold a b s) (two, (i, t, z, z', x, y, is)) =
    let same = legal.held i t a.carrier a.stage z b.carrier b.stage z' x y in
    two.1 (same.0, same.1, omega (arith, ints, is, same.2))
