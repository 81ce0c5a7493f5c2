-- The first fault of each rule on positions.
use Rattle.std.proofs.Common.{◌≡◌, ◌≢◌, ℕ, ◌+◌, ◌-◌, ◌*◌, ◌/◌, ◌%◌, ◌<◌, ◌≤◌, length, arith, ap, refl, ⊎_elim, List, [], ◌∷◌}
use Rattle.std.specs.Prelude.{ℤ, pos, Some}
use Rattle.std.proofs.Math.Nat.{mul-le-mul_right}
use Rattle.hoist_base.specs.LineData.{LineData}
use Rattle.line_model.specs.Timetable.{Timetable, position}
use Rattle.timetable.specs.declared.fault.Fault.{Fault}
use Rattle.timetable.specs.declared.fault.Fault.TheVariants.{Track, Gap, Speed}
use Rattle.timetable.specs.TimetableData.{TimetableData, FitsLine}
use Rattle.timetable.specs.Numbers.{NoneUnder}
use Rattle.timetable.specs.Faults.{IsAbove, AreNear, IsFast, HasFault, IsFirstOf, IsLess, rule_of, values_of}
use Rattle.timetable.proofs.Pairs.{none_at_all, row_below, by_pair, less_differs, number_before_row}

-- the first hoist and tick of a number, where later values follow from these two
first_place : (n i h t : ℕ) (P : ℕ → ℕ → Type 0) (xs ys : List ℤ) → NoneUnder n i P → P h t → t < n
    → (h ≡ i / n → t ≡ i % n → xs ≡ ys) → IsLess (pos h ∷ pos t ∷ xs) (pos (i / n) ∷ pos (i % n) ∷ ys) → ⊥
first_place n i h t P xs ys none has lt same less =
    ⊎_elim
    (λ before. none h t lt (number_before_row n i h t lt before) has)
    (λ rest. less_differs xs ys (same rest.0 rest.1) rest.2)
    (by_pair h t (i / n) (i % n) xs ys less)

track_less : (l : LineData) (p : Timetable) (i at : ℕ) → NoneUnder p.period i (IsAbove l p)
    → at ≡ position p (i / p.period) (i % p.period) → (g : Fault) → HasFault l p g → rule_of g ≡ 0
    → IsLess (values_of g) (values_of (Track (i / p.period) (i % p.period) at)) → ⊥
track_less l p i at none is (Track h t at') has e less =
    first_place p.period i h t (IsAbove l p) (pos at' ∷ []) (pos at ∷ []) none has.0 has.0.1
    (λ same same'. let q : at' ≡ at = cc (has.1, is, same, same') in ap (λ (x : ℕ). pos x ∷ []) q)
    less
track_less l p i at none is _ has e less = absurd (omega (arith, e))

pub track_first : (l : LineData) (p : Timetable) (i at : ℕ) → NoneUnder p.period i (IsAbove l p)
    → IsAbove l p (i / p.period) (i % p.period) → at ≡ position p (i / p.period) (i % p.period)
    → IsFirstOf 0 l p (Some (Track (i / p.period) (i % p.period) at))
track_first l p i at none above is = ((above, is), refl, track_less l p i at none is)

pub track_none : (l : LineData) (p : Timetable) → NoneUnder p.period (l.hoists * p.period) (IsAbove l p) → (g : Fault)
    → HasFault l p g → rule_of g ≢ 0
track_none l p none (Track h t at) has e = none_at_all p.period l.hoists (IsAbove l p) none h t has.0.0 has.0.1 has.0
track_none l p none _ has e = absurd (omega (arith, e))

gap_less : (l : LineData) (p : Timetable) (i low high : ℕ) → NoneUnder p.period i (AreNear l p)
    → low ≡ position p (i / p.period) (i % p.period) → high ≡ position p (i / p.period + 1) (i % p.period) → (g : Fault)
    → HasFault l p g → rule_of g ≡ 1 → IsLess (values_of g) (values_of (Gap (i / p.period) (i % p.period) low high)) → ⊥
gap_less l p i low high none is is' (Gap h t low' high') has e less =
    first_place p.period i h t (AreNear l p) (pos low' ∷ pos high' ∷ []) (pos low ∷ pos high ∷ []) none has.0 has.0.1
    (λ same same'.
    let q : low' ≡ low = cc (has.1, is, same, same') in
    let q' : high' ≡ high = cc (has.2, is', same, same') in
    cc (q, q'))
    less
gap_less l p i low high none is is' _ has e less = absurd (omega (arith, e))

pub gap_first : (l : LineData) (p : Timetable) (i low high : ℕ) → NoneUnder p.period i (AreNear l p)
    → AreNear l p (i / p.period) (i % p.period) → low ≡ position p (i / p.period) (i % p.period)
    → high ≡ position p (i / p.period + 1) (i % p.period)
    → IsFirstOf 1 l p (Some (Gap (i / p.period) (i % p.period) low high))
gap_first l p i low high none near is is' = ((near, is, is'), refl, gap_less l p i low high none is is')

pub gap_none : (l : LineData) (p : Timetable) → NoneUnder p.period ((l.hoists - 1) * p.period) (AreNear l p)
    → (g : Fault) → HasFault l p g → rule_of g ≢ 1
gap_none l p none (Gap h t low high) has e =
    let under : h < l.hoists - 1 = omega (arith, has.0.0) in
    none_at_all p.period (l.hoists - 1) (AreNear l p) none h t under has.0.1 has.0
gap_none l p none _ has e = absurd (omega (arith, e))

speed_less : (l : LineData) (p : Timetable) (i old new : ℕ) → NoneUnder p.period i (IsFast l p)
    → old ≡ position p (i / p.period) (i % p.period) → new ≡ position p (i / p.period) (i % p.period + 1) → (g : Fault)
    → HasFault l p g → rule_of g ≡ 2 → IsLess (values_of g) (values_of (Speed (i / p.period) (i % p.period) old new))
    → ⊥
speed_less l p i old new none is is' (Speed h t old' new') has e less =
    first_place p.period i h t (IsFast l p) (pos old' ∷ pos new' ∷ []) (pos old ∷ pos new ∷ []) none has.0 has.0.1
    (λ same same'.
    let q : old' ≡ old = cc (has.1, is, same, same') in
    let q' : new' ≡ new = cc (has.2, is', same, same') in
    cc (q, q'))
    less
speed_less l p i old new none is is' _ has e less = absurd (omega (arith, e))

pub speed_first : (l : LineData) (p : Timetable) (i old new : ℕ) → NoneUnder p.period i (IsFast l p)
    → IsFast l p (i / p.period) (i % p.period) → old ≡ position p (i / p.period) (i % p.period)
    → new ≡ position p (i / p.period) (i % p.period + 1)
    → IsFirstOf 2 l p (Some (Speed (i / p.period) (i % p.period) old new))
speed_first l p i old new none fast is is' = ((fast, is, is'), refl, speed_less l p i old new none is is')

pub speed_none : (l : LineData) (p : Timetable) → NoneUnder p.period (l.hoists * p.period) (IsFast l p) → (g : Fault)
    → HasFault l p g → rule_of g ≢ 2
speed_none l p none (Speed h t old new) has e = none_at_all p.period l.hoists (IsFast l p) none h t has.0.0 has.0.1 has.0
speed_none l p none _ has e = absurd (omega (arith, e))

-- the hoist above that of a number has its positions
pub next_row_there : (l : LineData) (d : TimetableData) (i : ℕ) → FitsLine l d → i < (l.hoists - 1) * d.period
    → (i / d.period + 1 + 1) * d.period ≤ length d.path
next_row_there l d i fits lt =
    let below : i / d.period < l.hoists - 1 = row_below d.period i (l.hoists - 1) lt in
    let le : i / d.period + 1 + 1 ≤ l.hoists = omega (arith, below) in
    omega (arith, fits.path_count, mul-le-mul_right d.period le)
