-- Parts whose numbers are in their ranges make a line exactly where they have no flaw.
use Rattle.std.proofs.Common.{◌≡◌, ◌≢◌, ◌∙◌, ◌+◌, ◌-◌, ◌<◌, ◌≤◌, ◌==◌, ◌&&◌, nat_le, nat_lt, ℕ, suc, Bool, true, false, not, List, [], ◌∷◌, length, get_or, refl, ap, sym, subst, Option, Some, None, IfSome, arith, inl, inr}
use Rattle.std.specs.List.{list_all, list_any, Contains}
use Rattle.std.specs.Option.{option_map_or}
use Rattle.std.specs.Str.{bytes_eq}
use Rattle.std.proofs.lemmas.Bool.{cases_Bool, false≢true, and_parts, le-leb, leb-true, leb-false, ltb-true, ltb-false, eq-eqb}
use Rattle.std.proofs.lemmas.Bool.Decides.{nat_tests}
use Rattle.std.proofs.lemmas.List.{get_or_past}
use Rattle.std.proofs.lemmas.List.Elements.{Contains-get_or}
use Rattle.std.proofs.lemmas.List.Folds.{list_any_at}
use Rattle.std.proofs.lemmas.List.Sums.{AllPass-from_list_all, list_all-from_AllPass}
use Rattle.std.proofs.lemmas.Slice.Eq.{bytes_eq-Decides}
use Rattle.hoist_base.specs.declared.stage.Stage.{Stage}
use Rattle.hoist_base.specs.Limits.{max_name, max_dwell, max_tanks_of_stage}
use Rattle.hoist_base.specs.LineData.{LineData, stage, tank, no_stage, position_of, last_stage, IsStageOf}
use Rattle.hoist_base.specs.Valid.{IsNameByte, IsName, HasTanks, HasStages, HasTimes, IsLine}
use Rattle.hoist_base.specs.Flaws.{is_name_byte, is_name, bad_name, bad_name_at, twice_named, twice_named_with, twice_named_at, same_place, same_place_with, same_place_at, no_tank, no_tank_at, has_at, is_repeated, twice_tank, twice_tank_at, same_tank, same_tank_at, is_empty_window, empty_window, empty_window_at, room_needed, no_room, first_flaw}
use Rattle.hoist_base.specs.Ranges.{HasRanges}
use Rattle.hoist_base.proofs.Firsts.{or_left, or_right, given_none, none_at, fails_at, both_none, given_false, none_everywhere, fails_everywhere, below_or_not}

-- ==== a line has none

-- ---- tests that fail

unequal : (a b : ℕ) → a ≢ b → (a == b) ≡ false
unequal a b h = grind (arith, nat_tests)

differ : (a b : List ℕ) → a ≢ b → bytes_eq a b ≡ false
differ a b h =
    elim (cases_Bool (bytes_eq a b)) [
      | inl same ↦ absurd (h ((bytes_eq-Decides a b).0 same))
      | inr other ↦ other
    ]

not_below : (a b : ℕ) → b ≤ a → nat_lt a b ≡ false
not_below a b h =
    elim (cases_Bool (nat_lt a b)) [
      | inl below ↦ absurd (omega (arith, ltb-true a b below))
      | inr other ↦ other
    ]

not_from : (a b : ℕ) → b < a → nat_le a b ≡ false
not_from a b h =
    elim (cases_Bool (nat_le a b)) [
      | inl below ↦ absurd (omega (arith, leb-true a b below))
      | inr other ↦ other
    ]

none_of : (p : ℕ → Bool) (xs : List ℕ) → ((j : ℕ) → j < length xs → p (get_or xs j 0) ≡ false) → list_any p xs ≡ false
none_of p [] each = refl
none_of p (x ∷ xs) each = rw (each 0 (omega arith), none_of p xs (λ j there. each (suc j) (omega arith)))

-- ---- names

is_name_byte_from : (b : ℕ) → IsNameByte b → is_name_byte b ≡ true
is_name_byte_from b h = grind (arith, nat_tests)

pub name_bytes : (name : List ℕ) → IsName name → list_all is_name_byte name ≡ true
name_bytes name h = list_all-from_AllPass is_name_byte name (λ k d there. is_name_byte_from (get_or name k d) (h.2 k d there))

is_name_from : (name : List ℕ) → IsName name → is_name name ≡ true
is_name_from name h = rw (le-leb 1 (length name) h.0, le-leb (length name) max_name h.1, name_bytes name h)

module _ (l : LineData) (valid : IsLine l) where
  names_fine : bad_name l ≡ None
  names_fine = none_everywhere (bad_name_at l) 0 (length l.tanks)
      (λ i low there. given_false _ _ (ap not (is_name_from (tank l i).name (valid.tanks.names i there))))

  names_differ : twice_named l ≡ None
  names_differ =
      none_everywhere (twice_named_with l) 0 (length l.tanks) (λ a low high.
      none_everywhere (twice_named_at l a) (a + 1) (length l.tanks) (λ b after there.
      given_false _ _ (differ (tank l a).name (tank l b).name (valid.tanks.names_differ a b (omega arith) there))))

  places_differ : same_place l ≡ None
  places_differ =
      none_everywhere (same_place_with l) 0 (length l.tanks) (λ a low high.
      none_everywhere (same_place_at l a) (a + 1) (length l.tanks) (λ b after there.
      given_false _ _ (unequal (position_of l a) (position_of l b) (valid.tanks.places_differ a b (omega arith) there))))

  -- ---- tanks of stages

  tanks_there : no_tank l ≡ None
  tanks_there =
      none_everywhere (no_tank_at l) 0 (length l.stages) (λ k low high.
      given_false _ _ (none_of (λ i. nat_le (length l.tanks) i) (stage l k).tanks (λ j there.
      not_from (length l.tanks) (get_or (stage l k).tanks j 0)
      (valid.stages.there k (get_or (stage l k).tanks j 0) (Contains-get_or (stage l k).tanks j 0 there)))))

  tanks_once : twice_tank l ≡ None
  tanks_once =
      none_everywhere (twice_tank_at l) 0 (length l.stages) (λ k low high.
      let tanks = (stage l k).tanks in
      given_false _ _ (fails_everywhere (is_repeated tanks) 0 (length tanks) (λ a low_a high_a.
      fails_everywhere (has_at tanks a) (a + 1) (length tanks) (λ b after there.
      unequal (get_or tanks a 0) (get_or tanks b 0) (valid.stages.once k a b (omega arith) there)))))

  tanks_apart : same_tank l ≡ None
  tanks_apart =
      none_everywhere (same_tank_at l) 0 (length l.stages - 1) (λ k low high.
      let here = (stage l k).tanks in
      let next = (stage l (k + 1)).tanks in
      given_false _ _ (none_of (λ x. list_any (λ y. x == y) next) here (λ a there.
      none_of (λ y. get_or here a 0 == y) next (λ b there_next.
      unequal (get_or here a 0) (get_or next b 0)
      (valid.stages.moves_away k (get_or here a 0) (get_or next b 0) (omega arith) (Contains-get_or here a 0 there) (Contains-get_or next b 0 there_next))))))

  -- ---- windows and room

  no_window : (s : Stage) → s.max ≡ None → is_empty_window s ≡ false
  no_window s none = rw none

  kept_window : (greatest : Option ℕ) (least : ℕ) → IfSome greatest (λ m. (least ≤ m) × (m ≤ max_dwell))
      → option_map_or (λ m. nat_lt m least) greatest false ≡ false
  kept_window None least h = refl
  kept_window (Some m) least h = not_below m least h.0

  window_at : (k : ℕ) → k < length l.stages → is_empty_window (stage l k) ≡ false
  window_at k there =
      elim (below_or_not 0 k) [
        | inr at_first ↦
            let first : 0 ≡ k = omega arith in
            subst (λ i. is_empty_window (stage l i) ≡ false) first (no_window (stage l 0) valid.times.first.no_greatest)
        | inl later ↦ elim (below_or_not (k + 1) (length l.stages)) [
          | inr at_last ↦
              let last : last_stage l ≡ k = omega arith in
              subst (λ i. is_empty_window (stage l i) ≡ false) last (no_window (stage l (last_stage l)) valid.times.last.no_greatest)
          | inl inner ↦
              let before : k - 1 + 1 ≡ k = omega arith in
              subst (λ i. is_empty_window (stage l i) ≡ false) before
              (kept_window (stage l (k - 1 + 1)).max (stage l (k - 1 + 1)).min
              (valid.times.greatest (k - 1) (omega arith)))
        ]
      ]

  windows_fine : empty_window l ≡ None
  windows_fine = none_everywhere (empty_window_at l) 0 (length l.stages) (λ k low there. given_false _ _ (window_at k there))

  has_room : no_room l ≡ None
  has_room = given_false _ _ (not_below l.track (room_needed l) valid.room)

  pub no_flaw : first_flaw l ≡ None
  no_flaw =
      both_none (bad_name l) _ names_fine
      (both_none (twice_named l) _ names_differ
      (both_none (same_place l) _ places_differ
      (both_none (no_tank l) _ tanks_there
      (both_none (twice_tank l) _ tanks_once
      (both_none (same_tank l) _ tanks_apart
      (both_none (empty_window l) (no_room l) windows_fine has_room))))))

-- ==== and without one it is a line

is_name_byte_true : (b : ℕ) → is_name_byte b ≡ true → IsNameByte b
is_name_byte_true b h = grind (arith, nat_tests)

is_name_true : (name : List ℕ) → is_name name ≡ true → IsName name
is_name_true name h =
    let (counts, bytes) = and_parts (nat_le 1 (length name) && nat_le (length name) max_name) (list_all is_name_byte name) h in
    let (low, high) = and_parts (nat_le 1 (length name)) (nat_le (length name) max_name) counts in (
      leb-true 1 (length name) low,
      leb-true (length name) max_name high,
      λ k d there. is_name_byte_true (get_or name k d) (AllPass-from_list_all is_name_byte name bytes k d there),
    )

true_from_not : (b : Bool) → not b ≡ false → b ≡ true
true_from_not true h = refl
true_from_not false h = absurd (false≢true (sym h))

texts_differ : (a b : List ℕ) → bytes_eq a b ≡ false → a ≢ b
texts_differ a b h same = false≢true (sym h ∙ (bytes_eq-Decides a b).1 same)

numbers_differ : (a b : ℕ) → (a == b) ≡ false → a ≢ b
numbers_differ a b h same = false≢true (sym h ∙ eq-eqb a b same)

has_tanks : (l : LineData) → bad_name l ≡ None → twice_named l ≡ None → same_place l ≡ None
    → ((i : ℕ) → i < length l.tanks → position_of l i ≤ l.track) → HasTanks l
has_tanks l names twice places on_track =
    let count = length l.tanks in
    record {
      names = λ i there. is_name_true (tank l i).name (true_from_not _ (given_none _ _ (none_at (bad_name_at l) 0 count i names (omega arith) there)));
      names_differ = λ i j before there.
          texts_differ (tank l i).name (tank l j).name (given_none _ _ (none_at (twice_named_at l i) (i + 1) count j
          (none_at (twice_named_with l) 0 count i twice (omega arith) (omega arith)) (omega arith) there));
      on_track = on_track;
      places_differ = λ i j before there.
          numbers_differ (position_of l i) (position_of l j) (given_none _ _ (none_at (same_place_at l i) (i + 1) count j
          (none_at (same_place_with l) 0 count i places (omega arith) (omega arith)) (omega arith) there));
    }

-- ---- stages

-- what holds of every item of which a test fails of every one
none_passes : (p : ℕ → Bool) (xs : List ℕ) (x : ℕ) → list_any p xs ≡ false → Contains xs x → p x ≡ false
none_passes p xs x h (k, there, is) =
    elim (cases_Bool (p x)) [
      | inl passes ↦ absurd (false≢true (sym h ∙ list_any_at p xs k x there (ap p is ∙ passes)))
      | inr fails ↦ fails
    ]

-- a stage with a tank is there
with_tank : (l : LineData) (k : ℕ) → 0 < length (stage l k).tanks → IsStageOf l k
with_tank l k some =
    elim (below_or_not k (length l.stages)) [
      | inl there ↦ there
      | inr past ↦
          let nothing : length (stage l k).tanks ≡ 0 = ap (λ (s : Stage). length s.tanks) (get_or_past l.stages k no_stage past) in absurd (omega arith)
    ]

has_stages : (l : LineData) → no_tank l ≡ None → twice_tank l ≡ None → same_tank l ≡ None
    → ((k : ℕ) → IsStageOf l k → (1 ≤ length (stage l k).tanks) × (length (stage l k).tanks ≤ max_tanks_of_stage))
    → HasStages l
has_stages l unknown twice same count =
    let stages = length l.stages in
    record {
      count = count;
      there = λ k i serves.
          leb-false (length l.tanks) i (none_passes (λ j. nat_le (length l.tanks) j) (stage l k).tanks i
          (given_none _ _ (none_at (no_tank_at l) 0 stages k unknown (omega arith) (with_tank l k (omega (arith, serves.1))))) serves);
      once = λ k a b before there.
          let tanks = (stage l k).tanks in
          let fails = given_none _ _ (none_at (twice_tank_at l) 0 stages k twice (omega arith) (with_tank l k (omega arith))) in
          numbers_differ (get_or tanks a 0) (get_or tanks b 0)
          (fails_at (has_at tanks a) (a + 1) (length tanks) b
          (fails_at (is_repeated tanks) 0 (length tanks) a fails (omega arith) (omega arith)) (omega arith) there);
      moves_away = λ k i j step here next.
          numbers_differ i j (none_passes (λ y. i == y) (stage l (k + 1)).tanks j
          (none_passes (λ x. list_any (λ y. x == y) (stage l (k + 1)).tanks) (stage l k).tanks i
          (given_none _ _ (none_at (same_tank_at l) 0 (stages - 1) k same (omega arith) (omega arith))) here) next);
    }

-- ---- windows

greatest_from : (o : Option ℕ) (least : ℕ) → IfSome o (λ m. (1 ≤ m) × (m ≤ max_dwell))
    → option_map_or (λ m. nat_lt m least) o false ≡ false
    → IfSome o (λ m. (least ≤ m) × (m ≤ max_dwell))
greatest_from None least h g = tt
greatest_from (Some m) least h g = (ltb-false m least g, h.1)

has_times : (l : LineData) → HasRanges l → empty_window l ≡ None → HasTimes l
has_times l ranges windows = record {
  first = ranges.ends.first;
  last = ranges.ends.last;
  no_lower = ranges.ends.no_lower;
  no_lift = ranges.ends.no_lift;
  lift = λ k step. (ranges.stages k (omega (arith, step))).lift step;
  lower = λ k step. (ranges.stages k (omega (arith, step))).lower step;
  least = λ k step. (ranges.stages k (omega (arith, step))).least step;
  greatest = λ k step.
      greatest_from (stage l (k + 1)).max (stage l (k + 1)).min ((ranges.stages k (omega (arith, step))).greatest step)
      (given_none _ _ (none_at (empty_window_at l) 0 (length l.stages) (k + 1) windows (omega arith) (omega (arith, step))));
}

-- ---- the whole

pub line_from : (l : LineData) → HasRanges l → first_flaw l ≡ None → IsLine l
line_from l ranges none =
    let after_names = or_right (bad_name l) _ none in
    let after_twice = or_right (twice_named l) _ after_names in
    let after_places = or_right (same_place l) _ after_twice in
    let after_there = or_right (no_tank l) _ after_places in
    let after_once = or_right (twice_tank l) _ after_there in
    let after_apart = or_right (same_tank l) _ after_once in
    record {
      limits = ranges.limits;
      tanks = has_tanks l (or_left (bad_name l) _ none) (or_left (twice_named l) _ after_names) (or_left (same_place l) _ after_twice) ranges.on_track;
      stages = has_stages l (or_left (no_tank l) _ after_places) (or_left (twice_tank l) _ after_there) (or_left (same_tank l) _ after_once)
          (λ k there. (ranges.stages k there).count);
      times = has_times l ranges (or_left (empty_window l) (no_room l) after_apart);
      room = ltb-false l.track (room_needed l) (given_none _ _ (or_right (empty_window l) (no_room l) after_apart));
    }

-- ==== and the numbers of a line are in their ranges

above_one : (o : Option ℕ) (least : ℕ) → 1 ≤ least → IfSome o (λ m. (least ≤ m) × (m ≤ max_dwell))
    → IfSome o (λ m. (1 ≤ m) × (m ≤ max_dwell))
above_one None least h g = tt
above_one (Some m) least h g = (omega (arith, h, g.0), g.1)

pub ranges_of : (l : LineData) → IsLine l → HasRanges l
ranges_of l line = record {
  limits = line.limits;
  on_track = line.tanks.on_track;
  ends = record { first = line.times.first; last = line.times.last; no_lower = line.times.no_lower; no_lift = line.times.no_lift };
  stages = λ k there. record {
    count = line.stages.count k there;
    lift = line.times.lift k;
    lower = line.times.lower k;
    least = line.times.least k;
    greatest = λ step. above_one (stage l (k + 1)).max (stage l (k + 1)).min (line.times.least k step).0 (line.times.greatest k step);
  };
}
