-- Rows from the lowest hoist up: one more hoist.
use Rattle.std.proofs.Common.{◌≡◌, ◌≢◌, ℕ, suc, ◌+◌, ◌-◌, ◌*◌, ◌%◌, ◌≤◌, ◌<◌, ⊎_elim, ◌∙◌, List, [], ◌++◌, Option, None, Some, length, get_or, drop, IfSome, MatchOption, MatchBool, Bool, true, false, Bor, sym, ap, subst, arith}
use Rattle.std.specs.Option.{option_map}
use Rattle.std.proofs.lemmas.Bool.{cases_lt}
use Rattle.std.proofs.lemmas.List.{get_or_append_left, get_or-append_right, get_or-drop, length-append}
use Rattle.std.proofs.lemmas.Nat.{mod_below, mul-le}
use Rattle.hoist_base.specs.LineData.{LineData, move_count, move_number, last_stage}
use Rattle.hoist_base.specs.Valid.{IsLine}
use Rattle.line_model.specs.Timetable.{Timetable, motion}
use Rattle.line_model.specs.Motion.{place}
use Rattle.path_envelope.specs.Duties.{HaveReach, Agree}
use Rattle.path_envelope.specs.Envelope.{IsLowestAt}
use Rattle.path_envelope.specs.Rows.{next, IsLeastRow, ComesFrom, need}
use Rattle.path_envelope.specs.Slots.{FixesSlot, held, IsTable, entry, IsLayer, AreLayers, IsLastRow, IsBelow}
use Rattle.path_envelope.proofs.RowLemmas.{next_below}
use Rattle.path_envelope.proofs.LayerLemmas.{layer_lowest}
use Rattle.path_envelope.proofs.FinishLemmas.{off_row, small}

-- every position of the hoist's moves is in a table of all moves
in_table : (l : LineData) (p : Timetable) (h : ℕ) (table : List (Option ℕ)) → IsTable l p h (move_count l) table
    → (s at : ℕ) → FixesSlot l p h s at → held table s ≡ Some at
in_table l p h table t s at f =
    let below : move_number l f.c f.k < move_count l =
    let up : f.c * last_stage l + last_stage l ≤ l.degree * last_stage l = omega (
      arith,
      mul-le (suc f.c) (last_stage l) l.degree (last_stage l) (omega (arith, f.move.0)) (omega arith),
    ) in
    omega (arith, up, f.move.1) in
    let e = t.written f.c f.k f.u f.move below f.hoist f.within in
    let a : held table ((p.start f.c f.k + f.u) % p.period) ≡ held table s = ap (held table) f.slot in
    let b : place (motion l p f.c f.k) f.u ≡ at = sym f.at in
    sym a ∙ (e ∙ ap Some b)

at_or_below : (o : Option ℕ) (at x : ℕ) → o ≡ Some at → IfSome o (λ v. v ≤ x) → at ≤ x
at_or_below None at x e le = absurd (cc)
at_or_below (Some v) at x e le = let d : v ≡ at = cc in omega (arith, d, le)

goes_at : (o : Option ℕ) (at x : ℕ) → o ≡ Some at → IfSome o (λ v. x ≡ v) → x ≡ at
goes_at None at x e le = absurd (cc)
goes_at (Some v) at x e le = let d : v ≡ at = cc in omega (arith, d, le)

-- the swept row has the lowest heights
pub swept_lowest : (l : LineData) (p : Timetable) (h : ℕ) (table : List (Option ℕ)) (low : Option (List ℕ)) (row : List ℕ)
    → 0 < p.period → IsTable l p h (move_count l) table
    → IsBelow l p h low → IsLeastRow l p.period h table low row
    → ComesFrom p.period (need l h table low) (λ t. get_or row t 0) → (t : ℕ) → t < p.period
    → IsLowestAt l p h t (get_or row t 0)
swept_lowest l p h table low row pp t below r from =
    layer_lowest l p h table low (λ s. get_or row s 0) pp t.sound
    (λ s at f.
    let s_in : s < p.period = let e : (p.start f.c f.k + f.u) % p.period ≡ s = f.slot in omega (arith, e, mod_below (p.start f.c f.k + f.u) p.period pp) in
    at_or_below (held table s) at (get_or row s 0) (in_table l p h table t s at f) (r.suffices.fixed s s_in))
    below r.suffices from

-- and where it goes through the table it is the hoist's layer
pub swept_layer : (l : LineData) (p : Timetable) (h : ℕ) (table : List (Option ℕ)) (low : Option (List ℕ)) (row : List ℕ)
    → 0 < p.period → IsTable l p h (move_count l) table
    → IsBelow l p h low → IsLeastRow l p.period h table low row
    → ComesFrom p.period (need l h table low) (λ t. get_or row t 0)
    → ((s : ℕ) → s < p.period → IfSome (held table s) (λ at. get_or row s 0 ≡ at)) → IsLayer l p h (λ t. get_or row t 0)
swept_layer l p h table low row pp t below r from goes = record {
  lowest = swept_lowest l p h table low row pp t below r from;
  slow = r.suffices.slow;
  through = λ s at f.
      let s_in : s < p.period = let e : (p.start f.c f.k + f.u) % p.period ≡ s = f.slot in omega (arith, e, mod_below (p.start f.c f.k + f.u) p.period pp) in
      goes_at (held table s) at (get_or row s 0) (in_table l p h table t s at f) (goes s s_in);
}

-- where it doesn't, two fixed points contradict
pub off_table : (l : LineData) (p : Timetable) (h : ℕ) (table : List (Option ℕ)) (low : Option (List ℕ)) (row : List ℕ)
    → 0 < p.period → HaveReach l p → IsTable l p h (move_count l) table
    → IsBelow l p h low → IsLeastRow l p.period h table low row
    → ComesFrom p.period (need l h table low) (λ t. get_or row t 0)
    → (s at : ℕ) → s < p.period → held table s ≡ Some at → get_or row s 0 ≢ at → Agree l p → ⊥
off_table l p h table low row pp have t below r from s at lt e differs agree =
    let le = at_or_below (held table s) at (get_or row s 0) e (r.suffices.fixed s lt) in
    off_row l p h s at (get_or row s 0) have (t.sound s at e) (swept_lowest l p h table low row pp t below r from s lt) (omega (arith, le, differs)) agree

-- entries of the rows below and of a row that is put on top of them
below_entry : (p : Timetable) (n h t : ℕ) (rows row : List ℕ) → length rows ≡ n * p.period → h < n → t < p.period
    → entry p (rows ++ row) h t ≡ entry p rows h t
below_entry p n h t rows row count lt inside =
    let up : h * p.period + p.period ≤ n * p.period = omega (arith, mul-le (suc h) p.period n p.period (omega (arith, lt)) (omega arith)) in
    get_or_append_left rows row 0 (h * p.period + t) (omega (arith, up, count, inside))

top_entry : (p : Timetable) (n t : ℕ) (rows row : List ℕ) → length rows ≡ n * p.period
    → entry p (rows ++ row) n t ≡ get_or row t 0
top_entry p n t rows row count =
    get_or-append_right rows row (n * p.period) (n * p.period + t) 0 count (omega arith) ∙ ap (λ k. get_or row k 0) (omega arith)

-- a layer is one at equal heights
same_layer : (l : LineData) (p : Timetable) (h : ℕ) (row other : ℕ → ℕ) → 0 < p.period → IsLayer l p h row
    → ((t : ℕ) → t < p.period → other t ≡ row t) → IsLayer l p h other
same_layer l p h row other pp layer same = record {
  lowest = λ t lt. subst (λ (x : ℕ). IsLowestAt l p h t x) (sym (same t lt)) (layer.lowest t lt);
  slow = λ t lt.
      let s = layer.slow t lt in
      let a = same t lt in
      let b = same (next p.period t) (next_below p.period t lt) in
      (omega (arith, s.0, a, b), omega (arith, s.1, a, b));
  through = λ s at f.
      let s_in : s < p.period = let e : (p.start f.c f.k + f.u) % p.period ≡ s = f.slot in omega (arith, e, mod_below (p.start f.c f.k + f.u) p.period pp) in
      same s s_in ∙ layer.through s at f;
}

-- no rows
pub no_layers : (l : LineData) (p : Timetable) → AreLayers l p 0 []
no_layers l p = record {
  count = omega arith;
  layer = λ h lt. absurd (omega (arith, lt));
  apart = λ h t lt. absurd (omega (arith, lt));
}

-- one row more
pub more_layers : (l : LineData) (p : Timetable) (n : ℕ) (rows row : List ℕ) → 0 < p.period → length row ≡ p.period
    → AreLayers l p n rows → IsLayer l p n (λ t. get_or row t 0)
    → ((g t : ℕ) → n ≡ g + 1 → t < p.period → entry p rows g t + l.gap ≤ get_or row t 0)
    → AreLayers l p (n + 1) (rows ++ row)
more_layers l p n rows row pp count layers top above = record {
  count = omega (arith, length-append rows row, layers.count, count);
  layer = λ h lt.
      ⊎_elim
      (λ below. same_layer l p h (entry p rows h) (entry p (rows ++ row) h) pp (layers.layer h below)
      (λ t t_in. below_entry p n h t rows row layers.count below t_in))
      (λ past.
      let e : n ≡ h = omega (arith, lt, past) in
      let last : IsLayer l p n (entry p (rows ++ row) n) = same_layer l p n (λ t. get_or row t 0)
      (entry p (rows ++ row) n) pp top (λ t t_in. top_entry p n t rows row layers.count) in
      subst (λ (g : ℕ). IsLayer l p g (entry p (rows ++ row) g)) e last)
      (cases_lt h n);
  apart = λ h t lt t_in.
      let h_in : h < n = omega (arith, lt) in
      let a = below_entry p n h t rows row layers.count h_in t_in in
      ⊎_elim
      (λ below. omega (arith, a, below_entry p n (h + 1) t rows row layers.count below t_in, layers.apart h t below t_in))
      (λ past.
      let e : n ≡ h + 1 = omega (arith, lt, past) in
      let b : entry p (rows ++ row) (h + 1) t ≡ entry p (rows ++ row) n t = ap (λ g. entry p (rows ++ row) g t) (sym e) in
      omega (arith, a, b, top_entry p n t rows row layers.count, above h t e t_in))
      (cases_lt (h + 1) n);
}

-- the last of the rows
pub last_row : (l : LineData) (p : Timetable) (n g : ℕ) (rows : List ℕ) → n ≡ g + 1 → AreLayers l p n rows
    → (t : ℕ) → t < p.period → IsLowestAt l p g t (get_or (drop (g * p.period) rows) t 0)
last_row l p n g rows e layers t lt =
    subst (λ (x : ℕ). IsLowestAt l p g t x) (sym (get_or-drop (g * p.period) rows t 0)) ((layers.layer g (omega (arith, e))).lowest t lt)

-- the row below, as the code finds it
pub below_known : (l : LineData) (p : Timetable) (h : ℕ) (rows : List ℕ) (low : Option (Bor (List ℕ)))
    → AreLayers l p h rows → MatchOption low (h ≡ 0) (λ r. IsLastRow rows p.period h r.now)
    → IsBelow l p h (option_map (λ r. r.now) low)
below_known l p h rows None layers is = is
below_known l p h rows (Some r) layers is =
    let g : ℕ = h - 1 in
    let e : h ≡ g + 1 = omega (arith, is.some) in (
      g,
      e,
      λ t lt.
          let d : get_or (drop (g * p.period) rows) t 0 ≡ get_or r.now t 0 = ap (λ (xs : List ℕ). get_or xs t 0) (sym is.is) in
          subst (λ (x : ℕ). IsLowestAt l p g t x) d (last_row l p h g rows e layers t lt),
    )

pub below_small : (l : LineData) (p : Timetable) (h : ℕ) (rows : List ℕ) (low : Option (Bor (List ℕ))) → 0 < p.period
    → h < l.hoists → IsLine l → HaveReach l p → AreLayers l p h rows
    → MatchOption low (h ≡ 0) (λ r. IsLastRow rows p.period h r.now)
    → IfSome low (λ r. (t : ℕ) → get_or r.now t 0 ≤ l.track)
below_small l p h rows None pp lt line have layers is = tt
below_small l p h rows (Some r) pp lt line have layers is = λ t.
    let d : get_or r.now t 0 ≡ get_or (drop ((h - 1) * p.period) rows) t 0 = ap (λ (xs : List ℕ). get_or xs t 0) is.is in
    omega (arith, d, get_or-drop ((h - 1) * p.period) rows t 0, small l p h rows pp (omega (arith, lt)) line have layers ((h - 1) * p.period + t))

below_gap : (l : LineData) (p : Timetable) (h : ℕ) (rows : List ℕ) (low : Option (Bor (List ℕ))) (x t : ℕ)
    → MatchOption low (h ≡ 0) (λ r. IsLastRow rows p.period h r.now)
    → IfSome (option_map (λ r. r.now) low) (λ below. get_or below t 0 + l.gap ≤ x)
    → (g : ℕ) → h ≡ g + 1 → entry p rows g t + l.gap ≤ x
below_gap l p h rows None x t is above g e = absurd (omega (arith, is, e))
below_gap l p h rows (Some r) x t is above g e =
    let d : get_or r.now t 0 ≡ get_or (drop ((h - 1) * p.period) rows) t 0 = ap (λ (xs : List ℕ). get_or xs t 0) is.is in
    let f : get_or rows ((h - 1) * p.period + t) 0 ≡ get_or rows (g * p.period + t) 0 = ap (λ k. get_or rows (k * p.period + t) 0) (omega (arith, e)) in
    omega (arith, d, f, get_or-drop ((h - 1) * p.period) rows t 0, above)

-- one more row, or a contradiction
pub row_added : (l : LineData) (p : Timetable) (h : ℕ) (table : List (Option ℕ)) (low : Option (Bor (List ℕ))) (rows row : List ℕ) (answer : Bool)
    → 0 < p.period → HaveReach l p
    → IsTable l p h (move_count l) table → AreLayers l p h rows
    → MatchOption low (h ≡ 0) (λ r. IsLastRow rows p.period h r.now)
    → IsLeastRow l p.period h table (option_map (λ r. r.now) low) row
    → ComesFrom p.period (need l h table (option_map (λ r. r.now) low)) (λ t. get_or row t 0)
    → MatchBool answer ((s : ℕ) → s < length row → IfSome (held table s) (λ at. get_or row s 0 ≡ at))
    ((s : ℕ) × (at : ℕ) × (s < length row) × (held table s ≡ Some at) × (get_or row s 0 ≢ at))
    → MatchBool answer (AreLayers l p (h + 1) (rows ++ row)) (Agree l p → ⊥)
row_added l p h table low rows row true pp have t layers is least from goes =
    let below = below_known l p h rows low layers is in
    more_layers l p h rows row pp least.count layers
    (swept_layer l p h table (option_map (λ r. r.now) low) row pp t below least from (λ s lt. goes s (omega (arith, lt, least.count))))
    (λ g s e lt. below_gap l p h rows low (get_or row s 0) s is (least.suffices.above s lt) g e)
row_added l p h table low rows row false pp have t layers is least from (s, at, lt, e, differs) =
    off_table l p h table (option_map (λ r. r.now) low) row pp have t
    (below_known l p h rows low layers is) least from s at (omega (arith, lt, least.count)) e differs
