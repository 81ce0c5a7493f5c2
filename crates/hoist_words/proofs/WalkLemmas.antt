-- `clap`'s walk over words that say items.
use Rattle.std.proofs.Common.{◌≡◌, ◌∙◌, ◌==◌, ◌&&◌, ◌||◌, ℕ, suc, zero, ◌+◌, ◌<◌, ◌≤◌, length, if◌then◌else◌, arith, length-drop, append-nil}
use Rattle.std.proofs.Common.{append_assoc, true≢false, cond, get_or, Bor, slice_get, Bool, true, false, List, [], ◌∷◌, ◌++◌, codes, drop, Option}
use Rattle.std.proofs.Common.{Some, None, is_some, refl, sym, ap, ap₂, inl, inr, ◌⊎◌, subst}
use Rattle.std.specs.List.{list_all, fold}
use Rattle.clap.specs.Words.{App, Row, first_of, is_simple, matches_of, takes, built}
use Rattle.clap.specs.Walk.{idle, option, Walk, finished, nothing_held, used, walk, walked, has_row}
use Rattle.clap.specs.Walk.{without}
use Rattle.clap.specs.Simple.{entered}
use Rattle.clap.specs.Takes.{entered_passes, settle_passes, default_passes, is_valid, turn_passes, walk_passes}
use Rattle.std.specs.Prelude.{find, option_and_then}
use Rattle.std.specs.Str.{bytes_eq}
use Rattle.std.proofs.lemmas.Slice.Eq.{bytes_eq-Decides}
use Rattle.clap.proofs.OnLiterals.{clap_on_literals}
use Rattle.hoist_words.specs.Commands.{app_for}
use Rattle.hoist_words.specs.Forms.{name_of, opening, joined}
use Rattle.hoist_words.specs.Request.{Item, File, Given, Says, IsFileName, files_of, values_of}
use Rattle.hoist_words.specs.Found.{AreOptions, Fits, FitsRow, IsPlainFor, listed}
use Rattle.hoist_words.specs.declared.found.Found.{Found}
use Rattle.hoist_words.specs.declared.table.Limits.{Limits}
use Rattle.hoist_words.specs.Table.{row_of}
use Rattle.hoist_words.proofs.ReadingLemmas.{known_name, options_tail}
use Rattle.hoist_words.specs.declared.forms.Name.{Name}
use Rattle.hoist_words.specs.declared.forms.Name.TheVariants.{Budget, Workers, Carriers, Upto}
use Rattle.hoist_words.specs.declared.table.CommandName.{CommandName}
use Rattle.hoist_words.specs.declared.table.CommandName.TheVariants.{Solve, Check, Run, Chart, Drill, Sweep, Margin, Follow, Batch}
use Rattle.hoist_words.proofs.WordLemmas.{shape, rules, Pending, at, rows_at, Takes, id_at, HasSecond, IsPlace}
use Rattle.hoist_words.proofs.WordLemmas.{option_row, opens, reads_value, reads_joined, held, Passes, opening_passes}
use Rattle.hoist_words.proofs.WordLemmas.{value_passes, joined_passes, pending_file, pending_option, said}
use Rattle.hoist_words.proofs.WordLemmas.{used_option, rows_option, rows_file, reads_file, file_passes, said_rows}
use Rattle.hoist_words.proofs.WordLemmas.{AreNew}

-- the walk over the words ends between two words, is taken, and has these rows
pub record Reaches (c : CommandName) (from : Walk) (words : List (List ℕ)) (goal : List Row) : Type 0 where
  pub rows : List Row
  pub pending : Pending
  pub position : ℕ
  pub ends : fold (walked (rules c) []) from words ≡ at rows pending position idle
  pub passes : walk_passes (shape c) [] from words ≡ true
  pub settles : Passes c rows pending
  pub are : rows_at c rows pending ≡ goal

step : (c : CommandName) (s s' : Walk) (word : List ℕ) (words : List (List ℕ)) (goal : List Row)
    → turn_passes (shape c) [] s word ≡ true
    → walked (rules c) [] s word ≡ s' → Reaches c s' words goal → Reaches c s (word ∷ words) goal
unfolding walk_passes
step c s s' word words goal turn e r = record {
  rows = r.rows;
  pending = r.pending;
  position = r.position;
  ends = ap (λ x. fold (walked (rules c) []) x words) e ∙ r.ends;
  passes = rw (turn, e, r.passes) refl;
  settles = r.settles;
  are = r.are;
}

behind : (c : CommandName) (s : Walk) (words : List (List ℕ)) (rows more : List Row) (row : Row)
    → Reaches c s words ((rows ++ row ∷ []) ++ more)
    → Reaches c s words (rows ++ row ∷ more)
behind c s words rows more row r = subst (Reaches c s words) (append_assoc rows (row ∷ []) more) r

pub walks : (c : CommandName) (items : List Item) (words : List (List ℕ)) (rows : List Row) (pending : Pending) (p : ℕ)
    → Says items words
    → AreNew c items p (rows_at c rows pending) → Passes c rows pending
    → Reaches c (at rows pending p idle) words (rows_at c rows pending ++ said_rows items p)
unfolding walk_passes
walks c [] words rows pending p says new passes =
    subst (λ ws. Reaches c (at rows pending p idle) ws (rows_at c rows pending ++ [])) (sym says) (record {
      rows = rows;
      pending = pending;
      position = p;
      ends = refl;
      passes = refl;
      settles = passes;
      are = sym (append-nil (rows_at c rows pending));
    })
walks c (File name ∷ items) [] rows pending p says new passes = absurd says
walks c (File name ∷ items) (w ∷ words) rows pending p (e, plain, says) (place, free, new) passes =
    let now = rows_at c rows pending in
    let is_plain : IsFileName w = subst IsFileName (sym e) plain in
    let same = rows_file c p w now place free in
    let more : AreNew c items (suc p) (now ++ said (id_at p) w ∷ []) = subst (λ x. AreNew c items (suc p) (now ++ said (id_at p) x ∷ [])) (sym e) new in
    let rest = walks c items words now (Some (id_at p, w ∷ [])) (suc p) says (subst (AreNew c items (suc p)) (sym same) more)
    (pending_file c p now w place free) in
    let there = subst (λ x. Reaches c (at now (Some (id_at p, w ∷ [])) (suc p) idle) words (x ++ said_rows items (suc p))) same rest in
    subst (λ x. Reaches c (at rows pending p idle) (w ∷ words) (now ++ said (id_at p) x ∷ said_rows items (suc p))) e
    (step c (at rows pending p idle) (at now (Some (id_at p, w ∷ [])) (suc p) idle) w words _ (file_passes c p rows pending w place is_plain passes)
    (reads_file c p rows pending w place is_plain) (behind c _ words now (said_rows items (suc p)) (said (id_at p) w) there))
walks c (Given name v ∷ items) [] rows pending p says new passes = absurd says
walks c (Given name v ∷ items) (w ∷ words) rows pending p (inl (e, says)) ((m, is, takes), plain, free, new) passes =
    let now = rows_at c rows pending in
    let free_m : has_row (name_of m) now ≡ false = subst (λ n. has_row n now ≡ false) is free in
    let new_m : AreNew c items p (now ++ said (name_of m) v ∷ []) = subst (λ n. AreNew c items p (now ++ said n v ∷ [])) is new in
    let same = used_option m v now free_m in
    let rest = walks c items words (used (option_row m) (v ∷ []) now) None p says (subst (AreNew c items p) (sym same) new_m) refl in
    let there = subst (λ x. Reaches c (at (used (option_row m) (v ∷ []) now) None p idle) words (x ++ said_rows items p)) same rest in
    let spelt : w ≡ joined (name_of m) v = e ∙ ap (λ n. joined n v) is in
    subst (λ x. Reaches c (at rows pending p idle) (w ∷ words) (now ++ said x v ∷ said_rows items p)) (sym is)
    (subst (λ x. Reaches c (at rows pending p idle) (x ∷ words) (now ++ said (name_of m) v ∷ said_rows items p)) (sym spelt)
    (step c (at rows pending p idle) (at (used (option_row m) (v ∷ []) now) None p idle) (joined (name_of m) v) words _
    (joined_passes c m rows pending p v takes passes free_m) (reads_joined c m rows pending p v takes)
    (behind c _ words now (said_rows items p) (said (name_of m) v) there)))
walks c (Given name v ∷ items) (w ∷ words) rows pending p (inr (e, (rest_words, ew, says))) ((m, is, takes), plain, free, new) passes =
    let now = rows_at c rows pending in
    let free_m : has_row (name_of m) now ≡ false = subst (λ n. has_row n now ≡ false) is free in
    let new_m : AreNew c items p (now ++ said (name_of m) v ∷ []) = subst (λ n. AreNew c items p (now ++ said n v ∷ [])) is new in
    let same = rows_option c m v now takes free_m in
    let rest = walks c items rest_words now (Some (name_of m, v ∷ [])) p says (subst (AreNew c items p) (sym same) new_m)
    (pending_option c m now v takes free_m) in
    let there = subst (λ x. Reaches c (at now (Some (name_of m, v ∷ [])) p idle) rest_words (x ++ said_rows items p)) same rest in
    let spelt : w ≡ opening (name_of m) = e ∙ ap opening is in
    subst (λ x. Reaches c (at rows pending p idle) (w ∷ words) (now ++ said x v ∷ said_rows items p)) (sym is)
    (subst (λ x. Reaches c (at rows pending p idle) (x ∷ words) (now ++ said (name_of m) v ∷ said_rows items p)) (sym spelt)
    (subst (λ x. Reaches c (at rows pending p idle) (opening (name_of m) ∷ x) (now ++ said (name_of m) v ∷ said_rows items p)) (sym ew)
    (step c (at rows pending p idle) (at now (Some (name_of m, [])) p (option (name_of m))) (opening (name_of m)) (v ∷ rest_words) _
    (opening_passes c m rows pending p takes passes) (opens c m rows pending p takes)
    (step c (at now (Some (name_of m, [])) p (option (name_of m))) (at now (Some (name_of m, v ∷ [])) p idle) v rest_words _
    (value_passes c m now p v takes plain) (reads_value c m now p v takes plain)
    (behind c _ rest_words now (said_rows items p) (said (name_of m) v) there)))))

-- ---- from what was found to the rows

abbrev by_id : List ℕ → Row → Bool
by_id id r = bytes_eq r.id id

abbrev row_in : List ℕ → List Row → Option Row
row_in id rows = find (by_id id) rows

-- the first value of an option, as its row
abbrev first_said : List ℕ → List (List ℕ) → Option Row
first_said id [] = None
first_said id (v ∷ vs) = Some (said id v)

is_option : Name → List ℕ → Bool
is_option m name = bytes_eq name (name_of m)

option_not_id : (m : Name) (b : Bool) → bytes_eq (name_of m) (if b then codes "first" else codes "second") ≡ false
option_not_id Budget true = refl
option_not_id Budget false = refl
option_not_id Workers true = refl
option_not_id Workers false = refl
option_not_id Carriers true = refl
option_not_id Carriers false = refl
option_not_id Upto true = refl
option_not_id Upto false = refl

id_not_option : (m : Name) (p : ℕ) → bytes_eq (id_at p) (name_of m) ≡ false
id_not_option m p = go m (p == 1)
  where
    go : (m : Name) (b : Bool) → bytes_eq (if b then codes "first" else codes "second") (name_of m) ≡ false
    go Budget true = refl
    go Budget false = refl
    go Workers true = refl
    go Workers false = refl
    go Carriers true = refl
    go Carriers false = refl
    go Upto true = refl
    go Upto false = refl

same_bytes : (a b : List ℕ) → bytes_eq a b ≡ true → a ≡ b
same_bytes a b e = (bytes_eq-Decides a b).0 e

pub option_said : (m : Name) (items : List Item) (p : ℕ)
    → row_in (name_of m) (said_rows items p) ≡ first_said (name_of m) (values_of (λ name. bytes_eq name (name_of m)) items)
option_said m [] p = refl
option_said m (File w ∷ items) p = rw (id_not_option m p) (option_said m items (suc p))
option_said m (Given name v ∷ items) p = go (bytes_eq name (name_of m)) refl (option_said m items p)
  where
    go : (b : Bool) → bytes_eq name (name_of m) ≡ b
        → row_in (name_of m) (said_rows items p) ≡ first_said (name_of m) (values_of (λ n. bytes_eq n (name_of m)) items)
        → cond b (Some (said name v)) (row_in (name_of m) (said_rows items p))
        ≡ first_said (name_of m) (if b then v ∷ values_of (λ n. bytes_eq n (name_of m)) items else values_of (λ n. bytes_eq n (name_of m)) items)
    go true e next = ap (λ n. Some (said n v)) (same_bytes name (name_of m) e)
    go false e next = next

pub first_file : (items : List Item) → AreOptions items
    → row_in (codes "first") (said_rows items 1) ≡ first_said (codes "first") (files_of items)
first_file [] known = refl
first_file (File w ∷ items) known = refl
first_file (Given name v ∷ items) known =
    let (m, is) = known_name items name v known in
    let other : bytes_eq name (codes "first") ≡ false = ap (λ n. bytes_eq n (codes "first")) is ∙ option_not_id m true in
    rw (other) (first_file items (options_tail (Given name v) items known))

later_file : (items : List Item) → AreOptions items
    → row_in (codes "second") (said_rows items 2) ≡ first_said (codes "second") (files_of items)
later_file [] known = refl
later_file (File w ∷ items) known = refl
later_file (Given name v ∷ items) known =
    let (m, is) = known_name items name v known in
    let other : bytes_eq name (codes "second") ≡ false = ap (λ n. bytes_eq n (codes "second")) is ∙ option_not_id m false in
    rw (other) (later_file items (options_tail (Given name v) items known))

pub second_file : (items : List Item) → AreOptions items
    → row_in (codes "second") (said_rows items 1) ≡ first_said (codes "second") (drop 1 (files_of items))
second_file [] known = refl
second_file (File w ∷ items) known = later_file items (options_tail (File w) items known)
second_file (Given name v ∷ items) known =
    let (m, is) = known_name items name v known in
    let other : bytes_eq name (codes "second") ≡ false = ap (λ n. bytes_eq n (codes "second")) is ∙ option_not_id m false in
    rw (other) (second_file items (options_tail (Given name v) items known))

-- ---- room for the items

has_more : (id other v : List ℕ) (rows : List Row) → has_row id rows ≡ false → bytes_eq other id ≡ false
    → has_row id (rows ++ said other v ∷ []) ≡ false
has_more id other v [] none differ = rw (differ) refl
has_more id other v (r ∷ rows) none differ = go (bytes_eq r.id id) none (λ n. has_more id other v rows n differ)
  where
    go : (b : Bool) → (b || has_row id rows) ≡ false
        → (has_row id rows ≡ false → has_row id (rows ++ said other v ∷ []) ≡ false)
        → (b || has_row id (rows ++ said other v ∷ [])) ≡ false
    go true e next = absurd cc
    go false e next = next e

abbrev pub values_for : Name → List Item → List (List ℕ)
values_for m items = values_of (λ name. bytes_eq name (name_of m)) items

-- an option has room: it is said once at most, of a command that takes it, by a word without a dash, and not before
pub record HasRoom (c : CommandName) (m : Name) (items : List Item) (rows : List Row) : Type 0 where
  pub once : length (values_for m items) ≤ 1
  pub free : 0 < length (values_for m items) → has_row (name_of m) rows ≡ false
  pub takes : 0 < length (values_for m items) → Takes c m
  pub plain : (v : List ℕ) (vs : List (List ℕ)) → values_for m items ≡ v ∷ vs → IsFileName v

-- the files have room from this position on
pub record HavePlaces (c : CommandName) (items : List Item) (p : ℕ) (rows : List Row) : Type 0 where
  pub least : 1 ≤ p
  pub fit : p + length (files_of items) ≤ suc (row_of c).files
  pub free : (q : ℕ) → p ≤ q → q ≤ 2 → has_row (id_at q) rows ≡ false

pub at_most_two : (c : CommandName) → (row_of c).files ≤ 2
at_most_two Solve = omega arith
at_most_two Check = omega arith
at_most_two Run = omega arith
at_most_two Chart = omega arith
at_most_two Drill = omega arith
at_most_two Sweep = omega arith
at_most_two Margin = omega arith
at_most_two Follow = omega arith
at_most_two Batch = omega arith

place_of : (c : CommandName) (p : ℕ) → 1 ≤ p → p ≤ (row_of c).files → IsPlace c p
place_of c zero least fit = absurd (omega (arith, least))
place_of c (suc zero) least fit = inl refl
place_of c (suc (suc zero)) least fit = inr (refl, fit)
place_of c (suc (suc (suc p))) least fit = absurd (omega (arith, fit, at_most_two c))

other_place : (p q : ℕ) → 1 ≤ p → suc p ≤ q → q ≤ 2 → bytes_eq (id_at p) (id_at q) ≡ false
other_place (suc zero) (suc (suc zero)) a b c = refl
other_place zero q a b c = absurd (omega (arith, a))
other_place (suc zero) zero a b c = absurd (omega (arith, b))
other_place (suc zero) (suc zero) a b c = absurd (omega (arith, b))
other_place (suc zero) (suc (suc (suc q))) a b c = absurd (omega (arith, c))
other_place (suc (suc p)) q a b c = absurd (omega (arith, b, c))

room_after_file : (c : CommandName) (m : Name) (w : List ℕ) (items : List Item) (p : ℕ) (rows : List Row)
    → HasRoom c m (File w ∷ items) rows
    → HasRoom c m items (rows ++ said (id_at p) w ∷ [])
room_after_file c m w items p rows room = record {
  once = room.once;
  free = λ some. has_more (name_of m) (id_at p) w rows (room.free some) (id_not_option m p);
  takes = room.takes;
  plain = room.plain;
}

room_after_option : (c : CommandName) (m : Name) (name v : List ℕ) (items : List Item) (rows : List Row)
    → HasRoom c m (Given name v ∷ items) rows
    → HasRoom c m items (rows ++ said name v ∷ [])
room_after_option c m name v items rows room = go (bytes_eq name (name_of m)) refl room.once room.free room.takes room.plain
  where
    go : (b : Bool) → bytes_eq name (name_of m) ≡ b
        → length (if b then v ∷ values_for m items else values_for m items) ≤ 1
        → (0 < length (if b then v ∷ values_for m items else values_for m items) → has_row (name_of m) rows ≡ false)
        → (0 < length (if b then v ∷ values_for m items else values_for m items) → Takes c m)
        → ((u : List ℕ) (us : List (List ℕ)) → (if b then v ∷ values_for m items else values_for m items) ≡ u ∷ us → IsFileName u)
        → HasRoom c m items (rows ++ said name v ∷ [])
    go true e once free takes plain = record {
      once = omega (arith, once);
      free = λ some. absurd (omega (arith, once, some));
      takes = λ some. absurd (omega (arith, once, some));
      plain = λ u us is. let l : length (values_for m items) ≡ suc (length us) = ap length is in absurd (omega (arith, once, l));
    }
    go false e once free takes plain = record {
      once = once;
      free = λ some. has_more (name_of m) name v rows (free some) e;
      takes = takes;
      plain = plain;
    }

places_after_file : (c : CommandName) (w : List ℕ) (items : List Item) (p : ℕ) (rows : List Row)
    → HavePlaces c (File w ∷ items) p rows
    → HavePlaces c items (suc p) (rows ++ said (id_at p) w ∷ [])
places_after_file c w items p rows places = record {
  least = omega (arith, places.least);
  fit = omega (arith, places.fit);
  free = λ q least most. has_more (id_at q) (id_at p) w rows (places.free q (omega (arith, least)) most) (other_place p q places.least least most);
}

places_after_option : (c : CommandName) (m : Name) (v : List ℕ) (items : List Item) (p : ℕ) (rows : List Row)
    → HavePlaces c items p rows
    → HavePlaces c items p (rows ++ said (name_of m) v ∷ [])
places_after_option c m v items p rows places = record {
  least = places.least;
  fit = places.fit;
  free = λ q least most. has_more (id_at q) (name_of m) v rows (places.free q least most) (option_not_id m (q == 1));
}

first_value_plain : (c : CommandName) (m : Name) (name v : List ℕ) (items : List Item) (rows : List Row)
    → name ≡ name_of m
    → HasRoom c m (Given name v ∷ items) rows
    → Takes c m × IsFileName v × (has_row name rows ≡ false)
first_value_plain c m name v items rows is room =
    let same : bytes_eq name (name_of m) ≡ true = (bytes_eq-Decides name (name_of m)).1 is in
    let values : values_for m (Given name v ∷ items) ≡ v ∷ values_for m items = rw (same) refl in
    let l : length (values_for m (Given name v ∷ items)) ≡ suc (length (values_for m items)) = ap length values in (
      room.takes (omega (arith, l)),
      room.plain v (values_for m items) values,
      subst (λ n. has_row n rows ≡ false) (sym is) (room.free (omega (arith, l))),
    )

pub are_new : (c : CommandName) (items : List Item) (p : ℕ) (rows : List Row) → AreOptions items
    → HavePlaces c items p rows
    → ((m : Name) → HasRoom c m items rows) → AreNew c items p rows
are_new c [] p rows known places room = tt
are_new c (File w ∷ items) p rows known places room = (
  place_of c p places.least (omega (arith, places.fit)),
  places.free p (omega arith) (omega (arith, places.fit, at_most_two c)),
  are_new c items (suc p) (rows ++ said (id_at p) w ∷ []) (options_tail (File w) items known) (places_after_file c w items p rows places)
      (λ m. room_after_file c m w items p rows (room m)),
)
are_new c (Given name v ∷ items) p rows known places room =
    let (m, is) = known_name items name v known in
    let (takes, plain, free) = first_value_plain c m name v items rows is (room m) in (
      (m, is, takes),
      plain,
      free,
      are_new c items p (rows ++ said name v ∷ []) (options_tail (Given name v) items known)
          (subst (λ n. HavePlaces c items p (rows ++ said n v ∷ [])) (sym is) (places_after_option c m v items p rows
          (record { least = places.least; fit = places.fit; free = places.free })))
          (λ k. room_after_option c k name v items rows (room k)),
    )

-- ---- the whole walk

same_if : {X : Type 0} (b : Bool) (x : X) → (if b then x else x) ≡ x
same_if true x = refl
same_if false x = refl

finished_is : (c : CommandName) (rows : List Row) (pending : Pending)
    → finished (rules c) (held rows pending) ≡ rows_at c rows pending
finished_is Solve rows pending = simp (same_if) refl
finished_is Check rows pending = simp (same_if) refl
finished_is Run rows pending = simp (same_if) refl
finished_is Chart rows pending = simp (same_if) refl
finished_is Drill rows pending = simp (same_if) refl
finished_is Sweep rows pending = simp (same_if) refl
finished_is Margin rows pending = simp (same_if) refl
finished_is Follow rows pending = simp (same_if) refl
finished_is Batch rows pending = simp (same_if) refl

-- a list that has a first word says its row
some_said : (id : List ℕ) (vs : List (List ℕ)) (r : Option Row) → r ≡ first_said id vs → 1 ≤ length vs
    → (w : List ℕ) × (r ≡ Some (said id w))
some_said id [] r e some = absurd (omega (arith, some))
some_said id (v ∷ vs) r e some = (v, e)

valid_rows : (c : CommandName) (rows : List Row)
    → (w : List ℕ) × (row_in (codes "first") rows ≡ Some (said (codes "first") w))
    → (HasSecond c → (v : List ℕ) × (row_in (codes "second") rows ≡ Some (said (codes "second") v)))
    → is_valid (shape c) rows false ≡ true
valid_rows Solve rows (w, first) second = simp (first) refl
valid_rows Check rows (w, first) second = let (v, other) = second (omega arith) in simp (first, other) refl
valid_rows Run rows (w, first) second = let (v, other) = second (omega arith) in simp (first, other) refl
valid_rows Chart rows (w, first) second = let (v, other) = second (omega arith) in simp (first, other) refl
valid_rows Drill rows (w, first) second = simp (first) refl
valid_rows Sweep rows (w, first) second = simp (first) refl
valid_rows Margin rows (w, first) second = let (v, other) = second (omega arith) in simp (first, other) refl
valid_rows Follow rows (w, first) second = let (v, other) = second (omega arith) in simp (first, other) refl
valid_rows Batch rows (w, first) second = simp (first) refl

pub some_file : (c : CommandName) → 1 ≤ (row_of c).files
some_file Solve = omega arith
some_file Check = omega arith
some_file Run = omega arith
some_file Chart = omega arith
some_file Drill = omega arith
some_file Sweep = omega arith
some_file Margin = omega arith
some_file Follow = omega arith
some_file Batch = omega arith

valid : (c : CommandName) (items : List Item) → AreOptions items → length (files_of items) ≡ (row_of c).files
    → is_valid (shape c) (said_rows items 1) false ≡ true
valid c items known count =
    valid_rows c (said_rows items 1) (some_said (codes "first") (files_of items) _ (first_file items known) (omega (arith, count, some_file c)))
    (λ two. some_said (codes "second") (drop 1 (files_of items)) _ (second_file items known) (omega (arith, count, two, length-drop 1 (files_of items))))

-- the words are taken where the walk ends so, and its steps passed or not
abbrev taken_after : CommandName → Walk → Bool → Bool
taken_after c s passed =
    entered_passes (built (app_for c)) s.stopped
    && (passed && (settle_passes (rules c) (shape c).args_override_self s.held
    && (list_all default_passes (rules c) && is_valid (shape c) (finished (rules c) s.held) (is_some (entered (built (app_for c)) s.stopped)))))

taken_as : (c : CommandName) (word : List ℕ) (words : List (List ℕ))
    → takes (app_for c) (word ∷ words) ≡ taken_after c (walk (rules c) [] nothing_held words) (walk_passes (shape c) [] (at [] None 1 idle) words)
taken_as Solve word words = refl
taken_as Check word words = refl
taken_as Run word words = refl
taken_as Chart word words = refl
taken_as Drill word words = refl
taken_as Sweep word words = refl
taken_as Margin word words = refl
taken_as Follow word words = refl
taken_as Batch word words = refl

defaults_pass : (c : CommandName) → list_all default_passes (rules c) ≡ true
unfolding clap_on_literals
defaults_pass Solve = refl
defaults_pass Check = refl
defaults_pass Run = refl
defaults_pass Chart = refl
defaults_pass Drill = refl
defaults_pass Sweep = refl
defaults_pass Margin = refl
defaults_pass Follow = refl
defaults_pass Batch = refl

taken_at_end : (c : CommandName) (rows : List Row) (pending : Pending) (p : ℕ) → Passes c rows pending
    → is_valid (shape c) (rows_at c rows pending) false ≡ true → taken_after c (at rows pending p idle) true ≡ true
taken_at_end Solve rows pending p passes is = rw (passes, defaults_pass Solve, finished_is Solve rows pending, is) refl
taken_at_end Check rows pending p passes is = rw (passes, defaults_pass Check, finished_is Check rows pending, is) refl
taken_at_end Run rows pending p passes is = rw (passes, defaults_pass Run, finished_is Run rows pending, is) refl
taken_at_end Chart rows pending p passes is = rw (passes, defaults_pass Chart, finished_is Chart rows pending, is) refl
taken_at_end Drill rows pending p passes is = rw (passes, defaults_pass Drill, finished_is Drill rows pending, is) refl
taken_at_end Sweep rows pending p passes is = rw (passes, defaults_pass Sweep, finished_is Sweep rows pending, is) refl
taken_at_end Margin rows pending p passes is = rw (passes, defaults_pass Margin, finished_is Margin rows pending, is) refl
taken_at_end Follow rows pending p passes is = rw (passes, defaults_pass Follow, finished_is Follow rows pending, is) refl
taken_at_end Batch rows pending p passes is = rw (passes, defaults_pass Batch, finished_is Batch rows pending, is) refl

pub words_taken : (c : CommandName) (items : List Item) (word : List ℕ) (words : List (List ℕ)) → Says items words
    → AreOptions items
    → length (files_of items) ≡ (row_of c).files → AreNew c items 1 [] → takes (app_for c) (word ∷ words) ≡ true
words_taken c items word words says known count new =
    let r = walks c items words [] None 1 says new refl in
    let right : is_valid (shape c) (rows_at c r.rows r.pending) false ≡ true = ap (λ x. is_valid (shape c) x false) r.are ∙ valid c items known count in
    taken_as c word words ∙ ap₂ (taken_after c) r.ends r.passes ∙ taken_at_end c r.rows r.pending r.position r.settles right

matches_as : (c : CommandName) (word : List ℕ) (words : List (List ℕ))
    → matches_of (app_for c) (word ∷ words) ≡ finished (rules c) (walk (rules c) [] nothing_held words).held
matches_as Solve word words = refl
matches_as Check word words = refl
matches_as Run word words = refl
matches_as Chart word words = refl
matches_as Drill word words = refl
matches_as Sweep word words = refl
matches_as Margin word words = refl
matches_as Follow word words = refl
matches_as Batch word words = refl

pub words_read : (c : CommandName) (items : List Item) (word : List ℕ) (words : List (List ℕ)) → Says items words
    → AreNew c items 1 []
    → matches_of (app_for c) (word ∷ words) ≡ said_rows items 1
words_read c items word words says new =
    let r = walks c items words [] None 1 says new refl in
    matches_as c word words ∙ ap (λ s. finished (rules c) s.held) r.ends ∙ finished_is c r.rows r.pending ∙ r.are

-- ---- from what was found

abbrev pub limits_of : CommandName → Name → Option Limits
limits_of c Budget = (row_of c).budget
limits_of c Workers = (row_of c).workers
limits_of c Carriers = (row_of c).carriers
limits_of c Upto = (row_of c).upto

takes_if : (c : CommandName) (m : Name) → is_some (limits_of c m) ≡ true → Takes c m
takes_if Solve Budget some = tt
takes_if Solve Workers some = tt
takes_if Solve Carriers some = absurd (true≢false (sym some))
takes_if Solve Upto some = absurd (true≢false (sym some))
takes_if Check Budget some = absurd (true≢false (sym some))
takes_if Check Workers some = absurd (true≢false (sym some))
takes_if Check Carriers some = absurd (true≢false (sym some))
takes_if Check Upto some = absurd (true≢false (sym some))
takes_if Run Budget some = absurd (true≢false (sym some))
takes_if Run Workers some = absurd (true≢false (sym some))
takes_if Run Carriers some = tt
takes_if Run Upto some = absurd (true≢false (sym some))
takes_if Chart Budget some = absurd (true≢false (sym some))
takes_if Chart Workers some = absurd (true≢false (sym some))
takes_if Chart Carriers some = absurd (true≢false (sym some))
takes_if Chart Upto some = absurd (true≢false (sym some))
takes_if Drill Budget some = absurd (true≢false (sym some))
takes_if Drill Workers some = absurd (true≢false (sym some))
takes_if Drill Carriers some = absurd (true≢false (sym some))
takes_if Drill Upto some = absurd (true≢false (sym some))
takes_if Sweep Budget some = tt
takes_if Sweep Workers some = tt
takes_if Sweep Carriers some = absurd (true≢false (sym some))
takes_if Sweep Upto some = tt
takes_if Margin Budget some = absurd (true≢false (sym some))
takes_if Margin Workers some = absurd (true≢false (sym some))
takes_if Margin Carriers some = absurd (true≢false (sym some))
takes_if Margin Upto some = absurd (true≢false (sym some))
takes_if Follow Budget some = absurd (true≢false (sym some))
takes_if Follow Workers some = absurd (true≢false (sym some))
takes_if Follow Carriers some = absurd (true≢false (sym some))
takes_if Follow Upto some = absurd (true≢false (sym some))
takes_if Batch Budget some = tt
takes_if Batch Workers some = tt
takes_if Batch Carriers some = absurd (true≢false (sym some))
takes_if Batch Upto some = absurd (true≢false (sym some))

room_of : (c : CommandName) (m : Name) (items : List Item) (given : Option (Bor (List ℕ)))
    → values_for m items ≡ listed given
    → IsPlainFor (limits_of c m) (listed given) → HasRoom c m items []
room_of c m items None e plain =
    let l : length (values_for m items) ≡ 0 = ap length e in record {
      once = omega (arith, l);
      free = λ some. refl;
      takes = λ some. absurd (omega (arith, l, some));
      plain = λ v vs is. let k : length (values_for m items) ≡ suc (length vs) = ap length is in absurd (omega (arith, l, k));
    }
room_of c m items (Some word) e plain =
    let l : length (values_for m items) ≡ 1 = ap length e in record {
      once = omega (arith, l);
      free = λ some. refl;
      takes = λ some. takes_if c m plain.0;
      plain = λ v vs is. let same : word.now ∷ [] ≡ v ∷ vs = sym e ∙ is in
          subst IsFileName (ap (λ (xs : List (List ℕ)). get_or xs 0 []) same) plain.1;
    }

pub new_found : (c : CommandName) (items : List Item) (found : Found) → AreOptions items → Fits items found
    → FitsRow (row_of c) found → AreNew c items 1 []
new_found c items found known fits row =
    let count : length (files_of items) ≡ (row_of c).files = ap length fits.files ∙ row.files in
    are_new c items 1 [] known (record { least = omega arith; fit = omega (arith, count); free = λ q least most. refl })
    (λ m. room m)
  where
    room : (m : Name) → HasRoom c m items []
    room Budget = room_of c Budget items found.budget fits.budget row.budget
    room Workers = room_of c Workers items found.workers fits.workers row.workers
    room Carriers = room_of c Carriers items found.carriers fits.carriers row.carriers
    room Upto = room_of c Upto items found.upto fits.upto row.upto

-- what was read of each name

abbrev pub first_in : List (List ℕ) → Option (List ℕ)
first_in [] = None
first_in (v ∷ vs) = Some v

abbrev value_of_row : Option Row → Option (List ℕ)
value_of_row = option_and_then (λ r. slice_get r.values 0)

first_of_said : (id : List ℕ) (vs : List (List ℕ)) → value_of_row (first_said id vs) ≡ first_in vs
first_of_said id [] = refl
first_of_said id (v ∷ vs) = refl

pub option_read : (m : Name) (items : List Item)
    → first_of (name_of m) (said_rows items 1) ≡ first_in (values_for m items)
option_read m items = ap value_of_row (option_said m items 1) ∙ first_of_said (name_of m) (values_for m items)

pub first_read : (items : List Item) → AreOptions items
    → first_of (codes "first") (said_rows items 1) ≡ first_in (files_of items)
first_read items known = ap value_of_row (first_file items known) ∙ first_of_said (codes "first") (files_of items)

pub second_read : (items : List Item) → AreOptions items
    → first_of (codes "second") (said_rows items 1) ≡ first_in (drop 1 (files_of items))
second_read items known = ap value_of_row (second_file items known) ∙ first_of_said (codes "second") (drop 1 (files_of items))

first_true : (a b : Bool) → (a && b) ≡ true → a ≡ true
first_true true b e = refl
first_true false b e = e

pub simple_taken : (app : App) (words : List (List ℕ)) → takes app words ≡ true → is_simple app ≡ true
simple_taken app words e = first_true (is_simple app) _ e
