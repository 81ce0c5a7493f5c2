-- What one more word does to `clap`'s walk over words that say items.
use Rattle.std.proofs.Common.{◌≡◌, ◌∙◌, ◌==◌, ◌&&◌, ◌||◌, ℕ, suc, ◌+◌, ◌<◌, ◌≤◌, if◌then◌else◌, arith, append-nil}
use Rattle.std.proofs.Common.{Bool, true, false, List, [], ◌∷◌, ◌++◌, codes, Option}
use Rattle.std.proofs.Common.{Some, None, refl, sym, ap, inl, inr, ◌⊎◌, ne_eqb, subst}
use Rattle.clap.specs.Words.{Row, Rule, takes, built}
use Rattle.clap.specs.Walk.{Held, Waiting, idle, option, Walk, used, walk, walk_from, walked, settled_rows, has_row, at_row}
use Rattle.clap.specs.Walk.{with_values, without, more_values, reading_by}
use Rattle.clap.specs.Simple.{Shape, filled}
use Rattle.clap.specs.Takes.{settle_passes, turn_passes}
use Rattle.std.specs.Str.{bytes_eq}
use Rattle.clap.specs.declared.builder.value_parser.Reading.{Reading}
use Rattle.clap.specs.declared.parser.matches.ValueSource.TheVariants.{CommandLine}
use Rattle.clap.proofs.OnLiterals.{clap_on_literals}
use Rattle.hoist_words.specs.Commands.{app_for, option_rule}
use Rattle.hoist_words.specs.Forms.{name_of, opening, joined}
use Rattle.hoist_words.specs.Request.{Item, File, Given, IsFileName}
use Rattle.hoist_words.specs.Table.{row_of}
use Rattle.hoist_words.specs.declared.forms.Name.{Name}
use Rattle.hoist_words.specs.declared.forms.Name.TheVariants.{Budget, Workers, Carriers, Upto}
use Rattle.hoist_words.specs.declared.table.CommandName.{CommandName}
use Rattle.hoist_words.specs.declared.table.CommandName.TheVariants.{Solve, Check, Run, Chart, Drill, Sweep, Margin, Follow, Batch}

no_dash : (b : ℕ) → (b ≡ 45 → ⊥) → (b == 45) ≡ false
no_dash b other = ne_eqb b 45 other

and_false : (b : Bool) → (b && false) ≡ false
and_false true = refl
and_false false = refl

abbrev pub shape : CommandName → Shape
shape c = (built (app_for c)).top

abbrev pub rules : CommandName → List Rule
rules c = (shape c).rules

abbrev pub Pending : Type 0
Pending = Option (List ℕ × List (List ℕ))

-- where the walk stands between two words
abbrev pub at : List Row → Pending → ℕ → Waiting → Walk
at rows pending position waiting = record (walk_from (record { rows = rows; pending = pending; skip = 0 })) { waiting = waiting; position = position }

-- the rows with what is pending
abbrev pub rows_at : CommandName → List Row → Pending → List Row
rows_at c rows pending = settled_rows (rules c) pending rows

-- the command takes the option
abbrev pub Takes : CommandName → Name → Type 0
Takes Solve Budget = Unit {0}
Takes Solve Workers = Unit {0}
Takes Solve Carriers = ⊥
Takes Solve Upto = ⊥
Takes Check m = ⊥
Takes Run Budget = ⊥
Takes Run Workers = ⊥
Takes Run Carriers = Unit {0}
Takes Run Upto = ⊥
Takes Chart m = ⊥
Takes Drill m = ⊥
Takes Sweep Budget = Unit {0}
Takes Sweep Workers = Unit {0}
Takes Sweep Carriers = ⊥
Takes Sweep Upto = Unit {0}
Takes Margin m = ⊥
Takes Follow m = ⊥
Takes Batch Budget = Unit {0}
Takes Batch Workers = Unit {0}
Takes Batch Carriers = ⊥
Takes Batch Upto = ⊥

-- the name of the place of a file
abbrev pub id_at : ℕ → List ℕ
id_at p = if p == 1 then codes "first" else codes "second"

-- the command has a second place
abbrev pub HasSecond : CommandName → Type 0
HasSecond c = 2 ≤ (row_of c).files

-- the command has a place for a file at this position
abbrev pub IsPlace : CommandName → ℕ → Type 0
IsPlace c p = (p ≡ 1) ⊎ ((p ≡ 2) × HasSecond c)

abbrev pub option_row : Name → Rule
option_row m = filled (option_rule (name_of m))

-- the steps of the walk

pub opens : (c : CommandName) (m : Name) (rows : List Row) (pending : Pending) (p : ℕ) → Takes c m
    → walked (rules c) [] (at rows pending p idle) (opening (name_of m)) ≡ at (rows_at c rows pending) (Some (name_of m, [])) p (option (name_of m))
unfolding clap_on_literals
opens Solve Budget rows pending p takes = refl
opens Solve Workers rows pending p takes = refl
opens Solve Carriers rows pending p takes = absurd takes
opens Solve Upto rows pending p takes = absurd takes
opens Check m rows pending p takes = absurd takes
opens Run Budget rows pending p takes = absurd takes
opens Run Workers rows pending p takes = absurd takes
opens Run Carriers rows pending p takes = refl
opens Run Upto rows pending p takes = absurd takes
opens Chart m rows pending p takes = absurd takes
opens Drill m rows pending p takes = absurd takes
opens Sweep Budget rows pending p takes = refl
opens Sweep Workers rows pending p takes = refl
opens Sweep Carriers rows pending p takes = absurd takes
opens Sweep Upto rows pending p takes = refl
opens Margin m rows pending p takes = absurd takes
opens Follow m rows pending p takes = absurd takes
opens Batch Budget rows pending p takes = refl
opens Batch Workers rows pending p takes = refl
opens Batch Carriers rows pending p takes = absurd takes
opens Batch Upto rows pending p takes = absurd takes

pub reads_value : (c : CommandName) (m : Name) (rows : List Row) (p : ℕ) (v : List ℕ) → Takes c m → IsFileName v
    → walked (rules c) [] (at rows (Some (name_of m, [])) p (option (name_of m))) v ≡ at rows (Some (name_of m, v ∷ [])) p idle
unfolding clap_on_literals
reads_value Solve Budget rows p [] takes plain = absurd plain
reads_value Solve Budget rows p (b ∷ bs) takes plain = simp (no_dash b plain) refl
reads_value Solve Workers rows p [] takes plain = absurd plain
reads_value Solve Workers rows p (b ∷ bs) takes plain = simp (no_dash b plain) refl
reads_value Solve Carriers rows p v takes plain = absurd takes
reads_value Solve Upto rows p v takes plain = absurd takes
reads_value Check m rows p v takes plain = absurd takes
reads_value Run Budget rows p v takes plain = absurd takes
reads_value Run Workers rows p v takes plain = absurd takes
reads_value Run Carriers rows p [] takes plain = absurd plain
reads_value Run Carriers rows p (b ∷ bs) takes plain = simp (no_dash b plain) refl
reads_value Run Upto rows p v takes plain = absurd takes
reads_value Chart m rows p v takes plain = absurd takes
reads_value Drill m rows p v takes plain = absurd takes
reads_value Sweep Budget rows p [] takes plain = absurd plain
reads_value Sweep Budget rows p (b ∷ bs) takes plain = simp (no_dash b plain) refl
reads_value Sweep Workers rows p [] takes plain = absurd plain
reads_value Sweep Workers rows p (b ∷ bs) takes plain = simp (no_dash b plain) refl
reads_value Sweep Carriers rows p v takes plain = absurd takes
reads_value Sweep Upto rows p [] takes plain = absurd plain
reads_value Sweep Upto rows p (b ∷ bs) takes plain = simp (no_dash b plain) refl
reads_value Margin m rows p v takes plain = absurd takes
reads_value Follow m rows p v takes plain = absurd takes
reads_value Batch Budget rows p [] takes plain = absurd plain
reads_value Batch Budget rows p (b ∷ bs) takes plain = simp (no_dash b plain) refl
reads_value Batch Workers rows p [] takes plain = absurd plain
reads_value Batch Workers rows p (b ∷ bs) takes plain = simp (no_dash b plain) refl
reads_value Batch Carriers rows p v takes plain = absurd takes
reads_value Batch Upto rows p v takes plain = absurd takes

pub reads_joined : (c : CommandName) (m : Name) (rows : List Row) (pending : Pending) (p : ℕ) (v : List ℕ) → Takes c m
    → walked (rules c) [] (at rows pending p idle) (joined (name_of m) v) ≡ at (used (option_row m) (v ∷ []) (rows_at c rows pending)) None p idle
unfolding clap_on_literals
reads_joined Solve Budget rows pending p v takes = refl
reads_joined Solve Workers rows pending p v takes = refl
reads_joined Solve Carriers rows pending p v takes = absurd takes
reads_joined Solve Upto rows pending p v takes = absurd takes
reads_joined Check m rows pending p v takes = absurd takes
reads_joined Run Budget rows pending p v takes = absurd takes
reads_joined Run Workers rows pending p v takes = absurd takes
reads_joined Run Carriers rows pending p v takes = refl
reads_joined Run Upto rows pending p v takes = absurd takes
reads_joined Chart m rows pending p v takes = absurd takes
reads_joined Drill m rows pending p v takes = absurd takes
reads_joined Sweep Budget rows pending p v takes = refl
reads_joined Sweep Workers rows pending p v takes = refl
reads_joined Sweep Carriers rows pending p v takes = absurd takes
reads_joined Sweep Upto rows pending p v takes = refl
reads_joined Margin m rows pending p v takes = absurd takes
reads_joined Follow m rows pending p v takes = absurd takes
reads_joined Batch Budget rows pending p v takes = refl
reads_joined Batch Workers rows pending p v takes = refl
reads_joined Batch Carriers rows pending p v takes = absurd takes
reads_joined Batch Upto rows pending p v takes = absurd takes

reads_first : (c : CommandName) (rows : List Row) (pending : Pending) (w : List ℕ) → IsFileName w
    → walked (rules c) [] (at rows pending 1 idle) w ≡ at (rows_at c rows pending) (Some (codes "first", w ∷ [])) 2 idle
unfolding clap_on_literals
reads_first c rows pending [] plain = absurd plain
reads_first Solve rows None (b ∷ bs) plain = simp (no_dash b plain) refl
reads_first Solve rows (Some q) (b ∷ bs) plain = simp (no_dash b plain, and_false) refl
reads_first Check rows None (b ∷ bs) plain = simp (no_dash b plain) refl
reads_first Check rows (Some q) (b ∷ bs) plain = simp (no_dash b plain, and_false) refl
reads_first Run rows None (b ∷ bs) plain = simp (no_dash b plain) refl
reads_first Run rows (Some q) (b ∷ bs) plain = simp (no_dash b plain, and_false) refl
reads_first Chart rows None (b ∷ bs) plain = simp (no_dash b plain) refl
reads_first Chart rows (Some q) (b ∷ bs) plain = simp (no_dash b plain, and_false) refl
reads_first Drill rows None (b ∷ bs) plain = simp (no_dash b plain) refl
reads_first Drill rows (Some q) (b ∷ bs) plain = simp (no_dash b plain, and_false) refl
reads_first Sweep rows None (b ∷ bs) plain = simp (no_dash b plain) refl
reads_first Sweep rows (Some q) (b ∷ bs) plain = simp (no_dash b plain, and_false) refl
reads_first Margin rows None (b ∷ bs) plain = simp (no_dash b plain) refl
reads_first Margin rows (Some q) (b ∷ bs) plain = simp (no_dash b plain, and_false) refl
reads_first Follow rows None (b ∷ bs) plain = simp (no_dash b plain) refl
reads_first Follow rows (Some q) (b ∷ bs) plain = simp (no_dash b plain, and_false) refl
reads_first Batch rows None (b ∷ bs) plain = simp (no_dash b plain) refl
reads_first Batch rows (Some q) (b ∷ bs) plain = simp (no_dash b plain, and_false) refl

reads_second : (c : CommandName) (rows : List Row) (pending : Pending) (w : List ℕ) → HasSecond c → IsFileName w
    → walked (rules c) [] (at rows pending 2 idle) w ≡ at (rows_at c rows pending) (Some (codes "second", w ∷ [])) 3 idle
unfolding clap_on_literals
reads_second c rows pending [] second plain = absurd plain
reads_second Solve rows pending (b ∷ bs) second plain = absurd (omega (arith, second))
reads_second Check rows None (b ∷ bs) second plain = simp (no_dash b plain) refl
reads_second Check rows (Some q) (b ∷ bs) second plain = simp (no_dash b plain, and_false) refl
reads_second Run rows None (b ∷ bs) second plain = simp (no_dash b plain) refl
reads_second Run rows (Some q) (b ∷ bs) second plain = simp (no_dash b plain, and_false) refl
reads_second Chart rows None (b ∷ bs) second plain = simp (no_dash b plain) refl
reads_second Chart rows (Some q) (b ∷ bs) second plain = simp (no_dash b plain, and_false) refl
reads_second Drill rows pending (b ∷ bs) second plain = absurd (omega (arith, second))
reads_second Sweep rows pending (b ∷ bs) second plain = absurd (omega (arith, second))
reads_second Margin rows None (b ∷ bs) second plain = simp (no_dash b plain) refl
reads_second Margin rows (Some q) (b ∷ bs) second plain = simp (no_dash b plain, and_false) refl
reads_second Follow rows None (b ∷ bs) second plain = simp (no_dash b plain) refl
reads_second Follow rows (Some q) (b ∷ bs) second plain = simp (no_dash b plain, and_false) refl
reads_second Batch rows pending (b ∷ bs) second plain = absurd (omega (arith, second))

-- the steps are taken

abbrev pub held : List Row → Pending → Held
held rows pending = record { rows = rows; pending = pending; skip = 0 }

abbrev pub Passes : CommandName → List Row → Pending → Type 0
Passes c rows pending = settle_passes (rules c) false (held rows pending) ≡ true

pub opening_passes : (c : CommandName) (m : Name) (rows : List Row) (pending : Pending) (p : ℕ) → Takes c m
    → Passes c rows pending
    → turn_passes (shape c) [] (at rows pending p idle) (opening (name_of m)) ≡ true
unfolding clap_on_literals
opening_passes Solve Budget rows pending p takes passes = simp (passes) refl
opening_passes Solve Workers rows pending p takes passes = simp (passes) refl
opening_passes Solve Carriers rows pending p takes passes = absurd takes
opening_passes Solve Upto rows pending p takes passes = absurd takes
opening_passes Check m rows pending p takes passes = absurd takes
opening_passes Run Budget rows pending p takes passes = absurd takes
opening_passes Run Workers rows pending p takes passes = absurd takes
opening_passes Run Carriers rows pending p takes passes = simp (passes) refl
opening_passes Run Upto rows pending p takes passes = absurd takes
opening_passes Chart m rows pending p takes passes = absurd takes
opening_passes Drill m rows pending p takes passes = absurd takes
opening_passes Sweep Budget rows pending p takes passes = simp (passes) refl
opening_passes Sweep Workers rows pending p takes passes = simp (passes) refl
opening_passes Sweep Carriers rows pending p takes passes = absurd takes
opening_passes Sweep Upto rows pending p takes passes = simp (passes) refl
opening_passes Margin m rows pending p takes passes = absurd takes
opening_passes Follow m rows pending p takes passes = absurd takes
opening_passes Batch Budget rows pending p takes passes = simp (passes) refl
opening_passes Batch Workers rows pending p takes passes = simp (passes) refl
opening_passes Batch Carriers rows pending p takes passes = absurd takes
opening_passes Batch Upto rows pending p takes passes = absurd takes

pub value_passes : (c : CommandName) (m : Name) (rows : List Row) (p : ℕ) (v : List ℕ) → Takes c m → IsFileName v
    → turn_passes (shape c) [] (at rows (Some (name_of m, [])) p (option (name_of m))) v ≡ true
unfolding clap_on_literals
value_passes Solve Budget rows p [] takes plain = absurd plain
value_passes Solve Budget rows p (b ∷ bs) takes plain = simp (no_dash b plain) refl
value_passes Solve Workers rows p [] takes plain = absurd plain
value_passes Solve Workers rows p (b ∷ bs) takes plain = simp (no_dash b plain) refl
value_passes Solve Carriers rows p v takes plain = absurd takes
value_passes Solve Upto rows p v takes plain = absurd takes
value_passes Check m rows p v takes plain = absurd takes
value_passes Run Budget rows p v takes plain = absurd takes
value_passes Run Workers rows p v takes plain = absurd takes
value_passes Run Carriers rows p [] takes plain = absurd plain
value_passes Run Carriers rows p (b ∷ bs) takes plain = simp (no_dash b plain) refl
value_passes Run Upto rows p v takes plain = absurd takes
value_passes Chart m rows p v takes plain = absurd takes
value_passes Drill m rows p v takes plain = absurd takes
value_passes Sweep Budget rows p [] takes plain = absurd plain
value_passes Sweep Budget rows p (b ∷ bs) takes plain = simp (no_dash b plain) refl
value_passes Sweep Workers rows p [] takes plain = absurd plain
value_passes Sweep Workers rows p (b ∷ bs) takes plain = simp (no_dash b plain) refl
value_passes Sweep Carriers rows p v takes plain = absurd takes
value_passes Sweep Upto rows p [] takes plain = absurd plain
value_passes Sweep Upto rows p (b ∷ bs) takes plain = simp (no_dash b plain) refl
value_passes Margin m rows p v takes plain = absurd takes
value_passes Follow m rows p v takes plain = absurd takes
value_passes Batch Budget rows p [] takes plain = absurd plain
value_passes Batch Budget rows p (b ∷ bs) takes plain = simp (no_dash b plain) refl
value_passes Batch Workers rows p [] takes plain = absurd plain
value_passes Batch Workers rows p (b ∷ bs) takes plain = simp (no_dash b plain) refl
value_passes Batch Carriers rows p v takes plain = absurd takes
value_passes Batch Upto rows p v takes plain = absurd takes

pub joined_passes : (c : CommandName) (m : Name) (rows : List Row) (pending : Pending) (p : ℕ) (v : List ℕ) → Takes c m
    → Passes c rows pending
    → has_row (name_of m) (rows_at c rows pending) ≡ false
    → turn_passes (shape c) [] (at rows pending p idle) (joined (name_of m) v) ≡ true
unfolding clap_on_literals
joined_passes Solve Budget rows pending p v takes passes new = simp (passes, new) refl
joined_passes Solve Workers rows pending p v takes passes new = simp (passes, new) refl
joined_passes Solve Carriers rows pending p v takes passes new = absurd takes
joined_passes Solve Upto rows pending p v takes passes new = absurd takes
joined_passes Check m rows pending p v takes passes new = absurd takes
joined_passes Run Budget rows pending p v takes passes new = absurd takes
joined_passes Run Workers rows pending p v takes passes new = absurd takes
joined_passes Run Carriers rows pending p v takes passes new = simp (passes, new) refl
joined_passes Run Upto rows pending p v takes passes new = absurd takes
joined_passes Chart m rows pending p v takes passes new = absurd takes
joined_passes Drill m rows pending p v takes passes new = absurd takes
joined_passes Sweep Budget rows pending p v takes passes new = simp (passes, new) refl
joined_passes Sweep Workers rows pending p v takes passes new = simp (passes, new) refl
joined_passes Sweep Carriers rows pending p v takes passes new = absurd takes
joined_passes Sweep Upto rows pending p v takes passes new = simp (passes, new) refl
joined_passes Margin m rows pending p v takes passes new = absurd takes
joined_passes Follow m rows pending p v takes passes new = absurd takes
joined_passes Batch Budget rows pending p v takes passes new = simp (passes, new) refl
joined_passes Batch Workers rows pending p v takes passes new = simp (passes, new) refl
joined_passes Batch Carriers rows pending p v takes passes new = absurd takes
joined_passes Batch Upto rows pending p v takes passes new = absurd takes

first_passes : (c : CommandName) (rows : List Row) (pending : Pending) (w : List ℕ) → IsFileName w
    → Passes c rows pending
    → turn_passes (shape c) [] (at rows pending 1 idle) w ≡ true
unfolding clap_on_literals
first_passes c rows pending [] plain passes = absurd plain
first_passes Solve rows pending (b ∷ bs) plain passes = simp (no_dash b plain, passes, and_false) refl
first_passes Check rows pending (b ∷ bs) plain passes = simp (no_dash b plain, passes, and_false) refl
first_passes Run rows pending (b ∷ bs) plain passes = simp (no_dash b plain, passes, and_false) refl
first_passes Chart rows pending (b ∷ bs) plain passes = simp (no_dash b plain, passes, and_false) refl
first_passes Drill rows pending (b ∷ bs) plain passes = simp (no_dash b plain, passes, and_false) refl
first_passes Sweep rows pending (b ∷ bs) plain passes = simp (no_dash b plain, passes, and_false) refl
first_passes Margin rows pending (b ∷ bs) plain passes = simp (no_dash b plain, passes, and_false) refl
first_passes Follow rows pending (b ∷ bs) plain passes = simp (no_dash b plain, passes, and_false) refl
first_passes Batch rows pending (b ∷ bs) plain passes = simp (no_dash b plain, passes, and_false) refl

second_passes : (c : CommandName) (rows : List Row) (pending : Pending) (w : List ℕ) → HasSecond c → IsFileName w
    → Passes c rows pending
    → turn_passes (shape c) [] (at rows pending 2 idle) w ≡ true
unfolding clap_on_literals
second_passes c rows pending [] second plain passes = absurd plain
second_passes Solve rows pending (b ∷ bs) second plain passes = absurd (omega (arith, second))
second_passes Check rows pending (b ∷ bs) second plain passes = simp (no_dash b plain, passes, and_false) refl
second_passes Run rows pending (b ∷ bs) second plain passes = simp (no_dash b plain, passes, and_false) refl
second_passes Chart rows pending (b ∷ bs) second plain passes = simp (no_dash b plain, passes, and_false) refl
second_passes Drill rows pending (b ∷ bs) second plain passes = absurd (omega (arith, second))
second_passes Sweep rows pending (b ∷ bs) second plain passes = absurd (omega (arith, second))
second_passes Margin rows pending (b ∷ bs) second plain passes = simp (no_dash b plain, passes, and_false) refl
second_passes Follow rows pending (b ∷ bs) second plain passes = simp (no_dash b plain, passes, and_false) refl
second_passes Batch rows pending (b ∷ bs) second plain passes = absurd (omega (arith, second))

-- what is pending is taken

pending_first : (c : CommandName) (rows : List Row) (w : List ℕ) → has_row (codes "first") rows ≡ false
    → Passes c rows (Some (codes "first", w ∷ []))
unfolding clap_on_literals
pending_first Solve rows w new = simp (new) refl
pending_first Check rows w new = simp (new) refl
pending_first Run rows w new = simp (new) refl
pending_first Chart rows w new = simp (new) refl
pending_first Drill rows w new = simp (new) refl
pending_first Sweep rows w new = simp (new) refl
pending_first Margin rows w new = simp (new) refl
pending_first Follow rows w new = simp (new) refl
pending_first Batch rows w new = simp (new) refl

pending_second : (c : CommandName) (rows : List Row) (w : List ℕ) → HasSecond c → has_row (codes "second") rows ≡ false
    → Passes c rows (Some (codes "second", w ∷ []))
unfolding clap_on_literals
pending_second Solve rows w second new = absurd (omega (arith, second))
pending_second Check rows w second new = simp (new) refl
pending_second Run rows w second new = simp (new) refl
pending_second Chart rows w second new = simp (new) refl
pending_second Drill rows w second new = absurd (omega (arith, second))
pending_second Sweep rows w second new = absurd (omega (arith, second))
pending_second Margin rows w second new = simp (new) refl
pending_second Follow rows w second new = simp (new) refl
pending_second Batch rows w second new = absurd (omega (arith, second))

pub pending_file : (c : CommandName) (p : ℕ) (rows : List Row) (w : List ℕ) → IsPlace c p
    → has_row (id_at p) rows ≡ false
    → Passes c rows (Some (id_at p, w ∷ []))
pending_file c p rows w (inl place) new =
    subst (λ q. has_row (id_at q) rows ≡ false → Passes c rows (Some (id_at q, w ∷ []))) (sym place) (pending_first c rows w) new
pending_file c p rows w (inr (place, second)) new =
    subst (λ q. has_row (id_at q) rows ≡ false → Passes c rows (Some (id_at q, w ∷ []))) (sym place) (pending_second c rows w second) new

pub pending_option : (c : CommandName) (m : Name) (rows : List Row) (v : List ℕ) → Takes c m
    → has_row (name_of m) rows ≡ false
    → Passes c rows (Some (name_of m, v ∷ []))
unfolding clap_on_literals
pending_option Solve Budget rows v takes new = simp (new) refl
pending_option Solve Workers rows v takes new = simp (new) refl
pending_option Solve Carriers rows v takes new = absurd takes
pending_option Solve Upto rows v takes new = absurd takes
pending_option Check m rows v takes new = absurd takes
pending_option Run Budget rows v takes new = absurd takes
pending_option Run Workers rows v takes new = absurd takes
pending_option Run Carriers rows v takes new = simp (new) refl
pending_option Run Upto rows v takes new = absurd takes
pending_option Chart m rows v takes new = absurd takes
pending_option Drill m rows v takes new = absurd takes
pending_option Sweep Budget rows v takes new = simp (new) refl
pending_option Sweep Workers rows v takes new = simp (new) refl
pending_option Sweep Carriers rows v takes new = absurd takes
pending_option Sweep Upto rows v takes new = simp (new) refl
pending_option Margin m rows v takes new = absurd takes
pending_option Follow m rows v takes new = absurd takes
pending_option Batch Budget rows v takes new = simp (new) refl
pending_option Batch Workers rows v takes new = simp (new) refl
pending_option Batch Carriers rows v takes new = absurd takes
pending_option Batch Upto rows v takes new = absurd takes

-- the row of a word

abbrev pub said : List ℕ → List ℕ → Row
said id v = record { id = id; values = v ∷ []; count = None; source = Some CommandLine; reading = reading_by (option_row Budget) }

new_row : (id : List ℕ) (change : Row → List Row) (missing rows : List Row) → has_row id rows ≡ false
    → at_row id change missing rows ≡ rows ++ missing
new_row id change missing [] new = refl
new_row id change missing (r ∷ rows) new = go (bytes_eq r.id id) new (new_row id change missing rows)
  where
    go : (b : Bool) → (b || has_row id rows) ≡ false
        → (has_row id rows ≡ false → at_row id change missing rows ≡ rows ++ missing)
        → (if b then change r ++ rows else r ∷ at_row id change missing rows) ≡ r ∷ (rows ++ missing)
    go true new next = absurd cc
    go false new next = ap (λ x. r ∷ x) (next new)

with_new : (id v : List ℕ) (rows : List Row) (how : Reading) → has_row id rows ≡ false
    → with_values id how CommandLine (v ∷ []) (without id rows)
    ≡ rows ++ (record { id = id; values = v ∷ []; count = None; source = Some CommandLine; reading = how } ∷ [])
with_new id v rows how new =
    let kept : without id rows ≡ rows = new_row id (λ _. []) [] rows new ∙ append-nil rows in
    ap (with_values id how CommandLine (v ∷ [])) kept ∙ new_row id (more_values CommandLine (v ∷ [])) _ rows new

pub used_option : (m : Name) (v : List ℕ) (rows : List Row) → has_row (name_of m) rows ≡ false
    → used (option_row m) (v ∷ []) rows ≡ rows ++ said (name_of m) v ∷ []
used_option Budget v rows new = with_new (codes "budget") v rows _ new
used_option Workers v rows new = with_new (codes "workers") v rows _ new
used_option Carriers v rows new = with_new (codes "carriers") v rows _ new
used_option Upto v rows new = with_new (codes "upto") v rows _ new

pub rows_option : (c : CommandName) (m : Name) (v : List ℕ) (rows : List Row) → Takes c m
    → has_row (name_of m) rows ≡ false
    → rows_at c rows (Some (name_of m, v ∷ [])) ≡ rows ++ said (name_of m) v ∷ []
rows_option Solve Budget v rows takes new = used_option Budget v rows new
rows_option Solve Workers v rows takes new = used_option Workers v rows new
rows_option Solve Carriers v rows takes new = absurd takes
rows_option Solve Upto v rows takes new = absurd takes
rows_option Check m v rows takes new = absurd takes
rows_option Run Budget v rows takes new = absurd takes
rows_option Run Workers v rows takes new = absurd takes
rows_option Run Carriers v rows takes new = used_option Carriers v rows new
rows_option Run Upto v rows takes new = absurd takes
rows_option Chart m v rows takes new = absurd takes
rows_option Drill m v rows takes new = absurd takes
rows_option Sweep Budget v rows takes new = used_option Budget v rows new
rows_option Sweep Workers v rows takes new = used_option Workers v rows new
rows_option Sweep Carriers v rows takes new = absurd takes
rows_option Sweep Upto v rows takes new = used_option Upto v rows new
rows_option Margin m v rows takes new = absurd takes
rows_option Follow m v rows takes new = absurd takes
rows_option Batch Budget v rows takes new = used_option Budget v rows new
rows_option Batch Workers v rows takes new = used_option Workers v rows new
rows_option Batch Carriers v rows takes new = absurd takes
rows_option Batch Upto v rows takes new = absurd takes

rows_first : (c : CommandName) (w : List ℕ) (rows : List Row) → has_row (codes "first") rows ≡ false
    → rows_at c rows (Some (codes "first", w ∷ [])) ≡ rows ++ said (codes "first") w ∷ []
rows_first Solve w rows new = with_new (codes "first") w rows _ new
rows_first Check w rows new = with_new (codes "first") w rows _ new
rows_first Run w rows new = with_new (codes "first") w rows _ new
rows_first Chart w rows new = with_new (codes "first") w rows _ new
rows_first Drill w rows new = with_new (codes "first") w rows _ new
rows_first Sweep w rows new = with_new (codes "first") w rows _ new
rows_first Margin w rows new = with_new (codes "first") w rows _ new
rows_first Follow w rows new = with_new (codes "first") w rows _ new
rows_first Batch w rows new = with_new (codes "first") w rows _ new

rows_second : (c : CommandName) (w : List ℕ) (rows : List Row) → HasSecond c → has_row (codes "second") rows ≡ false
    → rows_at c rows (Some (codes "second", w ∷ [])) ≡ rows ++ said (codes "second") w ∷ []
rows_second Solve w rows second new = absurd (omega (arith, second))
rows_second Check w rows second new = with_new (codes "second") w rows _ new
rows_second Run w rows second new = with_new (codes "second") w rows _ new
rows_second Chart w rows second new = with_new (codes "second") w rows _ new
rows_second Drill w rows second new = absurd (omega (arith, second))
rows_second Sweep w rows second new = absurd (omega (arith, second))
rows_second Margin w rows second new = with_new (codes "second") w rows _ new
rows_second Follow w rows second new = with_new (codes "second") w rows _ new
rows_second Batch w rows second new = absurd (omega (arith, second))

pub rows_file : (c : CommandName) (p : ℕ) (w : List ℕ) (rows : List Row) → IsPlace c p → has_row (id_at p) rows ≡ false
    → rows_at c rows (Some (id_at p, w ∷ [])) ≡ rows ++ said (id_at p) w ∷ []
rows_file c p w rows (inl place) new =
    subst (λ q. has_row (id_at q) rows ≡ false → rows_at c rows (Some (id_at q, w ∷ [])) ≡ rows ++ said (id_at q) w ∷ []) (sym place)
    (rows_first c w rows) new
rows_file c p w rows (inr (place, second)) new =
    subst (λ q. has_row (id_at q) rows ≡ false → rows_at c rows (Some (id_at q, w ∷ [])) ≡ rows ++ said (id_at q) w ∷ []) (sym place)
    (rows_second c w rows second) new

pub reads_file : (c : CommandName) (p : ℕ) (rows : List Row) (pending : Pending) (w : List ℕ) → IsPlace c p
    → IsFileName w
    → walked (rules c) [] (at rows pending p idle) w ≡ at (rows_at c rows pending) (Some (id_at p, w ∷ [])) (suc p) idle
reads_file c p rows pending w (inl place) plain =
    subst (λ q. walked (rules c) [] (at rows pending q idle) w ≡ at (rows_at c rows pending) (Some (id_at q, w ∷ [])) (suc q) idle) (sym place)
    (reads_first c rows pending w plain)
reads_file c p rows pending w (inr (place, second)) plain =
    subst (λ q. walked (rules c) [] (at rows pending q idle) w ≡ at (rows_at c rows pending) (Some (id_at q, w ∷ [])) (suc q) idle) (sym place)
    (reads_second c rows pending w second plain)

pub file_passes : (c : CommandName) (p : ℕ) (rows : List Row) (pending : Pending) (w : List ℕ) → IsPlace c p
    → IsFileName w → Passes c rows pending
    → turn_passes (shape c) [] (at rows pending p idle) w ≡ true
file_passes c p rows pending w (inl place) plain passes =
    subst (λ q. turn_passes (shape c) [] (at rows pending q idle) w ≡ true) (sym place) (first_passes c rows pending w plain passes)
file_passes c p rows pending w (inr (place, second)) plain passes =
    subst (λ q. turn_passes (shape c) [] (at rows pending q idle) w ≡ true) (sym place) (second_passes c rows pending w second plain passes)

-- the rows of items, of which the first file has this position
abbrev pub said_rows : List Item → ℕ → List Row
said_rows [] p = []
said_rows (File w ∷ items) p = said (id_at p) w ∷ said_rows items (suc p)
said_rows (Given name v ∷ items) p = said name v ∷ said_rows items p

-- the items have places, and nothing is said twice
abbrev pub AreNew : CommandName → List Item → ℕ → List Row → Type 0
AreNew c [] p rows = Unit {0}
AreNew c (File w ∷ items) p rows = IsPlace c p × (has_row (id_at p) rows ≡ false) × AreNew c items (suc p) (rows ++ said (id_at p) w ∷ [])
AreNew c (Given name v ∷ items) p rows =
    ((m : Name) × (name ≡ name_of m) × Takes c m) × IsFileName v × (has_row name rows ≡ false) × AreNew c items p (rows ++ said name v ∷ [])
