-- A file with nothing wrong describes a valid line.
use Rattle.std.proofs.Common.{◌≡◌, ◌≢◌, ◌∙◌, ◌+◌, ◌-◌, ◌<◌, ◌≤◌, ◌==◌, ℕ, Bool, true, false, List, length, get_or, map, refl, ap, sym, Some, None, IfSome, if◌then◌else◌, arith, inl, inr}
use Rattle.std.specs.List.{filter_map}
use Rattle.std.specs.Option.{option_or}
use Rattle.std.proofs.lemmas.Bool.{eq-eqb}
use Rattle.std.proofs.lemmas.Bool.Decides.{nat_tests}
use Rattle.std.proofs.lemmas.List.{get_or-map, length-map}
use Rattle.toml.specs.Data.{Data, as_str}
use Rattle.toml.specs.View.{view}
use Rattle.toml.specs.declared.value.Value.{Value}
use Rattle.hoist_base.specs.declared.tank.Tank.{Tank}
use Rattle.hoist_base.specs.declared.stage.Stage.{Stage}
use Rattle.hoist_base.specs.LineData.{LineData, stage, tank, no_stage, no_tank, position_of}
use Rattle.hoist_base.specs.Limits.{max_track, max_gap, max_hoists, max_degree, period_limit, max_dwell, max_lift, max_lower, min_tanks, max_tanks, min_stages, max_stages, max_tanks_of_stage}
use Rattle.hoist_base.specs.Valid.{IsWithinLimits, IsEnd, IsLine}
use Rattle.hoist_base.specs.Flaws.{first_flaw}
use Rattle.hoist_base.specs.Ranges.{HasEnds, HasRangesAt, HasRanges}
use Rattle.hoist_base.proofs.FlawLemmas.{line_from}
use Rattle.line_text.specs.declared.fields.Field.{Field}
use Rattle.line_text.specs.declared.fields.Field.TheVariants as fields
use Rattle.line_text.specs.declared.why.Place.{Place}
use Rattle.line_text.specs.declared.why.Place.TheVariants as places
use Rattle.line_text.specs.Fields.{root_rules, tank_rules, stage_rules, first_stage_rules, single_stage_rules, inner_stage_rules, last_stage_rules}
use Rattle.line_text.specs.Values.{value_at, number_at, number_if, text_if, items_at}
use Rattle.line_text.specs.Tables.{table_why}
use Rattle.line_text.specs.File.{no_value, tank_tables, stage_tables, tank_of, number_of, stage_names, stage_of, line_of, root_why, tank_why, stage_why, tanks_why, stages_why, tables_why}
use Rattle.hoist_base.proofs.Firsts.{or_left, or_right, none_at, below_or_not}
use Rattle.line_text.proofs.Meets.{table_meets, number_meets, number_if_meets, text_meets, tables_meet, texts_meet, absent}

-- ---- the limits of the root

pub limits : (root : Data) → root_why root ≡ None → IsWithinLimits (line_of root)
limits root h =
    let m = (table_meets places.Root root_rules root h).0 in
    let tanks = tables_meet root fields.Tank min_tanks max_tanks m.1.1.1.1.1.1.1.1.0 in
    let stages = tables_meet root fields.Stage min_stages max_stages m.1.1.1.1.1.1.1.1.1.0 in
    record {
      track = number_meets root fields.Track 1 max_track (omega arith) m.1.0;
      gap = number_meets root fields.Gap 1 max_gap (omega arith) m.1.1.0;
      hoists = number_meets root fields.Hoists 1 max_hoists (omega arith) m.1.1.1.0;
      degree = number_meets root fields.Degree 1 max_degree (omega arith) m.1.1.1.1.0;
      max_period = number_meets root fields.MaxPeriod 1 period_limit (omega arith) m.1.1.1.1.1.0;
      load = (number_meets root fields.Load 0 max_dwell (omega arith) m.1.1.1.1.1.1.0).1;
      unload = (number_meets root fields.Unload 0 max_dwell (omega arith) m.1.1.1.1.1.1.1.0).1;
      tanks = simp length-map tanks;
      stages = simp length-map stages;
    }

-- ---- tanks

-- a tank of the line is that of its table
tank_is : (root : Data) (i : ℕ) → i < length (tank_tables root)
    → tank (line_of root) i ≡ tank_of (get_or (tank_tables root) i no_value)
tank_is root i h = get_or-map tank_of (tank_tables root) i no_value no_tank h

position_within : (root : Data) (i : ℕ) → number_at root fields.Track ≤ max_track → tanks_why root ≡ None
    → i < length (tank_tables root)
    → number_at (get_or (tank_tables root) i no_value) fields.At ≤ number_at root fields.Track
position_within root i small h there =
    let track = number_at root fields.Track in
    let t = get_or (tank_tables root) i no_value in
    let m = (table_meets (places.Tank i) (tank_rules track) t
    (none_at (tank_why track (tank_tables root)) 0 (length (tank_tables root)) i h (omega arith) there)).0 in
    (number_meets t fields.At 0 track (omega arith) m.1.0).1

-- ---- what the table of a stage gives

no_number : (t : Data) (f : Field) → value_at t f ≡ None → number_at t f ≡ 0
no_number t f h = rw h

no_number_if : (t : Data) (f : Field) → value_at t f ≡ None → number_if t f ≡ None
no_number_if t f h = rw h

one_name : (tanks : List Tank) (t : Data) (s : List ℕ) → text_if t fields.Tank ≡ Some s
    → length (stage_of tanks t).tanks ≡ 1
one_name tanks t s h = rw h

first_facts : (tanks : List Tank) (place : Place) (t : Data) → table_why place first_stage_rules t ≡ None
    → IsEnd (stage_of tanks t) × ((stage_of tanks t).lower ≡ 0) × ((1 ≤ (stage_of tanks t).lift) × ((stage_of tanks t).lift ≤ max_lift))
first_facts tanks place t h =
    let (m, unknown) = table_meets place first_stage_rules t h in
    let (s, text) = text_meets t fields.Tank m.0 in (
      record {
        one_tank = one_name tanks t s text;
        no_least = no_number t fields.Min (absent place first_stage_rules t fields.Min unknown refl);
        no_greatest = no_number_if t fields.Max (absent place first_stage_rules t fields.Max unknown refl);
      },
      no_number t fields.Lower (absent place first_stage_rules t fields.Lower unknown refl),
      number_meets t fields.Lift 1 max_lift (omega arith) m.1.0,
    )

last_facts : (tanks : List Tank) (place : Place) (t : Data) → table_why place last_stage_rules t ≡ None
    → IsEnd (stage_of tanks t) × ((stage_of tanks t).lift ≡ 0) × ((1 ≤ (stage_of tanks t).lower) × ((stage_of tanks t).lower ≤ max_lower))
last_facts tanks place t h =
    let (m, unknown) = table_meets place last_stage_rules t h in
    let (s, text) = text_meets t fields.Tank m.0 in (
      record {
        one_tank = one_name tanks t s text;
        no_least = no_number t fields.Min (absent place last_stage_rules t fields.Min unknown refl);
        no_greatest = no_number_if t fields.Max (absent place last_stage_rules t fields.Max unknown refl);
      },
      no_number t fields.Lift (absent place last_stage_rules t fields.Lift unknown refl),
      number_meets t fields.Lower 1 max_lower (omega arith) m.1.0,
    )

-- of an inner stage
record IsInner (s : Stage) : Type 0 where
  count : (1 ≤ length s.tanks) × (length s.tanks ≤ max_tanks_of_stage)
  least : (1 ≤ s.min) × (s.min ≤ max_dwell)
  greatest : IfSome s.max (λ m. (1 ≤ m) × (m ≤ max_dwell))
  lift : (1 ≤ s.lift) × (s.lift ≤ max_lift)
  lower : (1 ≤ s.lower) × (s.lower ≤ max_lower)

inner_facts : (tanks : List Tank) (place : Place) (t : Data) (single : Bool)
    → table_why place (if single then single_stage_rules else inner_stage_rules) t ≡ None
    → IsInner (stage_of tanks t)
inner_facts tanks place t true h =
    let (m, unknown) = table_meets place single_stage_rules t h in
    let (s, text) = text_meets t fields.Tank m.0 in
    let one = one_name tanks t s text in
    record {
      count = (omega arith, omega arith);
      least = number_meets t fields.Min 1 max_dwell (omega arith) m.1.0;
      greatest = number_if_meets t fields.Max 1 max_dwell (omega arith) m.1.1.0;
      lift = number_meets t fields.Lift 1 max_lift (omega arith) m.1.1.1.0;
      lower = number_meets t fields.Lower 1 max_lower (omega arith) m.1.1.1.1.0;
    }
inner_facts tanks place t false h =
    let (m, unknown) = table_meets place inner_stage_rules t h in
    let counted = texts_meet t fields.Tanks 1 max_tanks_of_stage m.0 in
    let names : stage_names t ≡ filter_map as_str (items_at t fields.Tanks) = rw (absent place inner_stage_rules t fields.Tank unknown refl) in
    let several : length (stage_of tanks t).tanks ≡ length (filter_map as_str (items_at t fields.Tanks))
    = length-map (stage_names t) (number_of tanks) ∙ ap (λ (xs : List (List ℕ)). length xs) names in
    record {
      count = (omega arith, omega arith);
      least = number_meets t fields.Min 1 max_dwell (omega arith) m.1.0;
      greatest = number_if_meets t fields.Max 1 max_dwell (omega arith) m.1.1.0;
      lift = number_meets t fields.Lift 1 max_lift (omega arith) m.1.1.1.0;
      lower = number_meets t fields.Lower 1 max_lower (omega arith) m.1.1.1.1.0;
    }

-- ---- the stages by number

unequal : (a b : ℕ) → a ≢ b → (a == b) ≡ false
unequal a b h = grind (arith, nat_tests)

stage_is : (root : Data) (k : ℕ) → k < length (stage_tables root)
    → stage (line_of root) k ≡ stage_of (map tank_of (tank_tables root)) (get_or (stage_tables root) k no_value)
stage_is root k h = get_or-map (stage_of (map tank_of (tank_tables root))) (stage_tables root) k no_value no_stage h

why_at : (root : Data) (k : ℕ) → stages_why root ≡ None → k < length (stage_tables root)
    → stage_why (number_at root fields.Version) (stage_tables root) k ≡ None
why_at root k h there = none_at (stage_why (number_at root fields.Version) (stage_tables root)) 0 (length (stage_tables root)) k h (omega arith) there

rules_last : (version count k : ℕ) → k ≢ 0 → k + 1 ≡ count → stage_rules version count k ≡ last_stage_rules
rules_last version count k later last = rw (unequal k 0 later, eq-eqb (k + 1) count last)

rules_inner : (version count k : ℕ) → k ≢ 0 → k + 1 ≢ count
    → stage_rules version count k ≡ (if version == 1 then single_stage_rules else inner_stage_rules)
rules_inner version count k later inner = rw (unequal k 0 later, unequal (k + 1) count inner)

module _ (root : Data) (h : stages_why root ≡ None) where
  first_at : 0 < length (stage_tables root)
      → IsEnd (stage (line_of root) 0) × ((stage (line_of root) 0).lower ≡ 0)
      × ((1 ≤ (stage (line_of root) 0).lift) × ((stage (line_of root) 0).lift ≤ max_lift))
  first_at there = rw (stage_is root 0 there) (first_facts (map tank_of (tank_tables root)) (places.Stage 0)
      (get_or (stage_tables root) 0 no_value) (why_at root 0 h there))

  last_at : (k : ℕ) → k ≢ 0 → k + 1 ≡ length (stage_tables root)
      → IsEnd (stage (line_of root) k) × ((stage (line_of root) k).lift ≡ 0)
      × ((1 ≤ (stage (line_of root) k).lower) × ((stage (line_of root) k).lower ≤ max_lower))
  last_at k later last =
      let there : k < length (stage_tables root) = omega arith in
      let t = get_or (stage_tables root) k no_value in
      let same = rules_last (number_at root fields.Version) (length (stage_tables root)) k later last in
      rw (stage_is root k there) (last_facts (map tank_of (tank_tables root)) (places.Stage k) t
      (sym (ap (λ rules. table_why (places.Stage k) rules t) same) ∙ why_at root k h there))

  inner_at : (k : ℕ) → k ≢ 0 → k + 1 < length (stage_tables root) → IsInner (stage (line_of root) k)
  inner_at k later inner =
      let there : k < length (stage_tables root) = omega arith in
      let t = get_or (stage_tables root) k no_value in
      let version = number_at root fields.Version in
      let same = rules_inner version (length (stage_tables root)) k later (omega arith) in
      rw (stage_is root k there) (inner_facts (map tank_of (tank_tables root)) (places.Stage k) t (version == 1)
      (sym (ap (λ rules. table_why (places.Stage k) rules t) same) ∙ why_at root k h there))

one_to_four : (s : Stage) → IsEnd s → (1 ≤ length s.tanks) × (length s.tanks ≤ max_tanks_of_stage)
one_to_four s h = let one = h.one_tank in (omega arith, omega arith)

tank_counts : (root : Data) → stages_why root ≡ None → 2 ≤ length (stage_tables root) → (k : ℕ)
    → k < length (stage_tables root)
    → (1 ≤ length (stage (line_of root) k).tanks) × (length (stage (line_of root) k).tanks ≤ max_tanks_of_stage)
tank_counts root h two k there =
    elim (below_or_not 0 k) [
      | inl later ↦
          elim (below_or_not (k + 1) (length (stage_tables root))) [
            | inl inner ↦ (inner_at root h k (omega arith) inner).count
            | inr last ↦ one_to_four (stage (line_of root) k) (last_at root h k (omega arith) (omega arith)).0
          ]
      | inr first ↦ let same : k ≡ 0 = omega arith in rw same (one_to_four (stage (line_of root) 0) (first_at root h (omega arith)).0)
    ]

ranges_at : (root : Data) → stages_why root ≡ None → 2 ≤ length (stage_tables root) → (k : ℕ)
    → k < length (stage_tables root)
    → HasRangesAt (line_of root) k
ranges_at root h two k there =
    let l = line_of root in
    let n = length (stage_tables root) in
    let same : length l.stages ≡ n = length-map (stage_tables root) _ in
    record {
      count = tank_counts root h two k there;
      lift = λ step.
          elim (below_or_not 0 k) [
            | inl later ↦ (inner_at root h k (omega arith) (omega arith)).lift
            | inr at_first ↦ let zero_now : k ≡ 0 = omega arith in rw zero_now (first_at root h (omega arith)).2
          ];
      lower = λ step.
          elim (below_or_not (k + 2) n) [
            | inl inner ↦ (inner_at root h (k + 1) (omega arith) (omega arith)).lower
            | inr at_last ↦ (last_at root h (k + 1) (omega arith) (omega arith)).2
          ];
      least = λ step. (inner_at root h (k + 1) (omega arith) (omega arith)).least;
      greatest = λ step. (inner_at root h (k + 1) (omega arith) (omega arith)).greatest;
    }

has_ends : (root : Data) → stages_why root ≡ None → 2 ≤ length (stage_tables root) → HasEnds (line_of root)
has_ends root h two =
    let l = line_of root in
    let same : length l.stages ≡ length (stage_tables root) = length-map (stage_tables root) _ in
    let at_first = first_at root h (omega arith) in
    let at_last = last_at root h (length l.stages - 1) (omega arith) (omega arith) in
    record { first = at_first.0; last = at_last.0; no_lower = at_first.1; no_lift = at_last.1 }

-- ---- the whole

pub root_of : (root : Data) → tables_why root ≡ None → root_why root ≡ None
root_of root h = or_left (root_why root) (option_or (tanks_why root) (stages_why root)) h

-- there are few tables of tanks and of stages
pub few_tanks : (root : Data) (vs : List Value) → root_why root ≡ None → map view vs ≡ tank_tables root
    → length vs ≤ max_tanks
few_tanks root vs h same = let few = (limits root h).tanks.1 in omega (
  arith,
  simp length-map at few,
  simp length-map at (ap (λ (xs : List Data). length xs) same),
)

pub few_stages : (root : Data) (vs : List Value) → root_why root ≡ None → map view vs ≡ stage_tables root
    → length vs ≤ max_stages
few_stages root vs h same = let few = (limits root h).stages.1 in omega (
  arith,
  simp length-map at few,
  simp length-map at (ap (λ (xs : List Data). length xs) same),
)

pub few_tables : (root : Data) → tables_why root ≡ None → length (tank_tables root) ≤ max_tanks
few_tables root h = let few = (limits root (root_of root h)).tanks.1 in simp length-map at few

pub within_limits : (root : Data) (l : LineData) → tables_why root ≡ None → l ≡ line_of root → IsWithinLimits l
within_limits root l h same = rw same (limits root (root_of root h))

-- every number of the line is in its range
has_ranges : (root : Data) → tables_why root ≡ None → HasRanges (line_of root)
has_ranges root h =
    let l = line_of root in
    let within = limits root (root_of root h) in
    let others = or_right (root_why root) (option_or (tanks_why root) (stages_why root)) h in
    let tanks_fine = or_left (tanks_why root) (stages_why root) others in
    let stages_fine = or_right (tanks_why root) (stages_why root) others in
    let tank_count : length l.tanks ≡ length (tank_tables root) = length-map (tank_tables root) tank_of in
    let stage_count : length l.stages ≡ length (stage_tables root) = length-map (stage_tables root) _ in
    let two : 2 ≤ length (stage_tables root) = omega (arith, within.stages) in
    let small = within.track.1 in
    record {
      limits = within;
      on_track = λ i there.
          let at_table : position_of l i ≡ number_at (get_or (tank_tables root) i no_value) fields.At
          = ap (λ (t : Tank). t.at) (tank_is root i (omega arith)) in
          omega (arith, position_within root i small tanks_fine (omega arith));
      ends = has_ends root stages_fine two;
      stages = λ k there. ranges_at root stages_fine two k (omega arith);
    }

valid_table : (root : Data) → tables_why root ≡ None → first_flaw (line_of root) ≡ None → IsLine (line_of root)
valid_table root h g = line_from (line_of root) (has_ranges root h) g

pub valid : (root : Data) (l : LineData) → tables_why root ≡ None → l ≡ line_of root → first_flaw l ≡ None → IsLine l
valid root l h same g = rw same (valid_table root h (rw same at g))

-- the value at a place, as the table of tanks or stages there
pub view_at : (vs : List Value) (i : ℕ) (v : Value) → i < length vs → v ≡ get_or vs i v
    → view v ≡ get_or (map view vs) i no_value
view_at vs i v h same = ap view same ∙ sym (get_or-map view vs i v no_value h)
