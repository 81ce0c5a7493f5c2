-- The tables of a written line file keep the rules of tables, and describe the line.
use Rattle.std.proofs.Common.{◌≡◌, ◌≢◌, ◌∙◌, ℕ, suc, ◌+◌, ◌-◌, ◌<◌, ◌≤◌, ◌==◌, Bool, true, false, if◌then◌else◌, List, [], ◌∷◌, map, length, get_or, refl, sym, ap, subst, arith, inl, inr, Option, Some, None, IfSome}
use Rattle.std.specs.List.{list_all, filter_map, range_with_len}
use Rattle.std.specs.Option.{option_map, option_or}
use Rattle.std.specs.Str.{bytes_eq}
use Rattle.std.proofs.lemmas.Bool.{cases_Bool, eq-eqb}
use Rattle.std.proofs.lemmas.Bool.Decides.{nat_tests}
use Rattle.std.proofs.lemmas.List.{get_or-map, length-map}
use Rattle.std.proofs.lemmas.List.FromFn.{get_or-map-range_with_len, length-map-range_with_len}
use Rattle.std.proofs.lemmas.List.Sums.{position_or_len_is}
use Rattle.std.proofs.lemmas.List.Elements.{Contains-get_or}
use Rattle.std.proofs.lemmas.Slice.Eq.{bytes_eq-Decides}
use Rattle.toml.specs.Data.{Data, string, Items, as_str}
use Rattle.toml.specs.View.{items_of}
use Rattle.hoist_base.specs.declared.tank.Tank.{Tank}
use Rattle.hoist_base.specs.declared.stage.Stage.{Stage}
use Rattle.hoist_base.specs.LineData.{LineData, stage, tank, no_tank, no_stage, last_stage, IsStep, is_single}
use Rattle.hoist_base.specs.Valid.{IsLine}
use Rattle.line_text.specs.declared.fields.Field.TheVariants as fields
use Rattle.line_text.specs.declared.why.Place.{Place}
use Rattle.line_text.specs.declared.why.Place.TheVariants as places
use Rattle.line_text.specs.Fields.{root_rules, tank_rules, stage_rules, first_stage_rules, single_stage_rules, inner_stage_rules, last_stage_rules}
use Rattle.line_text.specs.Values.{list_of, number_at}
use Rattle.line_text.specs.Tables.{table_why, is_table, is_text}
use Rattle.line_text.specs.Flaws.{flaw_why, parts_why}
use Rattle.line_text.specs.File.{no_value, tank_of, number_of, stage_of, line_of, root_why, tank_why, stage_why, tanks_why, stages_why, tables_why, why_of}
use Rattle.line_text.specs.Written.{one_name, several_names, version_of, tank_name, only_tank, all_tanks, window_pairs}
use Rattle.hoist_base.proofs.Firsts.{both_none, none_everywhere}
use Rattle.line_text.proofs.Meets.{table_none, natural_small}
use Rattle.hoist_base.proofs.FlawLemmas.{no_flaw}
use Rattle.hoist_base.proofs.SingleLemmas.{test_single}
use Rattle.line_text.proofs.WrittenNodes.{tank_table, stage_table, root_table, pairs_table, by_form, first_form, last_form, inner_form}

-- ---- lists read back

-- what is undone item by item
all_back : {X Y : Type 0} (f : X → Y) (g : Y → X) (d : X) (xs : List X)
    → ((i : ℕ) → i < length xs → g (f (get_or xs i d)) ≡ get_or xs i d) → map g (map f xs) ≡ xs
all_back f g d [] each = refl
all_back f g d (x ∷ xs) each =
    ap (λ y. y ∷ map g (map f xs)) (each 0 (omega arith)) ∙ ap (λ ys. x ∷ ys) (all_back f g d xs (λ i there. each (suc i) (omega arith)))

-- the items of a list by their numbers
each_back : {X Y : Type 0} (f : ℕ → Y) (g : Y → X) (d : X) (xs : List X) (a : ℕ)
    → ((i : ℕ) → i < length xs → g (f (a + i)) ≡ get_or xs i d)
    → map g (map f (range_with_len a (length xs))) ≡ xs
each_back f g d [] a each = refl
each_back f g d (x ∷ xs) a each =
    let here : a + 0 ≡ a = omega arith in
    ap (λ y. y ∷ map g (map f (range_with_len (a + 1) (length xs)))) (sym (ap (λ n. g (f n)) here) ∙ each 0 (omega arith))
    ∙ ap (λ ys. x ∷ ys) (each_back f g d xs (a + 1) (λ i there. let next : a + 1 + i ≡ a + suc i = omega arith in ap
    (λ n. g (f n)) next ∙ each (suc i) (omega arith)))

-- ---- tanks

module _ (l : LineData) (valid : IsLine l) where
  tank_back : (i : ℕ) → i < length l.tanks → tank_of (tank_table (tank l i)) ≡ tank l i
  tank_back i there =
      let on_track = valid.tanks.on_track i there in
      let short = valid.limits.track.1 in
      ap (λ n. record { name = (tank l i).name; at = n }) (natural_small (tank l i).at (omega arith))

  tanks_back : map tank_of (map tank_table l.tanks) ≡ l.tanks
  tanks_back = all_back tank_table tank_of no_tank l.tanks tank_back

  -- a tank is found by its name
  number_is : (i : ℕ) → i < length l.tanks → number_of l.tanks (tank_name l i) ≡ i
  number_is i there =
      position_or_len_is (λ (t : Tank). bytes_eq (tank_name l i) t.name) l.tanks i no_tank (omega arith)
      (λ k below. other (tank_name l i) (tank_name l k) (λ same. valid.tanks.names_differ k i below there (sym same)))
      (λ lt. (bytes_eq-Decides (tank_name l i) (tank_name l i)).1 refl)
    where
      other : (a b : List ℕ) → a ≢ b → bytes_eq a b ≡ false
      other a b differ =
          elim (cases_Bool (bytes_eq a b)) [
            | inl same ↦ absurd (differ ((bytes_eq-Decides a b).0 same))
            | inr apart ↦ apart
          ]

  numbers_back : (k : ℕ) → map (number_of l.tanks) (map (tank_name l) (stage l k).tanks) ≡ (stage l k).tanks
  numbers_back k =
      let tanks = (stage l k).tanks in
      all_back (tank_name l) (number_of l.tanks) 0 tanks (λ j there. number_is (get_or tanks j 0)
      (valid.stages.there k (get_or tanks j 0) (Contains-get_or tanks j 0 there)))

  only_back : (k : ℕ) → length (stage l k).tanks ≡ 1
      → number_of l.tanks (tank_name l (get_or (stage l k).tanks 0 0)) ∷ [] ≡ (stage l k).tanks
  only_back k one =
      let tanks = (stage l k).tanks in
      let here = valid.stages.there k (get_or tanks 0 0) (Contains-get_or tanks 0 0 (omega arith)) in
      ap (λ i. i ∷ []) (number_is (get_or tanks 0 0) here) ∙ alone tanks one
    where
      alone : (xs : List ℕ) → length xs ≡ 1 → get_or xs 0 0 ∷ [] ≡ xs
      alone [] h = absurd (omega arith)
      alone (x ∷ []) h = refl
      alone (x ∷ y ∷ xs) h = absurd (omega arith)

-- ---- what a valid line says of its stages, by their places

pub record AtFirst (s : Stage) : Type 0 where
  pub one_tank : length s.tanks ≡ 1
  pub no_least : s.min ≡ 0
  pub no_greatest : s.max ≡ None
  pub no_lower : s.lower ≡ 0
  pub lift : (1 ≤ s.lift) × (s.lift ≤ 500)

pub record AtLast (s : Stage) : Type 0 where
  pub one_tank : length s.tanks ≡ 1
  pub no_least : s.min ≡ 0
  pub no_greatest : s.max ≡ None
  pub no_lift : s.lift ≡ 0
  pub lower : (1 ≤ s.lower) × (s.lower ≤ 500)

pub record IsInner (s : Stage) : Type 0 where
  pub least : (1 ≤ s.min) × (s.min ≤ 20000)
  pub greatest : IfSome s.max (λ m. (1 ≤ m) × (m ≤ 20000))
  pub lift : (1 ≤ s.lift) × (s.lift ≤ 500)
  pub lower : (1 ≤ s.lower) × (s.lower ≤ 500)

some_greatest : (greatest : Option ℕ) (least : ℕ) → 1 ≤ least → IfSome greatest (λ m. (least ≤ m) × (m ≤ 20000))
    → IfSome greatest (λ m. (1 ≤ m) × (m ≤ 20000))
some_greatest None least some h = tt
some_greatest (Some m) least some h = (omega (arith, h.0), h.1)

module _ (l : LineData) (valid : IsLine l) where
  pub at_first : (k : ℕ) → k ≡ 0 → AtFirst (stage l k)
  at_first k first =
      let end = valid.times.first in
      let stages = valid.limits.stages.0 in
      subst (λ i. AtFirst (stage l i)) (sym first) (record {
        one_tank = end.one_tank;
        no_least = end.no_least;
        no_greatest = end.no_greatest;
        no_lower = valid.times.no_lower;
        lift = valid.times.lift 0 (omega arith);
      })

  lower_at : (k : ℕ) → k ≢ 0 → k < length l.stages → (1 ≤ (stage l k).lower) × ((stage l k).lower ≤ 500)
  lower_at k later there =
      let before : k - 1 + 1 ≡ k = omega arith in
      subst (λ i. (1 ≤ (stage l i).lower) × ((stage l i).lower ≤ 500)) before (valid.times.lower (k - 1) (omega arith))

  pub at_last : (k : ℕ) → k ≢ 0 → k + 1 ≡ length l.stages → AtLast (stage l k)
  at_last k later last =
      let end : last_stage l ≡ k = omega arith in
      let lower = lower_at k later (omega arith) in
      let facts = valid.times.last in
      record {
        one_tank = subst (λ i. length (stage l i).tanks ≡ 1) end facts.one_tank;
        no_least = subst (λ i. (stage l i).min ≡ 0) end facts.no_least;
        no_greatest = subst (λ i. (stage l i).max ≡ None) end facts.no_greatest;
        no_lift = subst (λ i. (stage l i).lift ≡ 0) end valid.times.no_lift;
        lower = lower;
      }

  pub inner_at : (k : ℕ) → k < length l.stages → k ≢ 0 → k + 1 ≢ length l.stages → IsInner (stage l k)
  inner_at k there later inner =
      let before : k - 1 + 1 ≡ k = omega arith in
      let step : IsStep l (k - 1 + 1) = omega arith in
      record {
        least = subst (λ i. (1 ≤ (stage l i).min) × ((stage l i).min ≤ 20000)) before (valid.times.least (k - 1) step);
        greatest = subst (λ i. IfSome (stage l i).max (λ m. (1 ≤ m) × (m ≤ 20000))) before
            (some_greatest (stage l (k - 1 + 1)).max (stage l (k - 1 + 1)).min (valid.times.least (k - 1) step).0 (valid.times.greatest (k - 1) step));
        lift = valid.times.lift k (omega arith);
        lower = lower_at k later there;
      }

-- ---- stages read back

-- a stage by its parts
with_parts : (s : Stage) (tanks : List ℕ) (least : ℕ) (greatest : Option ℕ) (lift lower : ℕ) → tanks ≡ s.tanks
    → least ≡ s.min → greatest ≡ s.max → lift ≡ s.lift → lower ≡ s.lower
    → record { tanks = tanks; min = least; max = greatest; lift = lift; lower = lower } ≡ s
with_parts s tanks least greatest lift lower a b c d e = rw (a, b, c, d, e)

texts_back : (names : List (List ℕ)) → filter_map as_str (list_of (items_of (map string names))) ≡ names
texts_back [] = refl
texts_back (name ∷ names) = ap (λ ns. name ∷ ns) (texts_back names)

one_back : (tanks : List Tank) (s : Stage) (name : List ℕ) (greatest : Option ℕ) → IsInner s
    → IfSome greatest (λ m. (1 ≤ m) × (m ≤ 20000)) → greatest ≡ s.max → number_of tanks name ∷ [] ≡ s.tanks
    → stage_of tanks (pairs_table (inner_form (fields.Tank, one_name name) s.min greatest s.lift s.lower)) ≡ s
one_back tanks s name None inner small same named =
    with_parts s _ _ _ _ _ named (natural_small s.min (omega (arith, inner.least.1))) same
    (natural_small s.lift (omega (arith, inner.lift.1))) (natural_small s.lower (omega (arith, inner.lower.1)))
one_back tanks s name (Some m) inner small same named =
    with_parts s _ _ _ _ _ named (natural_small s.min (omega (arith, inner.least.1))) (ap Some (natural_small m (omega (arith, small.1))) ∙ same)
    (natural_small s.lift (omega (arith, inner.lift.1))) (natural_small s.lower (omega (arith, inner.lower.1)))

several_back : (tanks : List Tank) (s : Stage) (names : List (List ℕ)) (greatest : Option ℕ) → IsInner s
    → IfSome greatest (λ m. (1 ≤ m) × (m ≤ 20000)) → greatest ≡ s.max
    → map (number_of tanks) names ≡ s.tanks
    → stage_of tanks (pairs_table (inner_form (fields.Tanks, several_names names) s.min greatest s.lift s.lower)) ≡ s
several_back tanks s names None inner small same named =
    with_parts s _ _ _ _ _ (ap (λ ns. map (number_of tanks) ns) (texts_back names) ∙ named) (natural_small s.min (omega (arith, inner.least.1))) same
    (natural_small s.lift (omega (arith, inner.lift.1))) (natural_small s.lower (omega (arith, inner.lower.1)))
several_back tanks s names (Some m) inner small same named =
    with_parts s _ _ _ _ _ (ap (λ ns. map (number_of tanks) ns) (texts_back names) ∙ named) (natural_small s.min (omega (arith, inner.least.1)))
    (ap Some (natural_small m (omega (arith, small.1))) ∙ same) (natural_small s.lift (omega (arith, inner.lift.1)))
    (natural_small s.lower (omega (arith, inner.lower.1)))

module _ (l : LineData) (valid : IsLine l) where
  stage_back : (k : ℕ) → k < length l.stages → stage_of l.tanks (stage_table l k) ≡ stage l k
  stage_back k there =
      let s = stage l k in
      by_form l k (λ pairs. stage_of l.tanks (pairs_table pairs) ≡ s)
      (λ first.
      let facts = at_first l valid k first in
      with_parts s _ _ _ _ _ (only_back l valid k facts.one_tank) (sym facts.no_least) (sym facts.no_greatest)
      (natural_small s.lift (omega (arith, facts.lift.1))) (sym facts.no_lower))
      (λ later last.
      let facts = at_last l valid k later last in
      with_parts s _ _ _ _ _ (only_back l valid k facts.one_tank) (sym facts.no_least) (sym facts.no_greatest)
      (sym facts.no_lift) (natural_small s.lower (omega (arith, facts.lower.1))))
      (λ later inner single.
      let facts = inner_at l valid k there later inner in
      one_back l.tanks s (tank_name l (get_or s.tanks 0 0)) s.max facts facts.greatest refl (only_back l valid k (test_single l single k there)))
      (λ later inner several.
      let facts = inner_at l valid k there later inner in
      several_back l.tanks s (map (tank_name l) s.tanks) s.max facts facts.greatest refl (numbers_back l valid k))

  stages_back : map (stage_of l.tanks) (map (stage_table l) (range_with_len 0 (length l.stages))) ≡ l.stages
  stages_back = each_back (stage_table l) (stage_of l.tanks) no_stage l.stages 0 (λ i there. let same : 0 + i ≡ i = omega arith in
      ap (λ n. stage_of l.tanks (stage_table l n)) same ∙ stage_back i there)

-- ---- no table is refused

all_tables : (f : ℕ → Data) (ks : List ℕ) → ((k : ℕ) → is_table (f k) ≡ true) → list_all is_table (map f ks) ≡ true
all_tables f [] each = refl
all_tables f (k ∷ ks) each = rw (each k, all_tables f ks each)

all_tank_tables : (tanks : List Tank) → list_all is_table (map tank_table tanks) ≡ true
all_tank_tables [] = refl
all_tank_tables (t ∷ tanks) = all_tank_tables tanks

all_names : (names : List (List ℕ)) → list_all is_text (list_of (items_of (map string names))) ≡ true
all_names [] = refl
all_names (name ∷ names) = all_names names

count_names : (names : List (List ℕ)) → length (list_of (items_of (map string names))) ≡ length names
count_names [] = refl
count_names (name ∷ names) = ap (λ n. suc n) (count_names names)

tank_none : (place : Place) (track : ℕ) (t : Tank) → t.at ≤ track
    → table_why place (tank_rules track) (tank_table t) ≡ None
tank_none place track t on_track = table_none place (tank_rules track) (tank_table t) ((t.name, refl), ((t.at, refl, omega arith, on_track), tt)) refl

first_none : (l : LineData) (place : Place) (s : Stage) → AtFirst s
    → table_why place first_stage_rules (pairs_table (first_form l s)) ≡ None
first_none l place s facts =
    table_none place first_stage_rules (pairs_table (first_form l s))
    ((tank_name l (get_or s.tanks 0 0), refl), ((s.lift, refl, facts.lift.0, facts.lift.1), tt)) refl

last_none : (l : LineData) (place : Place) (s : Stage) → AtLast s
    → table_why place last_stage_rules (pairs_table (last_form l s)) ≡ None
last_none l place s facts =
    table_none place last_stage_rules (pairs_table (last_form l s))
    ((tank_name l (get_or s.tanks 0 0), refl), ((s.lower, refl, facts.lower.0, facts.lower.1), tt)) refl

one_none : (place : Place) (s : Stage) (name : List ℕ) (greatest : Option ℕ) → IsInner s
    → IfSome greatest (λ m. (1 ≤ m) × (m ≤ 20000))
    → table_why place single_stage_rules (pairs_table (inner_form (fields.Tank, one_name name) s.min greatest s.lift s.lower)) ≡ None
one_none place s name None facts small =
    table_none place single_stage_rules (pairs_table (inner_form (fields.Tank, one_name name) s.min None s.lift s.lower)) (
      (name, refl),
      (
        (s.min, refl, facts.least.0, facts.least.1),
        (refl, ((s.lift, refl, facts.lift.0, facts.lift.1), ((s.lower, refl, facts.lower.0, facts.lower.1), tt))),
      ),
    ) refl
one_none place s name (Some m) facts small =
    table_none place single_stage_rules (pairs_table (inner_form (fields.Tank, one_name name) s.min (Some m) s.lift s.lower)) (
      (name, refl),
      (
        (s.min, refl, facts.least.0, facts.least.1),
        (
          (m, refl, small.0, small.1),
          (
            (s.lift, refl, facts.lift.0, facts.lift.1),
            ((s.lower, refl, facts.lower.0, facts.lower.1), tt),
          ),
        ),
      ),
    ) refl

several_none : (place : Place) (s : Stage) (names : List (List ℕ)) (greatest : Option ℕ) → IsInner s
    → IfSome greatest (λ m. (1 ≤ m) × (m ≤ 20000))
    → (1 ≤ length names) × (length names ≤ 4)
    → table_why place inner_stage_rules (pairs_table (inner_form (fields.Tanks, several_names names) s.min greatest s.lift s.lower)) ≡ None
several_none place s names None facts small few =
    let counted = count_names names in
    table_none place inner_stage_rules (pairs_table (inner_form (fields.Tanks, several_names names) s.min None s.lift s.lower)) (
      (items_of (map string names), refl, all_names names, omega arith, omega arith),
      ((s.min, refl, facts.least.0, facts.least.1), (refl, ((s.lift, refl, facts.lift.0, facts.lift.1), ((s.lower, refl, facts.lower.0, facts.lower.1), tt)))),
    ) refl
several_none place s names (Some m) facts small few =
    let counted = count_names names in
    table_none place inner_stage_rules (pairs_table (inner_form (fields.Tanks, several_names names) s.min (Some m) s.lift s.lower)) (
      (items_of (map string names), refl, all_names names, omega arith, omega arith),
      (
        (s.min, refl, facts.least.0, facts.least.1),
        (
          (m, refl, small.0, small.1),
          ((s.lift, refl, facts.lift.0, facts.lift.1), ((s.lower, refl, facts.lower.0, facts.lower.1), tt)),
        ),
      ),
    ) refl

unequal : (a b : ℕ) → a ≢ b → (a == b) ≡ false
unequal a b h = grind (arith, nat_tests)

first_rules : (version count k : ℕ) → k ≡ 0 → stage_rules version count k ≡ first_stage_rules
first_rules version count k first = rw (eq-eqb k 0 first)

last_rules : (version count k : ℕ) → k ≢ 0 → k + 1 ≡ count → stage_rules version count k ≡ last_stage_rules
last_rules version count k later last = rw (unequal k 0 later, eq-eqb (k + 1) count last)

one_rules : (l : LineData) (count k : ℕ) → k ≢ 0 → k + 1 ≢ count → is_single l ≡ true
    → stage_rules (version_of l) count k ≡ single_stage_rules
one_rules l count k later inner single = rw (unequal k 0 later, unequal (k + 1) count inner, single)

several_rules : (l : LineData) (count k : ℕ) → k ≢ 0 → k + 1 ≢ count → is_single l ≡ false
    → stage_rules (version_of l) count k ≡ inner_stage_rules
several_rules l count k later inner several = rw (unequal k 0 later, unequal (k + 1) count inner, several)

module _ (l : LineData) (valid : IsLine l) where
  stage_none : (place : Place) (k : ℕ) → k < length l.stages
      → table_why place (stage_rules (version_of l) (length l.stages) k) (stage_table l k) ≡ None
  stage_none place k there =
      let s = stage l k in
      let rules = stage_rules (version_of l) (length l.stages) k in
      let counted = length-map s.tanks (tank_name l) in
      let few = valid.stages.count k there in
      by_form l k (λ pairs. table_why place rules (pairs_table pairs) ≡ None)
      (λ first. ap (λ rs. table_why place rs (pairs_table (first_form l s)))
      (first_rules (version_of l) (length l.stages) k first) ∙ first_none l place s (at_first l valid k first))
      (λ later last. ap (λ rs. table_why place rs (pairs_table (last_form l s))) (last_rules (version_of l) (length l.stages) k later last)
      ∙ last_none l place s (at_last l valid k later last))
      (λ later inner single.
      let facts = inner_at l valid k there later inner in
      ap (λ rs. table_why place rs (pairs_table (only_tank l s ∷ window_pairs s))) (one_rules l (length l.stages) k later inner single)
      ∙ one_none place s (tank_name l (get_or s.tanks 0 0)) s.max facts facts.greatest)
      (λ later inner several.
      let facts = inner_at l valid k there later inner in
      ap (λ rs. table_why place rs (pairs_table (all_tanks l s ∷ window_pairs s))) (several_rules l (length l.stages) k later inner several)
      ∙ several_none place s (map (tank_name l) s.tanks) s.max facts facts.greatest (omega arith, omega arith))

pub version_within : (single : Bool) → (1 ≤ (if single then 1 else 2)) × ((if single then 1 else 2) ≤ 2)
version_within true = (omega arith, omega arith)
version_within false = (omega arith, omega arith)

-- ---- the root

module _ (l : LineData) (valid : IsLine l) (tanks stages : Items) (tank_tables : list_of tanks ≡ map tank_table l.tanks)
    (stage_tables : list_of stages ≡ map (stage_table l) (range_with_len 0 (length l.stages))) where
  tank_count : length (list_of tanks) ≡ length l.tanks
  tank_count = ap (λ (ds : List Data). length ds) tank_tables ∙ length-map l.tanks tank_table

  stage_count : length (list_of stages) ≡ length l.stages
  stage_count = ap (λ (ds : List Data). length ds) stage_tables ∙ length-map-range_with_len (stage_table l) 0 (length l.stages)

  root_none : root_why (root_table l tanks stages) ≡ None
  root_none =
      let limits = valid.limits in
      let version = version_within (is_single l) in
      let tanks_are : list_all is_table (list_of tanks) ≡ true = rw tank_tables (all_tank_tables l.tanks) in
      let stages_are : list_all is_table (list_of stages) ≡ true = rw stage_tables
      (all_tables (stage_table l) (range_with_len 0 (length l.stages)) (λ k. refl)) in
      table_none places.Root root_rules (root_table l tanks stages) (
        (version_of l, refl, version.0, version.1),
        (
          (l.track, refl, limits.track.0, limits.track.1),
          (
            (l.gap, refl, limits.gap.0, limits.gap.1),
            (
              (l.hoists, refl, limits.hoists.0, limits.hoists.1),
              (
                (l.degree, refl, limits.degree.0, limits.degree.1),
                (
                  (l.max_period, refl, limits.max_period.0, limits.max_period.1),
                  (
                    (l.load, refl, omega arith, limits.load),
                    (
                      (l.unload, refl, omega arith, limits.unload),
                      (
                        (tanks, refl, tanks_are, omega (arith, tank_count, limits.tanks.0), omega (arith, tank_count, limits.tanks.1)),
                        ((stages, refl, stages_are, omega (arith, stage_count, limits.stages.0), omega (arith, stage_count, limits.stages.1)), tt),
                      ),
                    ),
                  ),
                ),
              ),
            ),
          ),
        ),
      ) refl

  track_is : number_at (root_table l tanks stages) fields.Track ≡ l.track
  track_is = natural_small l.track (omega (arith, valid.limits.track.1))

  version_is : number_at (root_table l tanks stages) fields.Version ≡ version_of l
  version_is = natural_small (version_of l) (omega (arith, (version_within (is_single l)).1))

  tank_at : (i : ℕ) → i < length l.tanks → get_or (list_of tanks) i no_value ≡ tank_table (tank l i)
  tank_at i there = ap (λ (ds : List Data). get_or ds i no_value) tank_tables ∙ get_or-map tank_table l.tanks i no_tank no_value there

  stage_at : (k : ℕ) → k < length l.stages → get_or (list_of stages) k no_value ≡ stage_table l k
  stage_at k there = ap (λ (ds : List Data). get_or ds k no_value) stage_tables
      ∙ get_or-map-range_with_len (stage_table l) 0 (length l.stages) k k no_value there (omega arith)

  tanks_none : tanks_why (root_table l tanks stages) ≡ None
  tanks_none =
      none_everywhere (tank_why (number_at (root_table l tanks stages) fields.Track) (list_of tanks)) 0 (length (list_of tanks)) (λ i low high.
      let there : i < length l.tanks = omega (arith, tank_count) in
      ap (λ track. table_why (places.Tank i) (tank_rules track) (get_or (list_of tanks) i no_value)) track_is
      ∙ ap (λ t. table_why (places.Tank i) (tank_rules l.track) t) (tank_at i there)
      ∙ tank_none (places.Tank i) l.track (tank l i) (valid.tanks.on_track i there))

  stages_none : stages_why (root_table l tanks stages) ≡ None
  stages_none =
      none_everywhere (stage_why (number_at (root_table l tanks stages) fields.Version) (list_of stages)) 0 (length (list_of stages)) (λ k low high.
      let there : k < length l.stages = omega (arith, stage_count) in
      ap (λ version. table_why (places.Stage k) (stage_rules version (length (list_of stages)) k) (get_or (list_of stages) k no_value)) version_is
      ∙ ap (λ count. table_why (places.Stage k) (stage_rules (version_of l) count k) (get_or (list_of stages) k no_value)) stage_count
      ∙ ap (λ t. table_why (places.Stage k) (stage_rules (version_of l) (length l.stages) k) t) (stage_at k there)
      ∙ stage_none l valid (places.Stage k) k there)

  tables_none : tables_why (root_table l tanks stages) ≡ None
  tables_none =
      let root = root_table l tanks stages in
      both_none (root_why root) (option_or (tanks_why root) (stages_why root)) root_none (both_none (tanks_why root) (stages_why root) tanks_none stages_none)

  -- ---- the line that it describes

  tanks_described : map tank_of (list_of tanks) ≡ l.tanks
  tanks_described = ap (map tank_of) tank_tables ∙ tanks_back l valid

  stages_described : map (stage_of (map tank_of (list_of tanks))) (list_of stages) ≡ l.stages
  stages_described =
      ap (λ (ts : List Tank). map (stage_of ts) (list_of stages)) tanks_described ∙ ap (map (stage_of l.tanks)) stage_tables ∙ stages_back l valid

  line_with : (track gap hoists degree max_period load unload : ℕ) (ts : List Tank) (ss : List Stage) → track ≡ l.track
      → gap ≡ l.gap → hoists ≡ l.hoists → degree ≡ l.degree
      → max_period ≡ l.max_period → load ≡ l.load → unload ≡ l.unload → ts ≡ l.tanks → ss ≡ l.stages
      → record {
        track = track;
        gap = gap;
        hoists = hoists;
        degree = degree;
        max_period = max_period;
        load = load;
        unload = unload;
        tanks = ts;
        stages = ss;
      } ≡ l
  line_with track gap hoists degree max_period load unload ts ss a b c d e f g h i = rw (a, b, c, d, e, f, g, h, i)

  pub describes : line_of (root_table l tanks stages) ≡ l
  describes =
      let limits = valid.limits in
      line_with _ _ _ _ _ _ _ _ _ track_is (natural_small l.gap (omega (arith, limits.gap.1))) (natural_small l.hoists (omega (arith, limits.hoists.1)))
      (natural_small l.degree (omega (arith, limits.degree.1)))
      (natural_small l.max_period (omega (arith, limits.max_period.1)))
      (natural_small l.load (omega (arith, limits.load)))
      (natural_small l.unload (omega (arith, limits.unload))) tanks_described stages_described

  pub nothing_wrong : why_of (root_table l tanks stages) ≡ None
  nothing_wrong =
      let root = root_table l tanks stages in
      both_none (tables_why root) (parts_why (line_of root)) tables_none (ap parts_why describes ∙ ap (option_map flaw_why) (no_flaw l valid))
