-- What the lines of a line file make, read one after another.
use Rattle.std.proofs.Common.{◌≡◌, ◌≢◌, ◌∙◌, inl, inr, zero, ◌≤◌, get_or, append_assoc, append-nil, arith, ℕ, suc, ◌+◌, ◌==◌, true, false, List, [], ◌∷◌, ◌++◌, map, length, codes, refl, sym, ap, pos, Option, Some, None, option_and_then}
use Rattle.std.specs.List.{flat_map, range_with_len}
use Rattle.std.proofs.lemmas.Bool.{cases_Bool, eqb-true, eq-eqb, false≢true}
use Rattle.toml.specs.Data.{Data, string, integer, array, table, Items, no_items, item, push_item, no_members, member}
use Rattle.toml.specs.Tables.{Node, Nodes, no_nodes, node, value, open_array, insert, close, Expression, Document, at_key, along_dots, along_header, define}
use Rattle.toml.proofs.ReadLines.{run}
use Rattle.toml.proofs.Fill.{run-append}
use Rattle.hoist_base.specs.declared.tank.Tank.{Tank}
use Rattle.hoist_base.specs.declared.stage.Stage.{Stage}
use Rattle.hoist_base.specs.LineData.{LineData, stage, is_single}
use Rattle.line_text.specs.declared.fields.Field.TheVariants as fields
use Rattle.line_text.specs.Fields.{name_of}
use Rattle.line_text.specs.Values.{list_of}
use Rattle.line_text.specs.Written.{Pair, one_number, one_name, several_names, version_of, root_pairs, tank_pairs, tank_name, only_tank, all_tanks, greatest_pairs, window_pairs, stage_pairs}
use Rattle.line_text.proofs.WrittenLines.{data_of, pair_expression, table_expressions}

-- ---- the root, with what stands in it for the tanks and the stages

abbrev pub front : LineData → Nodes → Nodes
front l ns =
    node (codes "degree") (value (integer (pos l.degree)))
    (node (codes "gap") (value (integer (pos l.gap)))
    (node (codes "hoists") (value (integer (pos l.hoists)))
    (node (codes "load") (value (integer (pos l.load)))
    (node (codes "max_period") (value (integer (pos l.max_period))) ns))))

abbrev pub back : LineData → Nodes
back l =
    node (codes "track") (value (integer (pos l.track)))
    (node (codes "unload") (value (integer (pos l.unload)))
    (node (codes "version") (value (integer (pos (version_of l)))) no_nodes))

abbrev pub with_tanks : LineData → Node → Nodes
with_tanks l tanks = front l (node (codes "tank") tanks (back l))

abbrev pub with_stages : LineData → Node → Node → Nodes
with_stages l tanks stages = front l (node (codes "stage") stages (node (codes "tank") tanks (back l)))

root_made : (l : LineData) → run (no_nodes, []) (map pair_expression (root_pairs l)) ≡ Some (front l (back l), [])
unfolding at_key along_dots along_header define
root_made l = refl

-- ---- tanks

abbrev pub tank_expressions : Tank → List Expression
tank_expressions t = table_expressions fields.Tank (tank_pairs t)

abbrev pub tank_nodes : Tank → Nodes
tank_nodes t = node (codes "at") (value (integer (pos t.at))) (node (codes "name") (value (string t.name)) no_nodes)

first_tank : (l : LineData) (t : Tank) (s : List (List ℕ))
    → run (front l (back l), s) (tank_expressions t) ≡ Some (with_tanks l (open_array no_items (tank_nodes t)), codes "tank" ∷ [])
unfolding at_key along_dots along_header define
first_tank l t s = refl

next_tank : (l : LineData) (t : Tank) (done : Items) (last : Nodes) (s : List (List ℕ))
    → run (with_tanks l (open_array done last), s) (tank_expressions t)
    ≡ Some (with_tanks l (open_array (push_item done (table (close last))) (tank_nodes t)), codes "tank" ∷ [])
unfolding at_key along_dots along_header define
next_tank l t done last s = refl

-- ---- the keys of a stage by its place

abbrev pub first_form : LineData → Stage → List Pair
first_form l s = only_tank l s ∷ (fields.Lift, one_number s.lift) ∷ []

abbrev pub last_form : LineData → Stage → List Pair
last_form l s = only_tank l s ∷ (fields.Lower, one_number s.lower) ∷ []

abbrev pub inner_form : Pair → ℕ → Option ℕ → ℕ → ℕ → List Pair
inner_form tank least greatest lift lower =
    tank ∷ (fields.Min, one_number least) ∷ (greatest_pairs greatest ++ ((fields.Lift, one_number lift) ∷ (fields.Lower, one_number lower) ∷ []))

differ : (a b : ℕ) → (a == b) ≡ false → a ≢ b
differ a b h same = false≢true (sym h ∙ eq-eqb a b same)

-- what holds of each form holds of the keys of a stage
pub by_form : (l : LineData) (k : ℕ) (P : List Pair → Type 0) → (k ≡ 0 → P (first_form l (stage l k)))
    → (k ≢ 0 → k + 1 ≡ length l.stages → P (last_form l (stage l k)))
    → (k ≢ 0 → k + 1 ≢ length l.stages → is_single l ≡ true → P (only_tank l (stage l k) ∷ window_pairs (stage l k)))
    → (k ≢ 0 → k + 1 ≢ length l.stages → is_single l ≡ false → P (all_tanks l (stage l k) ∷ window_pairs (stage l k)))
    → P (stage_pairs l k)
by_form l k P first last one several =
    elim (cases_Bool (k == 0)) [
      | inl at_first ↦ rw at_first (first (eqb-true k 0 at_first))
      | inr later ↦ elim (cases_Bool (k + 1 == length l.stages)) [
        | inl at_last ↦ rw (later, at_last) (last (differ k 0 later) (eqb-true (k + 1) (length l.stages) at_last))
        | inr inner ↦ elim (cases_Bool (is_single l)) [
          | inl single ↦ rw (later, inner, single) (one (differ k 0 later) (differ (k + 1) (length l.stages) inner) single)
          | inr not_single ↦ rw (later, inner, not_single) (several (differ k 0 later) (differ (k + 1) (length l.stages) inner) not_single)
        ]
      ]
    ]

-- ---- stages

-- the nodes of pairs, at their places in the order of the keys
abbrev pub filled : Nodes → List Pair → Nodes
filled ns [] = ns
filled ns (p ∷ pairs) = filled (insert (name_of p.0) (value (data_of p.1)) ns) pairs

-- the table of pairs
abbrev pub pairs_table : List Pair → Data
pairs_table pairs = table (close (filled no_nodes pairs))

abbrev pub stage_nodes : LineData → ℕ → Nodes
stage_nodes l k = filled no_nodes (stage_pairs l k)

abbrev pub stage_expressions : LineData → ℕ → List Expression
stage_expressions l k = table_expressions fields.Stage (stage_pairs l k)

first_stage : (l : LineData) (tanks : Node) (st : Stage) (s : List (List ℕ))
    → run (with_tanks l tanks, s) (table_expressions fields.Stage (first_form l st))
    ≡ Some (with_stages l tanks (open_array no_items (filled no_nodes (first_form l st))), codes "stage" ∷ [])
unfolding at_key along_dots along_header define
first_stage l tanks st s = refl

-- a stage behind others adds its table
abbrev Adds : LineData → Node → Items → Nodes → List (List ℕ) → List Pair → Type 0
Adds l tanks done last s pairs =
    run (with_stages l tanks (open_array done last), s) (table_expressions fields.Stage pairs)
    ≡ Some (with_stages l tanks (open_array (push_item done (table (close last))) (filled no_nodes pairs)), codes "stage" ∷ [])

adds_first : (l : LineData) (tanks : Node) (done : Items) (last : Nodes) (s : List (List ℕ)) (st : Stage)
    → Adds l tanks done last s (first_form l st)
unfolding at_key along_dots along_header define
adds_first l tanks done last s st = refl

adds_last : (l : LineData) (tanks : Node) (done : Items) (last : Nodes) (s : List (List ℕ)) (st : Stage)
    → Adds l tanks done last s (last_form l st)
unfolding at_key along_dots along_header define
adds_last l tanks done last s st = refl

adds_one : (l : LineData) (tanks : Node) (done : Items) (last : Nodes) (s : List (List ℕ)) (name : List ℕ) (least : ℕ) (greatest : Option ℕ) (lift lower : ℕ)
    → Adds l tanks done last s (inner_form (fields.Tank, one_name name) least greatest lift lower)
unfolding at_key along_dots along_header define
adds_one l tanks done last s name least None lift lower = refl
adds_one l tanks done last s name least (Some greatest) lift lower = refl

adds_several : (l : LineData) (tanks : Node) (done : Items) (last : Nodes) (s : List (List ℕ)) (names : List (List ℕ))
    (least : ℕ) (greatest : Option ℕ) (lift lower : ℕ)
    → Adds l tanks done last s (inner_form (fields.Tanks, several_names names) least greatest lift lower)
unfolding at_key along_dots along_header define
adds_several l tanks done last s names least None lift lower = refl
adds_several l tanks done last s names least (Some greatest) lift lower = refl

next_stage : (l : LineData) (tanks : Node) (done : Items) (last : Nodes) (s : List (List ℕ)) (k : ℕ)
    → Adds l tanks done last s (stage_pairs l k)
next_stage l tanks done last s k =
    let st = stage l k in
    by_form l k (Adds l tanks done last s)
    (λ first. adds_first l tanks done last s st)
    (λ later at_last. adds_last l tanks done last s st)
    (λ later inner single. adds_one l tanks done last s (tank_name l (get_or st.tanks 0 0)) st.min st.max st.lift st.lower)
    (λ later inner several. adds_several l tanks done last s (map (tank_name l) st.tanks) st.min st.max st.lift st.lower)

-- ---- one table after another

list_push : (ds : Items) (d : Data) → list_of (push_item ds d) ≡ list_of ds ++ d ∷ []
list_push no_items d = refl
list_push (item e ds) d = ap (λ (xs : List Data). e ∷ xs) (list_push ds d)

-- the tables that stand in an open array
abbrev pub tables_of : Items → Nodes → List Data
tables_of done last = list_of (push_item done (table (close last)))

-- some lines lead from a document to one with an open array of these tables
abbrev pub LeadsTo : Document → List Expression → (Node → Nodes) → List Data → Type 0
LeadsTo doc es root tables =
    (done : Items) × (last : Nodes) × (s : List (List ℕ)) × (run doc es ≡ Some (root (open_array done last), s)) × (tables_of done last ≡ tables)

run_on : {X : Type 0} (root : Node → Nodes) (expressions : X → List Expression) (nodes : X → Nodes)
    → ((x : X) (done : Items) (last : Nodes) (s : List (List ℕ)) → (t : List (List ℕ))
    × (run (root (open_array done last), s) (expressions x)
    ≡ Some (root (open_array (push_item done (table (close last))) (nodes x)), t)))
    → (xs : List X) (done : Items) (last : Nodes) (s : List (List ℕ))
    → LeadsTo (root (open_array done last), s) (flat_map expressions xs) root (tables_of done last ++ map (λ x. table (close (nodes x))) xs)
run_on root expressions nodes step [] done last s = (done, last, s, refl, sym (append-nil (tables_of done last)))
run_on root expressions nodes step (x ∷ xs) done last s =
    let (t, made) = step x done last s in
    let items = push_item done (table (close last)) in
    let (d, n, u, ran, tables) = run_on root expressions nodes step xs items (nodes x) t in
    let all = map (λ y. table (close (nodes y))) xs in (
      d,
      n,
      u,
      run-append (root (open_array done last), s) (expressions x) (flat_map expressions xs)
          ∙ ap (option_and_then (λ doc. run doc (flat_map expressions xs))) made ∙ ran,
      tables ∙ ap (λ (ts : List Data). ts ++ all) (list_push items (table (close (nodes x)))) ∙ append_assoc (list_of items) (table (close (nodes x)) ∷ []) all,
    )

-- a document, some lines, and others
then_run : (doc mid : Document) (es fs : List Expression) (o : Option Document) → run doc es ≡ Some mid → run mid fs ≡ o
    → run doc (es ++ fs) ≡ o
then_run doc mid es fs o before after = run-append doc es fs ∙ ap (option_and_then (λ d. run d fs)) before ∙ after

tanks_made : (l : LineData) (tanks : List Tank) (s : List (List ℕ)) → 1 ≤ length tanks
    → LeadsTo (front l (back l), s) (flat_map tank_expressions tanks) (with_tanks l) (map (λ t. table (close (tank_nodes t))) tanks)
tanks_made l [] s some = absurd (omega arith)
tanks_made l (t ∷ tanks) s some =
    let (d, n, u, ran, tables) = run_on (with_tanks l) tank_expressions tank_nodes
    (λ x done last v. (codes "tank" ∷ [], next_tank l x done last v)) tanks no_items (tank_nodes t)
    (codes "tank" ∷ []) in
    (d, n, u, then_run (front l (back l), s) _ (tank_expressions t) (flat_map tank_expressions tanks) _ (first_tank l t s) ran, tables)

abbrev pub stage_table : LineData → ℕ → Data
stage_table l k = table (close (stage_nodes l k))

stages_made : (l : LineData) (tanks : Node) (count : ℕ) (s : List (List ℕ)) → 1 ≤ count
    → LeadsTo (with_tanks l tanks, s) (flat_map (stage_expressions l) (range_with_len 0 count)) (with_stages l tanks)
    (map (stage_table l) (range_with_len 0 count))
stages_made l tanks zero s some = absurd (omega arith)
stages_made l tanks (suc count) s some =
    let later = range_with_len 1 count in
    let (d, n, u, ran, tables) = run_on (with_stages l tanks) (stage_expressions l) (stage_nodes l)
    (λ k done last v. (codes "stage" ∷ [], next_stage l tanks done last v k)) later no_items (stage_nodes l 0) (codes "stage" ∷ []) in (
      d,
      n,
      u,
      then_run (with_tanks l tanks, s) _ (stage_expressions l 0) (flat_map (stage_expressions l) later) _
          (first_stage l tanks (stage l 0) s) ran,
      tables,
    )

-- ---- the whole

abbrev pub file_expressions : LineData → List Expression
file_expressions l = map pair_expression (root_pairs l) ++ (flat_map tank_expressions l.tanks
    ++ flat_map (stage_expressions l) (range_with_len 0 (length l.stages)))

abbrev pub tank_table : Tank → Data
tank_table t = table (close (tank_nodes t))

-- the root of a line, with the arrays that stand at its tanks and its stages
abbrev pub root_table : LineData → Items → Items → Data
root_table l tanks stages =
    table (
    member (codes "degree") (integer (pos l.degree))
    (member (codes "gap") (integer (pos l.gap))
    (member (codes "hoists") (integer (pos l.hoists))
    (member (codes "load") (integer (pos l.load))
    (member (codes "max_period") (integer (pos l.max_period))
    (member (codes "stage") (array stages)
    (member (codes "tank") (array tanks)
    (member (codes "track") (integer (pos l.track))
    (member (codes "unload") (integer (pos l.unload))
    (member (codes "version") (integer (pos (version_of l))) no_members))))))))))

-- the document is a root of the line with the tables of its tanks and of its stages
pub record IsMade (l : LineData) (doc : Document) : Type 0 where
  pub tanks : Items
  pub stages : Items
  pub root : table (close doc.0) ≡ root_table l tanks stages
  pub tank_tables : list_of tanks ≡ map tank_table l.tanks
  pub stage_tables : list_of stages ≡ map (stage_table l) (range_with_len 0 (length l.stages))

pub document_made : (l : LineData) → 1 ≤ length l.tanks → 1 ≤ length l.stages
    → (doc : Document) × (run (no_nodes, []) (file_expressions l) ≡ Some doc) × IsMade l doc
document_made l tanks stages =
    let (d, n, u, ran, tank_tables) = tanks_made l l.tanks [] tanks in
    let (e, m, v, ran_on, stage_tables) = stages_made l (open_array d n) (length l.stages) u stages in
    let made = then_run (front l (back l), []) _ (flat_map tank_expressions l.tanks)
    (flat_map (stage_expressions l) (range_with_len 0 (length l.stages))) _ ran ran_on in (
      (with_stages l (open_array d n) (open_array e m), v),
      then_run (no_nodes, []) _ (map pair_expression (root_pairs l)) _ _ (root_made l) made,
      record {
        tanks = push_item d (table (close n));
        stages = push_item e (table (close m));
        root = refl;
        tank_tables = tank_tables;
        stage_tables = stage_tables;
      },
    )
