-- The text of a line file is read as its line.
use Rattle.std.proofs.Common.{◌≡◌, ◌∙◌, ℕ, zero, suc, ◌+◌, ◌<◌, ◌≤◌, true, false, List, [], ◌∷◌, ◌++◌, map, length, get_or, refl, sym, ap, arith, Option, Some, None, IfSome}
use Rattle.std.specs.List.{flat_map, range_with_len, AllByRecursion}
use Rattle.std.specs.Str.{IsAscii}
use Rattle.std.proofs.lemmas.Str.{IsAscii-append, IsUtf8-from_ascii}
use Rattle.std.proofs.lemmas.List.Elements.{Contains-get_or}
use Rattle.toml.specs.Tables.{no_nodes, close}
use Rattle.toml.specs.Parse.{skip_bom, lines}
use Rattle.toml.specs.Text.{IsLinesText}
use Rattle.toml.proofs.Turns.{document_some}
use Rattle.toml.proofs.Lines.{IsLinesText-append}
use Rattle.toml.proofs.ReadLines.{AllPrinted, read_lines}
use Rattle.hoist_base.specs.LineData.{LineData, stage, tank, no_tank, is_single}
use Rattle.hoist_base.specs.Valid.{IsLine}
use Rattle.line_text.specs.declared.fields.Field.TheVariants as fields
use Rattle.line_text.specs.File.{line_of, why_of, IsLineFile}
use Rattle.line_text.specs.Written.{Pair, root_pairs, tank_pairs, tank_name, greatest_pairs, stage_pairs, pair_text, tank_text, stage_text, line_file_text, WrittenLinesAreRead}
use Rattle.line_text.proofs.Documents.{line_files_are_read}
use Rattle.hoist_base.proofs.FlawLemmas.{name_bytes}
use Rattle.line_text.proofs.WrittenLines.{IsNameText, AllStand, pair_expression, pair_lines, table_lines, lines_joined, pairs_printed, table_printed, all_printed, printed_joined, pairs_ascii, table_ascii, ascii_joined}
use Rattle.line_text.proofs.WrittenNodes.{tank_expressions, stage_expressions, file_expressions, by_form, document_made}
use Rattle.line_text.proofs.WrittenTables.{at_first, at_last, inner_at, describes, nothing_wrong, version_within}

-- ---- what holds of each

all_from : {X : Type 0} (P : X → Type 0) (d : X) (xs : List X) → ((i : ℕ) → i < length xs → P (get_or xs i d))
    → AllByRecursion P xs
all_from P d [] each = tt
all_from P d (x ∷ xs) each = (each 0 (omega arith), all_from P d xs (λ i there. each (suc i) (omega arith)))

all_mapped : {X Y : Type 0} (P : Y → Type 0) (f : X → Y) (d : X) (xs : List X)
    → ((i : ℕ) → i < length xs → P (f (get_or xs i d))) → AllByRecursion P (map f xs)
all_mapped P f d [] each = tt
all_mapped P f d (x ∷ xs) each = (each 0 (omega arith), all_mapped P f d xs (λ i there. each (suc i) (omega arith)))

all_in_range : (P : ℕ → Type 0) (n a : ℕ) → ((k : ℕ) → a ≤ k → k < a + n → P k) → AllByRecursion P (range_with_len a n)
all_in_range P zero a each = tt
all_in_range P (suc n) a each = (each a (omega arith) (omega arith), all_in_range P n (a + 1) (λ k low high. each k (omega arith) (omega arith)))

-- ---- what a line writes can stand in a file

greatest_stands : (greatest : Option ℕ) (rest : List Pair) → IfSome greatest (λ m. m ≤ 20000) → AllStand rest
    → AllStand (greatest_pairs greatest ++ rest)
greatest_stands None rest small stand = stand
greatest_stands (Some m) rest small stand = (omega (arith, small), stand)

module _ (l : LineData) (valid : IsLine l) where
  root_stands : AllStand (root_pairs l)
  root_stands =
      let limits = valid.limits in (
        omega (arith, (version_within (is_single l)).1),
        (
          omega (arith, limits.track.1),
          (
            omega (arith, limits.gap.1),
            (
              omega (arith, limits.hoists.1),
              (
                omega (arith, limits.degree.1),
                (
                  omega (arith, limits.max_period.1),
                  (omega (arith, limits.load), (omega (arith, limits.unload), tt)),
                ),
              ),
            ),
          ),
        ),
      )

  name_stands : (i : ℕ) → i < length l.tanks → IsNameText (tank_name l i)
  name_stands i there = name_bytes (tank_name l i) (valid.tanks.names i there)

  tank_stands : (i : ℕ) → i < length l.tanks → AllStand (tank_pairs (tank l i))
  tank_stands i there = (name_stands i there, (omega (arith, valid.tanks.on_track i there, valid.limits.track.1), tt))

  only_stands : (k : ℕ) → k < length l.stages → IsNameText (tank_name l (get_or (stage l k).tanks 0 0))
  only_stands k there =
      let tanks = (stage l k).tanks in
      let some = (valid.stages.count k there).0 in
      name_stands (get_or tanks 0 0) (valid.stages.there k (get_or tanks 0 0) (Contains-get_or tanks 0 0 (omega arith)))

  all_stand : (k : ℕ) → AllByRecursion IsNameText (map (tank_name l) (stage l k).tanks)
  all_stand k =
      let tanks = (stage l k).tanks in
      all_mapped IsNameText (tank_name l) 0 tanks (λ j there. name_stands (get_or tanks j 0)
      (valid.stages.there k (get_or tanks j 0) (Contains-get_or tanks j 0 there)))

  small_greatest : (greatest : Option ℕ) → IfSome greatest (λ m. (1 ≤ m) × (m ≤ 20000))
      → IfSome greatest (λ m. m ≤ 20000)
  small_greatest None h = tt
  small_greatest (Some m) h = h.1

  stage_stands : (k : ℕ) → k < length l.stages → AllStand (stage_pairs l k)
  stage_stands k there =
      let s = stage l k in
      by_form l k AllStand
      (λ first. (only_stands k there, (omega (arith, (at_first l valid k first).lift.1), tt)))
      (λ later last. (only_stands k there, (omega (arith, (at_last l valid k later last).lower.1), tt)))
      (λ later inner single.
      let facts = inner_at l valid k there later inner in (
        only_stands k there,
        (
          omega (arith, facts.least.1),
          greatest_stands s.max _ (small_greatest s.max facts.greatest)
              (omega (arith, facts.lift.1), (omega (arith, facts.lower.1), tt)),
        ),
      ))
      (λ later inner several.
      let facts = inner_at l valid k there later inner in (
        all_stand k,
        (
          omega (arith, facts.least.1),
          greatest_stands s.max _ (small_greatest s.max facts.greatest)
              (omega (arith, facts.lift.1), (omega (arith, facts.lower.1), tt)),
        ),
      ))

  -- ---- the text as lines

  file_lines : IsLinesText false false (file_expressions l) (line_file_text l)
  unfolding line_file_text
  file_lines =
      let stages = range_with_len 0 (length l.stages) in
      let tank_lines = lines_joined tank_text tank_expressions l.tanks
      (all_from (λ t. IsLinesText false true (tank_expressions t) (tank_text t)) no_tank l.tanks
      (λ i there. table_lines fields.Tank (tank_pairs (tank l i)) (tank_stands i there))) in
      let stage_lines = lines_joined (stage_text l) (stage_expressions l) stages
      (all_in_range (λ k. IsLinesText false true (stage_expressions l k) (stage_text l k)) (length l.stages) 0
      (λ k low there. table_lines fields.Stage (stage_pairs l k) (stage_stands k (omega arith)))) in
      IsLinesText-append false false (map pair_expression (root_pairs l))
      (flat_map tank_expressions l.tanks ++ flat_map (stage_expressions l) stages)
      (flat_map pair_text (root_pairs l))
      (flat_map tank_text l.tanks ++ flat_map (stage_text l) stages) (pair_lines false (root_pairs l) root_stands)
      (IsLinesText-append false true (flat_map tank_expressions l.tanks) (flat_map (stage_expressions l) stages)
      (flat_map tank_text l.tanks) (flat_map (stage_text l) stages) tank_lines stage_lines)

  file_printed : AllPrinted (file_expressions l)
  file_printed =
      let stages = range_with_len 0 (length l.stages) in
      all_printed (map pair_expression (root_pairs l)) (flat_map tank_expressions l.tanks
      ++ flat_map (stage_expressions l) stages) (pairs_printed (root_pairs l))
      (all_printed (flat_map tank_expressions l.tanks) (flat_map (stage_expressions l) stages)
      (printed_joined tank_expressions l.tanks (λ t. table_printed fields.Tank (tank_pairs t)))
      (printed_joined (stage_expressions l) stages (λ k. table_printed fields.Stage (stage_pairs l k))))

  file_ascii : IsAscii (line_file_text l)
  unfolding line_file_text
  file_ascii =
      let stages = range_with_len 0 (length l.stages) in
      IsAscii-append (flat_map pair_text (root_pairs l)) (flat_map tank_text l.tanks ++ flat_map (stage_text l) stages) (pairs_ascii (root_pairs l) root_stands)
      (IsAscii-append (flat_map tank_text l.tanks) (flat_map (stage_text l) stages)
      (ascii_joined tank_text l.tanks (all_from (λ t. IsAscii (tank_text t)) no_tank l.tanks
      (λ i there. table_ascii fields.Tank (tank_pairs (tank l i)) (tank_stands i there))))
      (ascii_joined (stage_text l) stages (all_in_range (λ k. IsAscii (stage_text l k)) (length l.stages) 0
      (λ k low there. table_ascii fields.Stage (stage_pairs l k) (stage_stands k (omega arith))))))

  no_mark : skip_bom (line_file_text l) ≡ line_file_text l
  unfolding line_file_text skip_bom
  no_mark = refl

  -- ---- and back

  is_file : IsLineFile (line_file_text l) l
  is_file =
      let text = line_file_text l in
      let (doc, ran, made) = document_made l (omega (arith, valid.limits.tanks.0)) (omega (arith, valid.limits.stages.0)) in
      let read = read_lines false false (file_expressions l) text text (no_nodes, []) (suc (length text)) file_lines file_printed refl (omega arith) in
      let parsed = document_some text doc (ap (λ t. lines (suc (length text)) (no_nodes, []) t) no_mark ∙ read ∙ ran) in
      let fine = nothing_wrong l valid made.tanks made.stages made.tank_tables made.stage_tables in
      let described = describes l valid made.tanks made.stages made.tank_tables made.stage_tables in
      (close doc.0, (IsUtf8-from_ascii text file_ascii, parsed), ap why_of made.root ∙ fine, sym (ap line_of made.root ∙ described))

pub written_lines_are_read : WrittenLinesAreRead
written_lines_are_read l valid = (line_files_are_read (line_file_text l) l).1 (is_file l valid)
