-- Lines for the first numbers, one after another.
use Rattle.std.proofs.Common.{◌≡◌, ℕ, ◌+◌, List, [], ◌∷◌, ◌++◌, sym, ap, ◌∙◌, append_assoc, arith}
use Rattle.std.specs.List.{flat_map, range_with_len}
use Rattle.std.proofs.lemmas.List.{map-id, append-nil}
use Rattle.std.proofs.lemmas.List.FromFn.{map-range_with_len_more}
use Rattle.std.proofs.lemmas.Grind.{flat_map-append}
use Rattle.answer_text.specs.Tables.{each_below}

range_more : (n : ℕ) → range_with_len 0 (n + 1) ≡ range_with_len 0 n ++ n ∷ []
range_more n =
    sym (map-id (range_with_len 0 (n + 1))) ∙ map-range_with_len_more (λ (x : ℕ). x) 0 n n (omega arith)
    ∙ ap (λ (xs : List ℕ). xs ++ n ∷ []) (map-id (range_with_len 0 n))

each_more : (n : ℕ) (line : ℕ → List ℕ) → each_below (n + 1) line ≡ each_below n line ++ line n
each_more n line =
    ap (flat_map line) (range_more n) ∙ flat_map-append line (range_with_len 0 n) (n ∷ [])
    ∙ ap (λ (xs : List ℕ). each_below n line ++ xs) (append-nil (line n))

-- one line more behind what was there
pub one_more : (old text new : List ℕ) (n : ℕ) (line : ℕ → List ℕ) → text ≡ old ++ each_below n line
    → new ≡ text ++ line n
    → new ≡ old ++ each_below (n + 1) line
one_more old text new n line before after =
    after ∙ ap (λ (xs : List ℕ). xs ++ line n) before ∙ append_assoc old (each_below n line) (line n)
    ∙ ap (λ (xs : List ℕ). old ++ xs) (sym (each_more n line))
