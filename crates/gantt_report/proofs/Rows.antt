-- Lines for the first numbers, one after another, and cells.
use Rattle.std.proofs.Common.{◌≡◌, ℕ, codes, decimal, ◌+◌, ◌-◌, ◌||◌, Bool, true, false, List, [], ◌∷◌, ◌++◌, map, length, replicate, refl, sym, ap, ◌∙◌, append_assoc, arith}
use Rattle.std.specs.List.{flat_map, range_with_len, list_any}
use Rattle.std.proofs.lemmas.List.{map-id, append-nil, replicate_more}
use Rattle.std.proofs.lemmas.List.Folds.{list_any-append}
use Rattle.std.proofs.lemmas.List.FromFn.{map-range_with_len_more, length-map-range_with_len}
use Rattle.hoist_base.specs.LineData.{LineData}
use Rattle.line_model.specs.Timetable.{Timetable}
use Rattle.gantt_report.specs.Places.{right_in}
use Rattle.gantt_report.specs.Chart.{cell, row_text}
use Rattle.std.proofs.lemmas.Grind.{flat_map-append}

range_more : (n : ℕ) → range_with_len 0 (n + 1) ≡ range_with_len 0 n ++ n ∷ []
range_more n =
    sym (map-id (range_with_len 0 (n + 1))) ∙ map-range_with_len_more (λ (x : ℕ). x) 0 n n (omega arith)
    ∙ ap (λ (xs : List ℕ). xs ++ n ∷ []) (map-id (range_with_len 0 n))

each_more : (n : ℕ) (line : ℕ → List ℕ)
    → flat_map line (range_with_len 0 (n + 1)) ≡ flat_map line (range_with_len 0 n) ++ line n
each_more n line =
    ap (flat_map line) (range_more n) ∙ flat_map-append line (range_with_len 0 n) (n ∷ [])
    ∙ ap (λ (xs : List ℕ). flat_map line (range_with_len 0 n) ++ xs) (append-nil (line n))

-- one line more behind what was there
pub one_more : (old text new : List ℕ) (n : ℕ) (line : ℕ → List ℕ) → text ≡ old ++ flat_map line (range_with_len 0 n)
    → new ≡ text ++ line n → new ≡ old ++ flat_map line (range_with_len 0 (n + 1))
one_more old text new n line before after =
    after ∙ ap (λ (xs : List ℕ). xs ++ line n) before ∙ append_assoc old (flat_map line (range_with_len 0 n)) (line n)
    ∙ ap (λ (xs : List ℕ). old ++ xs) (sym (each_more n line))

last : (a b : Bool) → (a || (b || false)) ≡ (a || b)
last true b = refl
last false true = refl
last false false = refl

-- a test of some number below n + 1
pub any_more : (n : ℕ) (test : ℕ → Bool)
    → list_any test (range_with_len 0 (n + 1)) ≡ (list_any test (range_with_len 0 n) || test n)
any_more n test =
    ap (list_any test) (range_more n) ∙ list_any-append test (range_with_len 0 n) (n ∷ []) ∙ last (list_any test (range_with_len 0 n)) (test n)

-- one blank more
pub blank_more : (old text new : List ℕ) (n : ℕ) → text ≡ old ++ replicate n 32 → new ≡ text ++ 32 ∷ []
    → new ≡ old ++ replicate (n + 1) 32
blank_more old text new n before after =
    after ∙ ap (λ (xs : List ℕ). xs ++ 32 ∷ []) before ∙ append_assoc old (replicate n 32) (32 ∷ [])
    ∙ ap (λ (xs : List ℕ). old ++ xs) (replicate_more n 32)

-- a word behind its blanks
pub blanks_then : (old text new word : List ℕ) (n width : ℕ) → text ≡ old ++ replicate n 32 → n ≡ width - length word
    → new ≡ text ++ word
    → new ≡ old ++ right_in width word
blanks_then old text new word n width before count after =
    after ∙ ap (λ (xs : List ℕ). xs ++ word) before ∙ append_assoc old (replicate n 32) word
    ∙ ap (λ k. old ++ (replicate k 32 ++ word)) count

-- one cell more
pub cell_more : (f : ℕ → ℕ) (n : ℕ) (xs new : List ℕ) (x : ℕ) → xs ≡ map f (range_with_len 0 n) → new ≡ xs ++ x ∷ []
    → x ≡ f n
    → new ≡ map f (range_with_len 0 (n + 1))
cell_more f n xs new x before after is =
    after ∙ ap (λ (ys : List ℕ). ys ++ x ∷ []) before ∙ ap (λ y. map f (range_with_len 0 n) ++ y ∷ []) is
    ∙ sym (map-range_with_len_more f 0 n n (omega arith))

-- one row more
pub row_more : (l : LineData) (p : Timetable) (t : ℕ) (old text new row : List ℕ)
    → text ≡ old ++ flat_map (row_text l p) (range_with_len 0 t)
    → row ≡ map (cell l p t) (range_with_len 0 (l.track + 1))
    → new ≡ text ++ (right_in 5 (decimal t) ++ (codes " |" ++ (row ++ codes "|\n")))
    → new ≡ old ++ flat_map (row_text l p) (range_with_len 0 (t + 1))
row_more l p t old text new row before cells after =
    one_more old text new t (row_text l p) before
    (after ∙ ap (λ (xs : List ℕ). text ++ (right_in 5 (decimal t) ++ (codes " |" ++ (xs ++ codes "|\n")))) cells)

-- rows of cells are equally long
pub same_length : (f g : ℕ → ℕ) (n : ℕ) (xs ys : List ℕ) → xs ≡ map f (range_with_len 0 n)
    → ys ≡ map g (range_with_len 0 n)
    → length xs ≡ length ys
same_length f g n xs ys a b = ap length a ∙ length-map-range_with_len f 0 n ∙ sym (ap length b ∙ length-map-range_with_len g 0 n)

-- four parts, one behind the other
pub four_parts : (old one two three new a b c d : List ℕ) → one ≡ old ++ a → two ≡ one ++ b → three ≡ two ++ c
    → new ≡ three ++ d
    → new ≡ old ++ (a ++ (b ++ (c ++ d)))
four_parts old one two three new a b c d first second third last =
    last ∙ ap (λ (xs : List ℕ). xs ++ d) third ∙ append_assoc two c d
    ∙ ap (λ (xs : List ℕ). xs ++ (c ++ d)) second ∙ append_assoc one b (c ++ d)
    ∙ ap (λ (xs : List ℕ). xs ++ (b ++ (c ++ d))) first ∙ append_assoc old a (b ++ (c ++ d))
