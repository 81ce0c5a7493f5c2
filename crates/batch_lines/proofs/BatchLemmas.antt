-- What is printed of several lines: from the answers of the jobs to the parts of the files.
use Rattle.std.proofs.Common.{◌≡◌, ℕ, suc, ◌≤◌, List, [], ◌∷◌, ◌++◌, length, map, All, Option, refl, sym, ap, subst, ◌∙◌, arith, append_assoc, codes, decimal}
use Rattle.std.specs.List.{AllZip}
use Rattle.std.proofs.lemmas.List.Elements.{All-head, All-tail}
use Rattle.std.proofs.lemmas.List.{length-map}
use Rattle.text_writing.specs.Texts.{end}
use Rattle.std.proofs.lemmas.Slice.Zip.{AllZip-long}
use Rattle.hoist_base.specs.LineData.{LineData}
use Rattle.hoist_base.specs.Valid.{IsLine}
use Rattle.line_text.specs.declared.why.Why.{Why}
use Rattle.line_text.specs.declared.why.LineRead.{LineRead}
use Rattle.line_text.specs.declared.why.LineRead.TheVariants.{Ready, Refused}
use Rattle.worker_pool.specs.Pool.{AreAnswers}
use Rattle.batch_lines.specs.declared.single.Single.{Single}
use Rattle.batch_lines.specs.Batch.{IsSingle, AreSingles}
use Rattle.batch_lines.specs.Parts.{IsPart, text_of, parts_text, IsBatchText, lines_of, why_of, count_lines, parts_of}
use Rattle.batch_lines.specs.Laws.{SinglesAreOne, BatchIsOne}
use Rattle.batch_lines.specs.OneLemmas.{single_is_one}

-- ---- the answers of the jobs

abbrev Solved : ℕ → LineData → Single → Type 0
Solved budget l single = IsLine l × IsSingle l budget single

pub singles_of : (budget : ℕ) (lines : List LineData) (singles : List Single) → AreAnswers (Solved budget) lines singles
    → AreSingles lines budget singles
singles_of budget [] [] are = tt
singles_of budget [] (single ∷ singles) are = absurd (omega (arith, are.0))
singles_of budget (l ∷ lines) [] are = absurd (omega (arith, are.0))
singles_of budget (l ∷ lines) (single ∷ singles) are =
    let (job, there, solved) = are.1 0 single refl in
    let same : l ≡ job = cc in
    let S : LineData → Type 0 = λ x. IsSingle x budget single in (
      subst S (sym same) solved.1,
      singles_of budget lines singles (omega (arith, are.0), λ i out at. are.1 (suc i) out at),
    )

-- ---- the parts of the files

pub lines_counted : (reads : List LineRead) → count_lines (map why_of reads) ≡ length (lines_of reads)
lines_counted [] = refl
lines_counted (Ready l ∷ reads) = omega (arith, lines_counted reads)
lines_counted (Refused why ∷ reads) = lines_counted reads

pub parts_are : (budget : ℕ) (reads : List LineRead) (singles : List Single)
    → AreSingles (lines_of reads) budget singles
    → AllZip (IsPart budget) reads (parts_of (map why_of reads) singles)
parts_are budget [] singles are = tt
parts_are budget (Refused why ∷ reads) singles are = (refl, parts_are budget reads singles are)
parts_are budget (Ready l ∷ reads) [] are = absurd are
parts_are budget (Ready l ∷ reads) (single ∷ singles) are = (are.0, parts_are budget reads singles are.1)

pub lines_fewer : (reads : List LineRead) → length (lines_of reads) ≤ length reads
lines_fewer [] = omega arith
lines_fewer (Ready l ∷ reads) = omega (arith, lines_fewer reads)
lines_fewer (Refused why ∷ reads) = omega (arith, lines_fewer reads)

-- as many singles as files that are lines
pub singles_counted : (budget : ℕ) (reads : List LineRead) (lines : List LineData) (whys : List (Option Why)) (singles singles' : List Single)
    → lines ≡ lines_of reads → whys ≡ map why_of reads → singles ≡ singles' → AreSingles lines budget singles'
    → count_lines whys ≡ length singles
singles_counted budget reads lines whys singles singles' lines_are whys_are same are =
    let long = AllZip-long (λ l single. IsSingle l budget single) lines singles' are in
    omega (arith, ap count_lines whys_are, lines_counted reads, ap length lines_are, ap length same, long)

-- the text with the parts of the files, and how many there are
pub batch_text_is : (budget : ℕ) (reads : List LineRead) (lines : List LineData) (whys : List (Option Why)) (singles singles' : List Single) (n : ℕ)
    (text a b new : List ℕ) → lines ≡ lines_of reads → whys ≡ map why_of reads → singles ≡ singles' → AreSingles lines budget singles'
    → text ≡ [] → a ≡ text ++ parts_text 0 (parts_of whys singles) → b ≡ a ++ (codes "done " ++ decimal n)
    → new ≡ b ++ end → n ≡ length whys
    → IsBatchText budget reads new
batch_text_is budget reads lines whys singles singles' n text a b new lines_are whys_are same are none a_is b_is new_is n_is =
    let parts = parts_of (map why_of reads) singles' in
    let L : List LineData → Type 0 = λ ls. AreSingles ls budget singles' in
    let all = parts_are budget reads singles' (subst L lines_are are) in
    let parts_same : parts_of whys singles ≡ parts = ap (λ (ws : List (Option Why)). parts_of ws singles) whys_are ∙ ap (parts_of (map why_of reads)) same in
    let count : n ≡ length parts =
    omega (arith, n_is, ap length whys_are, length-map reads why_of, AllZip-long (IsPart budget) reads parts all) in
    let written : a ≡ parts_text 0 parts = a_is ∙ ap (λ (t : List ℕ). t ++ parts_text 0 (parts_of whys singles)) none ∙ ap (parts_text 0) parts_same in
    let whole : new ≡ parts_text 0 parts ++ (codes "done " ++ (decimal n ++ end)) =
    new_is ∙ ap (λ (t : List ℕ). t ++ end) (b_is ∙ ap (λ (t : List ℕ). t ++ (codes "done " ++ decimal n)) written)
    ∙ append_assoc (parts_text 0 parts) (codes "done " ++ decimal n) end
    ∙ ap (λ (t : List ℕ). parts_text 0 parts ++ t) (append_assoc (codes "done ") (decimal n) end) in
    (parts, all, whole ∙ ap (λ (k : ℕ). parts_text 0 parts ++ (codes "done " ++ (decimal k ++ end))) count)

-- ---- one list and one text

pub singles_are_one : SinglesAreOne
singles_are_one [] budget [] [] lines small are are' = refl
singles_are_one [] budget [] (t ∷ ts) lines small are are' = absurd are'
singles_are_one [] budget (s ∷ ss) ts lines small are are' = absurd are
singles_are_one (l ∷ ls) budget [] ts lines small are are' = absurd are
singles_are_one (l ∷ ls) budget (s ∷ ss) [] lines small are are' = absurd are'
singles_are_one (l ∷ ls) budget (s ∷ ss) (t ∷ ts) lines small are are' =
    let one = single_is_one l budget s t (All-head IsLine l ls lines) small are.0 are'.0 in
    let rest = singles_are_one ls budget ss ts (All-tail IsLine l ls lines) small are.1 are'.1 in
    ap (λ (x : Single). x ∷ ss) one ∙ ap (λ (xs : List Single). t ∷ xs) rest

parts_are_one : (reads : List LineRead) (budget : ℕ) (parts parts' : List Single) → All IsLine (lines_of reads)
    → budget ≤ 20000
    → AllZip (IsPart budget) reads parts → AllZip (IsPart budget) reads parts' → parts ≡ parts'
parts_are_one [] budget [] [] lines small are are' = refl
parts_are_one [] budget [] (t ∷ ts) lines small are are' = absurd are'
parts_are_one [] budget (s ∷ ss) ts lines small are are' = absurd are
parts_are_one (r ∷ rs) budget [] ts lines small are are' = absurd are
parts_are_one (r ∷ rs) budget (s ∷ ss) [] lines small are are' = absurd are'
parts_are_one (Ready l ∷ rs) budget (s ∷ ss) (t ∷ ts) lines small are are' =
    let one = single_is_one l budget s t (All-head IsLine l (lines_of rs) lines) small are.0 are'.0 in
    let rest = parts_are_one rs budget ss ts (All-tail IsLine l (lines_of rs) lines) small are.1 are'.1 in
    ap (λ (x : Single). x ∷ ss) one ∙ ap (λ (xs : List Single). t ∷ xs) rest
parts_are_one (Refused why ∷ rs) budget (s ∷ ss) (t ∷ ts) lines small are are' =
    let rest = parts_are_one rs budget ss ts lines small are.1 are'.1 in
    ap (λ (x : Single). x ∷ ss) (are.0 ∙ sym are'.0) ∙ ap (λ (xs : List Single). t ∷ xs) rest

pub batch_is_one : BatchIsOne
batch_is_one reads budget text text' lines small (parts, are, is) (parts', are', is') =
    is ∙ ap text_of (parts_are_one reads budget parts parts' lines small are are') ∙ sym is'
