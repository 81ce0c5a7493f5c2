-- How the parts of a batch are put together.
use Rattle.std.proofs.Common.{◌≡◌, ℕ, suc, ◌+◌, ◌-◌, ◌<◌, ◌≤◌, List, [], ◌∷◌, ◌++◌, length, take, drop, get_or, map, Option, Some, None, refl, sym, ap, subst, ◌∙◌, append_assoc, arith}
use Rattle.std.proofs.Math.Seq.{drop-cons}
use Rattle.std.proofs.lemmas.List.{append-nil, map-append, take_all}
use Rattle.std.proofs.lemmas.List.{drop_all}
use Rattle.hoist_base.specs.LineData.{LineData}
use Rattle.line_text.specs.declared.why.Why.{Why}
use Rattle.line_text.specs.declared.why.LineRead.{LineRead}
use Rattle.line_text.specs.declared.why.LineRead.TheVariants.{Ready, Refused}
use Rattle.batch_lines.specs.declared.single.Single.{Single}
use Rattle.batch_lines.specs.Parts.{refusal_part, part_text, parts_text, lines_of, why_of, count_lines, parts_of}

-- ---- what was read

line_more : (reads : List LineRead) (l : LineData) → lines_of (reads ++ Ready l ∷ []) ≡ lines_of reads ++ l ∷ []
line_more [] l = refl
line_more (Ready m ∷ reads) l = ap (λ (xs : List LineData). m ∷ xs) (line_more reads l)
line_more (Refused why ∷ reads) l = line_more reads l

line_same : (reads : List LineRead) (why : Why) → lines_of (reads ++ Refused why ∷ []) ≡ lines_of reads
line_same [] why = refl
line_same (Ready m ∷ reads) why = ap (λ (xs : List LineData). m ∷ xs) (line_same reads why)
line_same (Refused other ∷ reads) why = line_same reads why

pub ready_more : (reads : List LineRead) (l : LineData) (lines : List LineData) (whys : List (Option Why))
    → lines ≡ lines_of reads → whys ≡ map why_of reads
    → (lines ++ l ∷ [] ≡ lines_of (reads ++ Ready l ∷ [])) × (whys ++ None ∷ [] ≡ map why_of (reads ++ Ready l ∷ []))
ready_more reads l lines whys a b = (
  ap (λ (xs : List LineData). xs ++ l ∷ []) a ∙ sym (line_more reads l),
  ap (λ (ws : List (Option Why)). ws ++ None ∷ []) b ∙ sym (map-append why_of reads (Ready l ∷ [])),
)

pub refused_more : (reads : List LineRead) (why : Why) (lines : List LineData) (whys : List (Option Why))
    → lines ≡ lines_of reads → whys ≡ map why_of reads
    → (lines ≡ lines_of (reads ++ Refused why ∷ [])) × (whys ++ Some why ∷ [] ≡ map why_of (reads ++ Refused why ∷ []))
refused_more reads why lines whys a b = (
  a ∙ sym (line_same reads why),
  ap (λ (ws : List (Option Why)). ws ++ Some why ∷ []) b ∙ sym (map-append why_of reads (Refused why ∷ [])),
)

-- ---- part after part

-- what is written and what is still to be written
abbrev Written : List ℕ → ℕ → List (Option Why) → List Single → List ℕ → Type 0
Written text i whys rest total = (text ++ parts_text i (parts_of whys rest) ≡ total) × (count_lines whys ≡ length rest)

cut : (whys : List (Option Why)) (i : ℕ) (d why : Option Why) → i < length whys → get_or whys i d ≡ why
    → drop i whys ≡ why ∷ drop (i + 1) whys
cut whys i d why lt is =
    let e : suc i ≡ i + 1 = omega arith in
    drop-cons whys i d lt ∙ ap (λ (w : Option Why). w ∷ drop (suc i) whys) is ∙ ap (λ (n : ℕ). why ∷ drop n whys) e

pub refusal_more : (text : List ℕ) (i : ℕ) (whys : List (Option Why)) (rest : List Single) (total : List ℕ) (d : Option Why) (why : Why)
    → i < length whys
    → get_or whys i d ≡ Some why
    → Written text i (drop i whys) rest total
    → Written (text ++ part_text i (refusal_part why)) (i + 1) (drop (i + 1) whys) rest total
refusal_more text i whys rest total d why lt is written =
    let W : List (Option Why) → Type 0 = λ ws. Written text i ws rest total in
    let now = subst W (cut whys i d (Some why) lt is) written in
    (append_assoc text (part_text i (refusal_part why)) (parts_text (i + 1) (parts_of (drop (i + 1) whys) rest)) ∙ now.0, now.1)

single_more : (text : List ℕ) (i : ℕ) (whys : List (Option Why)) (single : Single) (rest : List Single) (total : List ℕ) (d : Option Why)
    → i < length whys
    → get_or whys i d ≡ None
    → Written text i (drop i whys) (single ∷ rest) total
    → Written (text ++ part_text i single) (i + 1) (drop (i + 1) whys) rest total
single_more text i whys single rest total d lt is written =
    let W : List (Option Why) → Type 0 = λ ws. Written text i ws (single ∷ rest) total in
    let now = subst W (cut whys i d None lt is) written in
    (append_assoc text (part_text i single) (parts_text (i + 1) (parts_of (drop (i + 1) whys) rest)) ∙ now.0, omega (arith, now.1))

-- the same of the first of the singles that are left
pub first_more : (text : List ℕ) (i : ℕ) (whys : List (Option Why)) (singles : List Single) (total : List ℕ) (d : Option Why) (e : Single)
    → i < length whys
    → get_or whys i d ≡ None → 1 ≤ length singles → Written text i (drop i whys) singles total
    → Written (text ++ part_text i (get_or singles 0 e)) (i + 1) (drop (i + 1) whys) (take (length singles - 1) (drop 1 singles)) total
first_more text i whys [] total d e lt is some written = absurd (omega (arith, some))
first_more text i whys (single ∷ singles) total d e lt is some written =
    let W : List Single → Type 0 = λ xs. Written (text ++ part_text i single) (i + 1) (drop (i + 1) whys) xs total in
    subst W (sym (take_all (length (single ∷ singles) - 1) singles (omega arith))) (single_more text i whys single singles total d lt is written)

pub all_written : (text : List ℕ) (i : ℕ) (whys : List (Option Why)) (rest : List Single) (total : List ℕ)
    → length whys ≤ i
    → Written text i (drop i whys) rest total → text ≡ total
all_written text i whys rest total le written =
    let W : List (Option Why) → Type 0 = λ ws. Written text i ws rest total in
    sym (append-nil text) ∙ (subst W (drop_all i whys le) written).0
