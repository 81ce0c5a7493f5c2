-- The parts of an answer's text, one behind another.
use Rattle.std.proofs.Common.{◌≡◌, ℕ, Bool, List, [], ◌++◌, codes, decimal, ap, ◌∙◌, append_assoc}
use Rattle.hoist_base.specs.LineData.{LineData, is_single}
use Rattle.answer_text.specs.declared.answer.Answer.{Answer}
use Rattle.answer_text.specs.Nodes.{tree_text}
use Rattle.answer_text.specs.Tables.{timetable_text}
use Rattle.answer_text.specs.Words.{version_text, verdict_text}
use Rattle.answer_text.specs.Answers.{answer_text}
use Rattle.answer_text.proofs.JoinLemmas.{two_parts}

-- four words joined, and what stands behind them
four : (a b c d z : List ℕ) → (a ++ (b ++ (c ++ d))) ++ z ≡ a ++ (b ++ (c ++ (d ++ z)))
four a b c d z =
    append_assoc a (b ++ (c ++ d)) z ∙ ap (λ (x : List ℕ). a ++ x) (append_assoc b (c ++ d) z ∙ ap (λ (x : List ℕ). b ++ x) (append_assoc c d z))

-- the text by the test that was made of the line
abbrev text_by : LineData → Answer → Bool → List ℕ
text_by l a single =
    version_text single
    ++ (codes "verdict "
    ++ (verdict_text a.verdict
    ++ (codes "\nbound "
    ++ (decimal a.bound
    ++ (codes "\nsplits "
    ++ (decimal a.splits
    ++ (codes "\ntimetable "
    ++ (timetable_text l a.timetable
    ++ (codes "tree\n"
    ++ (tree_text single a.tree
    ++ codes "end\n"))))))))))

pub whole : (l : LineData) (a : Answer) (single : Bool) (none head numbers table tree : List ℕ) → single ≡ is_single l
    → none ≡ []
    → head ≡ none ++ (version_text single ++ (codes "verdict " ++ (verdict_text a.verdict ++ codes "\nbound ")))
    → numbers ≡ head ++ (decimal a.bound ++ (codes "\nsplits " ++ (decimal a.splits ++ codes "\ntimetable ")))
    → table ≡ numbers ++ timetable_text l a.timetable
    → tree ≡ table ++ (codes "tree\n" ++ (tree_text single a.tree ++ codes "end\n"))
    → tree ≡ answer_text l a
whole l a single none head numbers table tree test empty p q r s =
    let behind = two_parts none head tree _ _ p (two_parts head numbers tree _ _ q (two_parts numbers table tree _ _ r s)) in
    let tail = timetable_text l a.timetable ++ (codes "tree\n" ++ (tree_text single a.tree ++ codes "end\n")) in
    let second = four (decimal a.bound) (codes "\nsplits ") (decimal a.splits) (codes "\ntimetable ") tail in
    let first = four (version_text single) (codes "verdict ") (verdict_text a.verdict) (codes "\nbound ")
    (decimal a.bound ++ (codes "\nsplits " ++ (decimal a.splits ++ (codes "\ntimetable " ++ tail)))) in
    behind
    ∙ ap (λ (x : List ℕ). none ++ ((version_text single ++ (codes "verdict " ++ (verdict_text a.verdict ++ codes "\nbound "))) ++ x)) second
    ∙ ap (λ (x : List ℕ). none ++ x) first
    ∙ ap (λ (x : List ℕ). x ++ text_by l a single) empty
    ∙ ap (text_by l a) test
