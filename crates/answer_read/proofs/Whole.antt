-- A whole answer.
use Rattle.std.proofs.Common.{◌≡◌, ℕ, ◌+◌, ◌-◌, ◌^◌, ◌<◌, ◌≤◌, List, [], ◌∷◌, ◌++◌, length, codes, decimal, Bool, inl, inr, Option, None}
use Rattle.std.proofs.Common.{Result, Ok, Err, refl, sym, ap, subst, ◌∙◌, append_assoc, arith, length-append}
use Rattle.std.proofs.lemmas.List.{append-nil, nil_from_length}
use Rattle.hoist_base.specs.LineData.{LineData, is_single}
use Rattle.hoist_base.specs.Valid.{IsLine}
use Rattle.timetable.specs.TimetableData.{TimetableData}
use Rattle.choice_tree.specs.declared.node.Node.{Node}
use Rattle.answer_text.specs.declared.answer.Verdict.{Verdict}
use Rattle.answer_text.specs.declared.answer.Verdict.TheVariants.{Optimal, Nothing, Unfinished}
use Rattle.answer_text.specs.declared.answer.Answer.{Answer}
use Rattle.answer_text.specs.Tables.{timetable_text}
use Rattle.answer_text.specs.Limits.{most_bound, most_splits}
use Rattle.answer_text.specs.Words.{version_text, verdict_text}
use Rattle.answer_text.specs.Answers.{answer_text}
use Rattle.answer_read.specs.declared.row.Row.{Row}
use Rattle.answer_read.specs.declared.row.Row.TheVariants as rows
use Rattle.field_reading.specs.declared.stop.Stop.{Stop}
use Rattle.field_reading.specs.declared.stop.Stop.TheVariants as stops
use Rattle.field_reading.specs.Gives.{Fails}
use Rattle.field_reading.specs.Reading.{◌>>=◌, word_at, number_at, kind_at, both_at}
use Rattle.answer_read.specs.Trees.{tree_of, rows_at, tree_at}
use Rattle.answer_read.specs.Tables.{timetable_at}
use Rattle.answer_read.specs.Parts.{verdicts, verdict_at, numbers_at, table_part_at, tree_part_at, answer_at}
use Rattle.answer_read.specs.Answers.{IsAnswer, IsNumbered, IsTextOf, BreaksAt}
use Rattle.answer_read.specs.Same.{SayTheSame}
use Rattle.field_reading.specs.Reads.{SameHead, Reads, NoDigit, InRange, Any, In, AreApart}
use Rattle.field_reading.proofs.Field.{then_reads, word_reads, made_reads}
use Rattle.field_reading.proofs.Numbers.{number_read}
use Rattle.field_reading.proofs.Words.{kind_read, apart_is, worded_reads, both_reads, rest_shorter}
use Rattle.field_reading.proofs.Wholes.{breaks_at, same_cut, not_empty, whole_read}
use Rattle.answer_read.proofs.Growing.{AreRows, rows_text, rows_read}
use Rattle.answer_read.proofs.TableRead.{IsTableOr, timetable_read}
use Rattle.answer_read.proofs.Told.{same_said}
use Rattle.answer_read.proofs.Orders.{lines_of, lines_are_rows, tree_is_tree, tree_again, tree_has_lines, tree_from_lines}

-- an answer with its tree as lines
pub record Parts : Type 0 where
  pub verdict : Verdict
  pub bound : ℕ
  pub splits : ℕ
  pub timetable : Option TimetableData
  pub lines : List Row

-- ---- the parts one after another

in_verdicts : (v : Verdict) → In verdicts v
in_verdicts Optimal = inl refl
in_verdicts Nothing = inr (inl refl)
in_verdicts Unfinished = inr (inr (inl refl))

verdicts_apart : AreApart verdict_text verdicts
verdicts_apart Optimal Optimal t y f g e = refl
verdicts_apart Nothing Nothing t y f g e = refl
verdicts_apart Unfinished Unfinished t y f g e = refl
verdicts_apart j k t y f g e = absurd (apart_is (verdict_text j) (verdict_text k) t y refl e)

abbrev verdict_part : Bool → Verdict → List ℕ
verdict_part single v = version_text single ++ (codes "verdict " ++ verdict_text v)

verdict_read : (single : Bool) (bytes : List ℕ)
    → Reads (In verdicts) (verdict_part single) Any bytes (verdict_at single bytes)
unfolding verdict_at
verdict_read single bytes =
    word_reads (In verdicts) (verdict_part single) (λ v. codes "verdict " ++ verdict_text v) Any (version_text single) bytes _ Optimal (inl refl) (λ v f. refl)
    (λ a e.
    word_reads (In verdicts) (λ v. codes "verdict " ++ verdict_text v) verdict_text Any (codes "verdict ") a (λ b. kind_at verdict_text verdicts b) Optimal
    (inl refl) (λ v f. refl)
    (λ b e'. kind_read verdict_text Optimal (Nothing ∷ Unfinished ∷ []) b verdicts_apart))

abbrev FitsNumbers : ℕ × ℕ → Type 0
FitsNumbers p = InRange 1 most_bound p.0 × InRange 0 most_splits p.1

abbrev numbers_part : ℕ × ℕ → List ℕ
numbers_part p = codes "\nbound " ++ (decimal p.0 ++ (codes "\nsplits " ++ decimal p.1))

least_numbers : FitsNumbers (1, 0)
least_numbers = ((omega arith, omega arith), (omega arith, omega arith))

numbers_read : (bytes : List ℕ) → Reads FitsNumbers numbers_part NoDigit bytes (numbers_at bytes)
unfolding numbers_at
numbers_read bytes =
    word_reads FitsNumbers numbers_part (λ p. decimal p.0 ++ (codes "\nsplits " ++ decimal p.1)) NoDigit (codes "\nbound ") bytes
    (λ a. both_at (number_at 1 most_bound) (codes "\nsplits ") (number_at 0 most_splits) a) (1, 0) least_numbers (λ p f. refl)
    (λ a e.
    both_reads (InRange 1 most_bound) decimal NoDigit (number_at 1 most_bound) (codes "\nsplits ")
    (InRange 0 most_splits) decimal NoDigit (number_at 0 most_splits) 0 (omega arith, omega arith) (λ n t f s. refl)
    (λ b. number_read 1 most_bound b (omega arith) (omega arith) (omega arith)) (λ b. number_read 0 most_splits b (omega arith) (omega arith) (omega arith)) a)

abbrev table_part : LineData → Option TimetableData → List ℕ
table_part l o = codes "\ntimetable " ++ timetable_text l o

table_part_read : (l : LineData) (bytes : List ℕ) → IsLine l
    → Reads (IsTableOr l) (table_part l) Any bytes (table_part_at l bytes)
unfolding table_part_at
table_part_read l bytes line =
    word_reads (IsTableOr l) (table_part l) (timetable_text l) Any (codes "\ntimetable ") bytes (λ a. timetable_at l a) None tt (λ o f. refl)
    (λ a e. timetable_read l a line)

abbrev lines_part : Bool → List Row → List ℕ
lines_part single rows = codes "tree\n" ++ (rows_text single rows ++ codes "end\n")

unfoldable lines_part_at : Bool → List ℕ → Result (List Row × List ℕ) ℕ
lines_part_at single bytes = do
  a ← word_at (codes "tree\n") bytes
  lines ← rows_at single a
  rest ← word_at (codes "end\n") lines.1
  Ok (lines.0, rest)

one_line : (single : Bool) (most : ℕ) → 1 ≤ most → AreRows single most (rows.Left None ∷ [])
one_line single most some = (tt, (tt, tt), omega arith)

lines_part_read : (single : Bool) (most : ℕ) (bytes : List ℕ) → length bytes + 7 ≤ most
    → Reads (AreRows single most) (lines_part single) Any bytes (lines_part_at single bytes)
unfolding lines_part_at
lines_part_read single most bytes room =
    word_reads (AreRows single most) (lines_part single) (λ lines. rows_text single lines ++ codes "end\n") Any (codes "tree\n") bytes _ (rows.Left None ∷ [])
    (one_line single most (omega arith)) (λ lines f. refl)
    (λ a e.
    worded_reads (AreRows single most) (rows_text single) Any (codes "end\n") (λ t. tt) a (rows_at single a)
    (rows_read single most a (omega (arith, ap length e, length-append (codes "tree\n") a))))

-- ---- the whole

abbrev FitsParts : LineData → ℕ → Parts → Type 0
FitsParts l most p = FitsNumbers (p.bound, p.splits) × IsTableOr l p.timetable × AreRows (is_single l) most p.lines

abbrev u3 : LineData → Parts → List ℕ
u3 l p = lines_part (is_single l) p.lines

abbrev u2 : LineData → Parts → List ℕ
u2 l p = codes "\ntimetable " ++ (timetable_text l p.timetable ++ u3 l p)

abbrev u1 : LineData → Parts → List ℕ
u1 l p = codes "\nbound " ++ (decimal p.bound ++ (codes "\nsplits " ++ (decimal p.splits ++ u2 l p)))

abbrev parts_text : LineData → Parts → List ℕ
parts_text l p = version_text (is_single l) ++ (codes "verdict " ++ (verdict_text p.verdict ++ u1 l p))

abbrev made : Verdict → ℕ × ℕ → Option TimetableData → List Row → Parts
made verdict numbers timetable lines = record { verdict = verdict; bound = numbers.0; splits = numbers.1; timetable = timetable; lines = lines }

unfoldable lines_at : LineData → List ℕ → Result (Parts × List ℕ) ℕ
lines_at l bytes = do
  verdict ← verdict_at (is_single l) bytes
  numbers ← numbers_at verdict.1
  timetable ← table_part_at l numbers.1
  lines ← lines_part_at (is_single l) timetable.1
  Ok (made verdict.0 numbers.0 timetable.0 lines.0, lines.1)

abbrev G1 : LineData → ℕ → Verdict → Parts → Type 0
G1 l most v p = FitsParts l most p × (p.verdict ≡ v)

abbrev G2 : LineData → ℕ → Verdict → ℕ × ℕ → Parts → Type 0
G2 l most v n p = G1 l most v p × ((p.bound, p.splits) ≡ n)

abbrev G3 : LineData → ℕ → Verdict → ℕ × ℕ → Option TimetableData → Parts → Type 0
G3 l most v n t p = G2 l most v n p × (p.timetable ≡ t)

same_made : (l : LineData) (most : ℕ) (v : Verdict) (n : ℕ × ℕ) (t : Option TimetableData) (p : Parts)
    → G3 l most v n t p → made v n t p.lines ≡ p
same_made l most v n t p f =
    ap (λ (x : Verdict). made x n t p.lines) (sym f.0.0.1) ∙ ap (λ (x : ℕ × ℕ). made p.verdict x t p.lines) (sym f.0.1)
    ∙ ap (λ (x : Option TimetableData). made p.verdict (p.bound, p.splits) x p.lines) (sym f.1)

lines_read : (l : LineData) (most : ℕ) (bytes : List ℕ) → IsLine l → length bytes + 7 ≤ most
    → Reads (FitsParts l most) (parts_text l) Any bytes (lines_at l bytes)
unfolding lines_at
lines_read l most bytes line room =
    let s = is_single l in
    let leaf = one_line s most (omega arith) in
    let one : List Row = rows.Left None ∷ [] in
    then_reads (In verdicts) (verdict_part s) Any (FitsParts l most) (parts_text l) Any (λ p. p.verdict) (u1 l)
    (record {
      parts = λ p f. in_verdicts p.verdict;
      text =
          λ p f. sym (append_assoc (version_text s) (codes "verdict " ++ verdict_text p.verdict) (u1 l p)
          ∙ ap (λ (x : List ℕ). version_text s ++ x) (append_assoc (codes "verdict ") (verdict_text p.verdict) (u1 l p)));
      stops = λ p t f q. tt;
      completes = λ v f. (made v (1, 0) None one, (least_numbers, tt, leaf), refl);
    })
    bytes (verdict_at s bytes) _ (verdict_read s bytes)
    (λ v a f e.
    then_reads FitsNumbers numbers_part NoDigit (G1 l most v) (u1 l) Any (λ p. (p.bound, p.splits)) (u2 l)
    (record {
      parts = λ p g. g.0.0;
      text = λ p g. sym (append_assoc (codes "\nbound ") (decimal p.bound ++ (codes "\nsplits " ++ decimal p.splits)) (u2 l p)
          ∙ ap (λ (x : List ℕ). codes "\nbound " ++ x) (append_assoc (decimal p.bound) (codes "\nsplits " ++ decimal p.splits) (u2 l p)
          ∙ ap (λ (x : List ℕ). decimal p.bound ++ x) (append_assoc (codes "\nsplits ") (decimal p.splits) (u2 l p))));
      stops = λ p t g q. refl;
      completes = λ n g. (made v n None one, ((g, tt, leaf), refl), refl);
    })
    a (numbers_at a) _ (numbers_read a)
    (λ n b g e1.
    then_reads (IsTableOr l) (table_part l) Any (G2 l most v n) (u2 l) Any (λ p. p.timetable) (u3 l)
    (record {
      parts = λ p k. k.0.0.1;
      text = λ p k. sym (append_assoc (codes "\ntimetable ") (timetable_text l p.timetable) (u3 l p));
      stops = λ p t k q. tt;
      completes = λ t k. (made v n t one, (((g, k, leaf), refl), refl), refl);
    })
    b (table_part_at l b) _ (table_part_read l b line)
    (λ t c k e2.
    made_reads (AreRows s most) (lines_part s) (G3 l most v n t) (u3 l) Any (λ lines. made v n t lines) c (lines_part_at s c)
    (λ lines j. ((((((g, k, j), refl), refl), refl)), refl))
    (λ p x j q h. (p.lines, j.0.0.0.2, same_made l most v n t p j))
    (lines_part_read s most c
    (omega (
      arith,
      ap length e,
      length-append (verdict_part s v) a,
      ap length e1,
      length-append (numbers_part n) b,
      ap length e2,
      length-append
          (table_part l t) c,
      room,
    ))))))

-- ---- parts and answers

abbrev answer_of : Parts → Answer
answer_of p = record { verdict = p.verdict; bound = p.bound; splits = p.splits; timetable = p.timetable; tree = tree_of p.lines }

abbrev parts_of : Answer → Parts
parts_of a = record { verdict = a.verdict; bound = a.bound; splits = a.splits; timetable = a.timetable; lines = lines_of a.tree }

-- the text around that of the tree
abbrev text_round : LineData → Verdict → ℕ → ℕ → Option TimetableData → List ℕ → List ℕ
text_round l v bound splits t tree =
    version_text (is_single l)
    ++ (codes "verdict " ++ (verdict_text v ++ (codes "\nbound "
    ++ (decimal bound ++ (codes "\nsplits " ++ (decimal splits
    ++ (codes "\ntimetable " ++ (timetable_text l t ++ (codes "tree\n" ++ (tree ++ codes "end\n"))))))))))

-- the greatest number of nodes
abbrev most_nodes : ℕ
most_nodes = 2 ^ 32 - 1

answer_again : (l : LineData) (p : Parts) → FitsParts l most_nodes p
    → IsAnswer l (answer_of p) × IsNumbered (tree_of p.lines) × (answer_text l (answer_of p) ≡ parts_text l p)
answer_again l p f =
    let s = is_single l in
    let forest = f.2.0 in
    let all = f.2.1 in
    let few : length p.lines < 2 ^ 32 = omega (arith, f.2.2) in
    let tree = tree_is_tree s p.lines forest all few in
    let again = tree_again s p.lines forest tree in (
      record { tree = tree; writable = record { bound = f.0.0; splits = f.0.1.1; timetable = f.1; nodes = tree_has_lines s p.lines forest all } },
      again.1,
      ap (text_round l p.verdict p.bound p.splits p.timetable) again.0,
    )

parts_fit : (l : LineData) (most : ℕ) (a : Answer) → IsAnswer l a → length (lines_of a.tree) ≤ most
    → FitsParts l most (parts_of a)
parts_fit l most a f few =
    let r = lines_are_rows (is_single l) a.tree f.tree f.writable.nodes in
    ((f.writable.bound, (omega arith, f.writable.splits)), f.writable.timetable, (r.0, r.1, omega arith))

parts_text_is : (l : LineData) (a : Answer) → IsAnswer l a → answer_text l a ≡ parts_text l (parts_of a)
parts_text_is l a f = ap (text_round l a.verdict a.bound a.splits a.timetable) (lines_are_rows (is_single l) a.tree f.tree f.writable.nodes).2

-- ---- the bytes as a whole

-- as many lines as these bytes or this answer may have
abbrev enough_for : List ℕ → Answer → ℕ
enough_for bytes a = length bytes + 7 + length (lines_of a.tree)

-- what was read, with whatever bound of the lines
read_with : (l : LineData) (bytes : List ℕ) (r : Result (Parts × List ℕ) ℕ) → IsLine l → lines_at l bytes ≡ r
    → (most : ℕ) → length bytes + 7 ≤ most
    → Reads (FitsParts l most) (parts_text l) Any bytes r
read_with l bytes r line e most room =
    subst (λ (q : Result (Parts × List ℕ) ℕ). Reads (FitsParts l most) (parts_text l) Any bytes q) e (lines_read l most bytes line room)

-- the text of an answer, where it is cut as that of its parts
parts_cut : (l : LineData) (a : Answer) (front y : List ℕ) → IsAnswer l a → answer_text l a ≡ front ++ y
    → parts_text l (parts_of a) ++ [] ≡ front ++ y
parts_cut l a front y f e = append-nil (parts_text l (parts_of a)) ∙ sym (parts_text_is l a f) ∙ e

-- reading broke off
is_broken : (l : LineData) (bytes : List ℕ) (left : ℕ) → IsLine l → length bytes ≤ 2 ^ 30 → lines_at l bytes ≡ Err left
    → BreaksAt l bytes (length bytes - left)
is_broken l bytes left line few e =
    let broken = read_with l bytes (Err left) line e in
    let h = broken most_nodes (omega (arith, few)) in
    let again = answer_again l h.some h.fits in
    breaks_at (IsAnswer l) (answer_text l) bytes h.front h.back left h.is h.left_is (answer_of h.some, h.more, again.0, again.2 ∙ h.begun)
    (λ a y f e' same.
    let most = enough_for bytes a in
    let k = broken most (omega arith) in
    let cut = same_cut k.front k.back h.front h.back (sym k.is ∙ h.is) (sym k.left_is ∙ h.left_is) in
    k.none (parts_of a) [] y (parts_fit l most a f (omega arith)) tt
    (parts_cut l a h.front y f e' ∙ ap (λ (x : List ℕ). x ++ y) (sym cut.0))
    (subst (SameHead y) (sym cut.1) same))

-- something stands behind the answer
is_more : (l : LineData) (bytes rest : List ℕ) (p : Parts) → IsLine l → length bytes ≤ 2 ^ 30
    → lines_at l bytes ≡ Ok (p, rest) → 0 < length rest
    → BreaksAt l bytes (length bytes - length rest)
is_more l bytes rest p line few e some =
    let read = read_with l bytes (Ok (p, rest)) line e in
    let h = read most_nodes (omega (arith, few)) in
    let again = answer_again l p h.fits in
    breaks_at (IsAnswer l) (answer_text l) bytes (parts_text l p) rest (length rest) h.is refl
    (answer_of p, [], again.0, again.2 ∙ sym (append-nil (parts_text l p)))
    (λ a y f e' same.
    let most = enough_for bytes a in
    let k = read most (omega arith) in
    let whole = parts_cut l a (parts_text l p) y f e' in
    let q : parts_of a ≡ p = k.only (parts_of a) [] y (parts_fit l most a f (omega arith)) tt whole same in
    let text : parts_text l p ≡ parts_text l p ++ y = ap (parts_text l) (sym q) ∙ sym (append-nil (parts_text l (parts_of a))) ∙ whole in
    not_empty rest y some (omega (arith, ap length text, length-append (parts_text l p) y)) same)

-- all was read
is_whole : (l : LineData) (bytes : List ℕ) (p : Parts) → IsLine l → length bytes ≤ 2 ^ 30
    → lines_at l bytes ≡ Ok (p, []) → IsTextOf l bytes (answer_of p)
is_whole l bytes p line few e =
    let h = read_with l bytes (Ok (p, [])) line e most_nodes (omega (arith, few)) in
    let again = answer_again l p h.fits in
    record { answer = again.0; numbered = again.1; text = h.is ∙ append-nil (parts_text l p) ∙ sym again.2 }

-- ---- with the lines as a tree

bind_both : {A B C : Type 0} (r : Result A ℕ) (f : A → Result C ℕ) (g : A → Result B ℕ) (h : B → Result C ℕ)
    → ((x : A) → f x ≡ (g x >>= h))
    → (r >>= f) ≡ ((r >>= g) >>= h)
bind_both (Ok x) f g h e = e x
bind_both (Err left) f g h e = refl

abbrev planted : List Row × List ℕ → Result (List Node × List ℕ) ℕ
planted x = Ok (tree_of x.0, x.1)

tree_part_is : (single : Bool) (bytes : List ℕ) → tree_part_at single bytes ≡ (lines_part_at single bytes >>= planted)
unfolding tree_part_at lines_part_at tree_at
tree_part_is single bytes =
    bind_both (word_at (codes "tree\n") bytes) (λ a. tree_at single a >>= λ x. word_at (codes "end\n") x.1 >>= λ rest. Ok (x.0, rest))
    (λ a. rows_at single a >>= λ x. word_at (codes "end\n") x.1 >>= λ rest. Ok (x.0, rest)) planted
    (λ a. by_rows (rows_at single a))
  where
    words : (lines : List Row) (r : Result (List ℕ) ℕ)
        → (r >>= λ rest. Ok (tree_of lines, rest)) ≡ ((r >>= λ rest. Ok (lines, rest)) >>= planted)
    words lines (Ok rest) = refl
    words lines (Err left) = refl

    by_rows : (r : Result (List Row × List ℕ) ℕ)
        → ((r >>= planted) >>= λ x. word_at (codes "end\n") x.1 >>= λ rest. Ok (x.0, rest)) ≡
        ((r >>= λ x. word_at (codes "end\n") x.1 >>= λ rest. Ok (x.0, rest)) >>= planted)
    by_rows (Ok x) = words x.0 (word_at (codes "end\n") x.1)
    by_rows (Err left) = refl

abbrev answered : Parts × List ℕ → Result (Answer × List ℕ) ℕ
answered x = Ok (answer_of x.0, x.1)

last_step : (l : LineData) (v : Verdict) (n : ℕ × ℕ) (t : Option TimetableData) (bytes : List ℕ)
    → (tree_part_at (is_single l) bytes >>= λ tree. Ok (record { verdict = v; bound = n.0; splits = n.1; timetable = t; tree = tree.0 }, tree.1)) ≡
    ((lines_part_at (is_single l) bytes >>= λ lines. Ok (made v n t lines.0, lines.1)) >>= answered)
last_step l v n t bytes =
    ap (λ (r : Result (List Node × List ℕ) ℕ). r >>= λ tree. Ok (record { verdict = v; bound = n.0; splits = n.1; timetable = t; tree = tree.0 }, tree.1))
    (tree_part_is (is_single l) bytes)
    ∙ by_lines (lines_part_at (is_single l) bytes)
  where
    by_lines : (r : Result (List Row × List ℕ) ℕ) →
        ((r >>= planted) >>= λ tree. Ok (record { verdict = v; bound = n.0; splits = n.1; timetable = t; tree = tree.0 }, tree.1)) ≡
        ((r >>= λ lines. Ok (made v n t lines.0, lines.1)) >>= answered)
    by_lines (Ok x) = refl
    by_lines (Err left) = refl

answer_is : (l : LineData) (bytes : List ℕ) → answer_at l bytes ≡ (lines_at l bytes >>= answered)
unfolding answer_at lines_at
answer_is l bytes =
    bind_both (verdict_at (is_single l) bytes) _ _ answered
    (λ v. bind_both (numbers_at v.1) _ _ answered (λ n. bind_both (table_part_at l n.1) _ _ answered (λ t. last_step l v.0 n.0 t.0 t.1)))

-- how an answer came
came : (r : Result (Parts × List ℕ) ℕ) (a : Answer) (rest : List ℕ) → (r >>= answered) ≡ Ok (a, rest)
    → (p : Parts) × (r ≡ Ok (p, rest)) × (a ≡ answer_of p)
came (Ok x) a rest e =
    let p : (answer_of x.0, x.1) ≡ (a, rest) = cc in
    let b : answer_of x.0 ≡ a = ap (λ (y : Answer × List ℕ). y.0) p in
    let l : x.1 ≡ rest = ap (λ (y : Answer × List ℕ). y.1) p in
    (x.0, ap (λ (y : List ℕ). Ok (x.0, y)) l, sym b)
came (Err left) a rest e = absurd cc

broke : (r : Result (Parts × List ℕ) ℕ) (left : ℕ) → (r >>= answered) ≡ Err left → r ≡ Err left
broke (Ok x) left e = absurd cc
broke (Err other) left e = let p : other ≡ left = cc in ap (λ (k : ℕ). Err k) p

pub text_found : (l : LineData) (bytes rest : List ℕ) (a : Answer) → IsLine l → length bytes ≤ 2 ^ 30
    → answer_at l bytes ≡ Ok (a, rest) → length rest ≡ 0
    → IsTextOf l bytes a
text_found l bytes rest a line few e none =
    let c = came (lines_at l bytes) a rest (sym (answer_is l bytes) ∙ e) in
    subst (IsTextOf l bytes) (sym c.2) (is_whole l bytes c.0 line few (c.1 ∙ ap (λ (x : List ℕ). Ok (c.0, x)) (nil_from_length rest none)))

pub more_found : (l : LineData) (bytes rest : List ℕ) (a : Answer) → IsLine l → length bytes ≤ 2 ^ 30
    → answer_at l bytes ≡ Ok (a, rest) → 0 < length rest
    → BreaksAt l bytes (length bytes - length rest)
more_found l bytes rest a line few e some =
    let c = came (lines_at l bytes) a rest (sym (answer_is l bytes) ∙ e) in
    is_more l bytes rest c.0 line few c.1 some

pub break_found : (l : LineData) (bytes : List ℕ) (left : ℕ) → IsLine l → length bytes ≤ 2 ^ 30
    → answer_at l bytes ≡ Err left
    → BreaksAt l bytes (length bytes - left)
break_found l bytes left line few e = is_broken l bytes left line few (broke (lines_at l bytes) left (sym (answer_is l bytes) ∙ e))

-- the text of an answer is read as that answer
pub text_read : (l : LineData) (bytes : List ℕ) (a : Answer) → IsLine l → IsTextOf l bytes a
    → answer_at l bytes ≡ Ok (a, [])
text_read l bytes a line h =
    let most = enough_for bytes a in
    let fits = parts_fit l most a h.answer (omega arith) in
    let text : bytes ≡ parts_text l (parts_of a) = h.text ∙ parts_text_is l a h.answer in
    let with_tree : List Node → Answer =
    λ (t : List Node). record { verdict = a.verdict; bound = a.bound; splits = a.splits; timetable = a.timetable; tree = t } in
    let same : answer_of (parts_of a) ≡ a =
    ap with_tree (tree_from_lines (is_single l) a.tree h.answer.tree h.answer.writable.nodes h.numbered) in
    let found = whole_read (FitsParts l most) (parts_text l) bytes (parts_of a) (lines_at l bytes) fits text (lines_read l most bytes line (omega arith)) in
    answer_is l bytes ∙ ap (λ (r : Result (Parts × List ℕ) ℕ). r >>= answered) found ∙ ap (λ (x : Answer). Ok (x, [])) same

-- answers with one text say the same
pub same_text : (l : LineData) (a b : Answer) → IsLine l → IsAnswer l a → IsAnswer l b
    → answer_text l a ≡ answer_text l b → SayTheSame a b
same_text l a b line f g e =
    let bytes = answer_text l a in
    let most = length (lines_of a.tree) + length (lines_of b.tree) + length bytes + 7 in
    let read : (x : Answer) → IsAnswer l x → length (lines_of x.tree) ≤ most → bytes ≡ answer_text l x → lines_at l bytes ≡ Ok (parts_of x, []) =
    λ x h few same.
    whole_read (FitsParts l most) (parts_text l) bytes (parts_of x) (lines_at l bytes) (parts_fit l most x h few) (same ∙ parts_text_is l x h)
    (lines_read l most bytes line (omega arith)) in
    let both : Ok (parts_of a, []) ≡ Ok (parts_of b, []) = sym (read a f (omega arith) refl) ∙ read b g (omega arith) e in
    let pair : (parts_of a, []) ≡ (parts_of b, []) = cc in
    let parts : parts_of a ≡ parts_of b = ap (λ (y : Parts × List ℕ). y.0) pair in
    record {
      verdict = ap (λ (x : Parts). x.verdict) parts;
      bound = ap (λ (x : Parts). x.bound) parts;
      splits = ap (λ (x : Parts). x.splits) parts;
      timetable = ap (λ (x : Parts). x.timetable) parts;
      tree =
          same_said (is_single l) a.tree b.tree f.tree g.tree f.writable.nodes g.writable.nodes (ap (λ (x : Parts). x.lines) parts);
    }

pub same_read : (l : LineData) (bytes rest : List ℕ) (a b : Answer) → IsLine l → answer_at l bytes ≡ Ok (a, rest)
    → IsTextOf l bytes b
    → (a ≡ b) × (length rest ≡ 0)
same_read l bytes rest a b line e h =
    let both : Ok (a, rest) ≡ Ok (b, []) = sym e ∙ text_read l bytes b line h in
    let p : (a, rest) ≡ (b, []) = cc in
    (ap (λ (y : Answer × List ℕ). y.0) p, ap (λ (y : Answer × List ℕ). length y.1) p)

not_both : (r : Result (Answer × List ℕ) ℕ) (left : ℕ) (x : Answer × List ℕ) → r ≡ Err left → r ≡ Ok x → ⊥
not_both r left x e f = let both : Err left ≡ Ok x = sym e ∙ f in absurd cc

pub never_broken : (l : LineData) (bytes : List ℕ) (left : ℕ) (a : Answer) → IsLine l → answer_at l bytes ≡ Err left
    → IsTextOf l bytes a → ⊥
never_broken l bytes left a line e h = not_both (answer_at l bytes) left (a, []) e (text_read l bytes a line h)

pub broken_is : (s : Stop) (left : ℕ) (r : Result (Answer × List ℕ) ℕ) → s ≡ stops.Broken left → Fails s r
    → r ≡ Err left
broken_is stops.Memory left r e f = absurd cc
broken_is (stops.Broken k) left r e f = let p : k ≡ left = cc in f ∙ ap (λ (x : ℕ). Err x) p

-- ---- what is left is no longer than what there was

pub verdict_shorter : (single : Bool) (bytes rest : List ℕ) (v : Verdict) → verdict_at single bytes ≡ Ok (v, rest)
    → length rest ≤ length bytes
verdict_shorter single bytes rest v e =
    rest_shorter (In verdicts) (verdict_part single) Any bytes (verdict_at single bytes) v rest (verdict_read single bytes) e

pub numbers_shorter : (bytes rest : List ℕ) (p : ℕ × ℕ) → numbers_at bytes ≡ Ok (p, rest) → length rest ≤ length bytes
numbers_shorter bytes rest p e = rest_shorter FitsNumbers numbers_part NoDigit bytes (numbers_at bytes) p rest (numbers_read bytes) e

pub table_shorter : (l : LineData) (bytes rest : List ℕ) (o : Option TimetableData) → IsLine l
    → table_part_at l bytes ≡ Ok (o, rest)
    → length rest ≤ length bytes
table_shorter l bytes rest o line e = rest_shorter (IsTableOr l) (table_part l) Any bytes (table_part_at l bytes) o rest (table_part_read l bytes line) e
