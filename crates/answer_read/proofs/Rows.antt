-- The lines of the tree are read as they are written.
use Rattle.std.proofs.Common.{◌≡◌, ℕ, ◌≤◌, ℤ, pos, List, [], ◌∷◌, ◌++◌, length, codes, decimal, Bool, true, false, cond, eqb, Option, Some, None, inl, inr, Ok}
use Rattle.std.proofs.Common.{refl, sym, ap, subst, ◌∙◌, append_assoc, arith}
use Rattle.std.specs.Prelude.{unsigned_abs}
use Rattle.std.specs.Fmt.{signed_decimal}
use Rattle.std.specs.List.{flat_map}
use Rattle.std.proofs.lemmas.Bool.{eqb-true, eqb-false}
use Rattle.choice_tree.specs.declared.constraint.Constraint.{Constraint}
use Rattle.text_writing.specs.Texts.{end, pair_text}
use Rattle.answer_text.specs.Limits.{most_stage, most_tokens, most_children, most_shift}
use Rattle.answer_text.specs.Fields.{walk_text, token_text, IsPair, IsWalk}
use Rattle.answer_text.specs.Nodes.{high_text, stuck_text, left_text, IsWalkOr, IsStuckText}
use Rattle.answer_read.specs.declared.row.Row.{Row}
use Rattle.answer_read.specs.declared.row.Row.TheVariants as rows
use Rattle.answer_read.specs.declared.row.RowKind.{RowKind}
use Rattle.answer_read.specs.declared.row.RowKind.TheVariants as lines
use Rattle.answer_read.specs.declared.row.Tail.{Tail}
use Rattle.answer_read.specs.declared.row.Tail.TheVariants as tails
use Rattle.field_reading.specs.Reading.{◌>>=◌, word_at, number_at, signed_at, kind_at, begins, both_at, next_at, ended}
use Rattle.answer_read.specs.Lines.{row_word, row_kinds, single_kinds, all_kinds, visit_of, move_of, pair_at, walk_at, walk_line_at, counted_at, order_at}
use Rattle.answer_read.specs.Lines.{tail_word, tail_kinds, tail_rest, tail_at, stuck_at, left_at, row_rest, row_at}
use Rattle.field_reading.specs.Reads.{SameHead, Reads, NoDigit, InRange, IsSmall, Any, In, AreApart}
use Rattle.field_reading.proofs.Field.{then_reads, word_reads, made_reads, done_reads, retext, narrow_reads}
use Rattle.field_reading.proofs.Numbers.{number_read, begins_number}
use Rattle.field_reading.proofs.SignedNumbers.{signed_read}
use Rattle.field_reading.proofs.Words.{kind_read, apart_is, worded_reads, both_reads, next_reads}
use Rattle.answer_read.proofs.Walks.{FitsPair, text_of_pair, pair_read, walk_read, a_walk, walk_line, walk_line_read}

-- ---- what stands behind a low walk

abbrev tail_of : Option (List Constraint) → Tail
tail_of None = tails.End
tail_of (Some w) = tails.High

abbrev after_tail : Option (List Constraint) → List ℕ
after_tail None = []
after_tail (Some w) = walk_line w

tails_apart : AreApart tail_word tail_kinds
tails_apart tails.End tails.End t y f g e = refl
tails_apart tails.High tails.High t y f g e = refl
tails_apart j k t y f g e = absurd (apart_is (tail_word j) (tail_word k) t y refl e)

tail_split : (o : Option (List Constraint)) → high_text o ≡ tail_word (tail_of o) ++ after_tail o
tail_split None = refl
tail_split (Some w) = refl

tail_in : (k : Tail) → In tail_kinds k
tail_in tails.End = inl refl
tail_in tails.High = inr (inl refl)

some_tail : (k : Tail) → (o : Option (List Constraint)) × IsWalkOr o × (tail_of o ≡ k)
some_tail tails.End = (None, tt, refl)
some_tail tails.High = (Some a_walk.0, a_walk.1, refl)

tail_rest_read : (k : Tail) (bytes : List ℕ)
    → Reads (λ o. IsWalkOr o × (tail_of o ≡ k)) after_tail Any bytes (tail_rest k bytes)
unfolding tail_rest
tail_rest_read tails.End bytes =
    retext (λ o. IsWalkOr o × (tail_of o ≡ tails.End)) (λ o. []) after_tail Any bytes (Ok (None, bytes)) texts
    (done_reads (λ o. IsWalkOr o × (tail_of o ≡ tails.End)) Any bytes None (tt, refl) only)
  where
    texts : (o : Option (List Constraint)) → IsWalkOr o × (tail_of o ≡ tails.End) → [] ≡ after_tail o
    texts None f = refl
    texts (Some w) f = let e = f.1 in absurd cc

    only : (o : Option (List Constraint)) → IsWalkOr o × (tail_of o ≡ tails.End) → o ≡ None
    only None f = refl
    only (Some w) f = let e = f.1 in absurd cc
tail_rest_read tails.High bytes =
    made_reads IsWalk walk_line (λ o. IsWalkOr o × (tail_of o ≡ tails.High)) after_tail Any (λ w. Some w) bytes (walk_line_at bytes)
    (λ w f. ((f, refl), refl)) from (walk_line_read bytes)
  where
    from : (o : Option (List Constraint)) (t : List ℕ) → IsWalkOr o × (tail_of o ≡ tails.High) → Any t
        → SameHead (after_tail o ++ t) bytes
        → (w : List Constraint) × IsWalk w × (Some w ≡ o)
    from (Some w) t f s h = (w, f.0, refl)
    from None t f s h = let e = f.1 in absurd cc

tail_read : (bytes : List ℕ) → Reads IsWalkOr high_text Any bytes (tail_at bytes)
unfolding tail_at
tail_read bytes =
    then_reads (In tail_kinds) tail_word Any IsWalkOr high_text Any tail_of after_tail
    (record { parts = λ o f. tail_in (tail_of o); text = λ o f. tail_split o; stops = λ o t f s. tt; completes = λ k f. some_tail k })
    bytes (kind_at tail_word tail_kinds bytes) (λ x. tail_rest x.0 x.1) (kind_read tail_word tails.End (tails.High ∷ []) bytes tails_apart)
    (λ k rest f e. tail_rest_read k rest)

tail_stops : (o : Option (List Constraint)) (t : List ℕ) → NoDigit (high_text o ++ t)
tail_stops None t = refl
tail_stops (Some w) t = refl

-- ---- none, or a walk: the first byte decides

not_n : (bytes t : List ℕ) → SameHead (codes "none\n" ++ t) bytes → begins 110 bytes ≡ false → ⊥
not_n [] t h d = absurd h
not_n (b ∷ bytes) t h d = eqb-false b 110 d (sym h)

none_or_walk : (bytes : List ℕ) (d : Bool) → begins 110 bytes ≡ d
    → Reads IsWalkOr left_text Any bytes (cond d (word_at (codes "none\n") bytes >>= λ rest. Ok (None, rest)) (walk_line_at bytes >>= λ x. Ok (Some x.0, x.1)))
none_or_walk bytes true d =
    narrow_reads (λ o. o ≡ None) IsWalkOr left_text Any bytes (word_at (codes "none\n") bytes >>= λ rest. Ok (None, rest))
    (λ o e. subst IsWalkOr (sym e) tt) from
    (word_reads (λ o. o ≡ None) left_text (λ o. []) Any (codes "none\n") bytes (λ rest. Ok (None, rest)) None refl (λ o e. ap left_text e)
    (λ rest e. done_reads (λ o. o ≡ None) Any rest None refl (λ o e. e)))
  where
    from : (o : Option (List Constraint)) (t : List ℕ) → IsWalkOr o → Any t → SameHead (left_text o ++ t) bytes
        → o ≡ None
    from None t f s h = refl
    from (Some w) t f s h =
        let regrouped : (walk_text w ++ end) ++ t ≡ decimal (length w) ++ ((flat_map token_text w ++ end) ++ t) = simp append_assoc in
        let c =
        begins_number 1 most_tokens (length w) ((flat_map token_text w ++ end) ++ t) bytes (omega arith) (omega arith) (f.some, f.few)
        (subst (λ (l : List ℕ). SameHead l bytes) regrouped h) in
        let e : eqb c.0 110 ≡ true = ap (begins 110) (sym c.2) ∙ d in
        absurd (omega (arith, eqb-true c.0 110 e, c.4))
none_or_walk bytes false d =
    made_reads IsWalk walk_line IsWalkOr left_text Any (λ w. Some w) bytes (walk_line_at bytes) (λ w f. (f, refl)) from (walk_line_read bytes)
  where
    from : (o : Option (List Constraint)) (t : List ℕ) → IsWalkOr o → Any t → SameHead (left_text o ++ t) bytes
        → (w : List Constraint) × IsWalk w × (Some w ≡ o)
    from (Some w) t f s h = (w, f, refl)
    from None t f s h = absurd (not_n bytes t h d)

left_read : (bytes : List ℕ) → Reads IsWalkOr left_text Any bytes (left_at bytes)
unfolding left_at
left_read bytes = none_or_walk bytes (begins 110 bytes) refl

-- ---- the other ends of lines

abbrev FitsCounted : (ℕ × ℕ) × ℕ → Type 0
FitsCounted p = FitsPair p.0 × InRange 0 most_children p.1

abbrev counted_text : (ℕ × ℕ) × ℕ → List ℕ
counted_text p = pair_text p.0.0 p.0.1 ++ (codes " " ++ (decimal p.1 ++ end))

counted_read : (bytes : List ℕ) → Reads FitsCounted counted_text Any bytes (counted_at bytes)
unfolding counted_at
counted_read bytes =
    retext FitsCounted (λ p. (text_of_pair p.0 ++ (codes " " ++ decimal p.1)) ++ end) counted_text Any bytes
    (ended (both_at pair_at (codes " ") (number_at 0 most_children) bytes))
    (λ p f. simp append_assoc)
    (worded_reads FitsCounted (λ p. text_of_pair p.0 ++ (codes " " ++ decimal p.1)) NoDigit end (λ t. refl) bytes
    (both_at pair_at (codes " ") (number_at 0 most_children) bytes)
    (both_reads FitsPair text_of_pair NoDigit pair_at (codes " ") (InRange 0 most_children) decimal NoDigit (number_at 0 most_children) 0
    (omega arith, omega arith) (λ m t f s. refl)
    pair_read (λ b. number_read 0 most_children b (omega arith) (omega arith) (omega arith)) bytes))

abbrev Order : Type 0
Order = ((ℕ × ℕ) × (ℕ × ℕ)) × ℤ

abbrev FitsOrder : Order → Type 0
FitsOrder p = (FitsPair p.0.0 × FitsPair p.0.1) × IsSmall most_shift p.1

abbrev order_text : Order → List ℕ
order_text p = pair_text p.0.0.0 p.0.0.1 ++ (codes " " ++ (pair_text p.0.1.0 p.0.1.1 ++ (codes " " ++ (signed_decimal p.1 ++ end))))

abbrev two_pairs : (ℕ × ℕ) × (ℕ × ℕ) → List ℕ
two_pairs p = text_of_pair p.0 ++ (codes " " ++ text_of_pair p.1)

order_read : (bytes : List ℕ) → Reads FitsOrder order_text Any bytes (order_at bytes)
unfolding order_at
order_read bytes =
    retext FitsOrder (λ p. (two_pairs p.0 ++ (codes " " ++ signed_decimal p.1)) ++ end) order_text Any bytes
    (ended (both_at (λ b. both_at pair_at (codes " ") pair_at b) (codes " ") (signed_at most_shift) bytes))
    (λ p f. simp append_assoc)
    (worded_reads FitsOrder (λ p. two_pairs p.0 ++ (codes " " ++ signed_decimal p.1)) NoDigit end (λ t. refl) bytes
    (both_at (λ b. both_at pair_at (codes " ") pair_at b) (codes " ") (signed_at most_shift) bytes)
    (both_reads (λ p. FitsPair p.0 × FitsPair p.1) two_pairs NoDigit (λ b. both_at pair_at (codes " ") pair_at b) (codes " ")
    (IsSmall most_shift) signed_decimal NoDigit (signed_at most_shift) (pos 0) (omega arith) (λ q t f s. refl)
    (λ b. both_reads FitsPair text_of_pair NoDigit pair_at (codes " ") FitsPair text_of_pair NoDigit pair_at (0, 0)
    ((omega arith, omega arith), (omega arith, omega arith)) (λ m t f s. refl) pair_read pair_read b)
    (λ b. signed_read most_shift b (omega arith) (omega arith)) bytes))

abbrev FitsStuck : Bool → ℕ × ℕ → Type 0
FitsStuck single p = IsStuckText single p.0 p.1

stuck_read : (single : Bool) (bytes : List ℕ)
    → Reads (FitsStuck single) (λ p. stuck_text single p.0 p.1) Any bytes (stuck_at single bytes)
unfolding stuck_at
stuck_read true bytes =
    made_reads (InRange 0 most_stage) (λ k. decimal k ++ end) (FitsStuck true) (λ p. decimal p.1 ++ end) Any (λ k. (0, k)) bytes
    (ended (number_at 0 most_stage bytes)) (λ k f. ((refl, f.1), refl)) from
    (worded_reads (InRange 0 most_stage) decimal NoDigit end (λ t. refl) bytes (number_at 0 most_stage bytes)
    (number_read 0 most_stage bytes (omega arith) (omega arith) (omega arith)))
  where
    from : (p : ℕ × ℕ) (t : List ℕ) → FitsStuck true p → Any t → SameHead ((decimal p.1 ++ end) ++ t) bytes
        → (k : ℕ) × InRange 0 most_stage k × ((0, k) ≡ p)
    from p t f s h = let e : 0 ≡ p.0 = sym f.0 in (p.1, (omega arith, f.1), ap (λ (c : ℕ). (c, p.1)) e)
stuck_read false bytes =
    made_same (worded_reads FitsPair text_of_pair NoDigit end (λ t. refl) bytes (pair_at bytes) (pair_read bytes))
  where
    made_same : Reads FitsPair (λ p. text_of_pair p ++ end) Any bytes (ended (pair_at bytes))
        → Reads (FitsStuck false) (λ p. text_of_pair p ++ end) Any bytes (ended (pair_at bytes))
    made_same h =
        narrow_reads FitsPair (FitsStuck false) (λ p. text_of_pair p ++ end) Any bytes (ended (pair_at bytes)) (λ p f. (f.0.1, f.1.1))
        (λ p t f s head. ((omega arith, f.0), (omega arith, f.1))) h

-- ---- a line

abbrev pub kind_of : Row → RowKind
kind_of (rows.Choose v m) = lines.Choose
kind_of (rows.TankOrder a b q) = lines.TankOrder
kind_of (rows.HoistOrder a b q) = lines.HoistOrder
kind_of (rows.Assign m n) = lines.Assign
kind_of (rows.ClosedLow low high) = lines.ClosedLow
kind_of (rows.ClosedHigh high) = lines.ClosedHigh
kind_of (rows.Stuck m) = lines.Stuck
kind_of (rows.Solved low) = lines.Solved
kind_of (rows.Left low) = lines.Left

-- what stands behind the words that begin the line
abbrev pub row_after : Bool → Row → List ℕ
row_after single (rows.Choose v m) = counted_text ((v.carrier, v.stage), m)
row_after single (rows.TankOrder a b q) = order_text (((a.carrier, a.stage), (b.carrier, b.stage)), q)
row_after single (rows.HoistOrder a b q) = order_text (((a.carrier, a.step), (b.carrier, b.step)), q)
row_after single (rows.Assign m n) = counted_text ((m.carrier, m.step), n)
row_after single (rows.ClosedLow low high) = walk_text low ++ high_text high
row_after single (rows.ClosedHigh high) = walk_line high
row_after single (rows.Stuck m) = stuck_text single m.carrier m.step
row_after single (rows.Solved low) = walk_line low
row_after single (rows.Left low) = left_text low

abbrev pub row_text : Bool → Row → List ℕ
row_text single r = row_word (kind_of r) ++ row_after single r

-- the lines that a text may have
abbrev pub IsRow : Bool → Row → Type 0
IsRow single (rows.Choose v m) = (single ≡ false) × IsPair v.carrier v.stage × (m ≤ most_children)
IsRow single (rows.TankOrder a b q) = IsPair a.carrier a.stage × IsPair b.carrier b.stage × (unsigned_abs q ≤ most_shift)
IsRow single (rows.HoistOrder a b q) = IsPair a.carrier a.step × IsPair b.carrier b.step × (unsigned_abs q ≤ most_shift)
IsRow single (rows.Assign m n) = IsPair m.carrier m.step × (n ≤ most_children)
IsRow single (rows.ClosedLow low high) = IsWalk low × IsWalkOr high
IsRow single (rows.ClosedHigh high) = IsWalk high
IsRow single (rows.Stuck m) = IsStuckText single m.carrier m.step
IsRow single (rows.Solved low) = IsWalk low
IsRow single (rows.Left low) = IsWalkOr low

rows_apart : (kinds : List RowKind) → AreApart row_word kinds
rows_apart kinds lines.Choose lines.Choose t y f g e = refl
rows_apart kinds lines.TankOrder lines.TankOrder t y f g e = refl
rows_apart kinds lines.HoistOrder lines.HoistOrder t y f g e = refl
rows_apart kinds lines.Assign lines.Assign t y f g e = refl
rows_apart kinds lines.ClosedLow lines.ClosedLow t y f g e = refl
rows_apart kinds lines.ClosedHigh lines.ClosedHigh t y f g e = refl
rows_apart kinds lines.Stuck lines.Stuck t y f g e = refl
rows_apart kinds lines.Solved lines.Solved t y f g e = refl
rows_apart kinds lines.Left lines.Left t y f g e = refl
rows_apart kinds j k t y f g e = absurd (apart_is (row_word j) (row_word k) t y refl e)

in_single : (k : RowKind) → (k ≡ lines.Choose → ⊥) → In single_kinds k
in_single lines.Choose ne = absurd (ne refl)
in_single lines.TankOrder ne = inl refl
in_single lines.HoistOrder ne = inr (inl refl)
in_single lines.Assign ne = inr (inr (inl refl))
in_single lines.ClosedLow ne = inr (inr (inr (inl refl)))
in_single lines.ClosedHigh ne = inr (inr (inr (inr (inl refl))))
in_single lines.Stuck ne = inr (inr (inr (inr (inr (inl refl)))))
in_single lines.Solved ne = inr (inr (inr (inr (inr (inr (inl refl))))))
in_single lines.Left ne = inr (inr (inr (inr (inr (inr (inr (inl refl)))))))

in_all : (k : RowKind) → In all_kinds k
in_all lines.Choose = inl refl
in_all lines.TankOrder = inr (in_single lines.TankOrder (λ e. absurd cc))
in_all lines.HoistOrder = inr (in_single lines.HoistOrder (λ e. absurd cc))
in_all lines.Assign = inr (in_single lines.Assign (λ e. absurd cc))
in_all lines.ClosedLow = inr (in_single lines.ClosedLow (λ e. absurd cc))
in_all lines.ClosedHigh = inr (in_single lines.ClosedHigh (λ e. absurd cc))
in_all lines.Stuck = inr (in_single lines.Stuck (λ e. absurd cc))
in_all lines.Solved = inr (in_single lines.Solved (λ e. absurd cc))
in_all lines.Left = inr (in_single lines.Left (λ e. absurd cc))

never_chosen : (r : Row) → IsRow true r → kind_of r ≡ lines.Choose → ⊥
never_chosen (rows.Choose v m) f e = let bad = f.0 in absurd cc
never_chosen r f e = absurd cc

row_in : (single : Bool) (r : Row) → IsRow single r → In (row_kinds single) (kind_of r)
row_in true r f = in_single (kind_of r) (never_chosen r f)
row_in false r f = in_all (kind_of r)

small_pair : IsPair 0 0
small_pair = (omega arith, omega arith)

a_stuck : (single : Bool) → IsStuckText single 0 0
a_stuck true = (refl, omega arith)
a_stuck false = small_pair

abbrev Line : Bool → RowKind → Row → Type 0
Line single k r = IsRow single r × (kind_of r ≡ k)

some_row : (single : Bool) (k : RowKind) → In (row_kinds single) k → (r : Row) × IsRow single r × (kind_of r ≡ k)
some_row true lines.Choose f = absurd (not_single f)
  where
    not_single : In single_kinds lines.Choose → ⊥
    not_single (inl e) = absurd cc
    not_single (inr (inl e)) = absurd cc
    not_single (inr (inr (inl e))) = absurd cc
    not_single (inr (inr (inr (inl e)))) = absurd cc
    not_single (inr (inr (inr (inr (inl e))))) = absurd cc
    not_single (inr (inr (inr (inr (inr (inl e)))))) = absurd cc
    not_single (inr (inr (inr (inr (inr (inr (inl e))))))) = absurd cc
    not_single (inr (inr (inr (inr (inr (inr (inr (inl e)))))))) = absurd cc
    not_single (inr (inr (inr (inr (inr (inr (inr (inr e)))))))) = absurd e
some_row false lines.Choose f = (rows.Choose (visit_of (0, 0)) 0, (refl, small_pair, omega arith), refl)
some_row single lines.TankOrder f = (rows.TankOrder (visit_of (0, 0)) (visit_of (0, 0)) (pos 0), (small_pair, small_pair, omega arith), refl)
some_row single lines.HoistOrder f = (rows.HoistOrder (move_of (0, 0)) (move_of (0, 0)) (pos 0), (small_pair, small_pair, omega arith), refl)
some_row single lines.Assign f = (rows.Assign (move_of (0, 0)) 0, (small_pair, omega arith), refl)
some_row single lines.ClosedLow f = (rows.ClosedLow a_walk.0 None, (a_walk.1, tt), refl)
some_row single lines.ClosedHigh f = (rows.ClosedHigh a_walk.0, a_walk.1, refl)
some_row single lines.Stuck f = (rows.Stuck (move_of (0, 0)), a_stuck single, refl)
some_row single lines.Solved f = (rows.Solved a_walk.0, a_walk.1, refl)
some_row single lines.Left f = (rows.Left None, tt, refl)

some_pair : (c k : ℕ) → IsPair c k → FitsPair (c, k)
some_pair c k f = ((omega arith, f.0), (omega arith, f.1))

pair_fits : (p : ℕ × ℕ) → FitsPair p → IsPair p.0 p.1
pair_fits p f = (f.0.1, f.1.1)

rest_read : (single : Bool) (k : RowKind) → In (row_kinds single) k → (bytes : List ℕ)
    → Reads (Line single k) (row_after single) Any bytes (row_rest single k bytes)
unfolding row_rest
rest_read true lines.Choose inside bytes = absurd (never_chosen_kind inside)
  where
    never_chosen_kind : In (row_kinds true) lines.Choose → ⊥
    never_chosen_kind f = let r = some_row true lines.Choose f in never_chosen r.0 r.1 r.2
rest_read false lines.Choose inside bytes =
    made_reads FitsCounted counted_text (Line false lines.Choose) (row_after false) Any (λ p. rows.Choose (visit_of p.0) p.1) bytes (counted_at bytes)
    (λ p f. (((refl, pair_fits p.0 f.0, f.1.1), refl), refl)) from (counted_read bytes)
  where
    from : (r : Row) (t : List ℕ) → Line false lines.Choose r → Any t → SameHead (row_after false r ++ t) bytes
        → (p : (ℕ × ℕ) × ℕ) × FitsCounted p × (rows.Choose (visit_of p.0) p.1 ≡ r)
    from (rows.Choose v m) t f s h = (((v.carrier, v.stage), m), (some_pair v.carrier v.stage f.0.1, (omega arith, f.0.2)), refl)
    from r t f s h = let e = f.1 in absurd cc
rest_read single lines.TankOrder inside bytes =
    made_reads FitsOrder order_text (Line single lines.TankOrder) (row_after single) Any (λ p. rows.TankOrder (visit_of p.0.0) (visit_of p.0.1) p.1) bytes
    (order_at bytes) (λ p f. (((pair_fits p.0.0 f.0.0, pair_fits p.0.1 f.0.1, f.1), refl), refl)) from (order_read bytes)
  where
    from : (r : Row) (t : List ℕ) → Line single lines.TankOrder r → Any t → SameHead (row_after single r ++ t) bytes
        → (p : Order) × FitsOrder p × (rows.TankOrder (visit_of p.0.0) (visit_of p.0.1) p.1 ≡ r)
    from (rows.TankOrder a b q) t f s h =
        ((((a.carrier, a.stage), (b.carrier, b.stage)), q), ((some_pair a.carrier a.stage f.0.0, some_pair b.carrier b.stage f.0.1), f.0.2), refl)
    from r t f s h = let e = f.1 in absurd cc
rest_read single lines.HoistOrder inside bytes =
    made_reads FitsOrder order_text (Line single lines.HoistOrder) (row_after single) Any (λ p. rows.HoistOrder (move_of p.0.0) (move_of p.0.1) p.1) bytes
    (order_at bytes) (λ p f. (((pair_fits p.0.0 f.0.0, pair_fits p.0.1 f.0.1, f.1), refl), refl)) from (order_read bytes)
  where
    from : (r : Row) (t : List ℕ) → Line single lines.HoistOrder r → Any t → SameHead (row_after single r ++ t) bytes
        → (p : Order) × FitsOrder p × (rows.HoistOrder (move_of p.0.0) (move_of p.0.1) p.1 ≡ r)
    from (rows.HoistOrder a b q) t f s h =
        ((((a.carrier, a.step), (b.carrier, b.step)), q), ((some_pair a.carrier a.step f.0.0, some_pair b.carrier b.step f.0.1), f.0.2), refl)
    from r t f s h = let e = f.1 in absurd cc
rest_read single lines.Assign inside bytes =
    made_reads FitsCounted counted_text (Line single lines.Assign) (row_after single) Any (λ p. rows.Assign (move_of p.0) p.1) bytes (counted_at bytes)
    (λ p f. (((pair_fits p.0 f.0, f.1.1), refl), refl)) from (counted_read bytes)
  where
    from : (r : Row) (t : List ℕ) → Line single lines.Assign r → Any t → SameHead (row_after single r ++ t) bytes
        → (p : (ℕ × ℕ) × ℕ) × FitsCounted p × (rows.Assign (move_of p.0) p.1 ≡ r)
    from (rows.Assign m n) t f s h = (((m.carrier, m.step), n), (some_pair m.carrier m.step f.0.0, (omega arith, f.0.1)), refl)
    from r t f s h = let e = f.1 in absurd cc
rest_read single lines.ClosedLow inside bytes =
    made_reads (λ p. IsWalk p.0 × IsWalkOr p.1) (λ p. walk_text p.0 ++ high_text p.1) (Line single lines.ClosedLow) (row_after single) Any
    (λ p. rows.ClosedLow p.0 p.1) bytes
    (next_at walk_at tail_at bytes) (λ p f. ((f, refl), refl)) from
    (next_reads IsWalk walk_text NoDigit walk_at IsWalkOr high_text Any tail_at None tt (λ o t f s. tail_stops o t) walk_read tail_read bytes)
  where
    from : (r : Row) (t : List ℕ) → Line single lines.ClosedLow r → Any t → SameHead (row_after single r ++ t) bytes
        → (p : List Constraint × Option (List Constraint)) × (IsWalk p.0 × IsWalkOr p.1) × (rows.ClosedLow p.0 p.1 ≡ r)
    from (rows.ClosedLow low high) t f s h = ((low, high), f.0, refl)
    from r t f s h = let e = f.1 in absurd cc
rest_read single lines.ClosedHigh inside bytes =
    made_reads IsWalk walk_line (Line single lines.ClosedHigh) (row_after single) Any (λ w. rows.ClosedHigh w) bytes (walk_line_at bytes)
    (λ w f. ((f, refl), refl)) from (walk_line_read bytes)
  where
    from : (r : Row) (t : List ℕ) → Line single lines.ClosedHigh r → Any t → SameHead (row_after single r ++ t) bytes
        → (w : List Constraint) × IsWalk w × (rows.ClosedHigh w ≡ r)
    from (rows.ClosedHigh w) t f s h = (w, f.0, refl)
    from r t f s h = let e = f.1 in absurd cc
rest_read single lines.Stuck inside bytes =
    made_reads (FitsStuck single) (λ p. stuck_text single p.0 p.1) (Line single lines.Stuck) (row_after single) Any (λ p. rows.Stuck (move_of p)) bytes
    (stuck_at single bytes) (λ p f. ((f, refl), refl)) from (stuck_read single bytes)
  where
    from : (r : Row) (t : List ℕ) → Line single lines.Stuck r → Any t → SameHead (row_after single r ++ t) bytes
        → (p : ℕ × ℕ) × FitsStuck single p × (rows.Stuck (move_of p) ≡ r)
    from (rows.Stuck m) t f s h = ((m.carrier, m.step), f.0, refl)
    from r t f s h = let e = f.1 in absurd cc
rest_read single lines.Solved inside bytes =
    made_reads IsWalk walk_line (Line single lines.Solved) (row_after single) Any (λ w. rows.Solved w) bytes (walk_line_at bytes)
    (λ w f. ((f, refl), refl)) from (walk_line_read bytes)
  where
    from : (r : Row) (t : List ℕ) → Line single lines.Solved r → Any t → SameHead (row_after single r ++ t) bytes
        → (w : List Constraint) × IsWalk w × (rows.Solved w ≡ r)
    from (rows.Solved w) t f s h = (w, f.0, refl)
    from r t f s h = let e = f.1 in absurd cc
rest_read single lines.Left inside bytes =
    made_reads IsWalkOr left_text (Line single lines.Left) (row_after single) Any (λ o. rows.Left o) bytes (left_at bytes) (λ o f. ((f, refl), refl)) from
    (left_read bytes)
  where
    from : (r : Row) (t : List ℕ) → Line single lines.Left r → Any t → SameHead (row_after single r ++ t) bytes
        → (o : Option (List Constraint)) × IsWalkOr o × (rows.Left o ≡ r)
    from (rows.Left o) t f s h = (o, f.0, refl)
    from r t f s h = let e = f.1 in absurd cc

kinds_read : (single : Bool) (bytes : List ℕ)
    → Reads (In (row_kinds single)) row_word Any bytes (kind_at row_word (row_kinds single) bytes)
kinds_read true bytes =
    kind_read row_word lines.TankOrder (lines.HoistOrder ∷ lines.Assign ∷ lines.ClosedLow ∷ lines.ClosedHigh ∷ lines.Stuck ∷ lines.Solved ∷ lines.Left ∷ [])
    bytes (rows_apart single_kinds)
kinds_read false bytes = kind_read row_word lines.Choose single_kinds bytes (rows_apart all_kinds)

pub row_read : (single : Bool) (bytes : List ℕ) → Reads (IsRow single) (row_text single) Any bytes (row_at single bytes)
unfolding row_at
row_read single bytes =
    then_reads (In (row_kinds single)) row_word Any (IsRow single) (row_text single) Any kind_of (row_after single)
    (record { parts = row_in single; text = λ r f. refl; stops = λ r t f s. tt; completes = some_row single })
    bytes (kind_at row_word (row_kinds single) bytes) (λ x. row_rest single x.0 x.1) (kinds_read single bytes)
    (λ k rest f e. rest_read single k f rest)
