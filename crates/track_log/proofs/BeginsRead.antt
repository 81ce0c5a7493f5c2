-- The begins of a tick line, and what stands behind its letters, are read as they are written.
use Rattle.std.proofs.Common.{◌≡◌, ℕ, zero, suc, ◌+◌, ◌-◌, ◌≤◌, ◌<◌, ◌^◌, Option, None, Some, IfSome, List, [], ◌∷◌, ◌++◌, length, get_or, codes, decimal, ◌⊎◌, inl, inr}
use Rattle.std.proofs.Common.{Bool, true, false, Result, Ok, refl, sym, ap, subst, ◌∙◌, append_assoc, arith}
use Rattle.std.specs.List.{AllByRecursion}
use Rattle.std.proofs.lemmas.List.{append_cancel_left, nil_from_length}
use Rattle.hoist_base.specs.LineData.{LineData}
use Rattle.text_writing.specs.Texts.{end}
use Rattle.field_reading.specs.Reading.{◌>>=◌, word_at, number_at}
use Rattle.field_reading.specs.Reads.{SameHead, Reads, Any, NoDigit, InRange}
use Rattle.field_reading.proofs.Field.{word_reads, done_reads, made_reads}
use Rattle.field_reading.proofs.Items.{IsCons, cons_items}
use Rattle.field_reading.proofs.Numbers.{number_read, value_is}
use Rattle.field_reading.proofs.Words.{bind_ext, word_at_append}
use Rattle.track_log.specs.Logs.{flag_text, begin_front, begins_text}
use Rattle.track_log.specs.Reading.{or_at, flag_at, begin_at, tank_at, begins_at, tail_at}
use Rattle.track_log.proofs.Choices.{IsChoice, choice_reads, flag_reads}

abbrev pub IsTank : LineData → Option ℕ → Type 0
IsTank l o = IfSome o (λ tank. tank < length l.tanks)

-- begins of n hoists, to tanks of the line
abbrev pub IsBegins : LineData → ℕ → List (Option ℕ) → Type 0
IsBegins l n xs = (length xs ≡ n) × AllByRecursion (IsTank l) xs

-- the begins of the hoists from h on, and the end of the line
abbrev pub begins_line : ℕ → List (Option ℕ) → List ℕ
begins_line h xs = begins_text h xs ++ end

-- the line has tanks, and no more than numbers go
abbrev pub HasFew : LineData → Type 0
HasFew l = (1 ≤ length l.tanks) × (length l.tanks ≤ 64) × (l.hoists ≤ 6)

-- nobody begins
abbrev pub nobody : ℕ → List (Option ℕ)
nobody zero = []
nobody (suc n) = None ∷ nobody n

pub nobody_fits : (l : LineData) (n : ℕ) → IsBegins l n (nobody n)
nobody_fits l zero = (refl, tt)
nobody_fits l (suc n) = let f = nobody_fits l n in (ap suc f.0, (tt, f.1))

-- ---- how the line goes on

no_digit : (h : ℕ) (xs : List (Option ℕ)) (t : List ℕ) → NoDigit (begins_line h xs ++ t)
no_digit h [] t = refl
no_digit h (None ∷ xs) t = no_digit (h + 1) xs t
no_digit h (Some tank ∷ xs) t = refl

-- the word of another hoist
other_front : (h k : ℕ) (t y : List ℕ) → h < k → k < 2 ^ 64 → begin_front k ++ t ≡ begin_front h ++ y → ⊥
other_front h k t y lt few e =
    let flat : codes " begin " ++ (decimal k ++ (codes " " ++ t)) ≡ codes " begin " ++ (decimal h ++ (codes " " ++ y)) =
    ap (λ (l : List ℕ). codes " begin " ++ l) (sym (append_assoc (decimal k) (codes " ") t)) ∙ e
    ∙ ap (λ (l : List ℕ). codes " begin " ++ l) (append_assoc (decimal h) (codes " ") y) in
    let same = append_cancel_left (codes " begin ") (decimal k ++ (codes " " ++ t)) (decimal h ++ (codes " " ++ y)) flat in
    let one : k ≡ h = value_is k h (codes " " ++ t) (codes " " ++ y) few (omega (arith, lt, few)) refl same in
    omega (arith, one, lt)

-- no begin of a later hoist has the word of hoist h
later_apart : (h k : ℕ) (xs : List (Option ℕ)) (t y : List ℕ) → h < k → k + length xs < 2 ^ 64
    → begins_line k xs ++ t ≡ begin_front h ++ y → ⊥
later_apart h k [] t y lt few e = absurd cc
later_apart h k (None ∷ xs) t y lt few e = later_apart h (k + 1) xs t y (omega (arith, lt)) (omega (arith, few)) e
later_apart h k (Some tank ∷ xs) t y lt few e =
    let more = decimal tank ++ begins_text (k + 1) xs in
    let flat : begin_front k ++ (more ++ (end ++ t)) ≡ begin_front h ++ y =
    sym (append_assoc (begin_front k) more (end ++ t)) ∙ sym (append_assoc (begin_front k ++ more) end t) ∙ e in
    other_front h k (more ++ (end ++ t)) y lt (omega (arith, few)) flat

-- ---- one hoist begins, or doesn't

abbrev Begins : List (Option ℕ) → Type 0
Begins [] = ⊥
Begins (None ∷ xs) = ⊥
Begins (Some tank ∷ xs) = Unit {0}

abbrev Waits : List (Option ℕ) → Type 0
Waits [] = ⊥
Waits (None ∷ xs) = Unit {0}
Waits (Some tank ∷ xs) = ⊥

abbrev tank_text : Option ℕ → List ℕ
tank_text None = []
tank_text (Some tank) = decimal tank

-- behind the word of hoist h
abbrev after_front : ℕ → List (Option ℕ) → List ℕ
after_front h [] = []
after_front h (o ∷ xs) = tank_text o ++ begins_line (h + 1) xs

-- to a tank
abbrev Chosen : LineData → Option ℕ → Type 0
Chosen l None = ⊥
Chosen l (Some tank) = tank < length l.tanks

tank_read : (l : LineData) (bytes : List ℕ) → HasFew l → Reads (Chosen l) tank_text NoDigit bytes (tank_at l bytes)
unfolding tank_at
tank_read l bytes few =
    made_reads (InRange 0 (length l.tanks - 1)) decimal (Chosen l) tank_text NoDigit (λ x. Some x) bytes (number_at 0 (length l.tanks - 1) bytes)
    (λ x f. (omega (arith, f.1, few.0), refl)) from
    (number_read 0 (length l.tanks - 1) bytes (omega arith) (omega arith) (omega (arith, few.1)))
  where
    from : (o : Option ℕ) (t : List ℕ) → Chosen l o → NoDigit t → SameHead (tank_text o ++ t) bytes
        → (x : ℕ) × InRange 0 (length l.tanks - 1) x × (Some x ≡ o)
    from None t f s head = absurd f
    from (Some tank) t f s head = (tank, (omega arith, omega (arith, f)), refl)

begin_is : (h : ℕ) (bytes : List ℕ) → word_at (begin_front h) bytes ≡ begin_at h bytes
unfolding begin_at
begin_is h bytes =
    word_at_append (codes " begin ") (decimal h ++ codes " ") bytes
    ∙ bind_ext (word_at (codes " begin ") bytes) (λ a. word_at (decimal h ++ codes " ") a) (λ a. word_at (decimal h) a >>= λ b. word_at (codes " ") b)
    (λ a. word_at_append (decimal h) (codes " ") a)

is_choice : (l : LineData) (h n : ℕ) → HasFew l → h + suc n < 2 ^ 64
    → IsChoice (begin_front h) (λ xs. IsBegins l (suc n) xs × Begins xs) (λ xs. IsBegins l (suc n) xs × Waits xs)
    (IsBegins l (suc n)) (begins_line h) (after_front h)
is_choice l h n few small = record {
  splits = splits;
  with_word = λ xs f. f.0;
  without = λ xs f. f.0;
  begins = begins;
  apart = apart;
  some = (Some 0 ∷ nobody n, let f = nobody_fits l n in ((ap suc f.0, (few.0, f.1)), tt));
}
  where
    splits : (xs : List (Option ℕ)) → IsBegins l (suc n) xs
        → (IsBegins l (suc n) xs × Begins xs) ⊎ (IsBegins l (suc n) xs × Waits xs)
    splits [] f = absurd (omega (arith, f.0))
    splits (None ∷ xs) f = inr (f, tt)
    splits (Some tank ∷ xs) f = inl (f, tt)

    begins : (xs : List (Option ℕ)) → IsBegins l (suc n) xs × Begins xs
        → begins_line h xs ≡ begin_front h ++ after_front h xs
    begins [] f = absurd f.1
    begins (None ∷ xs) f = absurd f.1
    begins (Some tank ∷ xs) f =
        append_assoc (begin_front h) (decimal tank ++ begins_text (h + 1) xs) end
        ∙ ap (λ (t : List ℕ). begin_front h ++ t) (append_assoc (decimal tank) (begins_text (h + 1) xs) end)

    apart : (xs : List (Option ℕ)) (t y : List ℕ) → IsBegins l (suc n) xs × Waits xs
        → begins_line h xs ++ t ≡ begin_front h ++ y → ⊥
    apart [] t y f e = absurd f.1
    apart (None ∷ xs) t y f e = later_apart h (h + 1) xs t y (omega arith) (omega (arith, small, f.0.0)) e
    apart (Some tank ∷ xs) t y f e = absurd f.1

-- the tank of hoist h, and the begins behind it
is_cons : (l : LineData) (h n : ℕ)
    → IsCons (Chosen l) tank_text NoDigit (λ xs. IsBegins l (suc n) xs × Begins xs) (after_front h) Any (λ x xs. IsBegins l n xs) (begins_line (h + 1))
is_cons l h n = record {
  behind = behind;
  whole = whole;
  none = λ f. absurd f.1;
  text = λ x xs. refl;
  stops = λ x xs t f s. no_digit (h + 1) xs t;
  completes = λ x f. (nobody n, nobody_fits l n);
}
  where
    behind : (x : Option ℕ) (xs : List (Option ℕ)) → IsBegins l (suc n) (x ∷ xs) × Begins (x ∷ xs)
        → Chosen l x × IsBegins l n xs
    behind None xs f = absurd f.1
    behind (Some tank) xs f = (f.0.1.0, (omega (arith, f.0.0), f.0.1.1))

    whole : (x : Option ℕ) (xs : List (Option ℕ)) → Chosen l x → IsBegins l n xs
        → IsBegins l (suc n) (x ∷ xs) × Begins (x ∷ xs)
    whole None xs f g = absurd f
    whole (Some tank) xs f g = ((ap suc g.0, (f, g.1)), tt)

pub begins_read : (l : LineData) (h n : ℕ) (bytes : List ℕ) → HasFew l → h + n < 2 ^ 64
    → Reads (IsBegins l n) (begins_line h) Any bytes (begins_at l h n bytes)
unfolding begins_at
begins_read l h zero bytes few small =
    word_reads (IsBegins l 0) (begins_line h) (λ xs. []) Any end bytes (λ rest. Ok ([], rest)) [] (refl, tt)
    (λ xs f. ap (begins_line h) (nil_from_length xs f.0))
    (λ rest e. done_reads (IsBegins l 0) Any rest [] (refl, tt) (λ xs f. nil_from_length xs f.0))
begins_read l h (suc n) bytes few small =
    let FY : List (Option ℕ) → Type 0 = λ xs. IsBegins l (suc n) xs × Begins xs in
    let FN : List (Option ℕ) → Type 0 = λ xs. IsBegins l (suc n) xs × Waits xs in
    let behind : List ℕ → Result (List (Option ℕ) × List ℕ) ℕ = λ rest. tank_at l rest >>= λ x. begins_at l (h + 1) n x.1 >>= λ y. Ok (x.0 ∷ y.0, y.1) in
    let other : Result (List (Option ℕ) × List ℕ) ℕ = begins_at l (h + 1) n bytes >>= λ y. Ok (None ∷ y.0, y.1) in
    subst (λ (w : Result (List ℕ) ℕ). Reads (IsBegins l (suc n)) (begins_line h) Any bytes (or_at w behind other)) (begin_is h bytes)
    (choice_reads (begin_front h) FY FN (IsBegins l (suc n)) (begins_line h) (after_front h) Any bytes behind other (is_choice l h n few small)
    (λ rest e.
    cons_items (Chosen l) tank_text NoDigit FY (after_front h) Any (λ x xs. IsBegins l n xs) (begins_line (h + 1))
    (Some 0) (is_cons l h n) rest (tank_at l rest)
    (λ x. begins_at l (h + 1) n x.1) (tank_read l rest few) (λ a after f e'. begins_read l (h + 1) n after few (omega (arith, small))))
    (made_reads (IsBegins l n) (begins_line (h + 1)) FN (begins_line h) Any (λ xs. None ∷ xs) bytes (begins_at l (h + 1) n bytes)
    (λ xs f. (((ap suc f.0, (tt, f.1)), tt), refl)) from (begins_read l (h + 1) n bytes few (omega (arith, small)))))
  where
    from : (xs : List (Option ℕ)) (t : List ℕ) → IsBegins l (suc n) xs × Waits xs → Any t
        → SameHead (begins_line h xs ++ t) bytes
        → (ys : List (Option ℕ)) × IsBegins l n ys × (None ∷ ys ≡ xs)
    from [] t f s head = absurd f.1
    from (None ∷ xs) t f s head = (xs, (omega (arith, f.0.0), f.0.1.1), refl)
    from (Some tank ∷ xs) t f s head = absurd f.1

-- ---- off, put and the begins

no_put : (h : ℕ) (xs : List (Option ℕ)) (t y : List ℕ) → begins_line h xs ++ t ≡ codes " put" ++ y → ⊥
no_put h [] t y e = absurd cc
no_put h (None ∷ xs) t y e = no_put (h + 1) xs t y e
no_put h (Some tank ∷ xs) t y e = let b : 98 ≡ 112 = ap (λ (l : List ℕ). get_or l 1 0) e in omega (arith, b)

no_off : (h : ℕ) (xs : List (Option ℕ)) (t y : List ℕ) → begins_line h xs ++ t ≡ codes " off" ++ y → ⊥
no_off h [] t y e = absurd cc
no_off h (None ∷ xs) t y e = no_off (h + 1) xs t y e
no_off h (Some tank ∷ xs) t y e = let b : 98 ≡ 111 = ap (λ (l : List ℕ). get_or l 1 0) e in omega (arith, b)

put_no_off : (put : Bool) (xs : List (Option ℕ)) (t y : List ℕ)
    → (flag_text (codes " put") put ++ begins_line 0 xs) ++ t ≡ codes " off" ++ y → ⊥
put_no_off true xs t y e = let b : 112 ≡ 111 = ap (λ (l : List ℕ). get_or l 1 0) e in omega (arith, b)
put_no_off false xs t y e = no_off 0 xs t y e

abbrev pub Tail : Type 0
Tail = Bool × (Bool × List (Option ℕ))

abbrev pub IsTail : LineData → Tail → Type 0
IsTail l x = IsBegins l l.hoists x.1.1

abbrev pub tail_text : Tail → List ℕ
tail_text x = flag_text (codes " off") x.0 ++ (flag_text (codes " put") x.1.0 ++ begins_line 0 x.1.1)

pub tail_read : (l : LineData) (bytes : List ℕ) → HasFew l → Reads (IsTail l) tail_text Any bytes (tail_at l bytes)
unfolding tail_at
tail_read l bytes few =
    let none = nobody_fits l l.hoists in
    flag_reads (codes " off") (λ (x : Bool × List (Option ℕ)). IsBegins l l.hoists x.1) (λ x. flag_text (codes " put") x.0 ++ begins_line 0 x.1) Any
    (flag_at (codes " put") (begins_at l 0 l.hoists)) (false, nobody l.hoists) none (λ x t y f e. put_no_off x.0 x.1 t y e)
    (λ rest.
    flag_reads (codes " put") (IsBegins l l.hoists) (begins_line 0) Any (begins_at l 0 l.hoists) (nobody l.hoists) none (λ xs t y f e. no_put 0 xs t y e)
    (λ after. begins_read l 0 l.hoists after few (omega (arith, few.2))) rest)
    bytes
