-- A log is read as it is written.
use Rattle.std.proofs.Common.{◌≡◌, ℕ, zero, suc, ◌+◌, ◌≤◌, List, [], ◌∷◌, ◌++◌, length, codes, ◌⊎◌, inl, inr, ⊎_elim, get_or, eqb, decimal}
use Rattle.std.proofs.Common.{Bool, true, false, cond, Ok, refl, sym, ap, subst, ◌∙◌, append_assoc, arith}
use Rattle.std.specs.Prelude.{◌&&◌, nat_lt, flat_map}
use Rattle.std.specs.List.{AllByRecursion}
use Rattle.std.proofs.lemmas.Bool.{eqb-true, eq-eqb, and_parts, and_from, ltb-true, lt-ltb}
use Rattle.std.proofs.lemmas.List.{nil_from_length}
use Rattle.std.proofs.lemmas.List.Concat.{flat_map-cons}
use Rattle.std.proofs.lemmas.List.Elements.{All-from_recursion, recursion_from_All}
use Rattle.hoist_base.specs.LineData.{LineData}
use Rattle.hoist_base.specs.Valid.{IsLine}
use Rattle.tick_machine.specs.declared.order.Go.{Go}
use Rattle.tick_machine.specs.declared.order.Go.TheVariants.{Stay, Low, High}
use Rattle.text_writing.specs.Texts.{end}
use Rattle.field_reading.specs.Reading.{◌>>=◌, number_at, begins, next_at, items_at}
use Rattle.field_reading.specs.Reads.{SameHead, Reads, Any, NoDigit, InRange, In}
use Rattle.field_reading.proofs.Field.{word_reads, done_reads, made_reads, narrow_reads, retext}
use Rattle.field_reading.proofs.Items.{IsCons, AllFrom, cons_items, items_read, texts_from, texts_are, nils, length_nils}
use Rattle.field_reading.proofs.Numbers.{number_read}
use Rattle.field_reading.proofs.Words.{kind_read, next_reads, worded_reads, refit}
use Rattle.track_log.specs.Logs.{TickLine, LogData, FitsTick, IsLog, tick_line, most_ticks, most_position, go_word, position_text, tick_text, log_text}
use Rattle.track_log.specs.Reading.{goes, letter_at, letters_at, tail_at, tick_of, tick_at, end_at, lines_at, position_at, places_at, log_of, log_at}
use Rattle.track_log.proofs.BeginsRead.{Tail, IsTail, tail_text, tail_read, nobody, nobody_fits, HasFew}
use Rattle.track_log.proofs.Tails.{has_few}

-- ---- letters

same_go : (a b : Go) (t y : List ℕ) → go_word a ++ t ≡ go_word b ++ y → a ≡ b
same_go Stay Stay t y e = refl
same_go Stay Low t y e = let h : 115 ≡ 108 = ap (λ (l : List ℕ). get_or l 0 0) e in absurd (omega (arith, h))
same_go Stay High t y e = let h : 115 ≡ 104 = ap (λ (l : List ℕ). get_or l 0 0) e in absurd (omega (arith, h))
same_go Low Stay t y e = let h : 108 ≡ 115 = ap (λ (l : List ℕ). get_or l 0 0) e in absurd (omega (arith, h))
same_go Low Low t y e = refl
same_go Low High t y e = let h : 108 ≡ 104 = ap (λ (l : List ℕ). get_or l 0 0) e in absurd (omega (arith, h))
same_go High Stay t y e = let h : 104 ≡ 115 = ap (λ (l : List ℕ). get_or l 0 0) e in absurd (omega (arith, h))
same_go High Low t y e = let h : 104 ≡ 108 = ap (λ (l : List ℕ). get_or l 0 0) e in absurd (omega (arith, h))
same_go High High t y e = refl

letter_read : (t : ℕ) (bytes : List ℕ) → Reads (In (goes t)) go_word Any bytes (letter_at t bytes)
unfolding letter_at
letter_read zero bytes = kind_read go_word Stay [] bytes (λ a b t y fa fb e. same_go a b t y e)
letter_read (suc t) bytes = kind_read go_word Stay (Low ∷ High ∷ []) bytes (λ a b t y fa fb e. same_go a b t y e)

stays_in : (t : ℕ) → In (goes t) Stay
stays_in zero = inl refl
stays_in (suc t) = inl refl

abbrev Letters : ℕ → ℕ → List Go → Type 0
Letters hoists t xs = (length xs ≡ hoists) × AllFrom (λ h. In (goes t)) 0 xs

letters_read : (hoists t : ℕ) (bytes : List ℕ)
    → Reads (Letters hoists t) (flat_map go_word) Any bytes (letters_at hoists t bytes)
letters_read hoists t bytes =
    retext (Letters hoists t) (λ xs. texts_from (λ h. go_word) 0 xs) (flat_map go_word) Any bytes (letters_at hoists t bytes) (λ xs f. texts_are go_word 0 xs)
    (items_read (λ h. In (goes t)) (λ h. go_word) Any (λ h. letter_at t) (λ h. Stay)
    (record { reads = λ h. letter_read t; stops = λ h a u f s. tt; nil_fits = λ h. stays_in t }) 0 hoists bytes)

-- at tick 0 all stay
abbrev AllStay : List Go → Type 0
AllStay xs = AllByRecursion (λ go. go ≡ Stay) xs

in_stay : (go : Go) → In (Stay ∷ []) go → go ≡ Stay
in_stay go f = ⊎_elim (λ e. e) (λ none. absurd none) f

in_all : (go : Go) → In (Stay ∷ Low ∷ High ∷ []) go
in_all Stay = inl refl
in_all Low = inr (inl refl)
in_all High = inr (inr (inl refl))

stay_into : (i : ℕ) (xs : List Go) → AllFrom (λ h. In (goes 0)) i xs → AllStay xs
stay_into i [] f = tt
stay_into i (x ∷ xs) f = (in_stay x f.0, stay_into (i + 1) xs f.1)

stay_from : (i : ℕ) (xs : List Go) → AllStay xs → AllFrom (λ h. In (goes 0)) i xs
stay_from i [] f = tt
stay_from i (x ∷ xs) f = (inl f.0, stay_from (i + 1) xs f.1)

any_from : (t i : ℕ) (xs : List Go) → AllFrom (λ h. In (goes (suc t))) i xs
any_from t i [] = tt
any_from t i (x ∷ xs) = (in_all x, any_from t (i + 1) xs)

goes_into : (t : ℕ) (xs : List Go) → AllFrom (λ h. In (goes t)) 0 xs → t ≡ 0 → AllStay xs
goes_into zero xs f e = stay_into 0 xs f
goes_into (suc t) xs f e = absurd (omega (arith, e))

goes_from : (t : ℕ) (xs : List Go) → (t ≡ 0 → AllStay xs) → AllFrom (λ h. In (goes t)) 0 xs
goes_from zero xs f = stay_from 0 xs (f refl)
goes_from (suc t) xs f = any_from t 0 xs

-- ---- tick lines

-- the orders fit the line, and those of tick 0 move no hoist
pub record IsTick (l : LineData) (t : ℕ) (x : TickLine) : Type 0 where
  pub fits : FitsTick l x
  pub still : t ≡ 0 → AllStay x.go

abbrev Parts : Type 0
Parts = List Go × Tail

abbrev FitsParts : LineData → ℕ → Parts → Type 0
FitsParts l t p = Letters l.hoists t p.0 × IsTail l p.1

tick_into : (l : LineData) (t : ℕ) (p : Parts) → FitsParts l t p → IsTick l t (tick_of p)
tick_into l t p f = record {
  fits = record { go = f.0.0; begin = f.1.0; tanks = All-from_recursion _ p.1.1.1 f.1.1 };
  still = goes_into t p.0 f.0.1;
}

tick_from : (l : LineData) (t : ℕ) (x : TickLine) → IsTick l t x → FitsParts l t (x.go, (x.off, (x.put, x.begin)))
tick_from l t x f = ((f.fits.go, goes_from t x.go f.still), (f.fits.begin, recursion_from_All _ x.begin f.fits.tanks))

pub tick_read : (l : LineData) (t : ℕ) (bytes : List ℕ) → HasFew l
    → Reads (IsTick l t) tick_text Any bytes (tick_at l t bytes)
unfolding tick_at
tick_read l t bytes few =
    made_reads (FitsParts l t) (λ p. flat_map go_word p.0 ++ tail_text p.1) (IsTick l t) tick_text Any tick_of bytes
    (next_at (letters_at l.hoists t) (tail_at l) bytes) (λ p f. (tick_into l t p f, refl))
    (λ x u f s head. ((x.go, (x.off, (x.put, x.begin))), tick_from l t x f, refl))
    (next_reads (Letters l.hoists t) (flat_map go_word) Any (letters_at l.hoists t) (IsTail l) tail_text Any (tail_at l) (false, (false, nobody l.hoists))
    (nobody_fits l l.hoists) (λ b u f s. tt) (λ rest. letters_read l.hoists t rest) (λ rest. tail_read l rest few) bytes)

-- ---- lines, and the end

pub record IsLines (l : LineData) (t more : ℕ) (xs : List TickLine) : Type 0 where
  pub few : length xs ≤ more
  pub some : t ≡ 0 → 1 ≤ length xs
  pub ticks : AllFrom (IsTick l) t xs

abbrev pub lines_text : List TickLine → List ℕ
lines_text xs = flat_map tick_text xs ++ codes "end\n"

no_lines : (l : LineData) (t more : ℕ) → 1 ≤ t → IsLines l t more []
no_lines l t more le = record { few = omega arith; some = λ e. absurd (omega (arith, e, le)); ticks = tt }

end_read : (l : LineData) (t more : ℕ) (bytes : List ℕ) → 1 ≤ t
    → Reads (λ xs. xs ≡ []) lines_text Any bytes (end_at bytes)
unfolding end_at
end_read l t more bytes le =
    word_reads (λ xs. xs ≡ []) lines_text (λ xs. []) Any (codes "end\n") bytes (λ rest. Ok ([], rest)) [] refl (λ xs e. ap lines_text e)
    (λ rest e. done_reads (λ xs. xs ≡ []) Any rest [] refl (λ xs f. f))

-- a tick line begins with a letter
abbrev IsLetter : ℕ → Type 0
IsLetter b = (b ≡ 115) ⊎ ((b ≡ 108) ⊎ (b ≡ 104))

letter_of : (go : Go) → (b : ℕ) × (go_word go ≡ b ∷ []) × IsLetter b
letter_of Stay = (115, refl, inl refl)
letter_of Low = (108, refl, inr (inl refl))
letter_of High = (104, refl, inr (inr refl))

letters_head : (go : List Go) (t : List ℕ) → 1 ≤ length go
    → (b : ℕ) × (rest : List ℕ) × (flat_map go_word go ++ t ≡ b ∷ rest) × IsLetter b
letters_head [] t some = absurd (omega (arith, some))
letters_head (g ∷ go) t some =
    let w = letter_of g in
    (w.0, flat_map go_word go ++ t, ap (λ (x : List ℕ). x ++ t) (flat_map-cons go_word g go ∙ ap (λ (x : List ℕ). x ++ flat_map go_word go) w.1), w.2)

tick_head : (l : LineData) (t : ℕ) (x : TickLine) (rest bytes : List ℕ) → 1 ≤ l.hoists → IsTick l t x
    → SameHead (tick_text x ++ rest) bytes → begins 101 bytes ≡ true → ⊥
tick_head l t x rest [] line f head e = absurd cc
tick_head l t x rest (b ∷ bytes) line f head e =
    let tail = tail_text (x.off, (x.put, x.begin)) in
    let h = letters_head x.go (tail ++ rest) (omega (arith, f.fits.go, line)) in
    let whole : tick_text x ++ rest ≡ h.0 ∷ h.1 = append_assoc (flat_map go_word x.go) tail rest ∙ h.2 in
    let same : h.0 ≡ b = subst (λ (xs : List ℕ). SameHead xs (b ∷ bytes)) whole head in
    let at : b ≡ 101 = eqb-true b 101 e in
    ⊎_elim (λ p. omega (arith, p, same, at)) (λ o. ⊎_elim (λ p. omega (arith, p, same, at)) (λ p. omega (arith, p, same, at)) o) h.3

-- only the end begins so
ends : (l : LineData) (t more : ℕ) (xs : List TickLine) (rest bytes : List ℕ) → 1 ≤ l.hoists → IsLines l t more xs
    → SameHead (lines_text xs ++ rest) bytes
    → begins 101 bytes ≡ true → xs ≡ []
ends l t more [] rest bytes line f head e = refl
ends l t more (x ∷ xs) rest bytes line f head e =
    let past = flat_map tick_text xs ++ codes "end\n" in
    let whole : lines_text (x ∷ xs) ++ rest ≡ tick_text x ++ (past ++ rest) =
    ap (λ (y : List ℕ). (y ++ codes "end\n") ++ rest) (flat_map-cons tick_text x xs)
    ∙ ap (λ (y : List ℕ). y ++ rest) (append_assoc (tick_text x) (flat_map tick_text xs) (codes "end\n")) ∙ append_assoc (tick_text x) past rest in
    absurd (tick_head l t x (past ++ rest) bytes line f.ticks.0 (subst (λ (y : List ℕ). SameHead y bytes) whole head) e)

-- where the bytes don't begin as the end, or it may not come yet, there are lines
goes_on : (l : LineData) (t more : ℕ) (xs : List TickLine) (rest bytes : List ℕ) → IsLines l t more xs
    → SameHead (lines_text xs ++ rest) bytes
    → (nat_lt 0 t && begins 101 bytes) ≡ false → 1 ≤ length xs
goes_on l t more (x ∷ xs) rest bytes f head e = omega arith
goes_on l zero more [] rest bytes f head e = absurd (let n = f.some refl in omega (arith, n))
goes_on l (suc t) more [] rest [] f head e = absurd head
goes_on l (suc t) more [] rest (b ∷ bytes) f head e =
    let same : eqb b 101 ≡ true = eq-eqb b 101 (sym head) in
    let yes : (nat_lt 0 (suc t) && begins 101 (b ∷ bytes)) ≡ true = and_from (nat_lt 0 (suc t)) (eqb b 101) (lt-ltb 0 (suc t) (omega arith)) same in
    absurd (let both : false ≡ true = sym e ∙ yes in cc)

abbrev SomeLines : LineData → ℕ → ℕ → List TickLine → Type 0
SomeLines l t more xs = IsLines l t more xs × (1 ≤ length xs)

some_lines : (l : LineData) (t more : ℕ)
    → IsCons (IsTick l t) tick_text Any (SomeLines l t (suc more)) lines_text Any (λ x xs. IsLines l (t + 1) more xs) lines_text
some_lines l t more = record {
  behind = λ x xs f. (f.0.ticks.0, record { few = omega (arith, f.0.few); some = λ e. absurd (omega (arith, e)); ticks = f.0.ticks.1 });
  whole = λ x xs f g. (record { few = omega (arith, g.few); some = λ e. omega arith; ticks = (f, g.ticks) }, omega arith);
  none = λ f. omega (arith, f.1);
  text = λ x xs.
      ap (λ (y : List ℕ). y ++ codes "end\n") (flat_map-cons tick_text x xs) ∙ append_assoc (tick_text x) (flat_map tick_text xs) (codes "end\n");
  stops = λ x xs u f s. tt;
  completes = λ x f. ([], no_lines l (t + 1) more (omega arith));
}

lines_by : (l : LineData) (t more : ℕ) (bytes : List ℕ) (ended : Bool) → 1 ≤ l.hoists
    → (nat_lt 0 t && begins 101 bytes) ≡ ended
    → Reads (SomeLines l t (suc more)) lines_text Any bytes (tick_at l t bytes >>= λ x. lines_at l (t + 1) more x.1 >>= λ y. Ok (x.0 ∷ y.0, y.1))
    → Reads (IsLines l t (suc more)) lines_text Any bytes
    (cond ended (end_at bytes) (tick_at l t bytes >>= λ x. lines_at l (t + 1) more x.1 >>= λ y. Ok (x.0 ∷ y.0, y.1)))
lines_by l t more bytes true line e others =
    let parts = and_parts (nat_lt 0 t) (begins 101 bytes) e in
    let past : 1 ≤ t = ltb-true 0 t parts.0 in
    narrow_reads (λ xs. xs ≡ []) (IsLines l t (suc more)) lines_text Any bytes (end_at bytes)
    (λ xs f. subst (IsLines l t (suc more)) (sym f) (no_lines l t (suc more) past))
    (λ xs rest f s head. ends l t (suc more) xs rest bytes line f head parts.1) (end_read l t (suc more) bytes past)
lines_by l t more bytes false line e others =
    narrow_reads (SomeLines l t (suc more)) (IsLines l t (suc more)) lines_text Any bytes
    (tick_at l t bytes >>= λ x. lines_at l (t + 1) more x.1 >>= λ y. Ok (x.0 ∷ y.0, y.1)) (λ xs f. f.0)
    (λ xs rest f s head. (f, goes_on l t (suc more) xs rest bytes f head e)) others

-- a line that orders nothing
abbrev still_line : LineData → TickLine
still_line l = record { go = nils (λ h. Stay) 0 l.hoists; off = false; put = false; begin = nobody l.hoists }

stays : (i n : ℕ) → AllStay (nils (λ h. Stay) i n)
stays i zero = tt
stays i (suc n) = (refl, stays (i + 1) n)

still_fits : (l : LineData) (t : ℕ) → IsTick l t (still_line l)
still_fits l t = record {
  fits = record {
    go = length_nils (λ h. Stay) 0 l.hoists;
    begin = (nobody_fits l l.hoists).0;
    tanks = All-from_recursion _ (nobody l.hoists) (nobody_fits l l.hoists).1;
  };
  still = λ e. stays 0 l.hoists;
}

pub lines_read : (l : LineData) (t more : ℕ) (bytes : List ℕ) → HasFew l → 1 ≤ l.hoists → 1 ≤ t + more
    → Reads (IsLines l t more) lines_text Any bytes (lines_at l t more bytes)
unfolding lines_at
lines_read l t zero bytes few line some =
    let past : 1 ≤ t = omega (arith, some) in
    refit (λ xs. xs ≡ []) (IsLines l t 0) lines_text Any bytes (end_at bytes) (λ xs e. subst (IsLines l t 0) (sym e) (no_lines l t 0 past))
    (λ xs f. nil_from_length xs (omega (arith, f.few))) (end_read l t 0 bytes past)
lines_read l t (suc more) bytes few line some =
    lines_by l t more bytes (nat_lt 0 t && begins 101 bytes) line refl
    (cons_items (IsTick l t) tick_text Any (SomeLines l t (suc more)) lines_text Any (λ x xs. IsLines l (t + 1) more xs) lines_text (still_line l)
    (some_lines l t more) bytes (tick_at l t bytes) (λ x. lines_at l (t + 1) more x.1) (tick_read l t bytes few)
    (λ a rest f e. lines_read l (t + 1) more rest few line (omega arith)))

-- ---- positions

abbrev pub IsPlaces : LineData → List ℕ → Type 0
IsPlaces l xs = (length xs ≡ l.hoists) × AllByRecursion (λ x. x ≤ most_position) xs

position_read : (bytes : List ℕ) → Reads (InRange 0 most_position) position_text NoDigit bytes (position_at bytes)
unfolding position_at
position_read bytes =
    word_reads (InRange 0 most_position) position_text (λ x. decimal x) NoDigit (codes " ") bytes
    (λ a. number_at 0 most_position a) 0 (omega arith, omega arith)
    (λ x f. refl) (λ a e. number_read 0 most_position a (omega arith) (omega arith) (omega arith))

small_into : (i : ℕ) (xs : List ℕ) → AllFrom (λ h. InRange 0 most_position) i xs
    → AllByRecursion (λ x. x ≤ most_position) xs
small_into i [] f = tt
small_into i (x ∷ xs) f = (f.0.1, small_into (i + 1) xs f.1)

small_from : (i : ℕ) (xs : List ℕ) → AllByRecursion (λ x. x ≤ most_position) xs
    → AllFrom (λ h. InRange 0 most_position) i xs
small_from i [] f = tt
small_from i (x ∷ xs) f = ((omega arith, f.0), small_from (i + 1) xs f.1)

pub places_read : (l : LineData) (bytes : List ℕ)
    → Reads (IsPlaces l) (λ xs. flat_map position_text xs ++ end) Any bytes (places_at l.hoists bytes)
unfolding places_at
places_read l bytes =
    let F : List ℕ → Type 0 = λ xs. (length xs ≡ l.hoists) × AllFrom (λ h. InRange 0 most_position) 0 xs in
    let read = items_at (λ h. position_at) 0 l.hoists bytes in
    worded_reads (IsPlaces l) (λ xs. flat_map position_text xs) NoDigit end (λ t. refl) bytes read
    (refit F (IsPlaces l) (λ xs. flat_map position_text xs) NoDigit bytes read (λ xs f. (f.0, small_into 0 xs f.1)) (λ xs f. (f.0, small_from 0 xs f.1))
    (retext F (λ xs. texts_from (λ h. position_text) 0 xs) (λ xs. flat_map position_text xs) NoDigit bytes read (λ xs f. texts_are position_text 0 xs)
    (items_read (λ h. InRange 0 most_position) (λ h. position_text) NoDigit (λ h. position_at) (λ h. 0)
    (record { reads = λ h. position_read; stops = λ h x t f s. refl; nil_fits = λ h. (omega arith, omega arith) }) 0 l.hoists bytes)))

-- ---- the whole

ticks_into : (l : LineData) (t : ℕ) (xs : List TickLine) → AllFrom (IsTick l) t xs → AllByRecursion (FitsTick l) xs
ticks_into l t [] f = tt
ticks_into l t (x ∷ xs) f = (f.0.fits, ticks_into l (t + 1) xs f.1)

first_still : (l : LineData) (xs : List TickLine) → AllFrom (IsTick l) 0 xs → AllStay (tick_line xs 0).go
first_still l [] f = tt
first_still l (x ∷ xs) f = f.0.still refl

later_ticks : (l : LineData) (t : ℕ) (xs : List TickLine) → AllByRecursion (FitsTick l) xs
    → AllFrom (IsTick l) (suc t) xs
later_ticks l t [] f = tt
later_ticks l t (x ∷ xs) f =
    let next : suc t + 1 ≡ suc (t + 1) = omega arith in
    (record { fits = f.0; still = λ e. absurd (omega (arith, e)) }, subst (λ (n : ℕ). AllFrom (IsTick l) n xs) (sym next) (later_ticks l (t + 1) xs f.1))

ticks_from : (l : LineData) (xs : List TickLine) → AllByRecursion (FitsTick l) xs → AllStay (tick_line xs 0).go
    → AllFrom (IsTick l) 0 xs
ticks_from l [] f s = tt
ticks_from l (x ∷ xs) f s =
    let next : 0 + 1 ≡ suc 0 = omega arith in
    (record { fits = f.0; still = λ e. s }, subst (λ (n : ℕ). AllFrom (IsTick l) n xs) (sym next) (later_ticks l 0 xs f.1))

abbrev Log : Type 0
Log = List ℕ × List TickLine

abbrev IsBoth : LineData → Log → Type 0
IsBoth l x = IsPlaces l x.0 × IsLines l 0 most_ticks x.1

log_into : (l : LineData) (x : Log) → IsBoth l x → IsLog l (log_of x)
log_into l x f = record {
  hoists = f.0.0;
  positions = All-from_recursion _ x.0 f.0.1;
  some = f.1.some refl;
  few = f.1.few;
  ticks = All-from_recursion _ x.1 (ticks_into l 0 x.1 f.1.ticks);
  still = All-from_recursion _ (tick_line x.1 0).go (first_still l x.1 f.1.ticks);
}

log_from : (l : LineData) (log : LogData) → IsLog l log → IsBoth l (log.at, log.ticks)
log_from l log f = (
  (f.hoists, recursion_from_All _ log.at f.positions),
  record {
    few = f.few;
    some = λ e. f.some;
    ticks = ticks_from l log.ticks (recursion_from_All _ log.ticks f.ticks) (recursion_from_All _ (tick_line log.ticks 0).go f.still);
  },
)

zeros_small : (i n : ℕ) → AllByRecursion (λ x. x ≤ most_position) (nils (λ h. 0) i n)
zeros_small i zero = tt
zeros_small i (suc n) = (omega arith, zeros_small (i + 1) n)

no_log : (l : LineData) → IsBoth l (nils (λ h. 0) 0 l.hoists, still_line l ∷ [])
no_log l = (
  (length_nils (λ h. 0) 0 l.hoists, zeros_small 0 l.hoists),
  record { few = omega arith; some = λ e. omega arith; ticks = (still_fits l 0, tt) },
)

pub log_read : (l : LineData) (bytes : List ℕ) → IsLine l → Reads (IsLog l) log_text Any bytes (log_at l bytes)
unfolding log_at
log_read l bytes line =
    let few = has_few l line in
    let some : 1 ≤ l.hoists = line.limits.hoists.0 in
    let places : List ℕ → List ℕ = λ xs. flat_map position_text xs ++ end in
    let rest_text : LogData → List ℕ = λ log. flat_map position_text log.at ++ (end ++ lines_text log.ticks) in
    word_reads (IsLog l) log_text rest_text Any (codes "hoist log 1\nat") bytes
    (λ a. next_at (places_at l.hoists) (lines_at l 0 most_ticks) a >>= λ x. Ok (log_of x.0, x.1))
    (log_of (nils (λ h. 0) 0 l.hoists, still_line l ∷ [])) (log_into l (nils (λ h. 0) 0 l.hoists, still_line l ∷ []) (no_log l)) (λ log f. refl)
    (λ a e.
    made_reads (IsBoth l) (λ x. places x.0 ++ lines_text x.1) (IsLog l) rest_text Any log_of a (next_at (places_at l.hoists) (lines_at l 0 most_ticks) a)
    (λ x f. (log_into l x f, sym (append_assoc (flat_map position_text x.0) end (lines_text x.1))))
    (λ log t f s head. ((log.at, log.ticks), log_from l log f, refl))
    (next_reads (IsPlaces l) places Any (places_at l.hoists) (IsLines l 0 most_ticks) lines_text Any (lines_at l 0 most_ticks) (still_line l ∷ []) (no_log l).1
    (λ xs t f s. tt) (λ rest. places_read l rest) (λ rest. lines_read l 0 most_ticks rest few some (omega arith)) a))
