-- A number is read digit by digit, and breaks at the digit that takes it past its greatest value.
use Rattle.std.proofs.Common.{◌≡◌, ℕ, ◌+◌, ◌*◌, ◌-◌, ◌/◌, ◌%◌, ◌^◌, ◌<◌, ◌≤◌, List, [], ◌∷◌, ◌++◌, length, get_or, Bool, true, false, cond, ltb, leb, ◌&&◌}
use Rattle.std.proofs.Common.{⊎_elim, Result, Ok, Err, refl, sym, ap, subst, ◌∙◌, append_assoc, arith}
use Rattle.std.specs.Fmt.{decimal}
use Rattle.std.proofs.lemmas.Fmt.{decimal_by_steps, decimal_step, decimal_digit, first_decimal}
use Rattle.std.proofs.lemmas.Bool.{cases_lt}
use Rattle.std.proofs.lemmas.List.{append-nil}
use Rattle.std.proofs.lemmas.Bool.Decides.{nat_tests}
use Rattle.field_reading.specs.Reading.{is_digit, digits_at, number_at}
use Rattle.field_reading.specs.Reads.{SameHead, IsRead, Reads, NoDigit, InRange}
use Rattle.field_reading.proofs.Field.{stuck_reads}

-- the value of the digits in front, behind those of v
abbrev run : ℕ → List ℕ → ℕ
run v [] = v
run v (b ∷ bytes) = cond (is_digit b) (run (v * 10 + (b - 48)) bytes) v

digit_true : (b : ℕ) → is_digit b ≡ true → (48 ≤ b) × (b ≤ 57)
digit_true b e = grind (arith, nat_tests)

true_digit : (b : ℕ) → 48 ≤ b → b ≤ 57 → is_digit b ≡ true
true_digit b low high = grind (arith, nat_tests)

run_digit : (v b : ℕ) (y : List ℕ) → is_digit b ≡ true → run v (b ∷ y) ≡ run (v * 10 + (b - 48)) y
run_digit v b y e = rw e refl

run_other : (v b : ℕ) (y : List ℕ) → is_digit b ≡ false → run v (b ∷ y) ≡ v
run_other v b y e = rw e refl

run_stops : (v : ℕ) (t : List ℕ) → NoDigit t → run v t ≡ v
run_stops v [] s = refl
run_stops v (b ∷ t) s = run_other v b t s

run_ge_at : (v b : ℕ) (t : List ℕ) (d : Bool) → v * 10 + (b - 48) ≤ run (v * 10 + (b - 48)) t
    → v ≤ cond d (run (v * 10 + (b - 48)) t) v
run_ge_at v b t true h = omega arith
run_ge_at v b t false h = omega arith

run_ge : (v : ℕ) (t : List ℕ) → v ≤ run v t
run_ge v [] = omega arith
run_ge v (b ∷ t) = run_ge_at v b t (is_digit b) (run_ge (v * 10 + (b - 48)) t)

run_decimal : (n : ℕ) → n < 2 ^ 64 → (y : List ℕ) → run 0 (decimal n ++ y) ≡ run n y
run_decimal n small =
    decimal_by_steps (λ m ds. (y : List ℕ) → run 0 (ds ++ y) ≡ run m y)
    (λ m lt y. run_digit 0 (48 + m) y (true_digit (48 + m) (omega arith) (omega arith)) ∙ ap (λ (v : ℕ). run v y) (omega arith))
    (λ m ds le ih y.
    ap (run 0) (append_assoc ds ((48 + m % 10) ∷ []) y) ∙ ih ((48 + m % 10) ∷ y)
    ∙ run_digit (m / 10) (48 + m % 10) y (true_digit (48 + m % 10) (omega arith) (omega arith)) ∙ ap (λ (v : ℕ). run v y) (omega arith))
    n small

-- what begins with the digits of n has the value of all the digits in front
pub value_is : (b n : ℕ) (t y : List ℕ) → b < 2 ^ 64 → n < 2 ^ 64 → NoDigit t → decimal b ++ t ≡ decimal n ++ y
    → b ≡ run n y
value_is b n t y sb sn stop e = sym (run_stops b t stop) ∙ sym (run_decimal b sb t) ∙ ap (run 0) e ∙ run_decimal n sn y

-- behind a 0 no digit goes on
lone_zero : (b c : ℕ) (t y : List ℕ) → b < 2 ^ 64 → NoDigit t → is_digit c ≡ true → decimal b ++ t ≡ 48 ∷ (c ∷ y) → ⊥
lone_zero b c t y small stop d e =
    ⊎_elim
    (λ lt.
    let e' : (48 + b) ∷ t ≡ 48 ∷ (c ∷ y) = ap (λ (l : List ℕ). l ++ t) (sym (decimal_digit b lt)) ∙ e in
    let rest : t ≡ c ∷ y = cc in
    let no : is_digit c ≡ false = subst NoDigit rest stop in
    let bad : true ≡ false = sym d ∙ no in
    absurd cc)
    (λ le. first (decimal b) (first_decimal b (omega arith) small) e)
    (cases_lt b 10)
  where
    first : (ds : List ℕ) → 48 < get_or ds 0 0 → ds ++ t ≡ 48 ∷ (c ∷ y) → ⊥
    first [] h e = absurd (omega arith)
    first (x ∷ ds) h e = let p : x ≡ 48 = cc in absurd (omega (arith, p))

-- ---- the digits behind those of n

-- n and one digit more
more_digit : (n c : ℕ) (bytes : List ℕ) → 0 < n → is_digit c ≡ true → n * 10 + (c - 48) < 2 ^ 64
    → decimal n ++ (c ∷ bytes) ≡ decimal (n * 10 + (c - 48)) ++ bytes
more_digit n c bytes pos d small =
    let p = digit_true c d in
    let m = n * 10 + (c - 48) in
    let high : m / 10 ≡ n = omega arith in
    let low : 48 + m % 10 ≡ c = omega arith in
    let step : decimal m ≡ decimal n ++ (c ∷ []) =
    decimal_step m (omega arith) small ∙ ap (λ (k : ℕ). decimal k ++ ((48 + m % 10) ∷ [])) high ∙ ap (λ (k : ℕ). decimal n ++ (k ∷ [])) low in
    sym (ap (λ (l : List ℕ). l ++ bytes) step ∙ append_assoc (decimal n) (c ∷ []) bytes)

fits_more : (n c most : ℕ) → (ltb 0 n && leb (n * 10 + (c - 48)) most) ≡ true → (0 < n) × (n * 10 + (c - 48) ≤ most)
fits_more n c most e = grind (arith, nat_tests)

not_more : (n c most : ℕ) → (ltb 0 n && leb (n * 10 + (c - 48)) most) ≡ false → 0 < n → most < n * 10 + (c - 48)
not_more n c most e pos = grind (arith, nat_tests)

abbrev Number : ℕ → ℕ → List ℕ → Result (ℕ × List ℕ) ℕ → Type 0
Number least most bytes r = Reads (InRange least most) decimal NoDigit bytes r

-- all is read
number_ends : (least most n : ℕ) → most < 2 ^ 64 → InRange least most n
    → Number least most (decimal n ++ []) (Ok (n, []))
number_ends least most n small fits = record {
  fits = fits;
  is = refl;
  only = λ b t y f s e h. ends b t y f s e h;
}
  where
    ends : (b : ℕ) (t y : List ℕ) → InRange least most b → NoDigit t → decimal b ++ t ≡ decimal n ++ y → SameHead y []
        → b ≡ n
    ends b t [] f s e h = value_is b n t [] (omega (arith, f.1)) (omega (arith, fits.1)) s e
    ends b t (c ∷ y) f s e h = absurd h

-- another byte comes
number_stops : (least most n c : ℕ) (bytes : List ℕ) → most < 2 ^ 64 → InRange least most n → is_digit c ≡ false
    → Number least most (decimal n ++ (c ∷ bytes)) (Ok (n, c ∷ bytes))
number_stops least most n c bytes small fits d = record {
  fits = fits;
  is = refl;
  only = λ b t y f s e h. stops b t y f s e h;
}
  where
    stops : (b : ℕ) (t y : List ℕ) → InRange least most b → NoDigit t → decimal b ++ t ≡ decimal n ++ y
        → SameHead y (c ∷ bytes) → b ≡ n
    stops b t [] f s e h = absurd h
    stops b t (x ∷ y) f s e h =
        let other : is_digit x ≡ false = ap is_digit h ∙ d in
        value_is b n t (x ∷ y) (omega (arith, f.1)) (omega (arith, fits.1)) s e ∙ run_other n x y other

-- a digit comes that takes it too far
number_breaks : (least most n c : ℕ) (bytes : List ℕ) → most < 2 ^ 64 → InRange least most n → is_digit c ≡ true
    → (0 < n → most < n * 10 + (c - 48))
    → Number least most (decimal n ++ (c ∷ bytes)) (Err (length (c ∷ bytes)))
number_breaks least most n c bytes small fits d far = record {
  front = decimal n;
  back = c ∷ bytes;
  is = refl;
  left_is = refl;
  some = n;
  fits = fits;
  more = [];
  begun = sym (append-nil (decimal n));
  none = λ b t y f s e h. breaks b t y f s e h;
}
  where
    breaks : (b : ℕ) (t y : List ℕ) → InRange least most b → NoDigit t → decimal b ++ t ≡ decimal n ++ y
        → SameHead y (c ∷ bytes) → ⊥
    breaks b t [] f s e h = absurd h
    breaks b t (x ∷ y) f s e h =
        let digit : is_digit x ≡ true = ap is_digit h ∙ d in
        let value : b ≡ run (n * 10 + (x - 48)) y = value_is b n t (x ∷ y) (omega (arith, f.1)) (omega (arith, fits.1)) s e ∙ run_digit n x y digit in
        ⊎_elim
        (λ pos. absurd (omega (arith, far pos, value, run_ge (n * 10 + (x - 48)) y, f.1, h)))
        (λ zero_n.
        let z : n ≡ 0 = omega arith in
        let e' : decimal b ++ t ≡ 48 ∷ (x ∷ y) =
        e ∙ ap (λ (k : ℕ). decimal k ++ (x ∷ y)) z ∙ ap (λ (l : List ℕ). l ++ (x ∷ y)) (decimal_digit 0 (omega arith)) in
        lone_zero b x t y (omega (arith, f.1)) s digit e')
        (cases_lt 0 n)

digits_step : (least most n c : ℕ) (bytes : List ℕ) → most < 2 ^ 64 → InRange least most n → (d : Bool) → is_digit c ≡ d
    → (g : Bool)
    → (ltb 0 n && leb (n * 10 + (c - 48)) most) ≡ g
    → (InRange least most (n * 10 + (c - 48)) → Number least most (decimal (n * 10 + (c - 48)) ++ bytes) (digits_at most (n * 10 + (c - 48)) bytes))
    → Number least most (decimal n ++ (c ∷ bytes)) (cond d (cond g (digits_at most (n * 10 + (c - 48)) bytes) (Err (length (c ∷ bytes)))) (Ok (n, c ∷ bytes)))
digits_step least most n c bytes small fits true d true g next =
    let more = fits_more n c most g in
    subst (λ (l : List ℕ). Number least most l (digits_at most (n * 10 + (c - 48)) bytes)) (sym (more_digit n c bytes more.0 d (omega (arith, more.1))))
    (next (omega (arith, more.0, fits.0), more.1))
digits_step least most n c bytes small fits true d false g next = number_breaks least most n c bytes small fits d (not_more n c most g)
digits_step least most n c bytes small fits false d g e next = number_stops least most n c bytes small fits d

pub digits_read : (least most n : ℕ) (bytes : List ℕ) → most < 2 ^ 64 → InRange least most n
    → Number least most (decimal n ++ bytes) (digits_at most n bytes)
unfolding digits_at
digits_read least most n [] small fits = number_ends least most n small fits
digits_read least most n (c ∷ bytes) small fits =
    digits_step least most n c bytes small fits (is_digit c) refl (ltb 0 n && leb (n * 10 + (c - 48)) most) refl
    (λ f. digits_read least most (n * 10 + (c - 48)) bytes small f)

-- ---- a number from the first digit on

-- the first digit of a number
first_digit : (n : ℕ) → n < 2 ^ 64
    → (c : ℕ) × (ds : List ℕ) × (decimal n ≡ c ∷ ds) × (48 ≤ c) × (c ≤ 57) × (c ≤ 48 + n) × (0 < n → 48 < c)
first_digit n small =
    decimal_by_steps (λ m ds. (c : ℕ) × (rest : List ℕ) × (ds ≡ c ∷ rest) × (48 ≤ c) × (c ≤ 57) × (c ≤ 48 + m) × (0 < m → 48 < c))
    (λ m lt. (48 + m, [], refl, omega arith, omega arith, omega arith, λ pos. omega arith))
    (λ m ds le ih. (
      ih.0,
      ih.1 ++ ((48 + m % 10) ∷ []),
      ap (λ (l : List ℕ). l ++ ((48 + m % 10) ∷ [])) ih.2,
      ih.3,
      ih.4,
      omega (arith, ih.5),
      λ pos. ih.6 (omega arith),
    ))
    n small

-- which bytes a number in range begins with
pub begins_number : (least most n : ℕ) (t bytes : List ℕ) → least ≤ 1 → most < 2 ^ 64 → InRange least most n
    → SameHead (decimal n ++ t) bytes
    → (c : ℕ) × (rest : List ℕ) × (bytes ≡ c ∷ rest) × (least + 48 ≤ c) × (c ≤ 57) × (c ≤ most + 48)
begins_number least most n t bytes low small fits h =
    let d = first_digit n (omega (arith, fits.1)) in
    let head : SameHead (d.0 ∷ (d.1 ++ t)) bytes = subst (λ (l : List ℕ). SameHead (l ++ t) bytes) d.2 h in
    begins d.0 (d.1 ++ t) bytes head (least_first d.0 d.3 d.6) d.4 (omega (arith, d.5, fits.1))
  where
    least_first : (c : ℕ) → 48 ≤ c → (0 < n → 48 < c) → least + 48 ≤ c
    least_first c ge more = ⊎_elim (λ pos. omega (arith, more pos)) (λ z. omega (arith, fits.0)) (cases_lt 0 n)

    begins : (c : ℕ) (y bytes : List ℕ) → SameHead (c ∷ y) bytes → least + 48 ≤ c → c ≤ 57 → c ≤ most + 48
        → (c : ℕ) × (rest : List ℕ) × (bytes ≡ c ∷ rest) × (least + 48 ≤ c) × (c ≤ 57) × (c ≤ most + 48)
    begins c y [] h a b e = absurd h
    begins c y (x ∷ rest) h a b e = (x, rest, refl, omega (arith, h), omega (arith, h), omega (arith, h))

first_fits : (least most c : ℕ) → (is_digit c && (leb (least + 48) c && leb c (most + 48))) ≡ true
    → (48 ≤ c) × (c ≤ 57) × (least + 48 ≤ c) × (c ≤ most + 48)
first_fits least most c e = grind (arith, nat_tests)

fits_first : (least most c : ℕ) → (is_digit c && (leb (least + 48) c && leb c (most + 48))) ≡ false → least + 48 ≤ c
    → c ≤ 57 → c ≤ most + 48 → ⊥
fits_first least most c e a b d = grind (arith, nat_tests)

first_step : (least most c : ℕ) (bytes : List ℕ) → least ≤ 1 → least ≤ most → most < 2 ^ 64 → (g : Bool)
    → (is_digit c && (leb (least + 48) c && leb c (most + 48))) ≡ g
    → Number least most (c ∷ bytes) (cond g (digits_at most (c - 48) bytes) (Err (length (c ∷ bytes))))
first_step least most c bytes low some small true g =
    let f = first_fits least most c g in
    let one : decimal (c - 48) ++ bytes ≡ c ∷ bytes =
    ap (λ (l : List ℕ). l ++ bytes) (decimal_digit (c - 48) (omega (arith, f.1))) ∙ ap (λ (k : ℕ). k ∷ bytes) (omega (arith, f.0)) in
    subst (λ (l : List ℕ). Number least most l (digits_at most (c - 48) bytes)) one
    (digits_read least most (c - 48) bytes small (omega (arith, f.2), omega (arith, f.3)))
first_step least most c bytes low some small false g =
    stuck_reads (InRange least most) decimal NoDigit (c ∷ bytes) least (omega arith, some) (λ b t f s head.
    let d = begins_number least most b t (c ∷ bytes) low small f head in
    let same : d.0 ≡ c = let e = d.2 in cc in
    fits_first least most c g (omega (arith, d.3, same)) (omega (arith, d.4, same)) (omega (arith, d.5, same)))

pub number_read : (least most : ℕ) (bytes : List ℕ) → least ≤ 1 → least ≤ most → most < 2 ^ 64
    → Number least most bytes (number_at least most bytes)
unfolding number_at
number_read least most [] low some small =
    stuck_reads (InRange least most) decimal NoDigit [] least (omega arith, some) (λ b t f s head.
    let d = begins_number least most b t [] low small f head in
    let bad : [] ≡ d.0 ∷ d.1 = d.2 in
    absurd cc)
number_read least most (c ∷ bytes) low some small = first_step least most c bytes low some small (is_digit c && (leb (least + 48) c && leb c (most + 48))) refl

-- a number that is read is in range
pub number_small : (least most n : ℕ) (bytes rest : List ℕ) → least ≤ 1 → least ≤ most → most < 2 ^ 64
    → number_at least most bytes ≡ Ok (n, rest) → n ≤ most
number_small least most n bytes rest low some small e =
    let h : IsRead (InRange least most) decimal NoDigit bytes n rest =
    subst (λ (r : Result (ℕ × List ℕ) ℕ). Number least most bytes r) e (number_read least most bytes low some small) in
    h.fits.1
