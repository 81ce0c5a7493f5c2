-- Tanks and stages of a generated line by their places in the row.
use Rattle.std.proofs.Common.{⊎_elim, ◌⊎◌, inl, inr, ◌≡◌, ◌≢◌, ℕ, ◌+◌, ◌*◌, ◌/◌, ◌%◌, ◌<◌, ◌≤◌, ◌^◌, ◌==◌, ◌&&◌, Bool, true, false, nat_lt, if◌then◌else◌, None, Some, IfSome, List, [], ◌∷◌, ◌++◌, codes, decimal, length, get_or, drop, refl, ap, sym, ◌∙◌, arith, rules}
use Rattle.std.proofs.lemmas.Bool.Decides.{nat_tests}
use Rattle.std.specs.List.{All, Contains}
use Rattle.std.proofs.lemmas.Bool.{cases_lt, cases_eq}
use Rattle.std.proofs.lemmas.Fmt.{decimal_injective, digits_decimal, length-decimal-le, decimal_nonempty}
use Rattle.std.proofs.lemmas.List.Elements.{All-from_get_or, All-cons}
use Rattle.std.proofs.lemmas.Str.Parse.{numerals_by_value, tells_digits, digit_at}
use Rattle.std.specs.Str.Parse.{AllDigits}
use Rattle.hoist_base.specs.Valid.{IsNameByte, IsName}
use Rattle.line_gen.specs.Generated.{is_bath, tank_name, tank_at}

-- a place in the row is the load, a bath or the unload
abbrev pub Place : ℕ → ℕ → Type 0
Place baths i = (i ≡ 0) ⊎ (((0 < i) × (i < baths + 1)) ⊎ (i ≡ baths + 1))

pub place_of : (baths i : ℕ) → i < baths + 2 → Place baths i
place_of baths i lt =
    ⊎_elim (λ none. inl (omega (arith, none)))
    (λ some. inr (⊎_elim (λ inside. inl (some, inside)) (λ past. inr (omega (arith, lt, past))) (cases_lt i (baths + 1))))
    (cases_lt i 1)

pub bath_inside : (baths i : ℕ) → 0 < i → i < baths + 1 → is_bath baths i ≡ true
bath_inside baths i some lt = grind (arith, nat_tests)

pub bath_last : (baths : ℕ) → is_bath baths (baths + 1) ≡ false
bath_last baths = grind (arith, nat_tests)

first_or_later : (i : ℕ) → (i ≡ 0) ⊎ (0 < i)
first_or_later i = ⊎_elim (λ none. inl (omega (arith, none))) (λ some. inr some) (cases_lt i 1)

-- the names of the three kinds
name_inside : (baths i : ℕ) → 0 < i → i < baths + 1 → tank_name baths i ≡ codes "t" ++ decimal i
name_inside baths i some lt = rw (bath_inside baths i some lt) refl

pub not_first : (n : ℕ) → (n + 1 == 0) ≡ false
not_first n = grind (arith, nat_tests)

name_last : (baths : ℕ) → tank_name baths (baths + 1) ≡ codes "out"
name_last baths = rw (bath_last baths, not_first baths) refl

-- the first byte of a name tells its kind
abbrev first_byte : List ℕ → ℕ
first_byte name = get_or name 0 0

-- digits are letters of a name
digits_named : (i : ℕ) → i < 2 ^ 64 → All IsNameByte (decimal i)
digits_named i small =
    let digits : AllDigits 10 (decimal i) = digits_decimal (numerals_by_value (λ ds. AllDigits 10 ds) tells_digits) i small in
    All-from_get_or IsNameByte (decimal i) 0
    (λ k lt. let d = digit_at (decimal i) k digits lt in inr (inr (inl (omega (arith, d), omega (arith, d)))))

numbered_name : (i : ℕ) → i ≤ 12 → IsName (codes "t" ++ decimal i)
numbered_name i le =
    let small : i < 2 ^ 64 = omega arith in
    let short : length (decimal i) ≤ 2 = length-decimal-le 2 i (omega arith) (omega arith) small in
    (omega (arith, short), omega (arith, short), All-cons IsNameByte 116 (decimal i) (inr (inl (omega arith, omega arith))) (digits_named i small))

load_named : IsName (codes "load")
load_named = (omega arith, omega arith, search rules)

out_named : IsName (codes "out")
out_named = (omega arith, omega arith, search rules)

named_as : (xs ys : List ℕ) → xs ≡ ys → IsName ys → IsName xs
named_as xs ys same name = rw same name

pub named : (baths i : ℕ) → baths ≤ 12 → i < baths + 2 → IsName (tank_name baths i)
named baths i few lt =
    ⊎_elim (λ e. rw e load_named)
    (λ rest. ⊎_elim (λ inside. rw (name_inside baths i inside.0 inside.1) (numbered_name i (omega (arith, few, inside.1))))
    (λ e. named_as (tank_name baths i) (codes "out") (ap (tank_name baths) e ∙ name_last baths) out_named) rest)
    (place_of baths i lt)

byte_inside : (baths i : ℕ) → 0 < i → i < baths + 1 → first_byte (tank_name baths i) ≡ 116
byte_inside baths i some lt = ap first_byte (name_inside baths i some lt)

byte_last : (baths : ℕ) → first_byte (tank_name baths (baths + 1)) ≡ 111
byte_last baths = ap first_byte (name_last baths)

-- no name but the load's begins as that does
byte_rest : (baths i : ℕ) → 0 < i → i < baths + 2 → first_byte (tank_name baths i) ≢ 108
byte_rest baths i some lt e =
    ⊎_elim (λ none. omega (arith, none, some))
    (λ rest. ⊎_elim (λ inside. omega (arith, e, byte_inside baths i inside.0 inside.1))
    (λ last. omega (arith, e, ap (λ k. first_byte (tank_name baths k)) last, byte_last baths)) rest)
    (place_of baths i lt)

-- two numbered names differ
numbers_differ : (baths i j : ℕ) → baths ≤ 12 → 0 < i → i < j → j < baths + 1 → tank_name baths i ≢ tank_name baths j
numbers_differ baths i j few some less lt e =
    let same : codes "t" ++ decimal i ≡ codes "t" ++ decimal j = sym (name_inside baths i some (omega (
      arith,
      less,
      lt,
    ))) ∙ e ∙ name_inside baths j (omega (arith, some, less)) lt in
    omega (arith, less, decimal_injective i j (omega (arith, few, less, lt)) (omega (arith, few, lt)) (ap (λ (xs : List ℕ). drop 1 xs) same))

pub names_differ : (baths i j : ℕ) → baths ≤ 12 → i < j → j < baths + 2 → tank_name baths i ≢ tank_name baths j
names_differ baths i j few less lt e =
    ⊎_elim (λ none. byte_rest baths j (omega (arith, less)) lt (sym (ap first_byte e) ∙ ap (λ k. first_byte (tank_name baths k)) none))
    (λ some. ⊎_elim (λ inside. numbers_differ baths i j few some less inside e)
    (λ past.
    let last : j ≡ baths + 1 = omega (arith, lt, past) in
    omega (arith, ap first_byte e, byte_inside baths i some (omega (arith, less, lt)), ap (λ k. first_byte (tank_name baths k)) last, byte_last baths))
    (cases_lt j (baths + 1)))
    (first_or_later i)

-- the last bath may use the first tank again, but neighbours never share one
pub tanks_apart : (baths k : ℕ) (again : Bool) → 8 ≤ baths → k < baths + 1
    → tank_at baths again k ≢ tank_at baths again (k + 1)
tanks_apart baths k again many lt e = grind (arith, nat_tests)

pub tank_there : (baths k : ℕ) (again : Bool) → 8 ≤ baths → k < baths + 2 → tank_at baths again k < baths + 2
tank_there baths k again many lt = grind (arith, nat_tests)
