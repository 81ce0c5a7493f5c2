-- Numbers from a on, one by one; and what follows where nothing is given of any of them.
use Rattle.std.proofs.Common.{◌≡◌, ◌+◌, ◌-◌, ◌<◌, ◌≤◌, ◌⊎◌, nat_lt, ℕ, zero, suc, Bool, true, false, List, [], ◌∷◌, refl, sym, ap, Option, Some, None, arith, inl, inr}
use Rattle.std.specs.List.{list_any, range_with_len, AllByRecursion}
use Rattle.std.specs.Option.{option_or}
use Rattle.std.proofs.lemmas.Bool.{cases_Bool, or_parts, ltb-true, ltb-false}
use Rattle.std.proofs.lemmas.Option.{none-some}
use Rattle.hoist_base.specs.Firsts.{first_some, given, numbers_from}

-- the first of them, and the others
pub numbers_more : (a n : ℕ) → a < n → numbers_from a n ≡ a ∷ numbers_from (a + 1) n
numbers_more a n h =
    let e : n - a ≡ suc (n - (a + 1)) = omega arith in ap (range_with_len a) e

pub numbers_none : (a n : ℕ) → n ≤ a → numbers_from a n ≡ []
numbers_none a n h =
    let e : n - a ≡ 0 = omega arith in ap (range_with_len a) e

pub or_left : {X : Type 0} (a b : Option X) → option_or a b ≡ None → a ≡ None
or_left None b h = refl
or_left (Some x) b h = h

pub or_right : {X : Type 0} (a b : Option X) → option_or a b ≡ None → b ≡ None
or_right None b h = h
or_right (Some x) b h = absurd (none-some x (sym h))

pub both_none : {X : Type 0} (a b : Option X) → a ≡ None → b ≡ None → option_or a b ≡ None
both_none a b h g = rw (h, g)

pub given_none : {X : Type 0} (b : Bool) (x : X) → given b x ≡ None → b ≡ false
given_none false x h = refl
given_none true x h = absurd (none-some x (sym h))

pub given_false : {X : Type 0} (b : Bool) (x : X) → b ≡ false → given b x ≡ None
given_false b x h = rw h

pub first_some_none : {X Y : Type 0} (h : X → Option Y) (xs : List X) → first_some h xs ≡ None
    → AllByRecursion (λ x. h x ≡ None) xs
first_some_none h [] e = tt
first_some_none h (x ∷ xs) e = (or_left (h x) (first_some h xs) e, first_some_none h xs (or_right (h x) (first_some h xs) e))

pub none_from_each : {X Y : Type 0} (h : X → Option Y) (xs : List X) → AllByRecursion (λ x. h x ≡ None) xs
    → first_some h xs ≡ None
none_from_each h [] e = refl
none_from_each h (x ∷ xs) e = both_none (h x) (first_some h xs) e.0 (none_from_each h xs e.1)

pub below_or_not : (a b : ℕ) → (a < b) ⊎ (b ≤ a)
below_or_not a b =
    elim (cases_Bool (nat_lt a b)) [
      | inl below ↦ inl (ltb-true a b below)
      | inr not_below ↦ inr (ltb-false a b not_below)
    ]

-- numbers from a on
in_range : {Y : Type 0} (h : ℕ → Option Y) (n a i : ℕ) → first_some h (range_with_len a n) ≡ None
    → a ≤ i → i < a + n → h i ≡ None
in_range h zero a i e low high = absurd (omega arith)
in_range {Y} h (suc n) a i e low high =
    let here = or_left (h a) (first_some h (range_with_len (a + 1) n)) e in
    let rest = or_right (h a) (first_some h (range_with_len (a + 1) n)) e in
    elim (below_or_not a i) [
      | inl later ↦ in_range h n (a + 1) i rest (omega arith) (omega arith)
      | inr no_later ↦ let same : i ≡ a = omega arith in rw same here
    ]

pub none_at : {Y : Type 0} (h : ℕ → Option Y) (a n i : ℕ) → first_some h (numbers_from a n) ≡ None → a ≤ i → i < n
    → h i ≡ None
none_at h a n i e low high = in_range h (n - a) a i e low (omega arith)

from_range : {Y : Type 0} (h : ℕ → Option Y) (n a : ℕ) → ((i : ℕ) → a ≤ i → i < a + n → h i ≡ None)
    → first_some h (range_with_len a n) ≡ None
from_range h zero a each = refl
from_range h (suc n) a each =
    both_none (h a) (first_some h (range_with_len (a + 1) n)) (each a (omega arith) (omega arith)) (from_range h n (a + 1)
    (λ i low high. each i (omega arith) (omega arith)))

pub none_everywhere : {Y : Type 0} (h : ℕ → Option Y) (a n : ℕ) → ((i : ℕ) → a ≤ i → i < n → h i ≡ None)
    → first_some h (numbers_from a n) ≡ None
none_everywhere h a n each = from_range h (n - a) a (λ i low high. each i low (omega arith))

-- tests of numbers from a on
any_in_range : (p : ℕ → Bool) (n a i : ℕ) → list_any p (range_with_len a n) ≡ false → a ≤ i → i < a + n → p i ≡ false
any_in_range p zero a i e low high = absurd (omega arith)
any_in_range p (suc n) a i e low high =
    let parts = or_parts (p a) (list_any p (range_with_len (a + 1) n)) e in
    elim (below_or_not a i) [
      | inl later ↦ any_in_range p n (a + 1) i parts.1 (omega arith) (omega arith)
      | inr no_later ↦ let same : i ≡ a = omega arith in rw same parts.0
    ]

pub fails_at : (p : ℕ → Bool) (a n i : ℕ) → list_any p (numbers_from a n) ≡ false → a ≤ i → i < n → p i ≡ false
fails_at p a n i e low high = any_in_range p (n - a) a i e low (omega arith)

any_from_range : (p : ℕ → Bool) (n a : ℕ) → ((i : ℕ) → a ≤ i → i < a + n → p i ≡ false)
    → list_any p (range_with_len a n) ≡ false
any_from_range p zero a each = refl
any_from_range p (suc n) a each =
    rw (each a (omega arith) (omega arith), any_from_range p n (a + 1) (λ i low high. each i (omega arith) (omega arith)))

pub fails_everywhere : (p : ℕ → Bool) (a n : ℕ) → ((i : ℕ) → a ≤ i → i < n → p i ≡ false)
    → list_any p (numbers_from a n) ≡ false
fails_everywhere p a n each = any_from_range p (n - a) a (λ i low high. each i low (omega arith))
