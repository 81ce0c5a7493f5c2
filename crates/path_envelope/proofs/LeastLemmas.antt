-- A row that was raised from both ends is the least that suffices.
use Rattle.std.proofs.Common.{◌≡◌, ℕ, ◌+◌, ◌-◌, ◌%◌, ◌≤◌, ◌<◌, ◌∙◌, List, Option, None, Some, length, get_or, reverse, IfSome, ap, subst, arith}
use Rattle.std.specs.Option.{unwrap_or, option_map_or}
use Rattle.std.proofs.lemmas.Nat.{mod_below}
use Rattle.std.proofs.lemmas.List.{get_or-reverse}
use Rattle.std.proofs.Math.Nat.{mod-eq_of_lt}
use Rattle.hoist_base.specs.LineData.{LineData}
use Rattle.path_envelope.specs.Rows.{next, ComesFrom, IsRaised, Suffices, IsLeastRow, need}
use Rattle.path_envelope.proofs.RowLemmas.{IsSwept, swept, slow_far}

at_or_above : (o : Option ℕ) (x : ℕ) → unwrap_or o 0 ≤ x → IfSome o (λ at. at ≤ x)
at_or_above None x le = tt
at_or_above (Some a) x le = le

covers : (o : Option ℕ) (x : ℕ) → IfSome o (λ at. at ≤ x) → unwrap_or o 0 ≤ x
covers None x le = omega arith
covers (Some a) x le = le

above : (o : Option (List ℕ)) (gap t x : ℕ) → option_map_or (λ below. get_or below t 0 + gap) o 0 ≤ x
    → IfSome o (λ below. get_or below t 0 + gap ≤ x)
above None gap t x le = tt
above (Some a) gap t x le = le

covers_above : (o : Option (List ℕ)) (gap t x : ℕ) → IfSome o (λ below. get_or below t 0 + gap ≤ x)
    → option_map_or (λ below. get_or below t 0 + gap) o 0 ≤ x
covers_above None gap t x le = omega arith
covers_above (Some a) gap t x le = le

-- a row that suffices is at or above each need
meets_need : (l : LineData) (period h : ℕ) (asked : List (Option ℕ)) (low : Option (List ℕ)) (row : ℕ → ℕ)
    → Suffices l period h asked low row → (t : ℕ) → t < period → need l h asked low t ≤ row t
meets_need l period h asked low row s t lt =
    omega (arith, s.room t lt, covers (get_or asked t None) (row t) (s.fixed t lt), covers_above low l.gap t (row t) (s.above t lt))

-- so it is at or above a row whose heights come from needs
below_all : (l : LineData) (period h : ℕ) (asked : List (Option ℕ)) (low : Option (List ℕ)) (row other : ℕ → ℕ)
    → 0 < period → ComesFrom period (need l h asked low) row → Suffices l period h asked low other → (t : ℕ)
    → t < period → row t ≤ other t
below_all l period h asked low row other p from s t lt =
    let w = from t lt in
    let a : other (w.0 % period) ≡ other w.0 = ap other (mod-eq_of_lt w.3) in
    let b : other (t % period) ≡ other t = ap other (mod-eq_of_lt lt) in
    let e : other ((w.0 + w.2) % period) ≡ other ((t + w.1) % period) = ap other w.4 in
    omega (
      arith,
      a,
      b,
      e,
      w.5,
      meets_need l period h asked low other s w.0 w.3,
      (slow_far period other w.0 w.2 p s.slow).0,
      (slow_far period other t w.1 p s.slow).1,
    )

pub least_row : (l : LineData) (period h : ℕ) (asked : List (Option ℕ)) (low : Option (List ℕ)) (row : List ℕ)
    → 0 < period → length row ≡ period → IsSwept period (need l h asked low) (λ t. get_or row t 0)
    → IsLeastRow l period h asked low row
least_row l period h asked low row p count s = record {
  count = count;
  suffices = record {
    room = λ t lt. omega (arith, s.least t lt);
    fixed = λ t lt. at_or_above (get_or asked t None) (get_or row t 0) (omega (arith, s.least t lt));
    above = λ t lt. above low l.gap t (get_or row t 0) (omega (arith, s.least t lt));
    slow = s.slow;
  };
  least = λ other os. below_all l period h asked low (λ t. get_or row t 0) other p s.from os;
}

turned : (n : ℕ) (xs ys : List ℕ) → length xs ≡ n → ys ≡ reverse xs → (t : ℕ) → t < n
    → get_or ys t 0 ≡ get_or xs (n - 1 - t) 0
turned n xs ys count is t lt =
    let e : get_or ys t 0 ≡ get_or (reverse xs) t 0 = ap (λ (zs : List ℕ). get_or zs t 0) is in
    let d : get_or xs (length xs - 1 - t) 0 ≡ get_or xs (n - 1 - t) 0 = ap (λ k. get_or xs (k - 1 - t) 0) count in
    e ∙ (get_or-reverse xs t 0 (omega (arith, lt, count)) ∙ d)

from_needs : (n : ℕ) (f : ℕ → ℕ) (needs a : List ℕ) → ((t : ℕ) → t < n → get_or needs t 0 ≡ f t)
    → IsRaised n (λ t. get_or needs t 0) (λ t. get_or a t 0) → IsRaised n f (λ t. get_or a t 0)
from_needs n f needs a is r = record {
  least = λ t lt. omega (arith, is t lt, r.least t lt);
  falls = r.falls;
  rises = λ t lt. let u_in : next n t < n = mod_below (t + 1) n (omega (arith, lt)) in omega (arith, r.rises t lt, is (next n t) u_in);
  from = λ t lt. let w = r.from t lt in (w.0, w.1, w.2, w.3, w.4 ∙ is w.0 w.2);
}

-- needs, raised, turned round, raised and turned back
pub both_ways : (n : ℕ) (f : ℕ → ℕ) (needs a b c row : List ℕ) → length needs ≡ n → length a ≡ length needs
    → length b ≡ length a → length c ≡ length b
    → ((t : ℕ) → t < length needs → get_or needs t 0 ≡ f t)
    → IsRaised (length needs) (λ t. get_or needs t 0) (λ t. get_or a t 0) → b ≡ reverse a
    → IsRaised (length b) (λ t. get_or b t 0) (λ t. get_or c t 0) → row ≡ reverse c → IsSwept n f (λ t. get_or row t 0)
both_ways n f needs a b c row n0 an bn cn is left ba right rc =
    let l : IsRaised n (λ t. get_or needs t 0) (λ t. get_or a t 0) = subst (λ (k : ℕ). IsRaised k (λ t. get_or needs t 0) (λ t. get_or a t 0)) n0 left in
    let r : IsRaised n (λ t. get_or b t 0) (λ t. get_or c t 0) = subst
    (λ (k : ℕ). IsRaised k (λ t. get_or b t 0) (λ t. get_or c t 0)) (omega (arith, n0, an, bn)) right in
    let an' : length a ≡ n = an ∙ n0 in
    let cn' : length c ≡ n = cn ∙ (bn ∙ an') in
    swept n f (λ t. get_or a t 0) (λ t. get_or b t 0) (λ t. get_or c t 0) (λ t. get_or row t 0)
    (from_needs n f needs a (λ t lt. is t (omega (arith, lt, n0))) l) (turned n a b an' ba) r (turned n c row cn' rc)
