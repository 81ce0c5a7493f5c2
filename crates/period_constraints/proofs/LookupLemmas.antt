-- The clashes of rides, row by row.
use Rattle.std.proofs.Common.{⊎_elim, inl, inr, ◌⊎◌, ◌≡◌, ℕ, zero, suc, ◌+◌, ◌*◌, ◌/◌, ◌%◌, ◌<◌, List, [], ◌∷◌, ◌++◌, length, get_or, refl, sym, ◌∙◌, ap, subst, arith, None}
use Rattle.std.specs.Prelude.{Option, IfSome}
use Rattle.std.proofs.lemmas.Nat.{mod_below, div-mul-add, mod-mul-add}
use Rattle.hoist_base.specs.LineData.{LineData}
use Rattle.hoist_base.proofs.NumberLemmas.{row_below, place_below}
use Rattle.collision_pairs.specs.declared.span.Span.{Span}
use Rattle.collision_pairs.specs.Clash.{IsTight}
use Rattle.path_constraints.specs.declared.rides.Ride.{Ride}
use Rattle.path_constraints.specs.Hoists.{clash_between}
use Rattle.period_constraints.specs.Starts.{ride_in, IsTable}
use Rattle.period_constraints.specs.Lookups.{AreRides, AreSpans}

-- a place in a table has a row and a column
pub row_there : (p a b : ℕ) → p < a * b → p / b < a
row_there p a zero lt = absurd (omega (arith, lt))
row_there p a (suc b) lt = row_below p a (suc b) (omega arith) lt

pub column_there : (p a b : ℕ) → p < a * b → p % b < b
column_there p a zero lt = absurd (omega (arith, lt))
column_there p a (suc b) lt = mod_below p (suc b) (omega arith)

pub get_end : {A : Type 0} (xs : List A) (y d : A) (k : ℕ) → k < length (xs ++ y ∷ [])
    → ((k < length xs) × (get_or (xs ++ y ∷ []) k d ≡ get_or xs k d)) ⊎ ((k ≡ length xs) × (get_or (xs ++ y ∷ []) k d ≡ y))
get_end [] y d zero lt = inr (refl, refl)
get_end [] y d (suc k) lt = absurd (omega (arith, lt))
get_end (x ∷ xs) y d zero lt = inl (omega arith, refl)
get_end (x ∷ xs) y d (suc k) lt = ⊎_elim (λ h. inl (omega (arith, h.0), h.1)) (λ h. inr (omega (arith, h.0), h.1)) (get_end xs y d k (omega (arith, lt)))

abbrev no_span : Option Span
no_span = None

pub spans_more : (l : LineData) (rides : List Ride) (spans new : List (Option Span)) (y : Option Span) (place : ℕ)
    → length spans ≡ place
    → new ≡ spans ++ y ∷ []
    → y ≡ clash_between l (ride_in rides (place / length rides)) (ride_in rides (place % length rides))
    → IfSome y IsTight → AreSpans l rides spans
    → AreSpans l rides new
spans_more l rides spans new y place count is clash tight h =
    let P : List (Option Span) → Type 0 = λ xs. AreSpans l rides xs in
    let pair = λ (k : ℕ). clash_between l (ride_in rides (k / length rides)) (ride_in rides (k % length rides)) in
    subst P (sym is) (record {
      clash = λ k lt.
          ⊎_elim (λ old. old.1 ∙ h.clash k old.0) (λ last. last.1 ∙ clash ∙ ap pair (sym count) ∙ ap pair (sym last.0)) (get_end spans y no_span k lt);
      tight = λ k lt.
          let T : Option Span → Type 0 = λ o. IfSome o IsTight in
          ⊎_elim (λ old. subst T (sym old.1) (h.tight k old.0)) (λ last. subst T (sym last.1) tight) (get_end spans y no_span k lt);
    })

pub whole_table : (l : LineData) (rides : List Ride) (spans : List (Option Span)) → AreRides l rides
    → length spans ≡ length rides * length rides
    → AreSpans l rides spans → IsTable l rides spans
whole_table l rides spans are count h = record {
  few = are.few;
  count = count;
  clash = λ i j lt_i lt_j.
      let n = length rides in
      let row : (i * n + j) / n ≡ i = div-mul-add i n j lt_j in
      let column : (i * n + j) % n ≡ j = mod-mul-add i n j lt_j in
      h.clash (i * n + j) (omega (arith, count, place_below i j n n lt_i lt_j))
      ∙ ap (λ (x : ℕ). clash_between l (ride_in rides x) (ride_in rides ((i * n + j) % n))) row ∙ ap
      (λ (x : ℕ). clash_between l (ride_in rides i) (ride_in rides x)) column;
  tight = h.tight;
}
