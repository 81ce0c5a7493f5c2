-- Stays and starts, one for each visit or move.
use Rattle.std.proofs.Common.{⊎_elim, ◌≡◌, ℕ, ◌+◌, ◌<◌, List, length, get_or, sym, ap, subst, arith, ℤ, Some, None, set, get_or-set_other}
use Rattle.std.proofs.lemmas.Int.{ints}
use Rattle.std.proofs.lemmas.Bool.{cases_order}
use Rattle.std.proofs.lemmas.List.{get_or-set_same}
use Rattle.std.specs.Prelude.{Option, IsSomeAnd, ◌+ℤ◌, ◌-ℤ◌, ◌<ℤ◌, neg_ℤ}
use Rattle.hoist_base.specs.LineData.{LineData, move_number, visit_count, move_at}
use Rattle.hoist_base.proofs.NumberLemmas.{number_of_move}
use Rattle.collision_pairs.specs.declared.span.Span.{Span}
use Rattle.path_constraints.specs.declared.rides.Ride.{Ride}
use Rattle.path_constraints.specs.Questions.{offset_of}
use Rattle.period_constraints.specs.Pairs.{Pair, IsFirstNumber, IsFirstShift, IsFirstPair, IsBetween}
use Rattle.period_constraints.specs.Stays.{Stay, IsStay}
use Rattle.period_constraints.specs.Starts.{Start, start, clash_rides, ride_by, AreMeeting, AreStarts}
use Rattle.period_constraints.specs.Routed.{HoldOneTank, ClashByRides}
use Rattle.period_constraints.proofs.PairLemmas.{shift_same}

-- one element more is written
pub write_more : {A : Type 0} (P : ℕ → A → Type 0) (xs : List A) (i : ℕ) (v d : A) → i < length xs
    → ((j : ℕ) → j < i → P j (get_or xs j d)) → P i v
    → (j : ℕ) → j < i + 1 → P j (get_or (set xs i v) j d)
write_more {A} P xs i v d there before here j lt =
    ⊎_elim
    (λ e.
    let at : P i (get_or (set xs i v) i d) = let Q : A → Type 0 = λ x. P i x in subst Q (sym (get_or-set_same xs i v d there)) here in
    let Q : ℕ → Type 0 = λ n. P n (get_or (set xs i v) n d) in
    subst Q (sym e) at)
    (λ rest.
    ⊎_elim
    (λ less.
    let Q : A → Type 0 = λ x. P j x in
    subst Q (sym (get_or-set_other xs i j v d (λ e. omega (arith, less, e)))) (before j less))
    (λ more. absurd (omega (arith, more, lt))) rest)
    (cases_order j i)

-- ---- first pairs of what says the same

pub pair_same : (P Q : ℕ → ℕ → ℤ → Type 0) (o : Option Pair) → ((i j : ℕ) (q : ℤ) → P i j q → Q i j q)
    → ((i j : ℕ) (q : ℤ) → Q i j q → P i j q)
    → IsFirstPair P o → IsFirstPair Q o
pair_same P Q None to from none = λ i j q h. none i j q (from i j q h)
pair_same P Q (Some x) to from first = (to x.first x.second x.shift first.0, λ i j q before h. first.1 i j q before (from i j q h))

pub number_same : (P Q : ℕ → Type 0) (o : Option ℕ) → ((i : ℕ) → P i → Q i) → ((i : ℕ) → Q i → P i) → IsFirstNumber P o
    → IsFirstNumber Q o
number_same P Q None to from none = λ i h. none i (from i h)
number_same P Q (Some n) to from first = (to n first.0, λ i lt h. first.1 i lt (from i h))

-- ---- visits

-- the first shift of two visits with one tank, from their stays
pub tank_shift : (l : LineData) (tanks : List ℕ) (s : ℕ → ℤ) (x y : Stay) (period i j : ℕ) (low high : ℤ) (o : Option ℤ)
    → IsStay l tanks s i x
    → IsStay l tanks s j y → i < j → j < visit_count l
    → get_or tanks i 0 ≡ get_or tanks j 0 → low ≡ x.begin -ℤ y.end → high ≡ x.end -ℤ y.begin
    → IsFirstShift (λ q. IsBetween low high period q) o
    → IsFirstShift (HoldOneTank l tanks s period i j) o
tank_shift l tanks s x y period i j low high o a b before there tank is_low is_high first =
    shift_same (λ q. IsBetween low high period q) (HoldOneTank l tanks s period i j) o
    (λ q h. record {
      before = before;
      there = there;
      tank = tank;
      together = (
        omega (arith, ints, a.begin, a.end, b.begin, b.end, is_low, is_high, h.1),
        omega
            (arith, ints, a.begin, a.end, b.begin, b.end, is_low, is_high, h.0),
      );
    })
    (λ q hold. (
      omega (arith, ints, a.begin, a.end, b.begin, b.end, is_low, is_high, hold.together.1),
      omega
          (arith, ints, a.begin, a.end, b.begin, b.end, is_low, is_high, hold.together.0),
    ))
    first

-- ---- moves

some_and : (o : Option Span) (P Q : Span → Type 0) → ((x : Span) → P x → Q x) → IsSomeAnd o P → IsSomeAnd o Q
some_and None P Q to h = h
some_and (Some x) P Q to h = to x h

to_rides : (l : LineData) (tanks : List ℕ) (assigned : List (Option ℕ)) (s : ℕ → ℤ) (xs : List Start) (period i j : ℕ) (q : ℤ)
    → AreStarts l tanks assigned s xs
    → AreMeeting l xs period i j q
    → ClashByRides l tanks assigned s period i j q
to_rides l tanks assigned s xs period i j q h meet =
    let a = h.each i (omega (arith, meet.before, meet.there, h.count)) in
    let b = h.each j (omega (arith, meet.there, h.count)) in
    let o = offset_of l s period (move_at l i) (move_at l j) q in
    let first : s (move_number l (move_at l i).carrier (move_at l i).step) ≡ s i = ap s (number_of_move l i) in
    let second : s (move_number l (move_at l j).carrier (move_at l j).step) ≡ s j = ap s (number_of_move l j) in
    let P : Option Ride → Type 0 = λ r. IsSomeAnd (clash_rides l r (start xs j).ride) (λ span. (neg_ℤ span.before <ℤ o) × (o <ℤ span.after)) in
    let Q : Option Ride → Type 0 = λ r. IsSomeAnd (clash_rides l (ride_by l tanks (get_or assigned i None) (move_at l i).carrier (move_at l i).step) r)
    (λ span. (neg_ℤ span.before <ℤ o) × (o <ℤ span.after)) in
    let at : P (start xs i).ride =
    some_and (clash_rides l (start xs i).ride (start xs j).ride)
    (λ span. IsBetween (((start xs i).tick -ℤ (start xs j).tick) -ℤ span.before) (((start xs i).tick -ℤ (start xs j).tick) +ℤ span.after) period q)
    (λ span. (neg_ℤ span.before <ℤ o) × (o <ℤ span.after))
    (λ span x. (omega (arith, ints, a.tick, b.tick, first, second, x.0), omega (arith, ints, a.tick, b.tick, first, second, x.1))) meet.clash in
    record { before = meet.before; there = omega (arith, meet.there, h.count); clash = subst Q b.ride (subst P a.ride at) }

from_rides : (l : LineData) (tanks : List ℕ) (assigned : List (Option ℕ)) (s : ℕ → ℤ) (xs : List Start) (period i j : ℕ) (q : ℤ)
    → AreStarts l tanks assigned s xs
    → ClashByRides l tanks assigned s period i j q → AreMeeting l xs period i j q
from_rides l tanks assigned s xs period i j q h clash =
    let a = h.each i (omega (arith, clash.before, clash.there)) in
    let b = h.each j clash.there in
    let o = offset_of l s period (move_at l i) (move_at l j) q in
    let first : s (move_number l (move_at l i).carrier (move_at l i).step) ≡ s i = ap s (number_of_move l i) in
    let second : s (move_number l (move_at l j).carrier (move_at l j).step) ≡ s j = ap s (number_of_move l j) in
    let P : Option Ride → Type 0 = λ r. IsSomeAnd (clash_rides l r (ride_by l tanks (get_or assigned j None) (move_at l j).carrier (move_at l j).step))
    (λ span. (neg_ℤ span.before <ℤ o) × (o <ℤ span.after)) in
    let Q : Option Ride → Type 0 = λ r. IsSomeAnd (clash_rides l (start xs i).ride r) (λ span. (neg_ℤ span.before <ℤ o) × (o <ℤ span.after)) in
    let at : Q (start xs j).ride = subst Q (sym b.ride) (subst P (sym a.ride) clash.clash) in
    record {
      before = clash.before;
      there = omega (arith, clash.there, h.count);
      clash =
          some_and (clash_rides l (start xs i).ride (start xs j).ride) (λ span. (neg_ℤ span.before <ℤ o) × (o <ℤ span.after))
          (λ span. IsBetween (((start xs i).tick -ℤ (start xs j).tick) -ℤ span.before) (((start xs i).tick -ℤ (start xs j).tick) +ℤ span.after) period q)
          (λ span x. (omega (arith, ints, a.tick, b.tick, first, second, x.0), omega (arith, ints, a.tick, b.tick, first, second, x.1))) at;
    }

pub rides_first : (l : LineData) (tanks : List ℕ) (assigned : List (Option ℕ)) (s : ℕ → ℤ) (xs : List Start) (period : ℕ) (o : Option Pair)
    → AreStarts l tanks assigned s xs
    → IsFirstPair (AreMeeting l xs period) o → IsFirstPair (ClashByRides l tanks assigned s period) o
rides_first l tanks assigned s xs period o h first =
    pair_same (AreMeeting l xs period) (ClashByRides l tanks assigned s period) o (λ i j q x. to_rides l tanks assigned s xs period i j q h x)
    (λ i j q x. from_rides l tanks assigned s xs period i j q h x) first
