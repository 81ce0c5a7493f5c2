-- Relaxation in place: one step, one pass, and where it ends.
use Rattle.std.proofs.Common.{◌≡◌, ℕ, suc, ◌+◌, ◌-◌, ◌<◌, ◌≤◌, ⊎_elim, List, length, set, sym, ap, ◌∙◌, ℤ, pos, ◌+ℤ◌, ◌≤ℤ◌, ◌<ℤ◌, get_or-set_same, get_or-set_other, arith}
use Rattle.std.specs.Prelude.{unsigned_abs}
use Rattle.std.specs.Int.{int_max}
use Rattle.std.proofs.lemmas.Int.{ints, clamps}
use Rattle.std.proofs.lemmas.Bool.{cases_eq}
use Rattle.longest_path.specs.System.{SystemData, IsSystem, arc, Solves}
use Rattle.longest_path.specs.Rounds.{weights_at, value_from, number}
use Rattle.longest_path.specs.Steps.{IsRaised, IsSettled}
use Rattle.longest_path.proofs.Cycles.{walk_bound, short_enough}
use Rattle.longest_path.proofs.ValueLemmas.{is_brought, from_at, from_keeps, from_rises, from_most, from_some, from_small, begins_below}
use Rattle.longest_path.proofs.LeastLemmas.{IsStill, still_solves}

-- ---- one pass
-- one constraint more
pub raised_more : (s : SystemData) (period m : ℕ) (old : ℕ → ℤ) (new : List ℤ) (from to : ℕ) (asks z : ℤ)
    → IsRaised s period m old (number new) → IsSystem s → length new ≡ s.nodes → m < length s.arcs
    → from ≡ (arc s m).from → to ≡ (arc s m).to → asks ≡ weights_at s period m
    → z ≡ int_max (number new to) (number new from +ℤ asks) → IsRaised s period (m + 1) old (number (set new to z))
raised_more s period m old new from to asks z h valid count lt is_from is_to is_asks max_is =
    let from_in : from < s.nodes = omega (arith, is_from, (valid.ends m lt).0) in
    let to_in : to < s.nodes = omega (arith, is_to, (valid.ends m lt).1) in
    let here : number (set new to z) to ≡ z = get_or-set_same new to z (pos 0) (omega (arith, to_in, count)) in
    let rises : (i : ℕ) → number new i ≤ℤ number (set new to z) i = λ i.
    ⊎_elim
    (λ same. omega (arith, ints, clamps, ap (number (set new to z)) same, here, max_is, ap (number new) same))
    (λ other. omega (arith, ints, get_or-set_other new to i z (pos 0) other))
    (cases_eq i to) in
    record {
      keeps = λ i i_in. omega (arith, ints, h.keeps i i_in, rises i);
      brings = λ k less.
          ⊎_elim
          (λ e.
          let gives : old (arc s k).from +ℤ weights_at s period k ≡ old from +ℤ asks = ap
          (λ x. old (arc s x).from +ℤ weights_at s period x) e ∙ omega (arith, ints, ap old is_from, is_asks) in
          let at : number (set new to z) (arc s k).to ≡ z = ap (λ x. number (set new to z) (arc s x).to) e ∙ ap (number (set new to z)) (sym is_to) ∙ here in
          omega (arith, ints, clamps, gives, at, max_is, h.keeps from from_in))
          (λ ne. omega (arith, ints, h.brings k (omega (arith, less, ne)), rises (arc s k).to))
          (cases_eq k m);
      most = λ t solves above i i_in.
          ⊎_elim
          (λ same.
          let at : number (set new to z) i ≡ z = ap (number (set new to z)) same ∙ here in
          let met = solves m lt in
          omega (
            arith,
            ints,
            clamps,
            at,
            met,
            ap t is_from,
            ap t is_to,
            ap t same,
            is_asks,
            max_is,
            h.most t solves above from from_in,
            h.most t solves above to to_in,
          ))
          (λ other. omega (arith, ints, get_or-set_other new to i z (pos 0) other, h.most t solves above i i_in))
          (cases_eq i to);
    }

-- before any
pub raised_none : (s : SystemData) (period : ℕ) (old : ℕ → ℤ) → IsRaised s period 0 old old
raised_none s period old = record {
  keeps = λ i i_in. omega (arith, ints);
  brings = λ k less. absurd (omega (arith, less));
  most = λ t solves above i i_in. above i i_in;
}

-- ---- pass by pass
-- after m passes: no less than after m rounds, and below all solutions above the first row
pub record IsBetween (s : SystemData) (period : ℕ) (first : ℕ → ℤ) (m : ℕ) (row : List ℤ) : Type 0 where
  pub count : length row ≡ s.nodes
  pub low : (i : ℕ) → i < s.nodes → value_from s (weights_at s period) first m i ≤ℤ number row i
  pub most : (t : ℕ → ℤ) → Solves s period t → ((i : ℕ) → i < s.nodes → first i ≤ℤ t i) → (i : ℕ) → i < s.nodes
      → number row i ≤ℤ t i

abbrev pub HasGrown : SystemData → ℕ → (ℕ → ℤ) → ℕ → List ℤ → Type 0
HasGrown s period first m row =
    (i : ℕ) × (i < s.nodes) × (value_from s (weights_at s period) first m i <ℤ number row i)

pub between_first : (s : SystemData) (period : ℕ) (row : List ℤ) → length row ≡ s.nodes
    → IsBetween s period (number row) 0 row
between_first s period row count = record {
  count = count;
  low = λ i i_in. omega (arith, ints);
  most = λ t solves above i i_in. above i i_in;
}

pub between_more : (s : SystemData) (period m : ℕ) (first : ℕ → ℤ) (old new : List ℤ) → IsSystem s
    → IsBetween s period first m old → length new ≡ s.nodes
    → IsRaised s period (length s.arcs) (number old) (number new) → IsBetween s period first (m + 1) new
between_more s period m first old new valid h count raised =
    let wt = weights_at s period in
    let v = value_from s wt first m in
    record {
      count = count;
      low = λ i i_in.
          let next : value_from s wt first (m + 1) i ≡ value_from s wt first (suc m) i = from_at s wt first (m + 1) (suc m) i (omega arith) in
          ⊎_elim
          (λ same. omega (arith, ints, next, same, h.low i i_in, raised.keeps i i_in))
          (λ (k, (k_in, to, is)). omega (arith, ints, next, is, ap (number new) to, raised.brings k k_in, h.low (arc s k).from (valid.ends k k_in).0))
          (is_brought s wt v i (length s.arcs));
      most = λ t solves above i i_in. raised.most t solves (λ j j_in. h.most t solves above j j_in) i i_in;
    }

-- ---- where it ends
-- where some ticks solve the system, a further round changes nothing
pub still_where_solved : (s : SystemData) (period : ℕ) (first t : ℕ → ℤ) → IsSystem s → Solves s period t
    → IsStill s period first (s.nodes - 1)
still_where_solved s period first t valid solves i i_in =
    let wt = weights_at s period in
    let (from, ks, short, walk, sum) = from_some s wt first (suc (s.nodes - 1)) i in
    let c = short_enough s wt t from i ks valid (begins_below s from i ks valid i_in walk) solves walk in
    let most = from_most s wt first (s.nodes - 1) i from c.0 (omega (arith, c.2)) c.1 in
    omega (arith, ints, sum, c.3, most, from_keeps s wt first (s.nodes - 1) i)

-- and a row that is between is below the last row of the rounds
pub below_last : (s : SystemData) (period m : ℕ) (first t : ℕ → ℤ) (row : List ℤ) → IsSystem s → Solves s period t
    → IsBetween s period first m row → (i : ℕ) → i < s.nodes
    → number row i ≤ℤ value_from s (weights_at s period) first (s.nodes - 1) i
below_last s period m first t row valid solves h i i_in =
    let wt = weights_at s period in
    h.most (value_from s wt first (s.nodes - 1)) (still_solves s period first (s.nodes - 1) valid (still_where_solved s period first t valid solves))
    (λ j j_in. omega (arith, ints, from_rises s wt first 0 (s.nodes - 1) j, from_at s wt first (0 + (s.nodes - 1)) (s.nodes - 1) j (omega arith))) i i_in

-- a row that a pass left as it was solves the system
pub raised_solves : (s : SystemData) (period : ℕ) (old new : List ℤ) → IsSystem s
    → IsRaised s period (length s.arcs) (number old) (number new)
    → ((i : ℕ) → i < s.nodes → number new i ≡ number old i) → Solves s period (number new)
raised_solves s period old new valid raised same k k_in =
    omega (arith, ints, same (arc s k).from (valid.ends k k_in).0, raised.brings k k_in)

-- and it is the last row of the rounds
pub settled : (s : SystemData) (period m : ℕ) (first : ℕ → ℤ) (row : List ℤ) → IsSystem s
    → IsBetween s period first m row → Solves s period (number row) → IsSettled s period first row
settled s period m first row valid h solves =
    let wt = weights_at s period in
    record {
      is = λ i i_in.
          let (from, ks, short, walk, sum) = from_some s wt first (s.nodes - 1) i in
          let from_in = begins_below s from i ks valid i_in walk in
          let bound = walk_bound s wt (number row) from i ks solves walk in
          let begins : first from ≤ℤ value_from s wt first m from = omega (
            arith,
            ints,
            from_rises s wt first 0 m from,
            from_at s wt first (0 + m) m from (omega arith),
          ) in
          omega (arith, ints, sum, bound, begins, h.low from from_in, below_last s period m first (number row) row valid solves h i i_in);
      still = still_where_solved s period first (number row) valid solves;
    }

-- a number above all that walks bring, or growth in as many passes as nodes, leaves no solution
pub none_above : (s : SystemData) (period m : ℕ) (first t : ℕ → ℤ) (row : List ℤ) (i : ℕ) → IsSystem s → period ≤ 20001
    → ((j : ℕ) → j < s.nodes → unsigned_abs (first j) ≤ 10000000000000000) → IsBetween s period first m row
    → i < s.nodes → pos 20000000000000000 <ℤ number row i → Solves s period t → ⊥
none_above s period m first t row i valid p small h i_in above solves =
    omega (
      arith,
      ints,
      above,
      below_last s period m first t row valid solves h i i_in,
      from_small s period first (s.nodes - 1) i valid p (omega (arith, valid.nodes.1)) small i_in,
    )

pub none_grown : (s : SystemData) (period m : ℕ) (first t : ℕ → ℤ) (row : List ℤ) → IsSystem s
    → IsBetween s period first m row → HasGrown s period first (s.nodes - 1) row → Solves s period t → ⊥
none_grown s period m first t row valid h (i, i_in, grown) solves =
    omega (arith, ints, grown, below_last s period m first t row valid solves h i i_in)

pub raised_small : (new : List ℤ) (nodes from to b w : ℕ) (asks z : ℤ)
    → ((i : ℕ) → i < nodes → unsigned_abs (number new i) ≤ b) → length new ≡ nodes → from < nodes → to < nodes
    → unsigned_abs asks ≤ w → z ≡ int_max (number new to) (number new from +ℤ asks) → (i : ℕ) → i < nodes
    → unsigned_abs (number (set new to z) i) ≤ b + w
raised_small new nodes from to b w asks z small count from_in to_in light max_is i i_in =
    ⊎_elim
    (λ same.
    let at : number (set new to z) i ≡ z = ap (number (set new to z)) same ∙ get_or-set_same new to z (pos 0) (omega (arith, to_in, count)) in
    omega (arith, ints, clamps, at, max_is, small from from_in, small to to_in, light))
    (λ other. omega (arith, ints, get_or-set_other new to i z (pos 0) other, small i i_in))
    (cases_eq i to)
