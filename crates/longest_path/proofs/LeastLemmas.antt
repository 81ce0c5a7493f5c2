-- From a row that a round left as it was to the least solution, and from a node that grew in the last round to there
-- being none.
use Rattle.std.proofs.Common.{◌≡◌, ℕ, zero, suc, ◌-◌, ◌*◌, ◌<◌, ◌≤◌, ⊎_elim, List, [], ◌∷◌, ◌++◌, length, get_or, refl, sym, ap, ◌∙◌, subst, ℤ, pos, ◌<ℤ◌, arith}
use Rattle.std.specs.Prelude.{unsigned_abs}
use Rattle.std.proofs.lemmas.Int.{ints}
use Rattle.std.proofs.lemmas.Bool.{cases_eq, cases_lt}
use Rattle.std.proofs.lemmas.List.{get_or_past}
use Rattle.std.proofs.lemmas.Nat.{mul-le}
use Rattle.longest_path.specs.System.{SystemData, IsSystem, arc, Solves, Leads, IsReached, IsLeastSolution, AreWithin}
use Rattle.longest_path.specs.Rounds.{weights_at, walk_weight, value_from, number, cell}
use Rattle.longest_path.specs.Start.{far}
use Rattle.longest_path.specs.Laws.{LeastIsOne}
use Rattle.longest_path.proofs.Cycles.{walk_bound, short_enough}
use Rattle.longest_path.proofs.RowLemmas.{row_first}
use Rattle.longest_path.proofs.ValueLemmas.{from_brings, from_most, from_some, begins_below, weighs_within, weight_small}

-- 0 at node 0, and nothing reached beside it
pub record IsStart (s : SystemData) (first : ℕ → ℤ) : Type 0 where
  pub at_start : first 0 ≡ pos 0
  pub others : (i : ℕ) → 0 < i → i < s.nodes → first i ≡ far

pub start_is : (s : SystemData) (row rest : List ℤ) → length row ≡ s.nodes → 0 < s.nodes → number row 0 ≡ pos 0
    → ((i : ℕ) → 0 < i → i < length row → number row i ≡ far) → IsStart s (cell s.nodes (row ++ rest) 0)
start_is s row rest count zero_in start others = record {
  at_start = row_first s.nodes 0 row rest count zero_in ∙ start;
  others = λ i after i_in. row_first s.nodes i row rest count i_in ∙ others i after (omega (arith, i_in, count));
}

-- a round changes nothing in row m
abbrev pub IsStill : SystemData → ℕ → (ℕ → ℤ) → ℕ → Type 0
IsStill s period first m =
    (i : ℕ) → i < s.nodes → value_from s (weights_at s period) first (suc m) i ≡ value_from s (weights_at s period) first m i

pub still_solves : (s : SystemData) (period : ℕ) (first : ℕ → ℤ) (m : ℕ) → IsSystem s → IsStill s period first m
    → Solves s period (value_from s (weights_at s period) first m)
still_solves s period first m valid still k lt =
    omega (arith, ints, from_brings s (weights_at s period) first m k lt, still (arc s k).to (valid.ends k lt).1)

abbrev pub FromStart : SystemData → ℕ → (ℕ → ℤ) → ℕ → ℕ → Type 0
FromStart s period first m i =
    (ks : List ℕ) × (length ks ≤ m) × Leads s 0 ks i × (walk_weight (weights_at s period) ks ≡ value_from s (weights_at s period) first m i)

-- a node that node 0 reaches has no more than walks from node 0 bring, so what it has came from there
pub from_start : (s : SystemData) (period : ℕ) (first : ℕ → ℤ) (m i : ℕ) → IsSystem s → IsStart s first → period ≤ 20001
    → m ≤ 124 → IsStill s period first m → IsReached s i → i < s.nodes → FromStart s period first m i
from_start s period first m i valid start p le still reached i_in =
    let wt = weights_at s period in
    let t = value_from s wt first m in
    let (from, ks, short, walk, sum) = from_some s wt first m i in
    ⊎_elim
    (λ at_0. (ks, short, subst (λ (j : ℕ). Leads s j ks i) at_0 walk, omega (arith, ints, sum, ap first at_0, start.at_start)))
    (λ other.
    let from_in = begins_below s from i ks valid i_in walk in
    let begins : first from ≡ far = start.others from (omega (arith, other)) from_in in
    let weighs = weighs_within s wt 20001010000000 from i ks (λ k lt. weight_small s period k valid p lt) walk in
    let solves = still_solves s period first m valid still in
    let c = short_enough s wt t 0 i reached.0 valid (omega (arith, valid.nodes.0)) solves reached.1 in
    let below = weighs_within s wt 20001010000000 0 i c.0 (λ k lt. weight_small s period k valid p lt) c.1 in
    let bound = walk_bound s wt t 0 i c.0 solves c.1 in
    let at_0 = from_most s wt first m 0 0 [] (omega arith) refl in
    absurd (omega (arith, ints, sum, begins, weighs, short, le, bound, below, c.2, valid.nodes.1, at_0, start.at_start)))
    (cases_eq from 0)

pub is_least : (s : SystemData) (period : ℕ) (first : ℕ → ℤ) (m : ℕ) (out : List ℤ) → IsSystem s → IsStart s first
    → period ≤ 20001 → m ≤ 124 → IsStill s period first m → ((i : ℕ) → i < s.nodes → IsReached s i)
    → length out ≡ s.nodes → ((i : ℕ) → i < s.nodes → number out i ≡ value_from s (weights_at s period) first m i)
    → IsLeastSolution s period out
is_least s period first m out valid start p le still reached count is =
    let wt = weights_at s period in
    let row = value_from s wt first m in
    let solves = still_solves s period first m valid still in
    let zero_in : 0 < s.nodes = omega (arith, valid.nodes.0) in
    let loop = from_start s period first m 0 valid start p le still (reached 0 zero_in) zero_in in
    let bound = walk_bound s wt row 0 0 loop.0 solves loop.2 in
    let above = from_most s wt first m 0 0 [] (omega arith) refl in
    let at_0 : row 0 ≡ pos 0 = omega (arith, ints, loop.3, bound, above, start.at_start) in
    record {
      count = count;
      solves = λ k lt. omega (arith, ints, solves k lt, is (arc s k).from (valid.ends k lt).0, is (arc s k).to (valid.ends k lt).1);
      at_start = is 0 zero_in ∙ at_0;
      least = λ t t_solves t_start i i_in.
          let w = from_start s period first m i valid start p le still (reached i i_in) i_in in
          let b = walk_bound s wt t 0 i w.0 t_solves w.2 in
          omega (arith, ints, is i i_in, w.3, b, t_start);
    }

-- no tick is larger than the weights of a walk to another node
pub ticks_within : (s : SystemData) (period : ℕ) (first : ℕ → ℤ) (m : ℕ) (out : List ℤ) (w i : ℕ) → IsSystem s
    → IsStart s first → period ≤ 20001 → m < s.nodes → IsStill s period first m
    → ((j : ℕ) → j < s.nodes → IsReached s j) → length out ≡ s.nodes
    → ((j : ℕ) → j < s.nodes → number out j ≡ value_from s (weights_at s period) first m j) → AreWithin s period w
    → unsigned_abs (number out i) ≤ (s.nodes - 1) * w
ticks_within s period first m out w i valid start p lt still reached count is within =
    ⊎_elim
    (λ i_in.
    let (ks, short, walk, sum) = from_start s period first m i valid start p (omega (arith, lt, valid.nodes.1)) still (reached i i_in) i_in in
    let weighs = weighs_within s (weights_at s period) w 0 i ks within walk in
    let more = mul-le (length ks) w (s.nodes - 1) w (omega (arith, short, lt)) (omega arith) in
    omega (arith, ints, is i i_in, sum, weighs, more))
    (λ past. let e : number out i ≡ pos 0 = get_or_past out i (pos 0) (omega (arith, past, count)) in omega (arith, ints, e))
    (cases_lt i s.nodes)

pub none_where_grown : (s : SystemData) (period : ℕ) (first : ℕ → ℤ) (i : ℕ) (t : ℕ → ℤ) → IsSystem s → i < s.nodes
    → value_from s (weights_at s period) first (s.nodes - 1) i <ℤ value_from s (weights_at s period) first s.nodes i
    → Solves s period t → ⊥
none_where_grown s period first i t valid i_in grown solves =
    let wt = weights_at s period in
    let (from, ks, short, walk, sum) = from_some s wt first s.nodes i in
    let c = short_enough s wt t from i ks valid (begins_below s from i ks valid i_in walk) solves walk in
    let most = from_most s wt first (s.nodes - 1) i from c.0 (omega (arith, c.2)) c.1 in
    omega (arith, ints, grown, sum, c.3, most)

-- ---- the least solution is one
same_numbers : (xs ys : List ℤ) → length xs ≡ length ys
    → ((i : ℕ) → i < length xs → get_or xs i (pos 0) ≡ get_or ys i (pos 0)) → xs ≡ ys
same_numbers [] [] e h = refl
same_numbers [] (y ∷ ys) e h = absurd (omega (arith, e))
same_numbers (x ∷ xs) [] e h = absurd (omega (arith, e))
same_numbers (x ∷ xs) (y ∷ ys) e h =
    let head : x ≡ y = h zero (omega arith) in
    ap (λ z. z ∷ xs) head ∙ ap (λ zs. y ∷ zs) (same_numbers xs ys (omega (arith, e)) (λ i lt. h (suc i) (omega (arith, lt))))

pub least_is_one : LeastIsOne
least_is_one s period xs ys x y =
    same_numbers xs ys (x.count ∙ sym y.count)
    (λ i lt.
    let i_in : i < s.nodes = omega (arith, lt, x.count) in
    omega (arith, ints, x.least (λ j. get_or ys j (pos 0)) y.solves y.at_start i i_in, y.least (λ j. get_or xs j (pos 0)) x.solves x.at_start i i_in))
