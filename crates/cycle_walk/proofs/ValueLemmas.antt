-- Walk values: each is the greatest weight of a walk, and how they grow.
use Rattle.std.proofs.Common.{◌≡◌, ℕ, suc, ◌+◌, ◌<◌, ◌≤◌, length, ℤ, ◌+ℤ◌, ◌≤ℤ◌, arith}
use Rattle.std.specs.Prelude.{unsigned_abs}
use Rattle.std.proofs.lemmas.Int.{ints}
use Rattle.longest_path.specs.System.{SystemData, IsSystem, arc}
use Rattle.longest_path.specs.Rounds.{weights_at}
use Rattle.longest_path.proofs.ValueLemmas.{from_keeps, from_brings, from_most, from_some, from_at, from_rises, from_within, weight_small}
use Rattle.cycle_walk.specs.Values.{zeros, value, IsWalkValue}

pub value_keeps : (s : SystemData) (wt : ℕ → ℤ) (m i : ℕ) → value s wt m i ≤ℤ value s wt (suc m) i
value_keeps s wt m i = from_keeps s wt zeros m i

pub value_brings : (s : SystemData) (wt : ℕ → ℤ) (m k : ℕ) → k < length s.arcs
    → (value s wt m (arc s k).from +ℤ wt k) ≤ℤ value s wt (suc m) (arc s k).to
value_brings s wt m k lt = from_brings s wt zeros m k lt

pub value_at : (s : SystemData) (wt : ℕ → ℤ) (m n i : ℕ) → m ≡ n → value s wt m i ≡ value s wt n i
value_at s wt m n i e = from_at s wt zeros m n i e

pub value_rises : (s : SystemData) (wt : ℕ → ℤ) (m d i : ℕ) → value s wt m i ≤ℤ value s wt (m + d) i
value_rises s wt m d i = from_rises s wt zeros m d i

-- the rounds give the walk values
pub is_walk_value : (s : SystemData) (wt : ℕ → ℤ) (m i : ℕ) → IsWalkValue s wt m i (value s wt m i)
is_walk_value s wt m i = record {
  some = let (from, ks, le, walk, sum) = from_some s wt zeros m i in (from, ks, le, walk, omega (arith, ints, sum));
  most = λ from ks le walk. omega (arith, ints, from_most s wt zeros m i from ks le walk);
}

pub value_small : (s : SystemData) (period m i : ℕ) → IsSystem s → period ≤ 20001 → m ≤ 124 → i < s.nodes
    → unsigned_abs (value s (weights_at s period) m i) ≤ 4000000000000000
value_small s period m i valid p le i_in =
    omega (
      arith,
      from_within s (weights_at s period) zeros 20001010000000 0 m i valid
          (λ k lt. weight_small s period k valid p lt) (λ j lt. omega (arith, ints)) i_in,
      le,
    )
