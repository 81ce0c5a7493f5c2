-- What the definitions amount to.
use Rattle.std.specs.Prelude.{◌≡◌, ℕ, suc, ◌+◌, ◌<◌, List, ℤ}
use Rattle.longest_path.specs.System.{SystemData, IsSystem, Leads, sum_w, sum_q, Refutes, IsLeastSolution, HasNoSolution}
use Rattle.longest_path.specs.Rounds.{IsValueFrom, value_from}

-- the rounds give the greatest weights of walks of at most m constraints over the first row
abbrev pub ValuesAreGreatest : Type 0
ValuesAreGreatest =
    (s : SystemData) (wt first : ℕ → ℤ) (m i : ℕ) → IsValueFrom s wt first m i (value_from s wt first m i)

-- after a round that changes no node nothing changes any more
abbrev pub RoundsStay : Type 0
RoundsStay =
    (s : SystemData) (wt first : ℕ → ℤ) (m d : ℕ) → IsSystem s
    → ((i : ℕ) → i < s.nodes → value_from s wt first (suc m) i ≡ value_from s wt first m i) → (i : ℕ) → i < s.nodes
    → value_from s wt first (m + d) i ≡ value_from s wt first m i

-- a closed walk whose sums refute a period leaves no solution there
abbrev pub ClosedWalkRefutes : Type 0
ClosedWalkRefutes =
    (s : SystemData) (period i : ℕ) (ks : List ℕ) → Leads s i ks i → Refutes (sum_w s ks) (sum_q s ks) period → HasNoSolution s period

-- there is one least solution only
abbrev pub LeastIsOne : Type 0
LeastIsOne =
    (s : SystemData) (period : ℕ) (xs ys : List ℤ) → IsLeastSolution s period xs → IsLeastSolution s period ys → xs ≡ ys
