-- A chain of nodes, which the tests make.
use Rattle.std.specs.Prelude.{◌≡◌, ℕ, ◌+◌, ◌<◌, length}
use Rattle.longest_path.specs.System.{SystemData, arc}

-- constraint k leads from node k to the next
pub record IsChain (nodes : ℕ) (s : SystemData) : Type 0 where
  pub nodes_are : s.nodes ≡ nodes
  pub count : length s.arcs + 1 ≡ nodes
  pub links : (k : ℕ) → k < length s.arcs → ((arc s k).from ≡ k) × ((arc s k).to ≡ k + 1)
