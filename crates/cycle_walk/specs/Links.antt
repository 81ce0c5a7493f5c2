-- Lists of the constraints that end at one node.
use Rattle.std.specs.Prelude.{◌≡◌, ℕ, ◌+◌, ◌≤◌, ◌<◌, List, length, get_or}
use Rattle.longest_path.specs.System.{SystemData, arc}

-- x is the first constraint from number k on that ends at node j, or the number of constraints
pub record IsNextInto (s : SystemData) (k j x : ℕ) : Type 0 where
  pub later : k ≤ x
  pub within : x ≤ length s.arcs
  pub ends : x < length s.arcs → (arc s x).to ≡ j
  pub none_before : (y : ℕ) → k ≤ y → y < x → (arc s y).to ≡ j → ⊥

-- each node with the first constraint that ends there, each constraint with the next one that ends where it does
pub record AreLinks (s : SystemData) (firsts nexts : List ℕ) : Type 0 where
  pub first : (j : ℕ) → j < s.nodes → IsNextInto s 0 j (get_or firsts j 0)
  pub next : (k : ℕ) → k < length s.arcs → IsNextInto s (k + 1) (arc s k).to (get_or nexts k 0)
