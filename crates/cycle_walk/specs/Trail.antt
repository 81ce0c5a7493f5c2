-- A way back, as a list.
use Rattle.std.specs.Prelude.{◌≡◌, ℕ, ◌≤◌, ◌<◌, List, length, slice_index}
use Rattle.longest_path.specs.System.{SystemData}
use Rattle.longest_path.specs.Rounds.{weights_at}
use Rattle.cycle_walk.specs.Closed.{node_back, arc_back, IsLoop}

-- the first constraints of the list are those of the way back from a node, up to the first node that comes again
pub record IsTrail (s : SystemData) (period start : ℕ) (back : List ℕ) (first end : ℕ) : Type 0 where
  pub room : end ≤ length back
  pub is : (t : ℕ) → t < end → slice_index back t ≡ arc_back s (weights_at s period) start t
  pub in_list : (t : ℕ) → t < end → slice_index back t < length s.arcs
  pub loop : IsLoop (node_back s (weights_at s period) start) s.nodes first end
