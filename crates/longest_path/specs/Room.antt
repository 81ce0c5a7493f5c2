-- Room for the rounds of a system.
use Rattle.std.specs.Prelude.{◌≡◌, ◌+◌, ◌*◌, length}
use Rattle.longest_path.specs.System.{SystemData}
use Rattle.longest_path.specs.Near.{HasNodes}
use Rattle.longest_path.specs.declared.room.Room.{Room}

-- the lengths that a system needs: a number a constraint or a node, and a row more than nodes
pub record HasRoom (s : SystemData) (room : Room) : Type 0 where
  pub near : HasNodes s.nodes room.near
  pub steps : length room.steps.items ≡ length s.arcs
  pub rows : length room.rows.items ≡ (s.nodes + 1) * s.nodes
  pub seen : length room.seen.items ≡ s.nodes
  pub back : length room.back.items ≡ s.nodes
  pub firsts : length room.firsts.items ≡ s.nodes
  pub nexts : length room.nexts.items ≡ length s.arcs
