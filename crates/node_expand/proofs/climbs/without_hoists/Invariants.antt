use Rattle.std.proofs.Common.{◌≤◌, length}
use Rattle.node_expand.specs.Climbs.{EndsInHoists}
use Rattle.node_expand.proofs.climbs.without_hoists.Given as goal

-- the decisions from here on are on hoists
abbrev pub invariant-loop-count : goal.invariant-loop-count
invariant-loop-count l = (l.count ≤ length l.path) × EndsInHoists l.path l.count

abbrev pub decreases-loop-count : goal.decreases-loop-count
decreases-loop-count l = l.count
