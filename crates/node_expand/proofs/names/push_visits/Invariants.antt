use Rattle.std.proofs.Common.{◌≡◌, ◌++◌, map, ◌-◌}
use Rattle.choice_tree.specs.declared.constraint.Constraint.TheVariants.{Visit}
use Rattle.choice_tree.specs.Nodes.{numbers_from}
use Rattle.node_expand.proofs.names.push_visits.Given as goal

-- the row so far stands behind what was there
abbrev pub invariant-loop-k : goal.invariant-loop-k
invariant-loop-k l = l.names.items ≡ l.initial.names.items ++ map (λ j. Visit l.c j) (numbers_from 1 (l.k - 1))
