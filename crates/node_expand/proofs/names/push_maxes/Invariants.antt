use Rattle.std.proofs.Common.{◌≡◌, [], ◌∷◌, ◌++◌, ◌-◌}
use Rattle.std.specs.Prelude.{flat_map, is_some, if◌then◌else◌}
use Rattle.hoist_base.specs.LineData.{stage}
use Rattle.choice_tree.specs.declared.constraint.Constraint.TheVariants.{Max}
use Rattle.choice_tree.specs.Nodes.{numbers_from}
use Rattle.node_expand.proofs.names.push_maxes.Given as goal

-- the row so far stands behind what was there
abbrev pub invariant-loop-k : goal.invariant-loop-k
invariant-loop-k l =
    l.names.items
    ≡ l.initial.names.items ++ flat_map (λ j. if is_some (stage l.line j).max then Max l.c j ∷ [] else []) (numbers_from 1 (l.k - 1))
