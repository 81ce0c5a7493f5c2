use Rattle.std.proofs.Common.{◌≡◌, take, map, get_or}
use Rattle.choice_tree.specs.declared.constraint.Constraint.TheVariants.{Entry}
use Rattle.node_expand.proofs.path_system.PathSystem.proof_of.Given as goal

-- the names of the constraints so far
abbrev pub invariant-loop-k : goal.invariant-loop-k
invariant-loop-k l = l.names.items ≡ map (λ j. get_or l.self.names.items j (Entry 0)) (take l.k-index l.arcs)
