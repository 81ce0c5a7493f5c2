use Rattle.std.proofs.Common.{◌≡◌, ◌≤◌, length}
use Rattle.std.specs.Prelude.{filter}
use Rattle.choice_tree.specs.Nodes.{numbers_from}
use Rattle.path_constraints.specs.Hoists.{reaches_motion}
use Rattle.path_constraints.proofs.rides.reaching_count.Given as goal

abbrev pub invariant-loop-h : goal.invariant-loop-h
invariant-loop-h l = (l.count ≡ length (filter (λ h. reaches_motion l.line h l.a) (numbers_from 0 l.h))) × (l.count ≤ l.h)
