use Rattle.choice_tree.specs.Origins.{AreOriginsOf}
use Rattle.choice_tree.proofs.tree.origins_of.Given as goal

abbrev pub invariant-loop-child : goal.invariant-loop-child
invariant-loop-child l = AreOriginsOf l.origins.items l.parent l.question l.child
