use Rattle.std.proofs.Common.{[]}
use Rattle.path_constraints.specs.Places.{Rewrites}
use Rattle.path_constraints.proofs.BaseLemmas.{IsOfCarriers}
use Rattle.path_constraints.proofs.systems.base_of.Given as goal

abbrev pub invariant-loop-carrier : goal.invariant-loop-carrier
invariant-loop-carrier l = Rewrites l.line [] (IsOfCarriers l.carrier) l.initial.s l.s
