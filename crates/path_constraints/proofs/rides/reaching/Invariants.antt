use Rattle.std.proofs.Common.{◌≡◌, ℕ, ◌-◌}
use Rattle.std.specs.Prelude.{filter, slice_get}
use Rattle.choice_tree.specs.Nodes.{numbers_from}
use Rattle.path_constraints.specs.Hoists.{reaches_motion, hoists_reaching}
use Rattle.path_constraints.proofs.rides.reaching.Given as goal

-- the hoist is that with the number that is left among the hoists from here on
abbrev pub invariant-loop-h : goal.invariant-loop-h
invariant-loop-h l =
    slice_get (filter (λ (h : ℕ). reaches_motion l.line h l.a) (numbers_from l.h (l.line.hoists - l.h))) l.left
    ≡ slice_get (hoists_reaching l.line l.a) l.number
