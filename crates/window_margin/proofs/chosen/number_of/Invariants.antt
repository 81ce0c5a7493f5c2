use Rattle.std.proofs.Common.{◌≡◌, ℕ, ◌<◌, Some}
use Rattle.std.specs.Prelude.{slice_get}
use Rattle.path_constraints.specs.Hoists.{hoists_reaching}
use Rattle.window_margin.proofs.chosen.number_of.Given as goal

abbrev pub invariant-loop-number : goal.invariant-loop-number
invariant-loop-number l = (j : ℕ) → j < l.number → slice_get (hoists_reaching l.line l.a) j ≡ Some l.hoist → ⊥
