use Rattle.std.proofs.Common.{◌≡◌}
use Rattle.window_margin.specs.Arcs.{from_one}
use Rattle.window_margin.specs.Systems.{arc_at}
use Rattle.window_margin.proofs.ListLemmas.{AreUpTo}
use Rattle.window_margin.proofs.systems.margin_system.Given as goal

abbrev pub invariant-loop-k : goal.invariant-loop-k
invariant-loop-k l = AreUpTo (λ j a. a ≡ from_one (arc_at l.arcs j)) l.k l.list.items
