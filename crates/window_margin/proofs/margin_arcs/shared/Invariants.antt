use Rattle.std.proofs.Common.{◌≡◌, pos}
use Rattle.std.specs.Prelude.{nat_lt, if◌then◌else◌}
use Rattle.window_margin.specs.Arcs.{at_period}
use Rattle.window_margin.specs.Systems.{arc_at}
use Rattle.window_margin.proofs.ListLemmas.{AreUpTo}
use Rattle.window_margin.proofs.margin_arcs.shared.Given as goal

abbrev pub invariant-loop-k : goal.invariant-loop-k
invariant-loop-k l =
    AreUpTo (λ j a. a ≡ at_period l.period (if nat_lt j l.dwells then pos 1 else pos 0) (arc_at l.arcs j)) l.k l.shared.items
