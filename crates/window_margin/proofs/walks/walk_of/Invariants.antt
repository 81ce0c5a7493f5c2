use Rattle.window_margin.proofs.ListLemmas.{AreNamed}
use Rattle.window_margin.proofs.walks.walk_of.Given as goal

abbrev pub invariant-loop-i : goal.invariant-loop-i
invariant-loop-i l = AreNamed l.line l.arcs l.walk l.i l.list.items
