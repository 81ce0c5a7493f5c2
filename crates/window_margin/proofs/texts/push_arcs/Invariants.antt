use Rattle.std.proofs.Common.{◌≡◌, ◌++◌, flat_map, take}
use Rattle.window_margin.specs.MarginText.{arc_line}
use Rattle.window_margin.proofs.texts.push_arcs.Given as goal

abbrev pub invariant-loop-a : goal.invariant-loop-a
invariant-loop-a l = l.text.items ≡ l.fn.text.items ++ flat_map arc_line (take l.a-index l.arcs)
