use Rattle.node_expand.proofs.RowLemmas.{AreRows, min_row, max_row, entry_row, visit_row, repeat_row}
use Rattle.node_expand.proofs.names.undecided_names.Given as goal

abbrev pub invariant-loop-c : goal.invariant-loop-c
invariant-loop-c l = AreRows l.initial.names.items (min_row l.line) l.c l.names.items

abbrev pub invariant-loop-c-2 : goal.invariant-loop-c-2
invariant-loop-c-2 l = AreRows l.initial.names.items (max_row l.line) l.c l.names.items

abbrev pub invariant-loop-c-3 : goal.invariant-loop-c-3
invariant-loop-c-3 l = AreRows l.initial.names.items entry_row l.c l.names.items

abbrev pub invariant-loop-c-4 : goal.invariant-loop-c-4
invariant-loop-c-4 l = AreRows l.initial.names.items (visit_row l.line) l.c l.names.items

abbrev pub invariant-loop-c-5 : goal.invariant-loop-c-5
invariant-loop-c-5 l = AreRows l.initial.names.items (repeat_row l.line) l.c l.names.items
