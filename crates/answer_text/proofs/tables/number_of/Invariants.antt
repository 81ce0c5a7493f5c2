use Rattle.std.proofs.Common.{◌≡◌, ◌+◌, ◌==◌, drop}
use Rattle.std.specs.List.{position_or_len}
use Rattle.answer_text.proofs.tables.number_of.Given as goal

abbrev pub invariant-loop-i : goal.invariant-loop-i
invariant-loop-i l =
    position_or_len (λ j. j == l.tank) l.tanks ≡ l.i + position_or_len (λ j. j == l.tank) (drop l.i l.tanks)
