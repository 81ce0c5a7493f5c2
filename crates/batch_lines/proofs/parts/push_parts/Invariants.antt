use Rattle.std.proofs.Common.{◌≡◌, ◌++◌, drop, length}
use Rattle.batch_lines.specs.Parts.{parts_text, parts_of, count_lines}
use Rattle.batch_lines.proofs.parts.push_parts.Given as goal

abbrev pub invariant-loop-i : goal.invariant-loop-i
invariant-loop-i l =
    (l.text.items ++ parts_text l.i (parts_of (drop l.i l.whys) l.rest) ≡ l.fn.text.items ++ parts_text 0 (parts_of l.whys l.singles))
    × (count_lines (drop l.i l.whys) ≡ length l.rest)
