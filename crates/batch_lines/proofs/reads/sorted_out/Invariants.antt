use Rattle.std.proofs.Common.{◌≡◌, map}
use Rattle.batch_lines.specs.Parts.{lines_of, why_of}
use Rattle.batch_lines.proofs.reads.sorted_out.Given as goal

abbrev pub invariant-loop-read : goal.invariant-loop-read
invariant-loop-read l = (l.lines.items ≡ lines_of l.yielded) × (l.whys.items ≡ map why_of l.yielded)
