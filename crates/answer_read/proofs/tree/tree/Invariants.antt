use Rattle.std.proofs.Common.{length, reverse}
use Rattle.answer_read.proofs.Growing.{IsGrowing}
use Rattle.answer_read.proofs.tree.tree.Given as goal

abbrev pub invariant-loop-i : goal.invariant-loop-i
invariant-loop-i l = IsGrowing l.single l.bytes (reverse l.waiting.items) l.tree l.rest

abbrev pub decreases-loop-i : goal.decreases-loop-i
decreases-loop-i l = length l.rest
