use Rattle.std.proofs.Common.{codes, arith}
use Rattle.field_reading.proofs.Words.{word_shorter}
use Rattle.answer_read.proofs.answer.tree_part.Goals as goal

pub tree-requires : goal.tree-requires
tree-requires c = omega (arith, word_shorter (codes "tree\n") c.args.bytes.now c.in_ok-rest.rest.now c.in_ok-rest.ensures)
