use Rattle.std.proofs.Common.{ℕ, arith}
use Rattle.answer_read.proofs.Whole.{verdict_shorter, numbers_shorter, table_shorter}
use Rattle.answer_read.proofs.answer.answer.Goals as goal

pub tree_part-requires : goal.tree_part-requires
tree_part-requires c =
    let numbers : ℕ × ℕ = (c.in_ok-bound.bound, c.in_ok-bound.splits) in
    omega (
      arith,
      c.requires.few,
      verdict_shorter c.args.single c.args.bytes.now c.in_ok-verdict.rest.now c.in_ok-verdict.verdict c.in_ok-verdict.ensures,
      numbers_shorter c.in_ok-verdict.rest.now c.in_ok-bound.rest.now numbers c.in_ok-bound.ensures,
      table_shorter c.args.line.now c.in_ok-bound.rest.now c.in_ok-timetable.rest.now c.in_ok-timetable.timetable c.requires.line c.in_ok-timetable.ensures,
    )
