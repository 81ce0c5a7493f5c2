use Rattle.std.proofs.Common.{arith}
use Rattle.std.proofs.lemmas.Int.{ints}
use Rattle.branch_rounds.proofs.BoundLemmas.{w_more, q_more, w_all, q_all}
use Rattle.branch_rounds.proofs.bounds.sums_of.Goals as goal

pub loop-i-preserved : goal.loop-i-preserved
loop-i-preserved c = record {
  w =
      w_more c.args.line.now c.args.path.now c.args.names.now c.loop-i.i _ c.constraint_named-arc.result _ _ _
      c.loop-i-test.true c.constraint_named-arc.ensures.value (omega (arith, ints)) c.loop-i.invariant.w;
  q =
      q_more c.args.line.now c.args.path.now c.args.names.now c.loop-i.i _ c.constraint_named-arc.result _ _ _
      c.loop-i-test.true c.constraint_named-arc.ensures.value (omega (arith, ints)) c.loop-i.invariant.q;
  small_w = omega (arith, ints);
  small_q = omega (arith, ints);
}

pub returns-clause-w : goal.returns-clause-w
returns-clause-w c = w_all c.args.line.now c.args.path.now c.args.names.now c.loop-i.i _ c.loop-i-test.false c.loop-i.invariant.w

pub returns-clause-q : goal.returns-clause-q
returns-clause-q c = q_all c.args.line.now c.args.path.now c.args.names.now c.loop-i.i _ c.loop-i-test.false c.loop-i.invariant.q
