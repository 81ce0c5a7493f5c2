use Rattle.std.proofs.Common.{rules}
use Rattle.machine_loops.proofs.RuleLemmas.{frame_from, frame_to}
use Rattle.machine_loops.proofs.rules.keeps.Goals as goal

pub returns-clause-rules : goal.returns-clause-rules
returns-clause-rules c =
    let line = c.args.line.now in
    let frame = c.args.frame.now in (
      λ test. frame_from line frame (search rules) (record {
        apart = c.are_apart.ensures.0 (search rules);
        carries = c.carries_keep.ensures.0 (search rules);
        holds = c.holds_keep.ensures.0 (search rules);
        carry_alone = c.carry_alone.ensures.0 (search rules);
        rest_alone = c.rest_alone.ensures.0 test;
      }),
      λ is. c.rest_alone.ensures.1 (frame_to line frame is).rest_alone,
    )
