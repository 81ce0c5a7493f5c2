use Rattle.std.proofs.Common.{◌∙◌, sym}
use Rattle.cycle_walk.proofs.ClimbLemmas.{found_none, none_where_feasible, refuted_if, closed_if, small_if}
use Rattle.cycle_walk.proofs.closed_walks.closed_walk_in.Goals as goal

pub returns-clause-none : goal.returns-clause-none
returns-clause-none c =
    let is = c.in_ok-walk.ensures.walk in (
      λ e. found_none c.args.s.now c.args.period c.link.ensures.valid (sym is ∙ e),
      λ f. is
          ∙ none_where_feasible c.args.s.now c.args.period c.link.ensures.valid f,
    )

pub returns-clause-refutes : goal.returns-clause-refutes
returns-clause-refutes c = refuted_if c.args.s.now c.args.period c.in_ok-walk.walk c.link.ensures.valid c.in_ok-walk.ensures.walk

pub returns-clause-closed : goal.returns-clause-closed
returns-clause-closed c = closed_if c.args.s.now c.args.period c.in_ok-walk.walk c.link.ensures.valid c.in_ok-walk.ensures.walk

pub returns-clause-small : goal.returns-clause-small
returns-clause-small c =
    small_if c.args.s.now c.in_ok-walk.walk c.link.ensures.valid
    (closed_if c.args.s.now c.args.period c.in_ok-walk.walk c.link.ensures.valid c.in_ok-walk.ensures.walk)
