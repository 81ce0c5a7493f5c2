use Rattle.std.proofs.Common.{arith}
use Rattle.branch_rounds.proofs.RoundLemmas.{cap_range}
use Rattle.branch_rounds.proofs.state.Search.expand_in_turn.Goals as goal

pub expand-requires-clause-range : goal.expand-requires-clause-range
expand-requires-clause-range g c =
    let r = cap_range c.args.line.now c.args.self.now.best c.cap-cap.ensures.valid c.requires.kept.best in
    (omega (arith, r.0, c.cap-cap.ensures.value), omega (arith, r.2, c.cap-cap.ensures.value))
