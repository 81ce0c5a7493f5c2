use Rattle.std.proofs.lemmas.Result.{IfOk-weaker}
use Rattle.cycle_walk.specs.Closed.{IsClosedWalk, HasSmallSums}
use Rattle.cycle_walk.specs.Climb.{AllWalks}
use Rattle.cycle_walk.proofs.ClimbLemmas.{small_walks}
use Rattle.cycle_walk.proofs.climbing.climb_in.Goals as goal

pub returns-clause-small : goal.returns-clause-small
returns-clause-small c =
    let s = c.args.s.now in
    IfOk-weaker c.climb_within.result (AllWalks (IsClosedWalk s)) (AllWalks HasSmallSums)
    (λ answer. small_walks s answer c.link.ensures.valid) c.climb_within.ensures.closed
