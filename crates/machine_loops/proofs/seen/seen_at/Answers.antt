use Rattle.std.proofs.Common.{◌+◌, ◌*◌, ◌<◌, length, subst, arith}
use Rattle.machine_loops.specs.Lists.{scenes}
use Rattle.machine_loops.specs.Reading.{IsTurn}
use Rattle.machine_loops.proofs.SeenLemmas.{known_soon, turn_soon}
use Rattle.machine_loops.proofs.seen.seen_at.Goals as goal

pub turn_of-turn-requires-clause-known : goal.turn_of-turn-requires-clause-known
turn_of-turn-requires-clause-known c =
    let known = known_soon c.args.line.now c.args.frames.now c.args.t c.args.carrier c.degree.ensures.valid
    c.requires.closed c.requires.there c.requires.in_line in
    omega arith

soon : (c : goal.After-struct_known-1) → c.args.t + c.turn_of-turn.result.periods * length c.args.frames.now < 1480000
soon c =
    let turn = c.turn_of-turn.result in
    turn_soon c.args.line.now c.args.frames.now c.args.t c.args.carrier turn.carrier turn.periods c.degree.ensures.valid
    c.requires.closed c.requires.there c.requires.in_line
    (subst (λ degree. IsTurn degree (scenes c.args.frames.now 0).next c.args.carrier turn.carrier turn.periods) c.degree.ensures.value
    (subst (λ first. IsTurn c.degree.result first c.args.carrier turn.carrier turn.periods) c.next_at.ensures c.turn_of-turn.ensures))

pub overflow_mul-result : goal.overflow_mul-result
overflow_mul-result c = omega (arith, soon c)

pub overflow_add-result : goal.overflow_add-result
overflow_add-result c = omega (arith, soon c)

pub returns-clause-soon : goal.returns-clause-soon
returns-clause-soon c = omega (arith, soon c)
