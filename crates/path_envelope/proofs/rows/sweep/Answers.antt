-- The needs are raised from the left, and turned round from the right.
use Rattle.std.proofs.Common.{◌≡◌, length, arith}
use Rattle.path_envelope.proofs.LeastLemmas.{least_row, both_ways}
use Rattle.path_envelope.proofs.rows.sweep.Goals as goal

pub returns-clause-least : goal.returns-clause-least
returns-clause-least c =
    let count : length c.reverse-2.new.self ≡ c.args.period =
    omega (arith, c.write_needs.ensures.count, c.raise_after.ensures.count, c.reverse.ensures.len, c.raise_after-2.ensures.count, c.reverse-2.ensures.len) in
    least_row _ _ _ _ _ _ (omega arith) count
    (both_ways _ _ c.write_needs.new.into c.raise_after.new.row c.reverse.new.self c.raise_after-2.new.row
    c.reverse-2.new.self (omega (arith, c.write_needs.ensures.count))
    c.raise_after.ensures.count c.reverse.ensures.len c.raise_after-2.ensures.count c.write_needs.ensures.needs
    c.raise_after.ensures.raised c.reverse.ensures.after
    c.raise_after-2.ensures.raised c.reverse-2.ensures.after)

pub returns-clause-from : goal.returns-clause-from
returns-clause-from c =
    (both_ways c.args.period _ c.write_needs.new.into c.raise_after.new.row c.reverse.new.self c.raise_after-2.new.row
    c.reverse-2.new.self (omega (arith, c.write_needs.ensures.count))
    c.raise_after.ensures.count c.reverse.ensures.len c.raise_after-2.ensures.count c.write_needs.ensures.needs
    c.raise_after.ensures.raised c.reverse.ensures.after
    c.raise_after-2.ensures.raised c.reverse-2.ensures.after).from
