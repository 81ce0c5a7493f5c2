use Rattle.std.proofs.Common.{sym}
use Rattle.cert_checker.proofs.LeafLemmas.{judge_joint, judge_shows, judge_open}
use Rattle.cert_checker.proofs.nodes.judge.Goals as goal

pub returns-in-Some : goal.returns-in-Some
returns-in-Some c = judge_joint c.args.low c.args.high c.args.bound c.args.node c.in-Some.place (sym c.in-Some.ensures)

pub returns-in-None : goal.returns-in-None
returns-in-None c =
    let given = rw (c.sums_of-low.ensures, c.sums_of-high.ensures) at c.in-None.ensures in
    judge_shows c.args.low c.args.high c.args.bound c.args.node (sym c.in_default.ensures) given

pub returns-in-Some-first_open : goal.returns-in-Some-first_open
returns-in-Some-first_open c =
    let least = rw (c.sums_of-low.ensures, c.sums_of-high.ensures) at c.in-Some-first_open.ensures in
    rw (c.sums_of-low.ensures, c.sums_of-high.ensures)
    (judge_open c.args.low c.args.high c.args.bound c.args.node c.in-Some-first_open.period (sym c.in_default.ensures) least)
