use Rattle.std.proofs.Common.{◌+◌, ◌-◌, ◌*◌, ◌/◌, arith}
use Rattle.std.proofs.lemmas.Int.{ints}
use Rattle.std.proofs.Math.Nat.{div-le_self, div-mul-le_self}
use Rattle.timetable.proofs.Meetings.{next_copy, least_meeting, no_meeting}
use Rattle.timetable.proofs.stretch.Stretch.first_meeting.Goals as goal

pub returns-then-other-ahead : goal.returns-then-other-ahead
returns-then-other-ahead c =
    let T = c.args.period in
    let b = c.args.self.begin in
    let e' = c.args.other.end in
    let w = e' / T + 1 in
    let n = b + w * T - e' in
    let next = next_copy T b e' c.requires.period in
    least_meeting T b c.args.self.end c.args.other.begin e' w (n / T) _ (omega arith) (omega arith) next c.if-other-ahead.true
    (omega (arith, ints, div-le_self e' T, div-le_self n T, next.before, div-mul-le_self e' T))

pub returns-else-other-ahead : goal.returns-else-other-ahead
returns-else-other-ahead c =
    let T = c.args.period in
    let b = c.args.self.begin in
    let e' = c.args.other.end in
    let w = e' / T + 1 in
    let n = b + w * T - e' in
    no_meeting T b c.args.self.end c.args.other.begin e' w (n / T) (next_copy T b e' c.requires.period) c.if-other-ahead.false
