use Rattle.std.proofs.Common.{◌≡◌, arith, pos}
use Rattle.std.proofs.lemmas.Int.{ints}
use Rattle.timetable.proofs.Meetings.{no_return, never_returns}
use Rattle.timetable.proofs.stretch.Stretch.first_return.Goals as goal

pub returns-then-shift-eq0 : goal.returns-then-shift-eq0
returns-then-shift-eq0 c =
    let zero_shift : c.in-Some.shift ≡ pos 0 = omega (arith, ints) in
    no_return c.args.period c.args.self.begin c.args.self.end c.in-Some.shift zero_shift c.in-Some.ensures

pub returns-in-None : goal.returns-in-None
returns-in-None c = never_returns c.args.period c.args.self.begin c.args.self.end c.in-None.ensures
