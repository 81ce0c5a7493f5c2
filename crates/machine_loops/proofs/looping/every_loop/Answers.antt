use Rattle.std.proofs.Common.{length, subst}
use Rattle.machine_loops.specs.Loops.{IsLoopBy, IsFirstBreak}
use Rattle.machine_loops.specs.Lists.{scenes, commands}
use Rattle.machine_loops.proofs.LoopLaws.{loop_of}
use Rattle.machine_loops.proofs.looping.every_loop.Goals as goal

pub shown_timetable-requires : goal.shown_timetable-requires
shown_timetable-requires c =
    let frames = scenes c.args.frames.now in
    let orders = commands c.args.orders.now in
    let count = length c.args.frames.now in
    let loop : IsLoopBy c.args.line.now count frames orders = subst (IsFirstBreak c.args.line.now count frames orders) c.in-None.is c.in_ok-index.ensures in
    record {
      closed = record {
        sized = c.requires.frames;
        few = c.requires.some.1;
        known = c.requires.below.next;
        loop = loop_of c.args.line.now count frames orders loop;
      };
    }

pub returns-in_ok-shown_timetable-in-None : goal.returns-in_ok-shown_timetable-in-None
returns-in_ok-shown_timetable-in-None c =
    let count = length c.args.frames.now in
    let shows = c.in_ok-shown_timetable-in-None.ensures.shows in
    record {
      loop = subst (IsFirstBreak c.args.line.now count (scenes c.args.frames.now) (commands c.args.orders.now)) c.in-None.is c.in_ok-index.ensures;
      shows = shows;
      period = shows.period;
      legal = c.in_ok-shown_timetable-in-None.ensures.legal;
      fits = c.in_ok-shown_timetable-in-None.ensures.fits;
    }
