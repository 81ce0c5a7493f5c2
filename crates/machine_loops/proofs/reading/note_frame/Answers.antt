use Rattle.machine_loops.proofs.ReadLemmas.{offs_next}
use Rattle.machine_loops.proofs.MoveLemmas.{moves_next, path_next}
use Rattle.machine_loops.proofs.reading.note_frame.Goals as goal

pub returns : goal.returns
returns c =
    let l = c.args.line.now in
    let frames = c.args.frames.now in
    record {
      read = record {
        period = c.requires.read.period;
        puts = c.note_put.ensures.read;
        offs = offs_next l frames c.args.t c.note_all_resting.new.off.items c.note_all_carried.ensures.valid c.requires.closed c.note_all_resting.ensures.read;
        moves = moves_next l frames c.args.t c.note_begins.new.start.items c.note_begins.new.hoist.items c.note_begins.new.tank.items
            c.note_all_carried.ensures.valid c.requires.closed c.note_begins.ensures.read;
        path = path_next l frames c.args.t c.note_places.new.path.items c.note_places.ensures.read;
      };
    }
