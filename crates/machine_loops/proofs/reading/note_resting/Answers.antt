use Rattle.machine_loops.proofs.ReadLemmas.{noted_rester, none_resting}
use Rattle.machine_loops.proofs.reading.note_resting.Goals as goal

pub returns-in-Some : goal.returns-in-Some
returns-in-Some c = record {
  read = noted_rester c.args.line.now c.args.frames.now c.args.t c.args.line.now.hoists c.args.tank c.in-Some.carrier c.args.off.now.items
      c.note_carrier.new.off.items c.note_carrier.ensures.valid c.requires.closed c.requires.there c.in-Some.ensures
      c.requires.read c.note_carrier.ensures.noted;
}

pub returns-in-None : goal.returns-in-None
returns-in-None c = record {
  read = none_resting c.args.line.now c.args.frames.now c.args.t c.args.line.now.hoists c.args.tank c.args.off.now.items c.in-None.ensures c.requires.read;
}
