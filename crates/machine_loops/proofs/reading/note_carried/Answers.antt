use Rattle.std.proofs.Common.{sym, ◌∙◌}
use Rattle.machine_loops.proofs.ReadLemmas.{noted_carried}
use Rattle.machine_loops.proofs.reading.note_carried.Goals as goal

pub returns-in-Some : goal.returns-in-Some
returns-in-Some c = record {
  read = noted_carried c.args.line.now c.args.frames.now c.args.t c.args.h 0 c.in-Some.y c.args.off.now.items c.note_carrier.new.off.items
      c.note_carrier.ensures.valid c.requires.closed c.requires.there (sym c.carry_at.ensures ∙ c.in-Some.is) c.requires.read c.note_carrier.ensures.noted;
}
