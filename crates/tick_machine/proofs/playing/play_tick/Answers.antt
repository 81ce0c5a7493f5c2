use Rattle.tick_machine.specs.Scene.{scene_of}
use Rattle.tick_machine.proofs.Fitting.{line_fits}
use Rattle.tick_machine.proofs.playing.play_tick.Goals as goal

pub note_step-requires-clause-fits : goal.note_step-requires-clause-fits
note_step-requires-clause-fits c = line_fits c.args.line.now (scene_of c.args.old.now) c.in-Ok.ensures.valid c.requires.old.rules
