use Rattle.std.proofs.Common.{refl, ◌+◌}
use Rattle.path_constraints.proofs.WriteLemmas.{written_move}
use Rattle.path_constraints.proofs.places.write_move.Goals as goal

pub returns-clause-written : goal.returns-clause-written
returns-clause-written c =
    let l = c.args.line.now in
    let m = c.args.m in
    written_move l c.args.path.now m.carrier m.step (m.step + 1) c.args.s.now c.write.new.s c.write-2.new.s c.write-3.new.s c.write-4.new.s
    c.write.ensures.valid.limits.stages.0 refl c.write.ensures.written c.write-2.ensures.written c.write-3.ensures.written c.write-4.ensures.written
