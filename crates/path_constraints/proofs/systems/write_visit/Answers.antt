use Rattle.std.proofs.Common.{◌-◌}
use Rattle.path_constraints.specs.Places.{IsOfMove}
use Rattle.path_constraints.proofs.WriteLemmas.{rewrites_then}
use Rattle.path_constraints.proofs.BaseLemmas.{move_is_undecided}
use Rattle.path_constraints.proofs.systems.write_visit.Goals as goal

pub returns-clause-written : goal.returns-clause-written
returns-clause-written c =
    let l = c.args.line.now in
    let v = c.args.visit in
    rewrites_then l c.args.path.now (IsOfMove v.carrier (v.stage - 1)) (IsOfMove v.carrier v.stage) c.args.s.now c.write_move.new.s c.write_move-2.new.s
    c.inner-inner.ensures.valid.limits.stages.0 (λ t k. move_is_undecided v.carrier (v.stage - 1) t k) (λ t k. move_is_undecided v.carrier v.stage t k)
    c.write_move.ensures.written c.write_move-2.ensures.written
