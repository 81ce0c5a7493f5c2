use Rattle.std.proofs.Common.{◌∙◌, subst, sym, arith}
use Rattle.path_envelope.specs.Duties.{duties, Agree}
use Rattle.path_envelope.specs.Envelope.{IsTraced}
use Rattle.planning.proofs.PlanData.{start_low, have_reach, they_agree}
use Rattle.planning.proofs.planner.paths_of.Goals as goal

pub paths-requires-clause-starts : goal.paths-requires-clause-starts
paths-requires-clause-starts c = (
  c.requires.starts.count ∙ c.requires.plannable.ticks,
  λ i. omega (arith, start_low c.args.line.now c.args.solved.now c.args.starts.now i c.requires.valid c.requires.plannable c.requires.starts),
)

pub paths-requires-clause-reach : goal.paths-requires-clause-reach
paths-requires-clause-reach c = rw c.as_slice-hoists.ensures (have_reach c.args.line.now c.args.solved.now c.args.starts.now c.requires.plannable)

pub unreachable-requires : goal.unreachable-requires
unreachable-requires c =
    let l = c.args.line.now in
    let s = c.args.solved.now in
    let p = duties l s.tanks s.period c.args.starts.now c.as_slice-hoists.result.now in
    let found = subst (λ answer. IsTraced l p answer) c.in-Clashing.is c.in_ok-traced.ensures.traced in
    let agree : Agree l p = subst (λ hoists. Agree l (duties l s.tanks s.period c.args.starts.now hoists)) (sym c.as_slice-hoists.ensures)
    (they_agree l s c.args.starts.now c.requires.valid c.requires.plannable c.requires.starts) in
    agree c.in-Clashing.a c.in-Clashing.b found.0 found.1 found.2
