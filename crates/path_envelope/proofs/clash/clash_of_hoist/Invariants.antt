-- None of the hoist's moves so far is of the kind.
use Rattle.path_envelope.specs.Duties.{duties}
use Rattle.path_envelope.specs.FirstClash.{HasPartner, NoneOfHoist}
use Rattle.path_envelope.proofs.clash.clash_of_hoist.Given as goal

abbrev pub invariant-loop-number : goal.invariant-loop-number
invariant-loop-number l = NoneOfHoist l.asked.line.now (duties l.asked.line.now l.asked.route.now l.asked.period
    l.asked.starts.now l.asked.hoists.now) (HasPartner l.asked.line.now
    (duties l.asked.line.now l.asked.route.now l.asked.period l.asked.starts.now l.asked.hoists.now)) l.h l.number
