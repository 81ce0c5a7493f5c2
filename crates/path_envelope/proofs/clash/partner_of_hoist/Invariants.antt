-- None of the hoist's moves so far is of the kind.
use Rattle.path_envelope.specs.Duties.{duties}
use Rattle.path_envelope.specs.FirstClash.{IsPartner, NoneOfHoist}
use Rattle.path_envelope.proofs.clash.partner_of_hoist.Given as goal

abbrev pub invariant-loop-number : goal.invariant-loop-number
invariant-loop-number l = NoneOfHoist l.asked.line.now (duties l.asked.line.now l.asked.route.now l.asked.period
    l.asked.starts.now l.asked.hoists.now) (IsPartner l.asked.line.now
    (duties l.asked.line.now l.asked.route.now l.asked.period l.asked.starts.now l.asked.hoists.now) l.x) l.h l.number
