-- None of the hoists so far is of the kind.
use Rattle.path_envelope.specs.Duties.{duties}
use Rattle.path_envelope.specs.FirstClash.{IsPartner, NoneOfHoists}
use Rattle.path_envelope.proofs.clash.first_partner.Given as goal

abbrev pub invariant-loop-h : goal.invariant-loop-h
invariant-loop-h l = NoneOfHoists l.asked.line.now (duties l.asked.line.now l.asked.route.now l.asked.period
    l.asked.starts.now l.asked.hoists.now) (IsPartner l.asked.line.now
    (duties l.asked.line.now l.asked.route.now l.asked.period l.asked.starts.now l.asked.hoists.now) l.x) l.h
