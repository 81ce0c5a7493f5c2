-- None of the ticks so far has a partner.
use Rattle.path_envelope.specs.Duties.{duties}
use Rattle.path_envelope.specs.FirstClash.{IsPartner}
use Rattle.path_envelope.proofs.FirstLemmas.{NoneSoFar}
use Rattle.path_envelope.proofs.clash.partner_of_move.Given as goal

abbrev pub invariant-loop-u : goal.invariant-loop-u
invariant-loop-u l = NoneSoFar l.asked.line.now (duties l.asked.line.now l.asked.route.now l.asked.period
    l.asked.starts.now l.asked.hoists.now) (IsPartner l.asked.line.now
    (duties l.asked.line.now l.asked.route.now l.asked.period l.asked.starts.now l.asked.hoists.now) l.x) l.number l.u
