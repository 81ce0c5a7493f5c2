use Rattle.cert_checker.proofs.FollowLemmas.{Along}
use Rattle.cert_checker.proofs.walks.follow.Given as goal

-- the constraints so far are on the path
abbrev pub invariant-loop-j : goal.invariant-loop-j
invariant-loop-j l = Along l.line l.path l.walk l.j l.end l.w l.q l.loose
