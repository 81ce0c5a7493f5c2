-- The words for what the checker answers.
use Rattle.std.specs.Prelude.{ℕ, List, ◌++◌, codes, decimal, Bool, true, false, Option, Some, None}
use Rattle.std.specs.Fmt.{signed_decimal}
use Rattle.text_writing.specs.Texts.{pair_text}
use Rattle.answer_text.specs.Words.{verdict_text}
use Rattle.cycle_walk.specs.declared.sums.Sums.{Sums}
use Rattle.cert_checker.specs.declared.reason.Reason.{Reason}
use Rattle.cert_checker.specs.declared.reason.Reason.TheVariants as reasons
use Rattle.cert_checker.specs.declared.checked.Checked.{Checked}
use Rattle.cert_checker.specs.declared.checked.Checked.TheVariants.{Accepted, Rejected}
use Rattle.check_text.specs.Faults.{fault_of}

-- a stuck move; where every stage has one tank, the number of its carrier is left out
abbrev pub stuck_text : Bool → ℕ → ℕ → List ℕ
stuck_text true c k = decimal k
stuck_text false c k = pair_text c k

-- the sums of a walk, with the blank before them, or that there is no walk
abbrev pub sums_text : Option Sums → List ℕ
sums_text None = codes " none"
sums_text (Some s) = codes " " ++ (signed_decimal s.w ++ (codes " " ++ signed_decimal s.q))

-- what is wrong at a node
abbrev pub at_node : ℕ → List ℕ → List ℕ
at_node node what = codes "node " ++ (decimal node ++ what)

abbrev pub reason_of : Bool → Reason → List ℕ
reason_of single reasons.TimetableMissing = codes "timetable missing"
reason_of single reasons.TimetableExtra = codes "timetable extra"
reason_of single (reasons.Bound seen want) = codes "bound " ++ pair_text seen want
reason_of single (reasons.Splits seen count) = codes "splits " ++ pair_text seen count
reason_of single (reasons.LeftNode node) = codes "left node " ++ decimal node
reason_of single reasons.NoLeft = codes "no left"
reason_of single (reasons.Fault fault) = fault_of fault
reason_of single (reasons.Question node) = at_node node (codes " question")
reason_of single (reasons.Stuck node m) = at_node node (codes " stuck " ++ stuck_text single m.carrier m.step)
reason_of single (reasons.Token node place) = at_node node (codes " name " ++ decimal place)
reason_of single (reasons.Joint node place) = at_node node (codes " joint " ++ decimal place)
reason_of single (reasons.Period node period low high) =
    at_node node (codes " period " ++ (decimal period ++ (codes " sums" ++ (sums_text low ++ sums_text high))))

-- an accepted answer's verdict and bound, which is the period where the answer is optimal; or the reason
abbrev pub checked_of : Bool → Checked → List ℕ
checked_of single (Accepted c) = codes "accepted " ++ (verdict_text c.verdict ++ (codes " " ++ (decimal c.bound ++ codes "\n")))
checked_of single (Rejected reason) = codes "rejected: " ++ (reason_of single reason ++ codes "\n")
