-- Which reason is the first, and what the checker answers.
use Rattle.std.specs.Prelude.{◌≡◌, ℕ, ℤ, pos, List, [], ◌∷◌, option_map}
use Rattle.hoist_base.specs.LineData.{LineData}
use Rattle.timetable.specs.Faults.{IsLess, rule_of, values_of}
use Rattle.answer_text.specs.declared.answer.Answer.{Answer}
use Rattle.cert_checker.specs.declared.reason.Reason.{Reason}
use Rattle.cert_checker.specs.declared.reason.Reason.TheVariants as reasons
use Rattle.cert_checker.specs.declared.checked.Checked.{Checked}
use Rattle.cert_checker.specs.declared.checked.Checked.TheVariants.{Accepted, Rejected}
use Rattle.cert_checker.specs.declared.checked.Claimed.{Claimed}
use Rattle.cert_checker.specs.Reasons.{HasReason}

-- the rules of an answer as a whole go first, then those of the nodes
abbrev pub rule_number : Reason → ℕ
rule_number reasons.TimetableMissing = 0
rule_number reasons.TimetableExtra = 1
rule_number (reasons.Bound _ _) = 2
rule_number (reasons.Splits _ _) = 3
rule_number (reasons.LeftNode _) = 4
rule_number reasons.NoLeft = 5
rule_number (reasons.Fault _) = 6
rule_number (reasons.Question _) = 7
rule_number (reasons.Stuck _ _) = 7
rule_number (reasons.Token _ _) = 7
rule_number (reasons.Joint _ _) = 7
rule_number (reasons.Period _ _ _ _) = 7

-- within a rule: left nodes go by number, faults as faults do; the nodes go by number, and the rules of one node in
-- their order, each over all constraints
abbrev pub place_in_rule : Reason → List ℤ
place_in_rule reasons.TimetableMissing = []
place_in_rule reasons.TimetableExtra = []
place_in_rule (reasons.Bound _ _) = []
place_in_rule (reasons.Splits _ _) = []
place_in_rule (reasons.LeftNode n) = pos n ∷ []
place_in_rule reasons.NoLeft = []
place_in_rule (reasons.Fault f) = pos (rule_of f) ∷ values_of f
place_in_rule (reasons.Question n) = pos n ∷ pos 0 ∷ []
place_in_rule (reasons.Stuck n m) = pos n ∷ pos 1 ∷ []
place_in_rule (reasons.Token n j) = pos n ∷ pos 2 ∷ pos j ∷ []
place_in_rule (reasons.Joint n j) = pos n ∷ pos 3 ∷ pos j ∷ []
place_in_rule (reasons.Period n _ _ _) = pos n ∷ pos 4 ∷ []

abbrev pub place_of : Reason → List ℤ
place_of r = pos (rule_number r) ∷ place_in_rule r

-- at the first number in which their places differ, the first has the less
abbrev pub IsEarlier : Reason → Reason → Type 0
IsEarlier r s = IsLess (place_of r) (place_of s)

-- the answer has this reason and none that is earlier
pub record IsFirstReason (l : LineData) (a : Answer) (r : Reason) : Type 0 where
  pub has : HasReason l a r
  pub first : (s : Reason) → HasReason l a s → IsEarlier s r → ⊥

-- what an answer claims
abbrev pub claim_of : Answer → Claimed
claim_of a = record { verdict = a.verdict; bound = a.bound; period = option_map (λ t. t.period) a.timetable }

-- rejected with the first reason, or accepted with what it claims where there is none
abbrev pub IsChecked : LineData → Answer → Checked → Type 0
IsChecked l a (Accepted c) = (c ≡ claim_of a) × ((r : Reason) → HasReason l a r → ⊥)
IsChecked l a (Rejected r) = IsFirstReason l a r

abbrev pub IsAccepted : Checked → Type 0
IsAccepted (Accepted c) = Unit {0}
IsAccepted (Rejected r) = ⊥
