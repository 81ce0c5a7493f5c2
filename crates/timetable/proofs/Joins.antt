-- From the first fault of each rule to the first of all.
use Rattle.std.proofs.Common.{◌≡◌, ℕ, ◌+◌, ◌<◌, arith, ⊎_elim, ◌∙◌, refl, lit<}
use Rattle.std.specs.Prelude.{Option, Some, None, IfSome, ◌↔◌}
use Rattle.std.proofs.lemmas.Bool.{cases_lt}
use Rattle.hoist_base.specs.LineData.{LineData}
use Rattle.hoist_base.specs.Valid.{IsLine}
use Rattle.line_model.specs.Timetable.{Timetable}
use Rattle.line_model.specs.Legal.{IsLegal}
use Rattle.timetable.specs.declared.fault.Fault.{Fault}
use Rattle.timetable.specs.declared.fault.Fault.TheVariants.{Track, Gap, Speed, Motion, Carry, Dwell, Numbering, Hold}
use Rattle.timetable.specs.TimetableData.{TimetableData, FitsLine, IsTimetable, timetable_of}
use Rattle.timetable.specs.Faults.{HasFault, IsFirstFault, IsFirstOf, rule_of}
use Rattle.timetable.proofs.Legality.{no_fault_is_legal, legal_has_none}

-- no rule before this one has a fault
abbrev pub NoneBefore : LineData → Timetable → ℕ → Type 0
NoneBefore l p r = (g : Fault) → HasFault l p g → rule_of g < r → ⊥

pub none_before_first : (l : LineData) (p : Timetable) → NoneBefore l p 0
none_before_first l p g has lt = omega arith

none_before_next : (l : LineData) (p : Timetable) (r : ℕ) → NoneBefore l p r → IsFirstOf r l p None
    → NoneBefore l p (r + 1)
none_before_next l p r none here g has lt =
    ⊎_elim (λ less. none g has less) (λ ge. here g has (omega (arith, lt, ge))) (cases_lt (rule_of g) r)

-- the first rules have no fault, one by one
pub none_before_one : (l : LineData) (p : Timetable) → IsFirstOf 0 l p None → NoneBefore l p 1
none_before_one l p a = none_before_next l p 0 (none_before_first l p) a

pub none_before_two : (l : LineData) (p : Timetable) → IsFirstOf 0 l p None → IsFirstOf 1 l p None → NoneBefore l p 2
none_before_two l p a b = none_before_next l p 1 (none_before_one l p a) b

pub none_before_three : (l : LineData) (p : Timetable)
    → IsFirstOf 0 l p None → IsFirstOf 1 l p None → IsFirstOf 2 l p None → NoneBefore l p 3
none_before_three l p a b c = none_before_next l p 2 (none_before_two l p a b) c

pub none_before_four : (l : LineData) (p : Timetable)
    → IsFirstOf 0 l p None → IsFirstOf 1 l p None → IsFirstOf 2 l p None → IsFirstOf 3 l p None
    → NoneBefore l p 4
none_before_four l p a b c d = none_before_next l p 3 (none_before_three l p a b c) d

pub none_before_five : (l : LineData) (p : Timetable)
    → IsFirstOf 0 l p None → IsFirstOf 1 l p None → IsFirstOf 2 l p None → IsFirstOf 3 l p None → IsFirstOf 4 l p None
    → NoneBefore l p 5
none_before_five l p a b c d e = none_before_next l p 4 (none_before_four l p a b c d) e

pub none_before_six : (l : LineData) (p : Timetable)
    → IsFirstOf 0 l p None → IsFirstOf 1 l p None → IsFirstOf 2 l p None → IsFirstOf 3 l p None → IsFirstOf 4 l p None
    → IsFirstOf 5 l p None
    → NoneBefore l p 6
none_before_six l p a b c d e f = none_before_next l p 5 (none_before_five l p a b c d e) f

pub none_before_seven : (l : LineData) (p : Timetable)
    → IsFirstOf 0 l p None → IsFirstOf 1 l p None → IsFirstOf 2 l p None → IsFirstOf 3 l p None → IsFirstOf 4 l p None
    → IsFirstOf 5 l p None → IsFirstOf 6 l p None
    → NoneBefore l p 7
none_before_seven l p a b c d e f g = none_before_next l p 6 (none_before_six l p a b c d e f) g

-- what the two clauses say of an answer
abbrev pub IsAnswer : LineData → Timetable → Option Fault → Type 0
IsAnswer l p answer = ((answer ≡ None) ↔ IsLegal l p) × IfSome answer (λ f. IsFirstFault l p f)

pub fault_is_first : (l : LineData) (p : Timetable) (r : ℕ) (f : Fault) → IsLine l → NoneBefore l p r
    → IsFirstOf r l p (Some f) → IsAnswer l p (Some f)
fault_is_first l p r f line none here = (
  (λ e. let no : Some f ≡ None = e in cc, λ legal. absurd (legal_has_none l p line legal f here.0)),
  record {
    has = here.0;
    first = λ g has earlier.
        ⊎_elim
        (λ lt. none g has (omega (arith, lt, here.1)))
        (λ same. here.2 g has (same.0 ∙ here.1) same.1)
        earlier;
  },
)

-- there are eight rules
few : (g : Fault) → rule_of g < 8
few (Track _ _ _) = lit< tt
few (Gap _ _ _ _) = lit< tt
few (Speed _ _ _ _) = lit< tt
few (Motion _ _ _ _) = lit< tt
few (Carry _ _ _) = lit< tt
few (Dwell _ _) = lit< tt
few (Numbering _ _ _) = lit< tt
few (Hold _ _ _) = lit< tt

pub no_fault_found : (l : LineData) (d : TimetableData) → IsLine l → FitsLine l d → IsTimetable d
    → NoneBefore l (timetable_of d) 8 → IsAnswer l (timetable_of d) None
no_fault_found l d line fits valid none =
    ((λ e. no_fault_is_legal l d line fits valid (λ g has. none g has (few g)), λ legal. refl), tt)

-- the last rule decides what the others left
pub last_rule : (l : LineData) (d : TimetableData) (o : Option Fault) → IsLine l → FitsLine l d → IsTimetable d
    → NoneBefore l (timetable_of d) 7 → IsFirstOf 7 l (timetable_of d) o → IsAnswer l (timetable_of d) o
last_rule l d None line fits valid none here = no_fault_found l d line fits valid (none_before_next l (timetable_of d) 7 none here)
last_rule l d (Some f) line fits valid none here = fault_is_first l (timetable_of d) 7 f line none here
