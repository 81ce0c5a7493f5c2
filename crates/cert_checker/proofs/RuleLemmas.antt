-- What each rule rules out, and which reason is the first of all.
use Rattle.std.proofs.Common.{⊎_elim, inl, inr, ◌⊎◌, ◌≡◌, ◌≢◌, ℕ, ◌<◌, ◌≤◌, List, [], ◌∷◌, length, ℤ, pos, Option, Some, None, refl, sym, ◌∙◌, subst, arith}
use Rattle.std.specs.Prelude.{IsSome, IfSome, MatchOption}
use Rattle.std.proofs.lemmas.Int.{ints}
use Rattle.std.proofs.lemmas.Bool.{cases_lt, false≢true}
use Rattle.std.proofs.lemmas.List.Elements.{All-get_or}
use Rattle.hoist_base.specs.LineData.{LineData}
use Rattle.hoist_base.specs.Valid.{IsLine}
use Rattle.line_model.specs.Legal.{IsLegal}
use Rattle.timetable.specs.TimetableData.{TimetableData, timetable_of}
use Rattle.timetable.specs.declared.fault.Fault.{Fault}
use Rattle.timetable.specs.Faults.{HasFault, IsFirstFault, IsLess, rule_of, values_of}
use Rattle.timetable.proofs.Legality.{legal_has_none}
use Rattle.choice_tree.specs.declared.node.Node.{Node}
use Rattle.choice_tree.specs.Nodes.{node_at, NoneLeft}
use Rattle.choice_tree.specs.Trees.{IsTree, preorder}
use Rattle.path_constraints.specs.Proves.{Proves}
use Rattle.answer_text.specs.declared.answer.Verdict.{Verdict}
use Rattle.answer_text.specs.declared.answer.Verdict.TheVariants.{Optimal, Nothing, Unfinished}
use Rattle.answer_text.specs.declared.answer.Answer.{Answer}
use Rattle.answer_text.proofs.OrderLemmas.{preorder_there}
use Rattle.cert_checker.specs.declared.reason.Reason.{Reason}
use Rattle.cert_checker.specs.declared.reason.Reason.TheVariants as reasons
use Rattle.cert_checker.specs.Reasons.{IsWrongBound, split_count, number_at, IsLeftNode, IsFlawed, HasReason}
use Rattle.cert_checker.specs.Order.{rule_number, place_in_rule, IsEarlier, IsFirstReason}
use Rattle.cert_checker.specs.Rules.{IsClaim, HasItsLeft, KeepsRules}
use Rattle.cert_checker.specs.Judged.{named, rank_of}
use Rattle.cert_checker.specs.Waiting.{IsFirstFlawed, IsFirstFrom, IsTreeAnswer}
use Rattle.cert_checker.specs.Laws.{NoReasonWhereKept}
use Rattle.cert_checker.proofs.FlawLemmas.{no_flaw_shown}

-- ---- what the parts of the rules rule out

some_is_not_none : (o : Option TimetableData) → o ≡ None → IsSome o → ⊥
some_is_not_none None e h = false≢true h
some_is_not_none (Some t) e h = cc

missing_none : (l : LineData) (v : Verdict) (o : Option TimetableData) (bound : ℕ) → IsClaim l v o bound → v ≡ Optimal
    → o ≡ None → ⊥
missing_none l v o bound claim e f =
    let P : Verdict → Type 0 = λ x. IsClaim l x o bound in
    let Q : Option TimetableData → Type 0 = λ x. IsClaim l Optimal x bound in
    subst Q f (subst P e claim)

extra_none : (l : LineData) (v : Verdict) (o : Option TimetableData) (bound : ℕ) → IsClaim l v o bound → v ≡ Nothing
    → IsSome o → ⊥
extra_none l v None bound claim e some = false≢true some
extra_none l v (Some t) bound claim e some = let P : Verdict → Type 0 = λ x. IsClaim l x (Some t) bound in subst P e claim

bound_none : (l : LineData) (v : Verdict) (o : Option TimetableData) (bound seen want : ℕ) → IsClaim l v o bound
    → seen ≡ bound → IsWrongBound l v o seen want
    → ⊥
bound_none l Optimal None bound seen want claim e wrong = claim
bound_none l Optimal (Some t) bound seen want claim e wrong = wrong.1 (e ∙ claim ∙ sym wrong.0)
bound_none l Nothing None bound seen want claim e wrong = wrong.1 (e ∙ claim ∙ sym wrong.0)
bound_none l Nothing (Some t) bound seen want claim e wrong = claim
bound_none l Unfinished None bound seen want claim e wrong = omega (arith, wrong.1, wrong.0, claim, e)
bound_none l Unfinished (Some t) bound seen want claim e wrong = omega (arith, wrong.1, wrong.0, claim, e)

pub number_there : (nodes : List Node) (n : ℕ) → IsTree nodes → n < length (preorder nodes)
    → number_at nodes n < length nodes
number_there nodes n tree lt = All-get_or (λ j. j < length nodes) (preorder nodes) n 0 lt (preorder_there nodes tree)

left_node_none : (a : Answer) (v : Verdict) (n : ℕ) → IsTree a.tree → HasItsLeft a v → v ≢ Unfinished
    → IsLeftNode a.tree n → ⊥
left_node_none a Optimal n tree left differ here = left (number_at a.tree n) (number_there a.tree n tree here.0) here.1
left_node_none a Nothing n tree left differ here = left (number_at a.tree n) (number_there a.tree n tree here.0) here.1
left_node_none a Unfinished n tree left differ here = differ refl

no_left_none : (a : Answer) (v : Verdict) → HasItsLeft a v → v ≡ Unfinished → NoneLeft a.tree → ⊥
no_left_none a v left e none =
    let P : Verdict → Type 0 = λ x. HasItsLeft a x in
    let r = subst P e left in
    none r.0 r.1 r.2

same_timetable : (l : LineData) (o : Option TimetableData) (t : TimetableData) → o ≡ Some t
    → IfSome o (λ d. IsLegal l (timetable_of d))
    → IsLegal l (timetable_of t)
same_timetable l o t e legal = let P : Option TimetableData → Type 0 = λ x. IfSome x (λ d. IsLegal l (timetable_of d)) in subst P e legal

flawed_none : (l : LineData) (nodes : List Node) (bound n : ℕ) (r : Reason) → IsTree nodes → Proves l nodes bound
    → IsFlawed l nodes bound n r → ⊥
flawed_none l nodes bound n r tree proves f =
    let there : f.node < length nodes = omega (arith, number_there nodes n tree f.stands.there, f.stands.is) in
    no_flaw_shown l f.path (node_at nodes f.node) bound r (proves f.node f.path there f.stands.leads) f.flaw

-- by rule: what is left of the rules below each number
pub claim_rules : (l : LineData) (a : Answer) (r : Reason) → IsClaim l a.verdict a.timetable a.bound → HasReason l a r
    → rule_number r < 3 → ⊥
claim_rules l a reasons.TimetableMissing claim has lt = missing_none l a.verdict a.timetable a.bound claim has.0 has.1
claim_rules l a reasons.TimetableExtra claim has lt = extra_none l a.verdict a.timetable a.bound claim has.0 has.1
claim_rules l a (reasons.Bound seen want) claim has lt = bound_none l a.verdict a.timetable a.bound seen want claim has.0 has.1
claim_rules l a (reasons.Splits seen count) claim has lt = omega (arith, lt)
claim_rules l a (reasons.LeftNode n) claim has lt = omega (arith, lt)
claim_rules l a reasons.NoLeft claim has lt = omega (arith, lt)
claim_rules l a (reasons.Fault f) claim has lt = omega (arith, lt)
claim_rules l a (reasons.Question n) claim has lt = omega (arith, lt)
claim_rules l a (reasons.Stuck n m) claim has lt = omega (arith, lt)
claim_rules l a (reasons.Token n j) claim has lt = omega (arith, lt)
claim_rules l a (reasons.Joint n j) claim has lt = omega (arith, lt)
claim_rules l a (reasons.Period n period low high) claim has lt = omega (arith, lt)

pub splits_rule : (l : LineData) (a : Answer) (r : Reason) → IsClaim l a.verdict a.timetable a.bound
    → a.splits ≡ split_count a.tree → HasReason l a r
    → rule_number r < 4 → ⊥
splits_rule l a reasons.TimetableMissing claim splits has lt = claim_rules l a reasons.TimetableMissing claim has (omega arith)
splits_rule l a reasons.TimetableExtra claim splits has lt = claim_rules l a reasons.TimetableExtra claim has (omega arith)
splits_rule l a (reasons.Bound seen want) claim splits has lt = claim_rules l a (reasons.Bound seen want) claim has (omega arith)
splits_rule l a (reasons.Splits seen count) claim splits has lt = has.2 (has.0 ∙ splits ∙ sym has.1)
splits_rule l a (reasons.LeftNode n) claim splits has lt = omega (arith, lt)
splits_rule l a reasons.NoLeft claim splits has lt = omega (arith, lt)
splits_rule l a (reasons.Fault f) claim splits has lt = omega (arith, lt)
splits_rule l a (reasons.Question n) claim splits has lt = omega (arith, lt)
splits_rule l a (reasons.Stuck n m) claim splits has lt = omega (arith, lt)
splits_rule l a (reasons.Token n j) claim splits has lt = omega (arith, lt)
splits_rule l a (reasons.Joint n j) claim splits has lt = omega (arith, lt)
splits_rule l a (reasons.Period n period low high) claim splits has lt = omega (arith, lt)

pub left_rules : (l : LineData) (a : Answer) (r : Reason) → IsTree a.tree → IsClaim l a.verdict a.timetable a.bound
    → a.splits ≡ split_count a.tree
    → HasItsLeft a a.verdict → HasReason l a r → rule_number r < 6 → ⊥
left_rules l a reasons.TimetableMissing tree claim splits left has lt = claim_rules l a reasons.TimetableMissing claim has (omega arith)
left_rules l a reasons.TimetableExtra tree claim splits left has lt = claim_rules l a reasons.TimetableExtra claim has (omega arith)
left_rules l a (reasons.Bound seen want) tree claim splits left has lt = claim_rules l a (reasons.Bound seen want) claim has (omega arith)
left_rules l a (reasons.Splits seen count) tree claim splits left has lt = has.2 (has.0 ∙ splits ∙ sym has.1)
left_rules l a (reasons.LeftNode n) tree claim splits left has lt = left_node_none a a.verdict n tree left has.0 has.1
left_rules l a reasons.NoLeft tree claim splits left has lt = no_left_none a a.verdict left has.0 has.1
left_rules l a (reasons.Fault f) tree claim splits left has lt = omega (arith, lt)
left_rules l a (reasons.Question n) tree claim splits left has lt = omega (arith, lt)
left_rules l a (reasons.Stuck n m) tree claim splits left has lt = omega (arith, lt)
left_rules l a (reasons.Token n j) tree claim splits left has lt = omega (arith, lt)
left_rules l a (reasons.Joint n j) tree claim splits left has lt = omega (arith, lt)
left_rules l a (reasons.Period n period low high) tree claim splits left has lt = omega (arith, lt)

pub fault_rule : (l : LineData) (a : Answer) (r : Reason) → IsLine l → IsTree a.tree
    → IsClaim l a.verdict a.timetable a.bound → a.splits ≡ split_count a.tree
    → HasItsLeft a a.verdict → IfSome a.timetable (λ t. IsLegal l (timetable_of t)) → HasReason l a r
    → rule_number r < 7 → ⊥
fault_rule l a reasons.TimetableMissing line tree claim splits left legal has lt = claim_rules l a reasons.TimetableMissing claim has (omega arith)
fault_rule l a reasons.TimetableExtra line tree claim splits left legal has lt = claim_rules l a reasons.TimetableExtra claim has (omega arith)
fault_rule l a (reasons.Bound seen want) line tree claim splits left legal has lt = claim_rules l a (reasons.Bound seen want) claim has (omega arith)
fault_rule l a (reasons.Splits seen count) line tree claim splits left legal has lt = has.2 (has.0 ∙ splits ∙ sym has.1)
fault_rule l a (reasons.LeftNode n) line tree claim splits left legal has lt = left_node_none a a.verdict n tree left has.0 has.1
fault_rule l a reasons.NoLeft line tree claim splits left legal has lt = no_left_none a a.verdict left has.0 has.1
fault_rule l a (reasons.Fault f) line tree claim splits left legal has lt =
    legal_has_none l (timetable_of has.0) line (same_timetable l a.timetable has.0 has.1 legal) f has.2
fault_rule l a (reasons.Question n) line tree claim splits left legal has lt = omega (arith, lt)
fault_rule l a (reasons.Stuck n m) line tree claim splits left legal has lt = omega (arith, lt)
fault_rule l a (reasons.Token n j) line tree claim splits left legal has lt = omega (arith, lt)
fault_rule l a (reasons.Joint n j) line tree claim splits left legal has lt = omega (arith, lt)
fault_rule l a (reasons.Period n period low high) line tree claim splits left legal has lt = omega (arith, lt)

-- ---- reasons of nodes

pub node_reason_is : (l : LineData) (a : Answer) (r : Reason) → HasReason l a r → 7 ≤ rule_number r
    → IsFlawed l a.tree a.bound (named r) r
node_reason_is l a reasons.TimetableMissing has le = absurd (omega (arith, le))
node_reason_is l a reasons.TimetableExtra has le = absurd (omega (arith, le))
node_reason_is l a (reasons.Bound seen want) has le = absurd (omega (arith, le))
node_reason_is l a (reasons.Splits seen count) has le = absurd (omega (arith, le))
node_reason_is l a (reasons.LeftNode n) has le = absurd (omega (arith, le))
node_reason_is l a reasons.NoLeft has le = absurd (omega (arith, le))
node_reason_is l a (reasons.Fault f) has le = absurd (omega (arith, le))
node_reason_is l a (reasons.Question n) has le = has
node_reason_is l a (reasons.Stuck n m) has le = has
node_reason_is l a (reasons.Token n j) has le = has
node_reason_is l a (reasons.Joint n j) has le = has
node_reason_is l a (reasons.Period n period low high) has le = has

pub flawed_is_reason : (l : LineData) (a : Answer) (r : Reason) → IsFlawed l a.tree a.bound (named r) r
    → HasReason l a r × (rule_number r ≡ 7)
flawed_is_reason l a reasons.TimetableMissing f = absurd f.flaw
flawed_is_reason l a reasons.TimetableExtra f = absurd f.flaw
flawed_is_reason l a (reasons.Bound seen want) f = absurd f.flaw
flawed_is_reason l a (reasons.Splits seen count) f = absurd f.flaw
flawed_is_reason l a (reasons.LeftNode n) f = absurd f.flaw
flawed_is_reason l a reasons.NoLeft f = absurd f.flaw
flawed_is_reason l a (reasons.Fault g) f = absurd f.flaw
flawed_is_reason l a (reasons.Question n) f = (f, refl)
flawed_is_reason l a (reasons.Stuck n m) f = (f, refl)
flawed_is_reason l a (reasons.Token n j) f = (f, refl)
flawed_is_reason l a (reasons.Joint n j) f = (f, refl)
flawed_is_reason l a (reasons.Period n period low high) f = (f, refl)

node_place : (r : Reason) → 7 ≤ rule_number r → place_in_rule r ≡ pos (named r) ∷ rank_of r
node_place reasons.TimetableMissing le = absurd (omega (arith, le))
node_place reasons.TimetableExtra le = absurd (omega (arith, le))
node_place (reasons.Bound seen want) le = absurd (omega (arith, le))
node_place (reasons.Splits seen count) le = absurd (omega (arith, le))
node_place (reasons.LeftNode n) le = absurd (omega (arith, le))
node_place reasons.NoLeft le = absurd (omega (arith, le))
node_place (reasons.Fault f) le = absurd (omega (arith, le))
node_place (reasons.Question n) le = refl
node_place (reasons.Stuck n m) le = refl
node_place (reasons.Token n j) le = refl
node_place (reasons.Joint n j) le = refl
node_place (reasons.Period n period low high) le = refl

few_rules : (r : Reason) → rule_number r ≤ 7
few_rules reasons.TimetableMissing = omega arith
few_rules reasons.TimetableExtra = omega arith
few_rules (reasons.Bound seen want) = omega arith
few_rules (reasons.Splits seen count) = omega arith
few_rules (reasons.LeftNode n) = omega arith
few_rules reasons.NoLeft = omega arith
few_rules (reasons.Fault f) = omega arith
few_rules (reasons.Question n) = omega arith
few_rules (reasons.Stuck n m) = omega arith
few_rules (reasons.Token n j) = omega arith
few_rules (reasons.Joint n j) = omega arith
few_rules (reasons.Period n period low high) = omega arith

-- ---- the first of all

-- no reason of a rule below this one
abbrev pub NoneUnder : LineData → Answer → ℕ → Type 0
NoneUnder l a rule = (s : Reason) → HasReason l a s → rule_number s < rule → ⊥

pub first_of_all : (l : LineData) (a : Answer) (rule : ℕ) (r : Reason) → NoneUnder l a rule → IsFirstFrom l a rule r
    → IsFirstReason l a r
first_of_all l a rule r none from = record {
  has = from.has;
  first = λ s has earlier. ⊎_elim (λ lt. none s has lt) (λ le. from.first s has le earlier) (cases_lt (rule_number s) rule);
}

-- an earlier reason is of an earlier rule, or earlier within the rule
pub earlier_cases : (s r : Reason) → IsEarlier s r
    → (rule_number s < rule_number r) ⊎ ((rule_number s ≡ rule_number r) × IsLess (place_in_rule s) (place_in_rule r))
earlier_cases s r e = ⊎_elim (λ lt. inl (omega (arith, ints, lt))) (λ same. inr (omega (arith, ints, same.0), same.1)) e

pub none_before_nil : (xs : List ℤ) → IsLess xs [] → ⊥
none_before_nil [] h = h
none_before_nil (x ∷ xs) h = h

-- a rule with one reason at most
pub first_alone : (l : LineData) (a : Answer) (rule : ℕ) (r : Reason) → HasReason l a r → rule_number r ≡ rule
    → place_in_rule r ≡ [] → IsFirstFrom l a rule r
first_alone l a rule r has e nothing = record {
  has = has;
  first = λ s has' le earlier.
      ⊎_elim (λ lt. omega (arith, lt, le, e))
      (λ same. let P : List ℤ → Type 0 = λ xs. IsLess (place_in_rule s) xs in none_before_nil (place_in_rule s) (subst P nothing same.1))
      (earlier_cases s r earlier);
}

-- the first flaw of the tree
pub first_flaw_of : (l : LineData) (a : Answer) (r : Reason) → IsFirstFlawed l a.tree a.bound r → IsFirstFrom l a 7 r
first_flaw_of l a r f =
    let is = flawed_is_reason l a r f.has in
    record {
      has = is.0;
      first = λ s has le earlier.
          ⊎_elim (λ lt. omega (arith, lt, le, is.1))
          (λ same.
          let P : List ℤ → Type 0 = λ xs. IsLess xs (place_in_rule r) in
          let Q : List ℤ → Type 0 = λ xs. IsLess (pos (named s) ∷ rank_of s) xs in
          let less = subst Q (node_place r (omega (arith, is.1))) (subst P (node_place s le) same.1) in
          let flawed = node_reason_is l a s has le in
          ⊎_elim
          (λ before. f.first (named s) s (omega (arith, ints, before)) flawed)
          (λ here.
          let at : named s ≡ named r = omega (arith, ints, here.0) in
          let N : ℕ → Type 0 = λ n. IsFlawed l a.tree a.bound n s in
          f.first_here s (subst N at flawed) here.1)
          less)
          (earlier_cases s r earlier);
    }

-- the first left node
left_before : (l : LineData) (a : Answer) (s : Reason) (n : ℕ) → ((m : ℕ) → m < n → IsLeftNode a.tree m → ⊥)
    → HasReason l a s → rule_number s ≡ 4
    → IsLess (place_in_rule s) (pos n ∷ []) → ⊥
left_before l a reasons.TimetableMissing n none has e less = omega (arith, e)
left_before l a reasons.TimetableExtra n none has e less = omega (arith, e)
left_before l a (reasons.Bound seen want) n none has e less = omega (arith, e)
left_before l a (reasons.Splits seen count) n none has e less = omega (arith, e)
left_before l a (reasons.LeftNode m) n none has e less = ⊎_elim (λ lt. none m (omega (arith, ints, lt)) has.1) (λ same. same.1) less
left_before l a reasons.NoLeft n none has e less = omega (arith, e)
left_before l a (reasons.Fault f) n none has e less = omega (arith, e)
left_before l a (reasons.Question m) n none has e less = omega (arith, e)
left_before l a (reasons.Stuck m x) n none has e less = omega (arith, e)
left_before l a (reasons.Token m j) n none has e less = omega (arith, e)
left_before l a (reasons.Joint m j) n none has e less = omega (arith, e)
left_before l a (reasons.Period m period low high) n none has e less = omega (arith, e)

pub first_left_node : (l : LineData) (a : Answer) (n : ℕ) → a.verdict ≢ Unfinished → IsLeftNode a.tree n
    → ((m : ℕ) → m < n → IsLeftNode a.tree m → ⊥)
    → IsFirstFrom l a 4 (reasons.LeftNode n)
first_left_node l a n differ here none = record {
  has = (differ, here);
  first = λ s has le earlier.
      ⊎_elim (λ lt. omega (arith, lt, le)) (λ same. left_before l a s n none has same.0 same.1) (earlier_cases s (reasons.LeftNode n) earlier);
}

no_left_node : (l : LineData) (a : Answer) (s : Reason) → a.verdict ≡ Unfinished → HasReason l a s → rule_number s ≡ 4
    → ⊥
no_left_node l a reasons.TimetableMissing v has e = omega (arith, e)
no_left_node l a reasons.TimetableExtra v has e = omega (arith, e)
no_left_node l a (reasons.Bound seen want) v has e = omega (arith, e)
no_left_node l a (reasons.Splits seen count) v has e = omega (arith, e)
no_left_node l a (reasons.LeftNode m) v has e = has.0 v
no_left_node l a reasons.NoLeft v has e = omega (arith, e)
no_left_node l a (reasons.Fault f) v has e = omega (arith, e)
no_left_node l a (reasons.Question m) v has e = omega (arith, e)
no_left_node l a (reasons.Stuck m x) v has e = omega (arith, e)
no_left_node l a (reasons.Token m j) v has e = omega (arith, e)
no_left_node l a (reasons.Joint m j) v has e = omega (arith, e)
no_left_node l a (reasons.Period m period low high) v has e = omega (arith, e)

pub first_no_left : (l : LineData) (a : Answer) → a.verdict ≡ Unfinished → NoneLeft a.tree
    → IsFirstFrom l a 4 reasons.NoLeft
first_no_left l a v none = record {
  has = (v, none);
  first = λ s has le earlier.
      ⊎_elim
      (λ lt. no_left_node l a s v has (omega (arith, lt, le)))
      (λ same. none_before_nil (place_in_rule s) same.1)
      (earlier_cases s reasons.NoLeft earlier);
}

-- the first fault
fault_before : (l : LineData) (a : Answer) (s : Reason) (t : TimetableData) (f : Fault) → a.timetable ≡ Some t
    → IsFirstFault l (timetable_of t) f
    → HasReason l a s → rule_number s ≡ 6 → IsLess (place_in_rule s) (pos (rule_of f) ∷ values_of f) → ⊥
fault_before l a reasons.TimetableMissing t f is first has e less = omega (arith, e)
fault_before l a reasons.TimetableExtra t f is first has e less = omega (arith, e)
fault_before l a (reasons.Bound seen want) t f is first has e less = omega (arith, e)
fault_before l a (reasons.Splits seen count) t f is first has e less = omega (arith, e)
fault_before l a (reasons.LeftNode m) t f is first has e less = omega (arith, e)
fault_before l a reasons.NoLeft t f is first has e less = omega (arith, e)
fault_before l a (reasons.Fault g) t f is first has e less =
    let same : has.0 ≡ t = (let both : Some has.0 ≡ Some t = sym has.1 ∙ is in cc) in
    let P : TimetableData → Type 0 = λ d. HasFault l (timetable_of d) g in
    first.first g (subst P same has.2) (⊎_elim (λ lt. inl (omega (arith, ints, lt))) (λ eq. inr (omega (arith, ints, eq.0), eq.1)) less)
fault_before l a (reasons.Question m) t f is first has e less = omega (arith, e)
fault_before l a (reasons.Stuck m x) t f is first has e less = omega (arith, e)
fault_before l a (reasons.Token m j) t f is first has e less = omega (arith, e)
fault_before l a (reasons.Joint m j) t f is first has e less = omega (arith, e)
fault_before l a (reasons.Period m period low high) t f is first has e less = omega (arith, e)

pub first_fault_of : (l : LineData) (a : Answer) (t : TimetableData) (f : Fault) → a.timetable ≡ Some t
    → IsFirstFault l (timetable_of t) f
    → IsFirstFrom l a 6 (reasons.Fault f)
first_fault_of l a t f is first = record {
  has = (t, is, first.has);
  first = λ s has le earlier.
      ⊎_elim (λ lt. omega (arith, lt, le)) (λ same. fault_before l a s t f is first has same.0 same.1) (earlier_cases s (reasons.Fault f) earlier);
}

-- ---- an answer that keeps all rules

pub no_reason : NoReasonWhereKept
no_reason l a r line tree kept has =
    ⊎_elim
    (λ lt. fault_rule l a r line tree kept.claim kept.splits kept.left kept.legal has lt)
    (λ le. flawed_none l a.tree a.bound (named r) r tree kept.proves (node_reason_is l a r has le))
    (cases_lt (rule_number r) 7)

-- a reason is a rule that isn't kept
pub not_kept : (l : LineData) (a : Answer) (r : Reason) → IsLine l → IsTree a.tree → HasReason l a r → KeepsRules l a
    → ⊥
not_kept l a r line tree has kept = no_reason l a r line tree kept has

-- ---- what the rules answer, where they were tried one after another

abbrev pub IsLeftAnswer : Answer → Option Reason → Type 0
IsLeftAnswer a o = (l : LineData) → MatchOption o (HasItsLeft a a.verdict) (λ r. IsFirstFrom l a 4 r)

pub left_kept : (l : LineData) (a : Answer) (o : Option Reason) → IsLeftAnswer a o → o ≡ None → HasItsLeft a a.verdict
left_kept l a o answer e = let P : Option Reason → Type 0 = λ p. IsLeftAnswer a p in subst P e answer l

pub left_found : (l : LineData) (a : Answer) (o : Option Reason) (r : Reason) → IsLeftAnswer a o → o ≡ Some r
    → IsFirstFrom l a 4 r
left_found l a o r answer e = let P : Option Reason → Type 0 = λ p. IsLeftAnswer a p in subst P e answer l

pub tree_kept : (l : LineData) (a : Answer) (o : Option Reason) → IsTreeAnswer l a.tree a.bound o → o ≡ None
    → Proves l a.tree a.bound
tree_kept l a o answer e = let P : Option Reason → Type 0 = λ p. IsTreeAnswer l a.tree a.bound p in subst P e answer

pub tree_found : (l : LineData) (a : Answer) (o : Option Reason) (r : Reason) → IsTreeAnswer l a.tree a.bound o
    → o ≡ Some r → IsFirstFrom l a 7 r
tree_found l a o r answer e =
    let P : Option Reason → Type 0 = λ p. IsTreeAnswer l a.tree a.bound p in
    first_flaw_of l a r (subst P e answer)

pub all_kept : (l : LineData) (a : Answer) (o p : Option Reason) → IsClaim l a.verdict a.timetable a.bound
    → a.splits ≡ split_count a.tree
    → IsLeftAnswer a o → o ≡ None → IfSome a.timetable (λ t. IsLegal l (timetable_of t))
    → IsTreeAnswer l a.tree a.bound p → p ≡ None → KeepsRules l a
all_kept l a o p claim splits left none legal tree shown = record {
  claim = claim;
  splits = splits;
  left = left_kept l a o left none;
  legal = legal;
  proves = tree_kept l a p tree shown;
}
