-- The choices on a path, noted decision by decision.
use Rattle.std.proofs.Common.{⊎_elim, ◌≡◌, ◌≢◌, ℕ, ◌+◌, ◌*◌, ◌/◌, ◌%◌, ◌<◌, List, [], ◌∷◌, length, get_or, take, refl, sym, ◌∙◌, ap, subst, arith, Some, None, Bool, cond, set, length-set, get_or-set_other, eq-eqb}
use Rattle.std.specs.Prelude.{Option, ◌==◌, ◌&&◌}
use Rattle.std.specs.Option.{option_or}
use Rattle.std.proofs.lemmas.Bool.{cases_eq}
use Rattle.std.proofs.lemmas.List.{get_or-set_same, take_more}
use Rattle.std.proofs.lemmas.Nat.{div-mul-add, mod-mul-add}
use Rattle.hoist_base.specs.LineData.{LineData, last_stage, move_count, visit_count, visit_at, move_at}
use Rattle.hoist_base.proofs.NumberLemmas.{move_below, visit_below}
use Rattle.hoist_base.specs.declared.ids.MoveId.{MoveId}
use Rattle.hoist_base.specs.declared.ids.VisitId.{VisitId}
use Rattle.choice_tree.specs.declared.question.Question.{Question}
use Rattle.choice_tree.specs.declared.question.Question.TheVariants.{Assign, TankOrder, HoistOrder, Choose}
use Rattle.choice_tree.specs.declared.question.Decision.{Decision}
use Rattle.path_constraints.specs.Tanks.{no_decision, decision_at, choice_by, choice_of}
use Rattle.path_constraints.specs.Hoists.{assigned_by, assigned_of}
use Rattle.path_constraints.specs.Questions.{FitsPath, Fits}
use Rattle.period_constraints.specs.Marks.{AreChoices, AreAssigned}
use Rattle.period_constraints.proofs.AskLemmas.{same_number, step_below}
use Rattle.path_constraints.proofs.Choices.{choice-append, assigned-append}
use Rattle.path_constraints.proofs.GrowLemmas.{choice_more, no_choice_at, or_none}

-- an element is replaced, and the others stay
marked : (xs : List (Option ℕ)) (n count : ℕ) (x : Option ℕ) (old new : ℕ → Option ℕ) → n < length xs → new n ≡ x
    → ((j : ℕ) → j < count → j ≢ n → new j ≡ old j)
    → ((j : ℕ) → j < count → get_or xs j None ≡ old j) → (j : ℕ) → j < count → get_or (set xs n x) j None ≡ new j
marked xs n count x old new there here others is j lt =
    ⊎_elim
    (λ e. ap (λ (i : ℕ). get_or (set xs n x) i None) e ∙ get_or-set_same xs n x None there ∙ sym here ∙ ap new (sym e))
    (λ ne. get_or-set_other xs n j x None ne ∙ is j lt ∙ sym (others j lt ne))
    (cases_eq j n)

-- ---- tanks

choice_here : (v : VisitId) (child : ℕ) → choice_by v.carrier v.stage (Choose v) child ≡ Some child
choice_here v child =
    ap (λ (b : Bool). cond (b && (v.stage == v.stage)) (Some child) None) (eq-eqb v.carrier v.carrier refl) ∙ ap (λ (b : Bool). cond b (Some child) None)
    (eq-eqb v.stage v.stage refl)

choice_new : (l : LineData) (path : List Decision) (i : ℕ) (v : VisitId) → FitsPath l path → i < length path
    → (decision_at path i).question ≡ Choose v
    → choice_of (take (i + 1) path) v.carrier v.stage ≡ Some (decision_at path i).child
choice_new l path i v fits lt is =
    let d = decision_at path i in
    let P : Question → Type 0 = λ q. Fits l (take i path) q in
    let open_visit : Fits l (take i path) (Choose v) = subst P is (fits i lt).question in
    ap (λ (ds : List Decision). choice_of ds v.carrier v.stage) (take_more path i no_decision lt) ∙ choice-append (take i path) (d ∷ []) v.carrier v.stage
    ∙ ap (λ (o : Option ℕ). option_or o (option_or (choice_by v.carrier v.stage d.question d.child) None)) open_visit.stands.open_yet
    ∙ or_none (choice_by v.carrier v.stage d.question d.child) ∙ ap (λ (q : Question). choice_by v.carrier v.stage q d.child) is ∙ choice_here v d.child

pub choice_noted : (l : LineData) (path : List Decision) (i : ℕ) (v : VisitId) (n : ℕ) (xs : List (Option ℕ))
    → FitsPath l path → i < length path
    → (decision_at path i).question ≡ Choose v
    → n ≡ v.carrier * length l.stages + v.stage → AreChoices l (take i path) xs
    → AreChoices l (take (i + 1) path) (set xs n (Some (decision_at path i).child))
choice_noted l path i v n xs fits lt is number h =
    let m = length l.stages in
    let d = decision_at path i in
    let P : Question → Type 0 = λ q. Fits l (take i path) q in
    let open_visit : Fits l (take i path) (Choose v) = subst P is (fits i lt).question in
    let there = open_visit.stands.visit in
    let carrier : n / m ≡ v.carrier = ap (λ (x : ℕ). x / m) number ∙ div-mul-add v.carrier m v.stage there.1 in
    let stage_is : n % m ≡ v.stage = ap (λ (x : ℕ). x % m) number ∙ mod-mul-add v.carrier m v.stage there.1 in (
      omega (arith, h.0, length-set xs n (Some d.child)),
      marked xs n (visit_count l) (Some d.child) (λ j. choice_of (take i path) (j / m) (j % m)) (λ j. choice_of (take (i + 1) path) (j / m) (j % m))
          (omega (arith, h.0, number, visit_below l v.carrier v.stage there))
          (ap (λ (x : ℕ). choice_of (take (i + 1) path) x (n % m)) carrier ∙ ap (λ (x : ℕ). choice_of (take (i + 1) path) v.carrier x) stage_is ∙ choice_new l
          path i v fits lt is)
          (λ j below ne.
          choice_more path i (j / m) (j % m) lt (ap (λ (q : Question). choice_by (j / m) (j % m) q d.child) is ∙ no_choice_at v (j / m) (j % m) d.child
          (λ r. ne (omega (arith, number, same_number v.carrier v.stage j m r.0 r.1)))))
          h.1,
    )

pub choices_stay : (l : LineData) (path : List Decision) (i : ℕ) (xs : List (Option ℕ)) → i < length path
    → ((c k : ℕ) → choice_by c k (decision_at path i).question (decision_at path i).child ≡ None)
    → AreChoices l (take i path) xs
    → AreChoices l (take (i + 1) path) xs
choices_stay l path i xs lt none h = (
  h.0,
  λ j below. h.1 j below ∙ sym
      (choice_more path i (visit_at l j).carrier (visit_at l j).stage lt (none (visit_at l j).carrier (visit_at l j).stage)),
)

-- ---- hoists

assigned_here : (m : MoveId) (child : ℕ) → assigned_by m.carrier m.step (Assign m) child ≡ Some child
assigned_here m child =
    ap (λ (b : Bool). cond (b && (m.step == m.step)) (Some child) None) (eq-eqb m.carrier m.carrier refl) ∙ ap (λ (b : Bool). cond b (Some child) None)
    (eq-eqb m.step m.step refl)

not_assigned_at : (m : MoveId) (c k child : ℕ) → ((m.carrier ≡ c) × (m.step ≡ k) → ⊥)
    → assigned_by c k (Assign m) child ≡ None
not_assigned_at m c k child other = no_choice_at (record { carrier = m.carrier; stage = m.step }) c k child other

assigned_more : (path : List Decision) (i c k : ℕ) → i < length path
    → assigned_by c k (decision_at path i).question (decision_at path i).child ≡ None
    → assigned_of (take (i + 1) path) c k ≡ assigned_of (take i path) c k
assigned_more path i c k lt none =
    let d = decision_at path i in
    ap (λ (ds : List Decision). assigned_of ds c k) (take_more path i no_decision lt) ∙ assigned-append (take i path) (d ∷ []) c k
    ∙ ap (λ (o : Option ℕ). option_or (assigned_of (take i path) c k) (option_or o None)) none ∙ or_none (assigned_of (take i path) c k)

assigned_new : (l : LineData) (path : List Decision) (i : ℕ) (m : MoveId) → FitsPath l path → i < length path
    → (decision_at path i).question ≡ Assign m
    → assigned_of (take (i + 1) path) m.carrier m.step ≡ Some (decision_at path i).child
assigned_new l path i m fits lt is =
    let d = decision_at path i in
    let P : Question → Type 0 = λ q. Fits l (take i path) q in
    let open_move : Fits l (take i path) (Assign m) = subst P is (fits i lt).question in
    ap (λ (ds : List Decision). assigned_of ds m.carrier m.step) (take_more path i no_decision lt) ∙ assigned-append (take i path) (d ∷ []) m.carrier m.step
    ∙ ap (λ (o : Option ℕ). option_or o (option_or (assigned_by m.carrier m.step d.question d.child) None)) open_move.stands.open_yet
    ∙ or_none (assigned_by m.carrier m.step d.question d.child) ∙ ap (λ (q : Question). assigned_by m.carrier m.step q d.child) is ∙ assigned_here m d.child

pub assigned_noted : (l : LineData) (path : List Decision) (i : ℕ) (m : MoveId) (n : ℕ) (xs : List (Option ℕ))
    → FitsPath l path → i < length path
    → (decision_at path i).question ≡ Assign m
    → n ≡ m.carrier * last_stage l + m.step → AreAssigned l (take i path) xs
    → AreAssigned l (take (i + 1) path) (set xs n (Some (decision_at path i).child))
assigned_noted l path i m n xs fits lt is number h =
    let s = last_stage l in
    let d = decision_at path i in
    let P : Question → Type 0 = λ q. Fits l (take i path) q in
    let open_move : Fits l (take i path) (Assign m) = subst P is (fits i lt).question in
    let there = open_move.stands.move in
    let below = step_below l m there in
    let carrier : n / s ≡ m.carrier = ap (λ (x : ℕ). x / s) number ∙ div-mul-add m.carrier s m.step below in
    let step_is : n % s ≡ m.step = ap (λ (x : ℕ). x % s) number ∙ mod-mul-add m.carrier s m.step below in (
      omega (arith, h.0, length-set xs n (Some d.child)),
      marked xs n (move_count l) (Some d.child) (λ j. assigned_of (take i path) (j / s) (j % s)) (λ j. assigned_of (take (i + 1) path) (j / s) (j % s))
          (omega (arith, h.0, number, move_below l m.carrier m.step there))
          (ap (λ (x : ℕ). assigned_of (take (i + 1) path) x (n % s)) carrier ∙ ap (λ (x : ℕ). assigned_of (take (i + 1) path) m.carrier x) step_is ∙
          assigned_new l path i m fits lt is)
          (λ j lt_count ne.
          assigned_more path i (j / s) (j % s) lt
          (ap (λ (q : Question). assigned_by (j / s) (j % s) q d.child) is ∙ not_assigned_at m (j / s) (j % s) d.child
          (λ r. ne (omega (arith, number, same_number m.carrier m.step j s r.0 r.1)))))
          h.1,
    )

pub assigned_stay : (l : LineData) (path : List Decision) (i : ℕ) (xs : List (Option ℕ)) → i < length path
    → ((c k : ℕ) → assigned_by c k (decision_at path i).question (decision_at path i).child ≡ None)
    → AreAssigned l (take i path) xs
    → AreAssigned l (take (i + 1) path) xs
assigned_stay l path i xs lt none h = (
  h.0,
  λ j below. h.1 j below ∙ sym
      (assigned_more path i (move_at l j).carrier (move_at l j).step lt (none (move_at l j).carrier (move_at l j).step)),
)

-- a question of another kind
pub choice_other : (q : Question) → ((v : VisitId) → q ≡ Choose v → ⊥) → (c k child : ℕ) → choice_by c k q child ≡ None
choice_other (Assign m) other c k child = refl
choice_other (TankOrder a b q) other c k child = refl
choice_other (HoistOrder a b q) other c k child = refl
choice_other (Choose v) other c k child = absurd (other v refl)

pub assigned_other : (q : Question) → ((m : MoveId) → q ≡ Assign m → ⊥) → (c k child : ℕ)
    → assigned_by c k q child ≡ None
assigned_other (Assign m) other c k child = absurd (other m refl)
assigned_other (TankOrder a b q) other c k child = refl
assigned_other (HoistOrder a b q) other c k child = refl
assigned_other (Choose v) other c k child = refl
