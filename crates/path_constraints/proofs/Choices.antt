-- What the decisions of a path say of one visit or one move, and what a longer path still says.
use Rattle.std.proofs.Common.{⊎_elim, inl, inr, ◌⊎◌, ◌≡◌, ℕ, suc, ◌<◌, List, [], ◌∷◌, ◌++◌, length, take, drop, Bool, true, false, refl, sym, ◌∙◌, ap, subst, arith, Some, None, eqb-true, ◌==◌, ◌&&◌, if◌then◌else◌}
use Rattle.std.specs.Prelude.{Option}
use Rattle.std.specs.Option.{option_or}
use Rattle.std.proofs.lemmas.List.{take-append-drop}
use Rattle.hoist_base.specs.declared.ids.MoveId.{MoveId}
use Rattle.hoist_base.specs.declared.ids.VisitId.{VisitId}
use Rattle.choice_tree.specs.declared.question.Question.{Question}
use Rattle.choice_tree.specs.declared.question.Question.TheVariants.{Assign, TankOrder, HoistOrder, Choose}
use Rattle.choice_tree.specs.declared.question.Decision.{Decision}
use Rattle.path_constraints.specs.Tanks.{decision_at, choice_by, choice_of}
use Rattle.path_constraints.specs.Hoists.{assigned_by, assigned_of}

or_or : (a b c : Option ℕ) → option_or (option_or a b) c ≡ option_or a (option_or b c)
or_or None b c = refl
or_or (Some x) b c = refl

-- a test that keeps a value
if_some : (b : Bool) (x n : ℕ) → (if b then Some x else None) ≡ Some n → (b ≡ true) × (x ≡ n)
if_some true x n e = (refl, cc)
if_some false x n e = cc

both : (a b : Bool) → (a && b) ≡ true → (a ≡ true) × (b ≡ true)
both true b e = (refl, e)
both false b e = cc

-- ---- visits

pub choice-append : (ds es : List Decision) (c k : ℕ)
    → choice_of (ds ++ es) c k ≡ option_or (choice_of ds c k) (choice_of es c k)
choice-append [] es c k = refl
choice-append (d ∷ ds) es c k =
    ap (λ (o : Option ℕ). option_or (choice_by c k d.question d.child) o) (choice-append ds es c k)
    ∙ sym (or_or (choice_by c k d.question d.child) (choice_of ds c k) (choice_of es c k))

or_first : (a b : Option ℕ) (n : ℕ) → a ≡ Some n → option_or a b ≡ Some n
or_first None b n e = cc
or_first (Some x) b n e = e

-- a choice stays
pub choice_stays : (path : List Decision) (i c k n : ℕ) → choice_of (take i path) c k ≡ Some n
    → choice_of path c k ≡ Some n
choice_stays path i c k n e =
    let P : List Decision → Type 0 = λ ds. choice_of ds c k ≡ Some n in
    let whole : choice_of (take i path ++ drop i path) c k ≡ Some n =
    choice-append (take i path) (drop i path) c k ∙ or_first (choice_of (take i path) c k) (choice_of (drop i path) c k) n e in
    subst P (take-append-drop i path) whole

-- the question of a choice is the Choose of the visit
pub choice_by_is : (c k : ℕ) (q : Question) (child n : ℕ) → choice_by c k q child ≡ Some n
    → (v : VisitId) × (q ≡ Choose v) × (v.carrier ≡ c) × (v.stage ≡ k) × (child ≡ n)
choice_by_is c k (Choose v) child n e =
    let r = if_some ((v.carrier == c) && (v.stage == k)) child n e in
    let s = both (v.carrier == c) (v.stage == k) r.0 in
    (v, refl, eqb-true v.carrier c s.0, eqb-true v.stage k s.1, r.1)
choice_by_is c k (Assign m) child n e = cc
choice_by_is c k (TankOrder a b q) child n e = cc
choice_by_is c k (HoistOrder a b q) child n e = cc

-- the place on a path where a choice is made
pub record Chosen (path : List Decision) (c k n : ℕ) : Type 0 where
  pub place : ℕ
  pub there : place < length path
  pub visit : VisitId
  pub question : (decision_at path place).question ≡ Choose visit
  pub carrier : visit.carrier ≡ c
  pub stage : visit.stage ≡ k
  pub child : (decision_at path place).child ≡ n

or_cases : (a b : Option ℕ) (n : ℕ) → option_or a b ≡ Some n → (a ≡ Some n) ⊎ (b ≡ Some n)
or_cases None b n e = inr e
or_cases (Some x) b n e = inl e

pub chosen : (path : List Decision) (c k n : ℕ) → choice_of path c k ≡ Some n → Chosen path c k n
chosen [] c k n e = cc
chosen (d ∷ ds) c k n e =
    ⊎_elim
    (λ here.
    let r = choice_by_is c k d.question d.child n here in
    let chosen : Chosen (d ∷ ds) c k n = record { place = 0; there = omega arith; visit = r.0; question = r.1; carrier = r.2; stage = r.3; child = r.4 } in
    chosen)
    (λ later.
    let r = chosen ds c k n later in
    let chosen : Chosen (d ∷ ds) c k n = record {
      place = suc r.place;
      there = omega (arith, r.there);
      visit = r.visit;
      question = r.question;
      carrier =
          r.carrier;
      stage = r.stage;
      child = r.child;
    } in
    chosen)
    (or_cases (choice_by c k d.question d.child) (choice_of ds c k) n e)

-- ---- moves

pub assigned-append : (ds es : List Decision) (c k : ℕ)
    → assigned_of (ds ++ es) c k ≡ option_or (assigned_of ds c k) (assigned_of es c k)
assigned-append [] es c k = refl
assigned-append (d ∷ ds) es c k =
    ap (λ (o : Option ℕ). option_or (assigned_by c k d.question d.child) o) (assigned-append ds es c k)
    ∙ sym (or_or (assigned_by c k d.question d.child) (assigned_of ds c k) (assigned_of es c k))

-- an assigned hoist stays
pub assigned_stays : (path : List Decision) (i c k n : ℕ) → assigned_of (take i path) c k ≡ Some n
    → assigned_of path c k ≡ Some n
assigned_stays path i c k n e =
    let P : List Decision → Type 0 = λ ds. assigned_of ds c k ≡ Some n in
    let whole : assigned_of (take i path ++ drop i path) c k ≡ Some n =
    assigned-append (take i path) (drop i path) c k ∙ or_first (assigned_of (take i path) c k) (assigned_of (drop i path) c k) n e in
    subst P (take-append-drop i path) whole

pub assigned_by_is : (c k : ℕ) (q : Question) (child n : ℕ) → assigned_by c k q child ≡ Some n
    → (m : MoveId) × (q ≡ Assign m) × (m.carrier ≡ c) × (m.step ≡ k) × (child ≡ n)
assigned_by_is c k (Assign m) child n e =
    let r = if_some ((m.carrier == c) && (m.step == k)) child n e in
    let s = both (m.carrier == c) (m.step == k) r.0 in
    (m, refl, eqb-true m.carrier c s.0, eqb-true m.step k s.1, r.1)
assigned_by_is c k (TankOrder a b q) child n e = cc
assigned_by_is c k (HoistOrder a b q) child n e = cc
assigned_by_is c k (Choose v) child n e = cc

-- the place on a path where a move gets its hoist
pub record Assigned (path : List Decision) (c k n : ℕ) : Type 0 where
  pub place : ℕ
  pub there : place < length path
  pub move : MoveId
  pub question : (decision_at path place).question ≡ Assign move
  pub carrier : move.carrier ≡ c
  pub step : move.step ≡ k
  pub child : (decision_at path place).child ≡ n

pub assigned : (path : List Decision) (c k n : ℕ) → assigned_of path c k ≡ Some n → Assigned path c k n
assigned [] c k n e = cc
assigned (d ∷ ds) c k n e =
    ⊎_elim
    (λ here.
    let r = assigned_by_is c k d.question d.child n here in
    let found : Assigned (d ∷ ds) c k n = record { place = 0; there = omega arith; move = r.0; question = r.1; carrier = r.2; step = r.3; child = r.4 } in
    found)
    (λ later.
    let r = assigned ds c k n later in
    let found : Assigned (d ∷ ds) c k n = record {
      place = suc r.place;
      there = omega (arith, r.there);
      move = r.move;
      question = r.question;
      carrier =
          r.carrier;
      step = r.step;
      child = r.child;
    } in
    found)
    (or_cases (assigned_by c k d.question d.child) (assigned_of ds c k) n e)
