-- When a walk of a leaf sets the bound.
use Rattle.std.proofs.Common.{
  ⊎_elim,
  inl,
  inr,
  ◌⊎◌,
  ◌≡◌,
  ℕ,
  zero,
  suc,
  ◌-◌,
  ◌<◌,
  ◌≤◌,
  List,
  [],
  ◌∷◌,
  slice_index_or,
  Bool,
  true,
  false,
  cond,
  Option,
  Some,
  None,
  ℤ,
  pos,
  ◌+ℤ◌,
  ◌*ℤ◌,
  ◌<ℤ◌,
  refl,
  sym,
  ap,
  subst,
  ◌∙◌,
  arith,
}
use Rattle.std.specs.Prelude.{◌||◌, option_to_list, Contains}
use Rattle.std.proofs.lemmas.Int.{ints, by_lt_z}
use Rattle.std.proofs.lemmas.Bool.{false≢true}
use Rattle.std.proofs.lemmas.List.Elements.{Contains-append_cases, Contains-append_left, Contains-append_right}
use Rattle.hoist_base.specs.LineData.{LineData}
use Rattle.longest_path.specs.System.{Refutes}
use Rattle.cycle_walk.proofs.FirstLemmas.{lt_true, true_lt}
use Rattle.cycle_walk.proofs.ClimbLemmas.{refutes_later}
use Rattle.choice_tree.specs.declared.question.Decision.{Decision}
use Rattle.choice_tree.specs.declared.constraint.Constraint.{Constraint}
use Rattle.choice_tree.specs.declared.node.Node.{Node}
use Rattle.path_constraints.specs.Proves.{IsClosedWalk, RefutesPeriod, sum_w, sum_q}
use Rattle.answer_text.specs.Fields.{IsWalk}
use Rattle.cert_checker.specs.Walks.{walks_of, low_of, high_of}
use Rattle.cert_checker.specs.Flaws.{IsOpen}
use Rattle.report_reason.specs.Nearest.{gives, setting_walk, IsUsable}
use Rattle.report_reason.proofs.Paths.{one_there}

-- ---- what a test on a walk says

pub refuted_by : (l : LineData) (path : List Decision) (t : ℕ) (walk : List Constraint)
    → gives l path t (Some walk) ≡ true → RefutesPeriod l path t walk
refuted_by l path t walk e = lt_true (pos 0) (sum_w l path walk +ℤ sum_q l path walk *ℤ pos t) e

pub given_by : (l : LineData) (path : List Decision) (t : ℕ) (walk : List Constraint) → RefutesPeriod l path t walk
    → gives l path t (Some walk) ≡ true
given_by l path t walk gains = true_lt (pos 0) (sum_w l path walk +ℤ sum_q l path walk *ℤ pos t) gains

-- a walk that is there is the one of its leaf
same_one : (o : Option (List Constraint)) (walk : List Constraint) → Contains (option_to_list o) walk → o ≡ Some walk
same_one None walk (k, lt, is) = absurd (omega (arith, lt))
same_one (Some x) walk (k, lt, is) = first k lt is
  where
    first : (k : ℕ) → k < 1 → slice_index_or (x ∷ []) k walk ≡ walk → Some x ≡ Some walk
    first zero lt is = ap Some is
    first (suc k) lt is = absurd (omega (arith, lt))

-- ---- the choice of the walk

set_is : {X : Type 0} (a b c d : Bool) (low high : Option X) (x : X)
    → cond (a || b) None (cond c low (cond d high None)) ≡ Some x
    → (a ≡ false) × (b ≡ false) × (((low ≡ Some x) × (c ≡ true)) ⊎ ((high ≡ Some x) × (d ≡ true)))
set_is true b c d low high x e = cc
set_is false true c d low high x e = cc
set_is false false true d low high x e = (refl, refl, inl (e, refl))
set_is false false false true low high x e = (refl, refl, inr (e, refl))
set_is false false false false low high x e = cc

set_low : {X : Type 0} (a b c d : Bool) (low high : Option X) (x : X) → a ≡ false → b ≡ false → c ≡ true → low ≡ Some x
    → cond (a || b) None (cond c low (cond d high None)) ≡ Some x
set_low true b c d low high x e f g is = cc
set_low false true c d low high x e f g is = cc
set_low false false true d low high x e f g is = is
set_low false false false d low high x e f g is = cc

set_high : {X : Type 0} (a b c d : Bool) (low high : Option X) (x : X) → a ≡ false → b ≡ false → c ≡ false → d ≡ true
    → high ≡ Some x
    → cond (a || b) None (cond c low (cond d high None)) ≡ Some x
set_high true b c d low high x e f g h is = cc
set_high false true c d low high x e f g h is = cc
set_high false false true d low high x e f g h is = cc
set_high false false false true low high x e f g h is = is
set_high false false false false low high x e f g h is = cc

-- no walk of the leaf refutes a period where neither test passes
open_by : (l : LineData) (path : List Decision) (node : Node) (t : ℕ) → gives l path t (low_of node) ≡ false
    → gives l path t (high_of node) ≡ false
    → IsOpen l path node t
open_by l path node t a b walk c gains =
    ⊎_elim
    (λ x. false≢true (sym a ∙ ap (gives l path t) (same_one (low_of node) walk x) ∙ given_by l path t walk gains))
    (λ y. false≢true (sym b ∙ ap (gives l path t) (same_one (high_of node) walk y) ∙ given_by l path t walk gains))
    (Contains-append_cases (option_to_list (low_of node)) (option_to_list (high_of node)) walk c)

in_low : (node : Node) (walk : List Constraint) → low_of node ≡ Some walk → Contains (walks_of node) walk
in_low node walk is =
    Contains-append_left (option_to_list (low_of node)) (option_to_list (high_of node)) walk
    (subst (λ o. Contains (option_to_list o) walk) (sym is) (one_there walk))

in_high : (node : Node) (walk : List Constraint) → high_of node ≡ Some walk → Contains (walks_of node) walk
in_high node walk is =
    Contains-append_right (option_to_list (low_of node)) (option_to_list (high_of node)) walk
    (subst (λ o. Contains (option_to_list o) walk) (sym is) (one_there walk))

-- the walk that sets the bound is one of the leaf's and refutes the period before it, and the leaf leaves the bound
-- open
pub record IsSetting (l : LineData) (path : List Decision) (bound : ℕ) (node : Node)
    (walk : List Constraint) : Type 0 where
  pub there : Contains (walks_of node) walk
  pub refutes : RefutesPeriod l path (bound - 1) walk
  pub is_open : IsOpen l path node bound

pub setting : (l : LineData) (path : List Decision) (bound : ℕ) (node : Node) (walk : List Constraint)
    → setting_walk l path bound node ≡ Some walk
    → IsSetting l path bound node walk
setting l path bound node walk is =
    let (a, b, one) =
    set_is (gives l path bound (low_of node)) (gives l path bound (high_of node))
    (gives l path (bound - 1) (low_of node))
    (gives l path (bound - 1) (high_of node)) (low_of node) (high_of node) walk is in
    let is_open = open_by l path node bound a b in
    ⊎_elim
    (λ low. record {
      there = in_low node walk low.0;
      refutes = refuted_by l path (bound - 1) walk (ap (gives l path (bound - 1)) (sym low.0) ∙ low.1);
      is_open = is_open;
    })
    (λ high. record {
      there = in_high node walk high.0;
      refutes = refuted_by l path (bound - 1) walk (ap (gives l path (bound - 1)) (sym high.0) ∙ high.1);
      is_open = is_open;
    })
    one

by_test : {P : Type 0} (b : Bool) → (b ≡ true → P) → (b ≡ false → P) → P
by_test true f g = f refl
by_test false f g = g refl

-- some walk of a leaf refutes a period, or the leaf leaves it open
pub refuted_or_open : (l : LineData) (path : List Decision) (node : Node) (t : ℕ)
    → ((walk : List Constraint) × Contains (walks_of node) walk × RefutesPeriod l path t walk)
    ⊎ ((gives l path t (low_of node) ≡ false) × (gives l path t (high_of node) ≡ false) × IsOpen l path node t)
refuted_or_open l path node t =
    by_test (gives l path t (low_of node))
    (λ a. inl (some_low (low_of node) refl a))
    (λ a. by_test (gives l path t (high_of node)) (λ b. inl (some_high (high_of node) refl b))
    (λ b. inr (a, b, open_by l path node t a b)))
  where
    some_low : (o : Option (List Constraint)) → low_of node ≡ o → gives l path t (low_of node) ≡ true
        → (walk : List Constraint) × Contains (walks_of node) walk × RefutesPeriod l path t walk
    some_low None e a = absurd (false≢true (sym (ap (gives l path t) e) ∙ a))
    some_low (Some walk) e a = (walk, in_low node walk e, refuted_by l path t walk (sym (ap (gives l path t) e) ∙ a))

    some_high : (o : Option (List Constraint)) → high_of node ≡ o → gives l path t (high_of node) ≡ true
        → (walk : List Constraint) × Contains (walks_of node) walk × RefutesPeriod l path t walk
    some_high None e a = absurd (false≢true (sym (ap (gives l path t) e) ∙ a))
    some_high (Some walk) e a = (walk, in_high node walk e, refuted_by l path t walk (sym (ap (gives l path t) e) ∙ a))

-- a leaf that leaves the bound open, with a walk that refutes the period before it, has a walk that sets the bound
pub set_there : (l : LineData) (path : List Decision) (bound : ℕ) (node : Node) (walk : List Constraint)
    → gives l path bound (low_of node) ≡ false
    → gives l path bound (high_of node) ≡ false → Contains (walks_of node) walk → RefutesPeriod l path (bound - 1) walk
    → (x : List Constraint) × (setting_walk l path bound node ≡ Some x)
set_there l path bound node walk a b c gains =
    let low = low_of node in
    let high = high_of node in
    let p = gives l path (bound - 1) low in
    let q = gives l path (bound - 1) high in
    let A = gives l path bound low in
    let B = gives l path bound high in
    ⊎_elim
    (λ x.
    let is = same_one low walk x in (
      walk,
      set_low A B p q low high walk a b
          (ap (gives l path (bound - 1)) is ∙ given_by l path (bound - 1) walk gains) is,
    ))
    (λ y.
    let is = same_one high walk y in
    let e = ap (gives l path (bound - 1)) is ∙ given_by l path (bound - 1) walk gains in
    by_test p (λ f. from_low low refl f) (λ f. (walk, set_high A B p q low high walk a b f e is)))
    (Contains-append_cases (option_to_list low) (option_to_list high) walk c)
  where
    from_low : (o : Option (List Constraint)) → low_of node ≡ o → gives l path (bound - 1) (low_of node) ≡ true
        → (x : List Constraint) × (setting_walk l path bound node ≡ Some x)
    from_low None e f = absurd (false≢true (sym (ap (gives l path (bound - 1)) e) ∙ f))
    from_low (Some x) e f = (
      x,
      set_low (gives l path bound (low_of node)) (gives l path bound (high_of node))
          (gives l path (bound - 1) (low_of node))
          (gives l path (bound - 1) (high_of node)) (low_of node) (high_of node) x a b f e,
    )

-- a walk that refutes a period and not a later one refutes all before that
pub refuted_before : (w q : ℤ) (t m p : ℕ) → t ≤ m → m ≤ p → Refutes w q m → (Refutes w q p → ⊥) → Refutes w q t
refuted_before w q t m p le le' gains shut =
    ⊎_elim (λ given. given) (λ none. absurd (shut (refutes_later w q t m p le le' none gains)))
    (either (w +ℤ q *ℤ pos t))
  where
    either : (z : ℤ) → (pos 0 <ℤ z) ⊎ (pos 0 <ℤ z → ⊥)
    either z = by_lt_z (pos 0) z (λ lt. inl lt) (λ le. inr (λ lt. omega (arith, ints, le, lt)))

-- the walk that sets the bound can be summed
pub set_usable : (l : LineData) (path : List Decision) (bound : ℕ) (node : Node) (walk : List Constraint)
    → IsUsable l path (low_of node)
    → IsUsable l path (high_of node) → setting_walk l path bound node ≡ Some walk → IsClosedWalk l path walk
    × IsWalk walk
set_usable l path bound node walk low high is =
    let r =
    set_is (gives l path bound (low_of node)) (gives l path bound (high_of node))
    (gives l path (bound - 1) (low_of node))
    (gives l path (bound - 1) (high_of node)) (low_of node) (high_of node) walk is in
    ⊎_elim (λ x. subst (IsUsable l path) x.0 low) (λ y. subst (IsUsable l path) y.0 high) r.2
