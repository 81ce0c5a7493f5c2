-- A walk, one constraint after another.
use Rattle.std.proofs.Common.{◌≡◌, ℕ, zero, suc, ◌+◌, ◌-◌, ◌*◌, ◌<◌, ◌≤◌, ◌==◌, ⊎_elim, List, [], ◌∷◌, ◌++◌, length, get_or, take, Bool, true, false, Option, Some, None, ℤ, ◌+ℤ◌, refl, sym, ap, subst, ◌∙◌, arith, eqb-true, if◌then◌else◌}
use Rattle.std.specs.Prelude.{unsigned_abs, MatchOption}
use Rattle.std.specs.Option.{option_or}
use Rattle.std.proofs.lemmas.Int.{ints}
use Rattle.std.proofs.lemmas.Bool.{cases_lt, false≢true, eq-eqb}
use Rattle.std.proofs.lemmas.List.{take_all, take_more, get_or_append_left}
use Rattle.std.proofs.Math.Seq.{get_or-append_seam}
use Rattle.hoist_base.specs.LineData.{LineData}
use Rattle.choice_tree.specs.declared.question.Decision.{Decision}
use Rattle.choice_tree.specs.declared.constraint.Constraint.{Constraint}
use Rattle.choice_tree.specs.declared.constraint.Constraint.TheVariants.{Min}
use Rattle.longest_path.specs.declared.systems.Arc.{Arc}
use Rattle.longest_path.specs.System.{IsArc}
use Rattle.path_constraints.specs.Constraints.{IsConstraint, arc_of}
use Rattle.path_constraints.specs.Proves.{sum_w, sum_q}
use Rattle.cycle_walk.specs.declared.sums.Sums.{Sums}
use Rattle.cert_checker.specs.Walks.{followers, token_at}
use Rattle.cert_checker.specs.Flaws.{sums_of}
use Rattle.cert_checker.specs.Followed.{IsTied, IsFirstLoose}

-- ---- the first of some numbers that fails

-- the first number below n at which T fails, or none
abbrev pub FirstFail : (ℕ → Type 0) → ℕ → Option ℕ → Type 0
FirstFail T n answer = MatchOption answer ((k : ℕ) → k < n → T k) (λ j. (j < n) × (T j → ⊥) × ((k : ℕ) → k < j → T k))

test_cases : (m n : ℕ) (P : Option ℕ → Type 0) (place : ℕ) → (m ≡ n → P None) → ((m ≡ n → ⊥) → P (Some place))
    → P (if m == n then None else Some place)
test_cases m n P place same differ = by_test (m == n) refl
  where
    by_test : (b : Bool) → (m == n) ≡ b → P (if b then None else Some place)
    by_test true e = same (eqb-true m n e)
    by_test false e = differ (λ here. false≢true (sym e ∙ eq-eqb m n here))

pub fail_more : (T : ℕ → Type 0) (n m : ℕ) (o : Option ℕ) (end begin : ℕ) → m ≡ n + 1 → (end ≡ begin → T n)
    → (T n → end ≡ begin) → FirstFail T n o
    → FirstFail T m (option_or o (if end == begin then None else Some n))
fail_more T n m (Some j) end begin next ties breaks (lt, bad, good) = (omega (arith, lt, next), bad, good)
fail_more T n m None end begin next ties breaks all =
    test_cases end begin (FirstFail T m) n
    (λ same k lt. ⊎_elim (λ below. all k below) (λ ge. let e : n ≡ k = omega (arith, lt, ge, next) in subst T e (ties same)) (cases_lt k n))
    (λ differ. (omega (arith, next), λ here. differ (breaks here), all))

-- ---- the next constraint of a walk

pub next_inside : (xs : List Constraint) (k : ℕ) (d : Constraint) → k + 1 < length xs
    → get_or (followers xs) k d ≡ get_or xs (k + 1) d
next_inside [] k d lt = absurd (omega (arith, lt))
next_inside (t ∷ ts) k d lt =
    let e : k + 1 ≡ suc k = omega arith in
    get_or_append_left ts (t ∷ []) d k (omega (arith, lt)) ∙ sym (ap (λ (n : ℕ). get_or (t ∷ ts) n d) e)

pub next_around : (xs : List Constraint) (k : ℕ) (d : Constraint) → k + 1 ≡ length xs
    → get_or (followers xs) k d ≡ get_or xs 0 d
next_around [] k d e = absurd (omega (arith, e))
next_around (t ∷ ts) k d e =
    let at : k ≡ length ts = omega (arith, e) in
    ap (λ (n : ℕ). get_or (ts ++ t ∷ []) n d) at ∙ get_or-append_seam ts t [] d

-- ---- sums

sum_w-push : (l : LineData) (path : List Decision) (ts : List Constraint) (t : Constraint)
    → sum_w l path (ts ++ t ∷ []) ≡ sum_w l path ts +ℤ (arc_of l path t).w
sum_w-push l path [] t = omega (arith, ints)
sum_w-push l path (x ∷ ts) t = omega (arith, ints, sum_w-push l path ts t)

sum_q-push : (l : LineData) (path : List Decision) (ts : List Constraint) (t : Constraint)
    → sum_q l path (ts ++ t ∷ []) ≡ sum_q l path ts +ℤ (arc_of l path t).q
sum_q-push l path [] t = omega (arith, ints)
sum_q-push l path (x ∷ ts) t = omega (arith, ints, sum_q-push l path ts t)

-- ---- the first constraints of a walk

-- the first j constraints are on the path: where the last of them ends, their sums, and the first that isn't tied to
-- the next
pub record Along (l : LineData) (path : List Decision) (xs : List Constraint) (j end : ℕ) (w q : ℤ) (loose : Option ℕ) : Type 0 where
  pub there : (k : ℕ) → k < j → IsConstraint l path (token_at xs k)
  pub ends : end ≡ (arc_of l path (token_at xs (j - 1))).to
  pub is_w : w ≡ sum_w l path (take j xs)
  pub is_q : q ≡ sum_q l path (take j xs)
  pub small_w : unsigned_abs w ≤ j * 10000000
  pub small_q : unsigned_abs q ≤ j * 1000000000
  pub fails : FirstFail (IsTied l path xs) (j - 1) loose

pub along_start : (l : LineData) (path : List Decision) (xs : List Constraint) (n : ℕ) (a : Arc) (w q : ℤ)
    → 1 ≤ length xs → IsConstraint l path (token_at xs 0)
    → a ≡ arc_of l path (token_at xs 0) → IsArc n a → w ≡ a.w → q ≡ a.q → Along l path xs 1 a.to w q None
along_start l path [] n a w q some here at small w_is q_is = absurd (omega (arith, some))
along_start l path (x ∷ xs) n a w q some here at small w_is q_is =
    let w_at : w ≡ (arc_of l path x).w = w_is ∙ ap (λ (b : Arc). b.w) at in
    let q_at : q ≡ (arc_of l path x).q = q_is ∙ ap (λ (b : Arc). b.q) at in
    record {
      there = first x xs here;
      ends = ap (λ (b : Arc). b.to) at;
      is_w = omega (arith, ints, w_at);
      is_q = omega (arith, ints, q_at);
      small_w = omega (arith, small.2, ap (λ (z : ℤ). unsigned_abs z) w_is);
      small_q = omega (arith, small.3, ap (λ (z : ℤ). unsigned_abs z) q_is);
      fails = λ k lt. absurd (omega (arith, lt));
    }
  where
    first : (x : Constraint) (xs : List Constraint) → IsConstraint l path x → (k : ℕ) → k < 1
        → IsConstraint l path (token_at (x ∷ xs) k)
    first x xs h zero lt = h
    first x xs h (suc k) lt = absurd (omega (arith, lt))

pub along_more : (l : LineData) (path : List Decision) (xs : List Constraint) (j end : ℕ) (w q : ℤ) (loose : Option ℕ) (n : ℕ) (a : Arc) (w' q' : ℤ)
    (loose' : Option ℕ)
    → 1 ≤ j → j < length xs → Along l path xs j end w q loose → IsConstraint l path (token_at xs j)
    → a ≡ arc_of l path (token_at xs j) → IsArc n a
    → w' ≡ w +ℤ a.w → q' ≡ q +ℤ a.q → loose' ≡ option_or loose (if end == a.from then None else Some (j - 1))
    → Along l path xs (j + 1) a.to w' q' loose'
along_more l path xs j end w q loose n a w' q' loose' some lt along here at small w_is q_is loose_is =
    let w_at : a.w ≡ (arc_of l path (token_at xs j)).w = ap (λ (b : Arc). b.w) at in
    let q_at : a.q ≡ (arc_of l path (token_at xs j)).q = ap (λ (b : Arc). b.q) at in
    let begin : a.from ≡ (arc_of l path (token_at xs j)).from = ap (λ (b : Arc). b.from) at in
    let more : take (j + 1) xs ≡ take j xs ++ token_at xs j ∷ [] = take_more xs j (Min 0 0) lt in
    let sum : sum_w l path (take (j + 1) xs) ≡ sum_w l path (take j xs) +ℤ (arc_of l path (token_at xs j)).w =
    ap (λ (ts : List Constraint). sum_w l path ts) more ∙ sum_w-push l path (take j xs) (token_at xs j) in
    let sum' : sum_q l path (take (j + 1) xs) ≡ sum_q l path (take j xs) +ℤ (arc_of l path (token_at xs j)).q =
    ap (λ (ts : List Constraint). sum_q l path ts) more ∙ sum_q-push l path (take j xs) (token_at xs j) in
    let e : j - 1 + 1 ≡ j = omega (arith, some) in
    let next : token_at (followers xs) (j - 1) ≡ token_at xs j =
    next_inside xs (j - 1) (Min 0 0) (omega (arith, lt, some)) ∙ ap (λ (n : ℕ). get_or xs n (Min 0 0)) e in
    let from : (arc_of l path (token_at (followers xs) (j - 1))).from ≡ a.from = ap (λ (u : Constraint). (arc_of l path u).from) next ∙ sym begin in
    let F : Option ℕ → Type 0 = λ o. FirstFail (IsTied l path xs) (j + 1 - 1) o in
    let f : j + 1 - 1 ≡ j - 1 + 1 = omega (arith, some) in
    let g : j ≡ j + 1 - 1 = omega arith in
    record {
      there =
          λ k below. ⊎_elim (λ less. along.there k less)
          (λ ge. let same : j ≡ k = omega (arith, below, ge) in let Q : ℕ → Type 0 = λ n. IsConstraint l path (token_at xs n) in subst Q same here)
          (cases_lt k j);
      ends = ap (λ (b : Arc). b.to) at ∙ ap (λ (n : ℕ). (arc_of l path (token_at xs n)).to) g;
      is_w = omega (arith, ints, w_is, along.is_w, w_at, sum);
      is_q = omega (arith, ints, q_is, along.is_q, q_at, sum');
      small_w = omega (arith, ints, w_is, along.small_w, small.2);
      small_q = omega (arith, ints, q_is, along.small_q, small.3);
      fails =
          subst F (sym loose_is) (fail_more (IsTied l path xs) (j - 1) (j + 1 - 1) loose end a.from f (λ same. sym along.ends ∙ same ∙ sym from)
          (λ tied. along.ends ∙ tied ∙ from) along.fails);
    }

-- the last constraint, which is to end where the first begins
pub along_all : (l : LineData) (path : List Decision) (xs : List Constraint) (j end : ℕ) (w q : ℤ) (loose : Option ℕ) (begin place : ℕ) (loose' : Option ℕ)
    → 1 ≤ length xs → j ≡ length xs → Along l path xs j end w q loose
    → begin ≡ (arc_of l path (token_at xs 0)).from → place ≡ j - 1
    → loose' ≡ option_or loose (if end == begin then None else Some place)
    → IsFirstLoose l path xs loose'
along_all l path xs j end w q loose begin place loose' some all along first at loose_is =
    let next : token_at (followers xs) (j - 1) ≡ token_at xs 0 = next_around xs (j - 1) (Min 0 0) (omega (arith, some, all)) in
    let from : (arc_of l path (token_at (followers xs) (j - 1))).from ≡ begin = ap (λ (u : Constraint). (arc_of l path u).from) next ∙ sym first in
    let F : Option ℕ → Type 0 = λ o. FirstFail (IsTied l path xs) (length xs) o in
    let f : length xs ≡ j - 1 + 1 = omega (arith, some, all) in
    let G : ℕ → Type 0 = λ n. F (option_or loose (if end == begin then None else Some n)) in
    subst F (sym loose_is) (subst G (sym at)
    (fail_more (IsTied l path xs) (j - 1) (length xs) loose end begin f (λ same. sym along.ends ∙ same ∙ sym from)
    (λ tied. along.ends ∙ tied ∙ from) along.fails))

pub whole_sums : (l : LineData) (path : List Decision) (xs : List Constraint) (j end : ℕ) (w q : ℤ) (loose : Option ℕ)
    → j ≡ length xs
    → Along l path xs j end w q loose → (w ≡ sum_w l path xs) × (q ≡ sum_q l path xs)
whole_sums l path xs j end w q loose all along =
    let e : take j xs ≡ xs = take_all j xs (omega (arith, all)) in
    (along.is_w ∙ ap (λ (ts : List Constraint). sum_w l path ts) e, along.is_q ∙ ap (λ (ts : List Constraint). sum_q l path ts) e)

pub sums_are : (l : LineData) (path : List Decision) (xs : List Constraint) (w q : ℤ) → w ≡ sum_w l path xs
    → q ≡ sum_q l path xs
    → (let s : Sums = record { w = w; q = q } in s ≡ sums_of l path xs)
sums_are l path xs w q e f =
    let make : ℤ → ℤ → Sums = λ x y. record { w = x; q = y } in
    ap (λ (x : ℤ). make x q) e ∙ ap (λ (y : ℤ). make (sum_w l path xs) y) f
