-- The hoists that reach a motion, as the code counts them.
use Rattle.std.proofs.Common.{◌≡◌, ℕ, suc, ◌+◌, ◌-◌, ◌*◌, ◌<◌, ◌≤◌, List, [], ◌∷◌, ◌++◌, length, Bool, true, false, refl, sym, ◌∙◌, ap, arith, Some, None, cond, ◌&&◌, nat_le}
use Rattle.std.specs.Prelude.{Option, filter, slice_get}
use Rattle.std.proofs.lemmas.Bool.{le-leb, leb-true}
use Rattle.hoist_base.specs.LineData.{LineData}
use Rattle.line_model.specs.declared.motion.Motion.{Motion}
use Rattle.line_model.specs.Motion.{ReachesMotion}
use Rattle.choice_tree.specs.Nodes.{numbers_from}
use Rattle.choice_tree.proofs.NodeLemmas.{numbers_from-push}
use Rattle.path_constraints.specs.Hoists.{reaches, reaches_motion, hoist_by}

and_true : (a b : Bool) → a ≡ true → b ≡ true → (a && b) ≡ true
and_true a b e f = ap (λ (x : Bool). x && b) e ∙ f

and_both : (a b : Bool) → (a && b) ≡ true → (a ≡ true) × (b ≡ true)
and_both true b e = (refl, e)
and_both false b e = cc

true_or_false : (b : Bool) → (b ≡ true → ⊥) → b ≡ false
true_or_false true h = absurd (h refl)
true_or_false false h = refl

pub reaches_yes : (l : LineData) (h : ℕ) (m : Motion) → ReachesMotion l h m → reaches_motion l h m ≡ true
reaches_yes l h m r =
    and_true (reaches l h m.from) (reaches l h m.to)
    (and_true (nat_le (h * l.gap) m.from) (nat_le (m.from + (l.hoists - 1 - h) * l.gap) l.track) (le-leb _ _ r.0.0) (le-leb _ _ r.0.1))
    (and_true (nat_le (h * l.gap) m.to) (nat_le (m.to + (l.hoists - 1 - h) * l.gap) l.track) (le-leb _ _ r.1.0) (le-leb _ _ r.1.1))

pub reaches_is : (l : LineData) (h : ℕ) (m : Motion) → reaches_motion l h m ≡ true → ReachesMotion l h m
reaches_is l h m e =
    let both = and_both (reaches l h m.from) (reaches l h m.to) e in
    let a = and_both (nat_le (h * l.gap) m.from) (nat_le (m.from + (l.hoists - 1 - h) * l.gap) l.track) both.0 in
    let b = and_both (nat_le (h * l.gap) m.to) (nat_le (m.to + (l.hoists - 1 - h) * l.gap) l.track) both.1 in
    ((leb-true _ _ a.0, leb-true _ _ a.1), (leb-true _ _ b.0, leb-true _ _ b.1))

pub reaches_no : (l : LineData) (h : ℕ) (m : Motion) → (ReachesMotion l h m → ⊥) → reaches_motion l h m ≡ false
reaches_no l h m r = true_or_false (reaches_motion l h m) (λ e. r (reaches_is l h m e))

-- ---- counting
filter_yes : (f : ℕ → Bool) (xs : List ℕ) (x : ℕ) → f x ≡ true → filter f (x ∷ xs) ≡ x ∷ filter f xs
filter_yes f xs x e = ap (λ (b : Bool). cond b (x ∷ filter f xs) (filter f xs)) e

filter_no : (f : ℕ → Bool) (xs : List ℕ) (x : ℕ) → f x ≡ false → filter f (x ∷ xs) ≡ filter f xs
filter_no f xs x e = ap (λ (b : Bool). cond b (x ∷ filter f xs) (filter f xs)) e

pub count_end_yes : (f : ℕ → Bool) (xs : List ℕ) (x : ℕ) → f x ≡ true
    → length (filter f (xs ++ x ∷ [])) ≡ length (filter f xs) + 1
count_end_yes f [] x e = ap (λ (ys : List ℕ). length ys) (filter_yes f [] x e)
count_end_yes f (y ∷ ys) x e = at_head (f y) refl (count_end_yes f ys x e)
  where
    at_head : (b : Bool) → f y ≡ b → length (filter f (ys ++ x ∷ [])) ≡ length (filter f ys) + 1
        → length (filter f (y ∷ ys ++ x ∷ [])) ≡ length (filter f (y ∷ ys)) + 1
    at_head true h more =
        let left = ap (λ (zs : List ℕ). length zs) (filter_yes f (ys ++ x ∷ []) y h) in
        let right = ap (λ (zs : List ℕ). length zs) (filter_yes f ys y h) in
        omega (arith, left, right, more)
    at_head false h more =
        let left = ap (λ (zs : List ℕ). length zs) (filter_no f (ys ++ x ∷ []) y h) in
        let right = ap (λ (zs : List ℕ). length zs) (filter_no f ys y h) in
        omega (arith, left, right, more)

pub count_end_no : (f : ℕ → Bool) (xs : List ℕ) (x : ℕ) → f x ≡ false
    → length (filter f (xs ++ x ∷ [])) ≡ length (filter f xs)
count_end_no f [] x e = ap (λ (ys : List ℕ). length ys) (filter_no f [] x e)
count_end_no f (y ∷ ys) x e = at_head (f y) refl (count_end_no f ys x e)
  where
    at_head : (b : Bool) → f y ≡ b → length (filter f (ys ++ x ∷ [])) ≡ length (filter f ys)
        → length (filter f (y ∷ ys ++ x ∷ [])) ≡ length (filter f (y ∷ ys))
    at_head true h more =
        let left = ap (λ (zs : List ℕ). length zs) (filter_yes f (ys ++ x ∷ []) y h) in
        let right = ap (λ (zs : List ℕ). length zs) (filter_yes f ys y h) in
        omega (arith, left, right, more)
    at_head false h more =
        let left = ap (λ (zs : List ℕ). length zs) (filter_no f (ys ++ x ∷ []) y h) in
        let right = ap (λ (zs : List ℕ). length zs) (filter_no f ys y h) in
        omega (arith, left, right, more)

next_numbers : (h : ℕ) → numbers_from 0 (h + 1) ≡ numbers_from 0 h ++ h ∷ []
next_numbers h =
    let e : h + 1 ≡ suc h = omega arith in
    let f : 0 + h ≡ h = omega arith in
    ap (λ (n : ℕ). numbers_from 0 n) e ∙ numbers_from-push 0 h ∙ ap (λ (n : ℕ). numbers_from 0 h ++ n ∷ []) f

pub counted_yes : (f : ℕ → Bool) (h n m : ℕ) → n ≡ length (filter f (numbers_from 0 h)) → f h ≡ true → m ≡ n + 1
    → m ≡ length (filter f (numbers_from 0 (h + 1)))
counted_yes f h n m is e up =
    let more = ap (λ (xs : List ℕ). length (filter f xs)) (next_numbers h) in
    omega (arith, is, up, more, count_end_yes f (numbers_from 0 h) h e)

pub counted_no : (f : ℕ → Bool) (h n m : ℕ) → n ≡ length (filter f (numbers_from 0 h)) → f h ≡ false → m ≡ n
    → m ≡ length (filter f (numbers_from 0 (h + 1)))
counted_no f h n m is e same =
    let more = ap (λ (xs : List ℕ). length (filter f xs)) (next_numbers h) in
    omega (arith, is, same, more, count_end_no f (numbers_from 0 h) h e)

-- ---- finding
first_number : (h n : ℕ) → h < n → numbers_from h (n - h) ≡ h ∷ numbers_from (h + 1) (n - (h + 1))
first_number h n lt = let e : n - h ≡ suc (n - (h + 1)) = omega arith in ap (λ (m : ℕ). numbers_from h m) e

pub found_here : (f : ℕ → Bool) (h n left : ℕ) (o : Option ℕ) → h < n → f h ≡ true → left ≡ 0
    → slice_get (filter f (numbers_from h (n - h))) left ≡ o
    → Some h ≡ o
found_here f h n left o lt e first all =
    let xs : filter f (numbers_from h (n - h)) ≡ h ∷ filter f (numbers_from (h + 1) (n - (h + 1))) =
    ap (λ (ys : List ℕ). filter f ys) (first_number h n lt) ∙ filter_yes f (numbers_from (h + 1) (n - (h + 1))) h e in
    sym (ap (λ (k : ℕ). slice_get (filter f (numbers_from h (n - h))) k) first ∙ ap (λ (ys : List ℕ). slice_get ys 0) xs) ∙ all

pub found_later : (f : ℕ → Bool) (h n left next : ℕ) (o : Option ℕ) → h < n → f h ≡ true → left ≡ suc next
    → slice_get (filter f (numbers_from h (n - h))) left ≡ o
    → slice_get (filter f (numbers_from (h + 1) (n - (h + 1)))) next ≡ o
found_later f h n left next o lt e more all =
    let xs : filter f (numbers_from h (n - h)) ≡ h ∷ filter f (numbers_from (h + 1) (n - (h + 1))) =
    ap (λ (ys : List ℕ). filter f ys) (first_number h n lt) ∙ filter_yes f (numbers_from (h + 1) (n - (h + 1))) h e in
    sym (ap (λ (k : ℕ). slice_get (filter f (numbers_from h (n - h))) k) more ∙ ap (λ (ys : List ℕ). slice_get ys (suc next)) xs) ∙ all

pub found_past : (f : ℕ → Bool) (h n left : ℕ) (o : Option ℕ) → h < n → f h ≡ false
    → slice_get (filter f (numbers_from h (n - h))) left ≡ o
    → slice_get (filter f (numbers_from (h + 1) (n - (h + 1)))) left ≡ o
found_past f h n left o lt e all =
    let xs : filter f (numbers_from h (n - h)) ≡ filter f (numbers_from (h + 1) (n - (h + 1))) =
    ap (λ (ys : List ℕ). filter f ys) (first_number h n lt) ∙ filter_no f (numbers_from (h + 1) (n - (h + 1))) h e in
    sym (ap (λ (ys : List ℕ). slice_get ys left) xs) ∙ all

-- ---- which hoist
pub few_hoists : (hs : List ℕ) (o : Option ℕ) → length hs < 2 → slice_get hs 0 ≡ hoist_by hs o
few_hoists [] o few = refl
few_hoists (h ∷ []) o few = refl
few_hoists (h ∷ g ∷ hs) o few = absurd (omega (arith, few))

pub no_hoist : (hs : List ℕ) → 2 ≤ length hs → None ≡ hoist_by hs None
no_hoist [] some = absurd (omega (arith, some))
no_hoist (h ∷ []) some = absurd (omega (arith, some))
no_hoist (h ∷ g ∷ hs) some = refl

pub some_hoist : (hs : List ℕ) (n : ℕ) → 2 ≤ length hs → slice_get hs n ≡ hoist_by hs (Some n)
some_hoist [] n some = absurd (omega (arith, some))
some_hoist (h ∷ []) n some = absurd (omega (arith, some))
some_hoist (h ∷ g ∷ hs) n some = refl
