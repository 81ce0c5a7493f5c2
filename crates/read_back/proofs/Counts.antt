-- The splits of a tree are those of its preorder: each node stands there once.
use Rattle.std.proofs.Common.{⊎_elim, None, Bool, true, false, ◌≡◌, ◌≢◌, ℕ, zero, suc, ◌+◌, ◌<◌, ◌≤◌, List, [], ◌∷◌, length, take, map, All, refl, sym, ap, subst, ◌∙◌, arith}
use Rattle.std.specs.Prelude.{count_by, Contains, if◌then◌else◌}
use Rattle.std.proofs.lemmas.Bool.{cases_eq}
use Rattle.std.proofs.lemmas.List.{take_all, get_or_default}
use Rattle.std.proofs.lemmas.List.Elements.{All-head, All-tail, Contains-get_or}
use Rattle.std.proofs.lemmas.List.Sums.{sum_by-cons, count_by_more_no, count_by_more_yes}
use Rattle.list_facts.proofs.Elements.{contains_first, contains_rest, contains_cases}
use Rattle.choice_tree.specs.declared.node.Node.{Node}
use Rattle.choice_tree.specs.declared.node.Node.TheVariants.{Left}
use Rattle.choice_tree.specs.Nodes.{node_at}
use Rattle.choice_tree.specs.Trees.{IsTree, preorder}
use Rattle.answer_text.proofs.OrderLemmas.{preorder_there}
use Rattle.cert_checker.specs.Reasons.{is_split, split_count}
use Rattle.cert_checker.proofs.DistinctLemmas.{AreDistinct, preorder_distinct, place_of_node}
use Rattle.answer_read.specs.Same.{unnumbered, said}
use Rattle.read_back.proofs.Nodes.{split_kept}

-- the weights of the numbers below n, added up
abbrev pub sum_below : (ℕ → ℕ) → ℕ → ℕ
sum_below w zero = 0
sum_below w (suc n) = sum_below w n + w n

-- the weights of the numbers in a list
abbrev pub weigh : (ℕ → ℕ) → List ℕ → ℕ
weigh w [] = 0
weigh w (x ∷ xs) = w x + weigh w xs

-- a weight where both numbers are one
abbrev pick : ℕ → ℕ → ℕ → ℕ
pick w zero zero = w
pick w zero (suc k) = 0
pick w (suc x) zero = 0
pick w (suc x) (suc k) = pick w x k

-- the weights of a list where the number is k
abbrev held : (ℕ → ℕ) → ℕ → List ℕ → ℕ
held w k [] = 0
held w k (x ∷ xs) = pick (w x) x k + held w k xs

pick_same : (w x : ℕ) → pick w x x ≡ w
pick_same w zero = refl
pick_same w (suc x) = pick_same w x

pick_other : (w x k : ℕ) → x ≢ k → pick w x k ≡ 0
pick_other w zero zero ne = absurd (ne refl)
pick_other w zero (suc k) ne = refl
pick_other w (suc x) zero ne = refl
pick_other w (suc x) (suc k) ne = pick_other w x k (λ e. ne (ap (λ (n : ℕ). suc n) e))

sum_same : (f g : ℕ → ℕ) (n : ℕ) → ((k : ℕ) → k < n → f k ≡ g k) → sum_below f n ≡ sum_below g n
sum_same f g zero h = refl
sum_same f g (suc n) h = omega (arith, sum_same f g n (λ k lt. h k (omega (arith, lt))), h n (omega arith))

sum_add : (f g : ℕ → ℕ) (n : ℕ) → sum_below (λ k. f k + g k) n ≡ sum_below f n + sum_below g n
sum_add f g zero = refl
sum_add f g (suc n) = omega (arith, sum_add f g n)

sum_none : (n : ℕ) → sum_below (λ k. 0) n ≡ 0
sum_none zero = refl
sum_none (suc n) = omega (arith, sum_none n)

sum_past : (w x n : ℕ) → n ≤ x → sum_below (pick w x) n ≡ 0
sum_past w x n le = sum_same (pick w x) (λ k. 0) n (λ k lt. pick_other w x k (λ e. omega (arith, e, lt, le))) ∙ sum_none n

sum_pick : (w x n : ℕ) → x < n → sum_below (pick w x) n ≡ w
sum_pick w x zero lt = absurd (omega (arith, lt))
sum_pick w x (suc n) lt =
    ⊎_elim
    (λ e. omega (arith, sum_past w x n (omega (arith, e)), ap (pick w x) (sym e), pick_same w x))
    (λ ne. omega (arith, sum_pick w x n (omega (arith, lt, ne)), pick_other w x n ne))
    (cases_eq x n)

-- a list's weights, number by number
by_numbers : (w : ℕ → ℕ) (n : ℕ) (xs : List ℕ) → All (λ x. x < n) xs → weigh w xs ≡ sum_below (λ k. held w k xs) n
by_numbers w n [] h = sym (sum_none n)
by_numbers w n (x ∷ xs) h =
    omega (
      arith,
      sum_add (pick (w x) x) (λ k. held w k xs) n,
      sum_pick (w x) x n (All-head (λ y. y < n) x xs h),
      by_numbers w n xs (All-tail (λ y. y < n) x xs h),
    )

held_none : (w : ℕ → ℕ) (k : ℕ) (xs : List ℕ) → (Contains xs k → ⊥) → held w k xs ≡ 0
held_none w k [] none = refl
held_none w k (x ∷ xs) none =
    let other : x ≢ k = λ e. none (let P : ℕ → Type 0 = λ n. Contains (x ∷ xs) n in subst P e (contains_first x xs)) in
    omega (arith, pick_other (w x) x k other, held_none w k xs (λ c. none (contains_rest x k xs c)))

rest_distinct : (x : ℕ) (xs : List ℕ) → AreDistinct (x ∷ xs) → AreDistinct xs
rest_distinct x xs h j k lt there e = h (suc j) (suc k) (omega (arith, lt)) (omega (arith, there)) e

first_distinct : (x : ℕ) (xs : List ℕ) → AreDistinct (x ∷ xs) → Contains xs x → ⊥
first_distinct x xs h (k, lt, e) = h 0 (suc k) (omega arith) (omega (arith, lt)) (sym e ∙ get_or_default xs k x 0 lt)

held_once : (w : ℕ → ℕ) (k : ℕ) (xs : List ℕ) → AreDistinct xs → Contains xs k → held w k xs ≡ w k
held_once w k [] distinct c = absurd (omega (arith, c.1))
held_once w k (x ∷ xs) distinct c =
    ⊎_elim
    (λ e.
    let C : ℕ → Type 0 = λ n. Contains xs n → ⊥ in
    let none : Contains xs k → ⊥ = subst C e (first_distinct x xs distinct) in
    let here : pick (w x) x k ≡ w k = ap (λ (n : ℕ). pick (w n) n k) e ∙ pick_same (w k) k in
    omega (arith, here, held_none w k xs none))
    (λ ne.
    let later : Contains xs k = ⊎_elim (λ e. absurd (ne e)) (λ r. r) (contains_cases x k xs c) in
    omega (arith, pick_other (w x) x k ne, held_once w k xs (rest_distinct x xs distinct) later))
    (cases_eq x k)

-- a list with each number below n once
pub each_once : (w : ℕ → ℕ) (n : ℕ) (xs : List ℕ) → All (λ x. x < n) xs → AreDistinct xs
    → ((k : ℕ) → k < n → Contains xs k) → weigh w xs ≡ sum_below w n
each_once w n xs below distinct all =
    by_numbers w n xs below ∙ sum_same (λ k. held w k xs) w n (λ k lt. held_once w k xs distinct (all k lt))

-- ---- splits

abbrev pub unit : Bool → ℕ
unit b = if b then 1 else 0

count_more : {X : Type 0} (p : X → Bool) (x : X) (xs : List X) → count_by p (x ∷ xs) ≡ unit (p x) + count_by p xs
count_more p x xs = sum_by-cons (λ y. unit (p y)) x xs

count_weighed : (p : Node → Bool) (f : ℕ → Node) (xs : List ℕ) → count_by p (map f xs) ≡ weigh (λ x. unit (p (f x))) xs
count_weighed p f [] = refl
count_weighed p f (x ∷ xs) = omega (arith, count_more p (f x) (map f xs), count_weighed p f xs)

take_next : (p : Node → Bool) (nodes : List Node) (n : ℕ) (b : Bool) → n < length nodes → p (node_at nodes n) ≡ b
    → count_by p (take (n + 1) nodes) ≡ count_by p (take n nodes) + unit b
take_next p nodes n true lt e = count_by_more_yes p nodes n (Left None) lt e
take_next p nodes n false lt e = omega (arith, count_by_more_no p nodes n (Left None) lt e)

count_below : (p : Node → Bool) (nodes : List Node) (n : ℕ) → n ≤ length nodes
    → count_by p (take n nodes) ≡ sum_below (λ i. unit (p (node_at nodes i))) n
count_below p nodes zero le = refl
count_below p nodes (suc n) le =
    let e : suc n ≡ n + 1 = omega arith in
    let next = take_next p nodes n (p (node_at nodes n)) (omega (arith, le)) refl in
    let count : count_by p (take (suc n) nodes) ≡ count_by p (take (n + 1) nodes) = ap (λ (k : ℕ). count_by p (take k nodes)) e in
    omega (arith, count, next, count_below p nodes n (omega (arith, le)))

weigh_same : (v w : ℕ → ℕ) (xs : List ℕ) → ((x : ℕ) → v x ≡ w x) → weigh v xs ≡ weigh w xs
weigh_same v w [] h = refl
weigh_same v w (x ∷ xs) h = omega (arith, h x, weigh_same v w xs h)

-- the splits of a tree, node by node in preorder
pub splits_weighed : (nodes : List Node) → IsTree nodes
    → weigh (λ i. unit (is_split (node_at nodes i))) (preorder nodes) ≡ split_count nodes
splits_weighed nodes tree =
    let w : ℕ → ℕ = λ i. unit (is_split (node_at nodes i)) in
    let there : (k : ℕ) → k < length nodes → Contains (preorder nodes) k =
    λ k lt. let (n, in_it, is) = place_of_node nodes tree k lt in let P : ℕ → Type 0 = λ i. Contains (preorder nodes) i in
    subst P is (Contains-get_or (preorder nodes) n 0 in_it) in
    each_once w (length nodes) (preorder nodes) (preorder_there nodes tree) (preorder_distinct nodes tree) there
    ∙ sym (count_below is_split nodes (length nodes) (omega arith))
    ∙ ap (λ (xs : List Node). count_by is_split xs) (take_all (length nodes) nodes (omega arith))

-- the splits of a tree are those that it says
pub splits_said : (nodes : List Node) → IsTree nodes → count_by is_split (said nodes) ≡ split_count nodes
splits_said nodes tree =
    let w : ℕ → ℕ = λ i. unit (is_split (node_at nodes i)) in
    let v : ℕ → ℕ = λ i. unit (is_split (unnumbered (node_at nodes i))) in
    count_weighed is_split (λ i. unnumbered (node_at nodes i)) (preorder nodes)
    ∙ weigh_same v w (preorder nodes) (λ i. ap unit (split_kept (node_at nodes i)))
    ∙ splits_weighed nodes tree
