-- What stays when one node is written, and rows of numbers.
use Rattle.std.proofs.Common.{⊎_elim, ◌≡◌, ◌≢◌, ℕ, zero, suc, ◌+◌, ◌<◌, List, [], ◌∷◌, ◌++◌, length, get_or, refl, sym, ◌∙◌, ap, subst, arith, None}
use Rattle.std.proofs.lemmas.List.{get_or_past}
use Rattle.std.proofs.lemmas.Bool.{cases_lt}
use Rattle.choice_tree.specs.declared.question.Decision.{Decision}
use Rattle.choice_tree.specs.declared.node.Node.{Node}
use Rattle.choice_tree.specs.declared.node.Node.TheVariants.{Split, Closed, Stuck, Solved, Left}
use Rattle.choice_tree.specs.Nodes.{node_at, IsLeft, IsLeaf, children_of, IsChild, Branches, numbers_from}

pub length-numbers_from : (first count : ℕ) → length (numbers_from first count) ≡ count
length-numbers_from first zero = refl
length-numbers_from first (suc count) = ap (λ (n : ℕ). suc n) (length-numbers_from (first + 1) count)

pub get_or-numbers_from : (first count m d : ℕ) → m < count → get_or (numbers_from first count) m d ≡ first + m
get_or-numbers_from first zero m d lt = absurd (omega arith)
get_or-numbers_from first (suc count) zero d lt = omega arith
get_or-numbers_from first (suc count) (suc m) d lt = omega (arith, get_or-numbers_from (first + 1) count m d (omega arith))

pub numbers_from-push : (first count : ℕ)
    → numbers_from first (suc count) ≡ numbers_from first count ++ (first + count) ∷ []
numbers_from-push first zero = let e : first ≡ first + 0 = omega arith in ap (λ (n : ℕ). n ∷ []) e
numbers_from-push first (suc count) =
    let e : first + 1 + count ≡ first + suc count = omega arith in
    ap (λ (xs : List ℕ). first ∷ xs) (numbers_from-push (first + 1) count ∙ ap (λ (n : ℕ). numbers_from (first + 1) count ++ n ∷ []) e)

pub numbers_from_more : (first count : ℕ)
    → numbers_from first (count + 1) ≡ numbers_from first count ++ (first + count) ∷ []
numbers_from_more first count =
    let e : count + 1 ≡ suc count = omega arith in
    ap (λ (n : ℕ). numbers_from first n) e ∙ numbers_from-push first count

pub left_has_none : (n : Node) → IsLeft n → children_of n ≡ []
left_has_none (Split question children) h = absurd h
left_has_none (Closed low high) h = refl
left_has_none (Stuck m) h = refl
left_has_none (Solved low) h = refl
left_has_none (Left low) h = refl

pub leaf_has_none : (n : Node) → IsLeaf n → children_of n ≡ []
leaf_has_none (Split question children) h = absurd h
leaf_has_none (Closed low high) h = refl
leaf_has_none (Stuck m) h = refl
leaf_has_none (Solved low) h = refl
leaf_has_none (Left low) h = refl

pub split_is_not_left : (n : Node) (d : Decision) (children : List ℕ) → n ≡ Split d.question children → IsLeft n → ⊥
split_is_not_left n d children e h = let h' = subst IsLeft e h in h'

-- the children of a node are what its list of children says
pub child_same : (old new : List Node) (i m j : ℕ) → children_of (node_at new i) ≡ children_of (node_at old i)
    → IsChild new i m j → IsChild old i m j
child_same old new i m j e h =
    let There : List ℕ → Type 0 = λ cs. m < length cs in
    let Is : List ℕ → Type 0 = λ cs. get_or cs m 0 ≡ j in
    record { there = subst There e h.there; child = subst Is e h.child }

-- a node without children is nobody's parent
pub no_child : (nodes : List Node) (i m j : ℕ) → children_of (node_at nodes i) ≡ [] → IsChild nodes i m j → ⊥
no_child nodes i m j e h =
    let There : List ℕ → Type 0 = λ cs. m < length cs in
    let none = subst There e h.there in
    absurd (omega arith)

-- a split that branches is there
pub branches_there : (nodes : List Node) (i : ℕ) (d : Decision) (j : ℕ) → Branches nodes i d j → i < length nodes
branches_there nodes i d j b =
    ⊎_elim (λ lt. lt)
    (λ le. let e : node_at nodes i ≡ Left None = get_or_past nodes i
    (Left None) le in absurd (split_is_not_left (node_at nodes i) d b.children b.split
    (let P : Node → Type 0 = λ n. IsLeft n in subst P (sym e) tt)))
    (cases_lt i (length nodes))

-- the decision of a child
pub branch_child : (nodes : List Node) (i : ℕ) (d : Decision) (j : ℕ) → Branches nodes i d j → IsChild nodes i d.child j
branch_child nodes i d j b =
    let e : b.children ≡ children_of (node_at nodes i) = sym (ap children_of b.split) in
    let There : List ℕ → Type 0 = λ cs. d.child < length cs in
    let Is : List ℕ → Type 0 = λ cs. get_or cs d.child 0 ≡ j in
    record { there = subst There e b.there; child = subst Is e b.child }

-- a split branches as before where only a node that was left, and nodes behind, are new
pub branches_kept : (old new : List Node) (n i : ℕ) (d : Decision) (j : ℕ) → IsLeft (node_at old n)
    → ((k : ℕ) → k ≢ n → k < length old → node_at new k ≡ node_at old k) → Branches old i d j → Branches new i d j
branches_kept old new n i d j left same b =
    let lt = branches_there old i d j b in
    let other : i ≢ n = λ e. split_is_not_left (node_at old i) d b.children b.split
    (let P : ℕ → Type 0 = λ k. IsLeft (node_at old k) in subst P (sym e) left) in
    record { children = b.children; split = same i other lt ∙ b.split; there = b.there; child = b.child }
