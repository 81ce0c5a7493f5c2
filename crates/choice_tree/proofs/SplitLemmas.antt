-- A tree stays a tree when a node that is left becomes a leaf or a split.
use Rattle.std.proofs.Common.{⊎_elim, ◌≡◌, ◌≢◌, ℕ, zero, suc, ◌+◌, ◌-◌, ◌^◌, ◌<◌, ◌≤◌, List, [], ◌∷◌, ◌++◌, length, get_or, set, replicate, refl, sym, ◌∙◌, ap, subst, arith, Some, None}
use Rattle.std.proofs.lemmas.List.{get_or_past, get_or-set_same, get_or-set_other, length-set, length-append, length-replicate, get_or_append_left, get_or-append_right, get_or-replicate}
use Rattle.std.proofs.lemmas.Bool.{cases_lt, cases_eq}
use Rattle.choice_tree.specs.declared.question.Question.{Question}
use Rattle.choice_tree.specs.declared.constraint.Constraint.{Constraint}
use Rattle.choice_tree.specs.declared.tree.Origin.{Origin}
use Rattle.choice_tree.specs.declared.node.Node.{Node}
use Rattle.choice_tree.specs.declared.node.Node.TheVariants.{Split, Left}
use Rattle.choice_tree.specs.Nodes.{node_at, IsLeft, IsLeaf, children_of, IsChild, numbers_from, split_at}
use Rattle.choice_tree.specs.Trees.{IsTree}
use Rattle.choice_tree.specs.Origins.{HasOrigins, AreOriginsOf}
use Rattle.choice_tree.proofs.NodeLemmas.{length-numbers_from, get_or-numbers_from, left_has_none, leaf_has_none, child_same, no_child, branches_kept}

-- the same children everywhere: the same tree
same_tree : (old new : List Node) → length new ≡ length old
    → ((i : ℕ) → children_of (node_at new i) ≡ children_of (node_at old i)) → IsTree old → IsTree new
same_tree old new count same tree = record {
  root = omega (arith, tree.root, count);
  small = omega (arith, tree.small, count);
  few = λ i. let e : length (children_of (node_at new i)) ≡ length (children_of (node_at old i)) = ap
      (λ (cs : List ℕ). length cs) (same i) in omega (arith, e, tree.few i);
  later = λ i m j h. let r = tree.later i m j (child_same old new i m j (same i) h) in (r.0, omega (arith, r.1, count));
  one_parent = λ i m i' m' j h h'. tree.one_parent i m i' m' j (child_same old new i m j (same i) h) (child_same old new i' m' j (same i') h');
  has_parent = λ j above there.
      let r = tree.has_parent j above (omega (arith, there, count)) in
      (r.0, r.1, child_same new old r.0 r.1 j (sym (same r.0)) r.2);
}

set_other_node : (nodes : List Node) (n : ℕ) (v : Node) (k : ℕ) → k ≢ n → node_at (set nodes n v) k ≡ node_at nodes k
set_other_node nodes n v k ne = get_or-set_other nodes n k v (Left None) ne

-- a leaf in the place of a node that was left
pub end_is_tree : (nodes : List Node) (n : ℕ) (leaf : Node) → IsTree nodes → n < length nodes → IsLeft (node_at nodes n)
    → IsLeaf leaf → IsTree (set nodes n leaf)
end_is_tree nodes n leaf tree lt left is_leaf =
    same_tree nodes (set nodes n leaf) (length-set nodes n leaf)
    (λ i.
    ⊎_elim
    (λ e.
    let P : ℕ → Type 0 = λ k. children_of (node_at (set nodes n leaf) k) ≡ children_of (node_at nodes k) in
    subst P (sym e) (ap children_of (get_or-set_same nodes n leaf (Left None) lt) ∙ leaf_has_none leaf is_leaf ∙ sym (left_has_none (node_at nodes n) left)))
    (λ ne. ap children_of (set_other_node nodes n leaf i ne))
    (cases_eq i n))
    tree

pub end_has_origins : (nodes : List Node) (origins : List Origin) (n : ℕ) (leaf : Node) → HasOrigins nodes origins
    → IsLeft (node_at nodes n) → HasOrigins (set nodes n leaf) origins
end_has_origins nodes origins n leaf h left = record {
  count = h.count ∙ sym (length-set nodes n leaf);
  leads = λ k o lt is. branches_kept nodes (set nodes n leaf) n o.parent o.decision (k + 1) left
      (λ i ne there. set_other_node nodes n leaf i ne) (h.leads k o lt is);
}

-- the nodes after a split
length-split_at : (nodes : List Node) (n : ℕ) (q : Question) (count : ℕ) (low : List Constraint)
    → length (split_at nodes n q count low) ≡ length nodes + count
length-split_at nodes n q count low =
    let s = Split q (numbers_from (length nodes) count) in
    let lefts : List Node = replicate count (Left (Some low)) in
    omega (arith, length-append (set nodes n s) lefts, length-set nodes n s, length-replicate count (Left (Some low)))

split_node : (nodes : List Node) (n : ℕ) (q : Question) (count : ℕ) (low : List Constraint) → n < length nodes
    → node_at (split_at nodes n q count low) n ≡ Split q (numbers_from (length nodes) count)
split_node nodes n q count low lt =
    let s = Split q (numbers_from (length nodes) count) in
    let lefts : List Node = replicate count (Left (Some low)) in
    let there : n < length (set nodes n s) = omega (arith, length-set nodes n s) in
    get_or_append_left (set nodes n s) lefts (Left None) n there ∙ get_or-set_same nodes n s (Left None) lt

split_other : (nodes : List Node) (n : ℕ) (q : Question) (count : ℕ) (low : List Constraint) (k : ℕ) → k ≢ n
    → k < length nodes → node_at (split_at nodes n q count low) k ≡ node_at nodes k
split_other nodes n q count low k ne lt =
    let s = Split q (numbers_from (length nodes) count) in
    let lefts : List Node = replicate count (Left (Some low)) in
    let there : k < length (set nodes n s) = omega (arith, length-set nodes n s) in
    get_or_append_left (set nodes n s) lefts (Left None) k there ∙ set_other_node nodes n s k ne

lefts_have_none : (count : ℕ) (low : List Constraint) (k : ℕ)
    → children_of (node_at (replicate count (Left (Some low))) k) ≡ []
lefts_have_none count low k =
    ⊎_elim
    (λ lt. ap children_of (get_or-replicate count k (Left (Some low)) (Left None) lt))
    (λ le. ap children_of (get_or_past (replicate count (Left (Some low))) k (Left None) (omega (arith, length-replicate count (Left (Some low))))))
    (cases_lt k count)

split_others : (nodes : List Node) (n : ℕ) (q : Question) (count : ℕ) (low : List Constraint) (k : ℕ) → k ≢ n
    → children_of (node_at (split_at nodes n q count low) k) ≡ children_of (node_at nodes k)
split_others nodes n q count low k ne =
    let s = Split q (numbers_from (length nodes) count) in
    let lefts : List Node = replicate count (Left (Some low)) in
    ⊎_elim
    (λ lt. ap children_of (split_other nodes n q count low k ne lt))
    (λ le.
    ap children_of (get_or-append_right (set nodes n s) lefts (length nodes) k (Left None) (length-set nodes n s) le)
    ∙ lefts_have_none count low (k - length nodes) ∙ sym (ap children_of (get_or_past nodes k (Left None) le)))
    (cases_lt k (length nodes))

-- a child of the new split
new_child : (nodes : List Node) (n : ℕ) (q : Question) (count : ℕ) (low : List Constraint) (i m j : ℕ)
    → n < length nodes → i ≡ n → IsChild (split_at nodes n q count low) i m j → (m < count) × (j ≡ length nodes + m)
new_child nodes n q count low i m j lt e h =
    let cs = numbers_from (length nodes) count in
    let same : children_of (node_at (split_at nodes n q count low) i) ≡ cs =
    ap (λ (k : ℕ). children_of (node_at (split_at nodes n q count low) k)) e ∙ ap children_of (split_node nodes n q count low lt) in
    let There : List ℕ → Type 0 = λ xs. m < length xs in
    let Is : List ℕ → Type 0 = λ xs. get_or xs m 0 ≡ j in
    let there : m < length cs = subst There same h.there in
    let below : m < count = omega (arith, there, length-numbers_from (length nodes) count) in
    (below, sym (subst Is same h.child) ∙ get_or-numbers_from (length nodes) count m 0 below)

old_child : (nodes : List Node) (n : ℕ) (q : Question) (count : ℕ) (low : List Constraint) (i m j : ℕ) → i ≢ n
    → IsChild (split_at nodes n q count low) i m j → IsChild nodes i m j
old_child nodes n q count low i m j ne h = child_same nodes (split_at nodes n q count low) i m j (split_others nodes n q count low i ne) h

pub split_is_tree : (nodes : List Node) (n : ℕ) (q : Question) (count : ℕ) (low : List Constraint) → IsTree nodes
    → n < length nodes → IsLeft (node_at nodes n) → count ≤ 6 → length nodes + count < 2 ^ 32
    → IsTree (split_at nodes n q count low)
split_is_tree nodes n q count low tree lt left few room =
    let new = split_at nodes n q count low in
    let size : length new ≡ length nodes + count = length-split_at nodes n q count low in
    let first : children_of (node_at new n) ≡ numbers_from (length nodes) count = ap children_of (split_node nodes n q count low lt) in
    record {
      root = omega (arith, tree.root, size);
      small = omega (arith, size);
      few = λ i.
          ⊎_elim
          (λ e.
          let is : length (children_of (node_at new i)) ≡ length (numbers_from (length nodes) count) = ap
          (λ (k : ℕ). length (children_of (node_at new k))) e ∙ ap (λ (xs : List ℕ). length xs) first in
          omega (arith, is, length-numbers_from (length nodes) count))
          (λ ne.
          let is : length (children_of (node_at new i)) ≡ length (children_of (node_at nodes i)) = ap
          (λ (xs : List ℕ). length xs) (split_others nodes n q count low i ne) in
          omega (arith, is, tree.few i))
          (cases_eq i n);
      later = λ i m j h.
          ⊎_elim
          (λ e. let r = new_child nodes n q count low i m j lt e h in (omega (arith, r.1, e), omega (arith, r.0, r.1, size)))
          (λ ne. let r = tree.later i m j (old_child nodes n q count low i m j ne h) in (r.0, omega (arith, r.1, size)))
          (cases_eq i n);
      one_parent = λ i m i' m' j h h'.
          ⊎_elim
          (λ e.
          let r = new_child nodes n q count low i m j lt e h in
          ⊎_elim
          (λ e'. let r' = new_child nodes n q count low i' m' j lt e' h' in (omega (arith, e, e'), omega (arith, r.1, r'.1)))
          (λ ne'. absurd (omega (arith, r.1, (tree.later i' m' j (old_child nodes n q count low i' m' j ne' h')).1)))
          (cases_eq i' n))
          (λ ne.
          let r = old_child nodes n q count low i m j ne h in
          ⊎_elim
          (λ e'. absurd (omega (arith, (new_child nodes n q count low i' m' j lt e' h').1, (tree.later i m j r).1)))
          (λ ne'. tree.one_parent i m i' m' j r (old_child nodes n q count low i' m' j ne' h'))
          (cases_eq i' n))
          (cases_eq i n);
      has_parent = λ j above there.
          ⊎_elim
          (λ old.
          let r = tree.has_parent j above old in
          let ne : r.0 ≢ n = λ e. no_child nodes r.0 r.1 j (ap (λ (k : ℕ). children_of (node_at nodes k)) e ∙ left_has_none (node_at nodes n) left) r.2 in
          (r.0, r.1, child_same new nodes r.0 r.1 j (sym (split_others nodes n q count low r.0 ne)) r.2))
          (λ behind.
          let m = j - length nodes in
          let below : m < count = omega (arith, there, size) in
          let There : List ℕ → Type 0 = λ xs. m < length xs in
          let Is : List ℕ → Type 0 = λ xs. get_or xs m 0 ≡ j in
          let at : get_or (numbers_from (length nodes) count) m 0 ≡ j = omega (arith, get_or-numbers_from (length nodes) count m 0 below) in
          (n, m, record { there = subst There (sym first) (omega (arith, length-numbers_from (length nodes) count)); child = subst Is (sym first) at }))
          (cases_lt j (length nodes));
    }

pub split_has_origins : (nodes : List Node) (origins more : List Origin) (n : ℕ) (q : Question) (count : ℕ) (low : List Constraint)
    → HasOrigins nodes origins → AreOriginsOf more n q count → n < length nodes → IsLeft (node_at nodes n)
    → HasOrigins (split_at nodes n q count low) (origins ++ more)
split_has_origins nodes origins more n q count low h added lt left =
    let new = split_at nodes n q count low in
    record {
      count = omega (arith, length-split_at nodes n q count low, length-append origins more, h.count, added.count);
      leads = λ k o there is.
          ⊎_elim
          (λ old. branches_kept nodes new n o.parent o.decision (k + 1) left
          (λ i ne below. split_other nodes n q count low i ne below)
          (h.leads k o old (is ∙ get_or_append_left origins more o k old)))
          (λ behind.
          let m = k - length origins in
          let below : m < length more = omega (arith, length-append origins more) in
          let r = added.child m o below (is ∙ get_or-append_right origins more (length origins) k o refl behind) in
          record {
            children = numbers_from (length nodes) count;
            split = ap (λ (i : ℕ). node_at new i) r.0 ∙ split_node nodes n q count low lt
                ∙ ap (λ (p : Question). Split p (numbers_from (length nodes) count)) (sym r.1);
            there = omega (arith, r.2, below, added.count, length-numbers_from (length nodes) count);
            child = ap (λ (i : ℕ). get_or (numbers_from (length nodes) count) i 0) r.2
                ∙ get_or-numbers_from (length nodes) count m 0 (omega (arith, below, added.count))
                ∙ (omega (arith, h.count));
          })
          (cases_lt k (length origins));
    }

-- one origin more
pub origins_push : (origins : List Origin) (n : ℕ) (q : Question) (count : ℕ) (o : Origin)
    → AreOriginsOf origins n q count → o.parent ≡ n → o.decision.question ≡ q → o.decision.child ≡ count
    → AreOriginsOf (origins ++ o ∷ []) n q (count + 1)
origins_push origins n q count o h parent question child = record {
  count = omega (arith, length-append origins (o ∷ []), h.count);
  child = λ m p there is.
      ⊎_elim
      (λ old. h.child m p old (is ∙ get_or_append_left origins (o ∷ []) p m old))
      (λ behind.
      let at_end : m ≡ length origins = omega (arith, length-append origins (o ∷ [])) in
      let same : p ≡ o = is ∙ get_or-append_right origins (o ∷ []) (length origins) m p refl behind
      ∙ ap (λ (i : ℕ). get_or (o ∷ []) i p) (let e : m - length origins ≡ 0 = omega arith in e) in (
        ap (λ (x : Origin). x.parent) same ∙ parent,
        ap (λ (x : Origin). x.decision.question) same ∙ question,
        ap (λ (x : Origin). x.decision.child) same ∙ child ∙ omega (arith, h.count, at_end),
      ))
      (cases_lt m (length origins));
}

-- ---- the root alone

-- a tree whose root is left has no children
pub no_children : (i : ℕ) → children_of (node_at (Left None ∷ []) i) ≡ []
no_children zero = refl
no_children (suc i) = refl

pub root_tree : IsTree (Left None ∷ [])
root_tree = record {
  root = omega arith;
  small = omega arith;
  few = λ i. omega (arith, ap (λ (cs : List ℕ). length cs) (no_children i));
  later = λ i m j h. absurd (none i m j h);
  one_parent = λ i m i' m' j h h'. absurd (none i m j h);
  has_parent = λ j some lt. absurd (omega (arith, some, lt));
}
  where
    none : (i m j : ℕ) → IsChild (Left None ∷ []) i m j → ⊥
    none i m j h =
        let There : List ℕ → Type 0 = λ cs. m < length cs in
        omega (arith, subst There (no_children i) h.there)
