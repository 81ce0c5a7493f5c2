-- Paths in a tree in which a node that was left became a leaf or a split.
use Rattle.std.proofs.Common.{⊎_elim, inl, inr, ◌⊎◌, ◌≡◌, ◌≢◌, ℕ, ◌+◌, ◌-◌, ◌^◌, ◌<◌, ◌≤◌, List, [], ◌∷◌, ◌++◌, length, get_or, set, replicate, refl, sym, ◌∙◌, ap, subst, arith, Some, None}
use Rattle.std.proofs.lemmas.List.{get_or-set_same, get_or-set_other, length-set, length-append, length-replicate, get_or_append_left, get_or-append_right, get_or-replicate}
use Rattle.std.proofs.lemmas.Bool.{cases_eq}
use Rattle.choice_tree.specs.declared.question.Question.{Question}
use Rattle.choice_tree.specs.declared.question.Decision.{Decision}
use Rattle.choice_tree.specs.declared.constraint.Constraint.{Constraint}
use Rattle.choice_tree.specs.declared.node.Node.{Node}
use Rattle.choice_tree.specs.declared.node.Node.TheVariants.{Split, Left}
use Rattle.choice_tree.specs.Nodes.{node_at, IsLeft, IsLeaf, children_of, Branches, Leads, numbers_from, split_at}
use Rattle.choice_tree.specs.Trees.{IsTree}
use Rattle.choice_tree.proofs.NodeLemmas.{length-numbers_from, get_or-numbers_from, leaf_has_none, split_is_not_left, branches_kept}
use Rattle.choice_tree.proofs.SplitLemmas.{end_is_tree, split_is_tree}
use Rattle.choice_tree.proofs.PathLemmas.{branch_later}

-- in the new tree node i, which was left, is another node, and its children, left with a low, stand behind the old
-- nodes
pub record Grows (old new : List Node) (i : ℕ) (node : Node) (count : ℕ) (low : List Constraint) : Type 0 where
  pub there : i < length old
  pub left : IsLeft (node_at old i)
  pub was : IsTree old
  pub tree : IsTree new
  pub size : length new ≡ length old + count
  pub here : node_at new i ≡ node
  pub kept : (k : ℕ) → k ≢ i → k < length old → node_at new k ≡ node_at old k
  pub fresh : (k : ℕ) → length old ≤ k → k < length new → node_at new k ≡ Left (Some low)
  pub children : children_of node ≡ numbers_from (length old) count

pub grows_end : (old : List Node) (i : ℕ) (leaf : Node) → IsTree old → i < length old → IsLeft (node_at old i)
    → IsLeaf leaf
    → Grows old (set old i leaf) i leaf 0 []
grows_end old i leaf tree lt left is_leaf = record {
  there = lt;
  left = left;
  was = tree;
  tree = end_is_tree old i leaf tree lt left is_leaf;
  size = omega (arith, length-set old i leaf);
  here = get_or-set_same old i leaf (Left None) lt;
  kept = λ k ne below. get_or-set_other old i k leaf (Left None) ne;
  fresh = λ k from to. absurd (omega (arith, from, to, length-set old i leaf));
  children = leaf_has_none leaf is_leaf;
}

pub grows_split : (old : List Node) (i : ℕ) (q : Question) (count : ℕ) (low : List Constraint) → IsTree old
    → i < length old → IsLeft (node_at old i)
    → count ≤ 6 → length old + count < 2 ^ 32
    → Grows old (split_at old i q count low) i (Split q (numbers_from (length old) count)) count low
grows_split old i q count low tree lt left few room =
    let s = Split q (numbers_from (length old) count) in
    let lefts : List Node = replicate count (Left (Some low)) in
    let size : length (set old i s ++ lefts) ≡ length old + count =
    omega (arith, length-append (set old i s) lefts, length-set old i s, length-replicate count (Left (Some low))) in
    record {
      there = lt;
      left = left;
      was = tree;
      tree = split_is_tree old i q count low tree lt left few room;
      size = size;
      here = get_or_append_left (set old i s) lefts (Left None) i (omega (arith, lt, length-set old i s)) ∙ get_or-set_same old i s (Left None) lt;
      kept =
          λ k ne below. get_or_append_left (set old i s) lefts (Left None) k (omega (arith, below, length-set old i s)) ∙ get_or-set_other old i k s
          (Left None) ne;
      fresh = λ k from to.
          get_or-append_right (set old i s) lefts (length old) k (Left None) (length-set old i s) from
          ∙ get_or-replicate count (k - length old) (Left (Some low)) (Left None) (omega (arith, from, to, size));
      children = refl;
    }

-- ---- paths

pub path_kept : (old new : List Node) (i : ℕ) (node : Node) (count : ℕ) (low : List Constraint) (a : ℕ) (ds : List Decision) (j : ℕ)
    → Grows old new i node count low → Leads old a ds j → Leads new a ds j
path_kept old new i node count low a [] j g e = e
path_kept old new i node count low a (d ∷ ds) j g (k, b, rest) =
    (k, branches_kept old new i a d k g.left g.kept b, path_kept old new i node count low k ds j g rest)

-- decisions that lead to a child of the new split
pub record NewChild (old : List Node) (i : ℕ) (node : Node) (count : ℕ) (a : ℕ) (ds : List Decision) (j : ℕ) : Type 0 where
  pub before : List Decision
  pub last : Decision
  pub is : ds ≡ before ++ last ∷ []
  pub leads : Leads old a before i
  pub children : List ℕ
  pub asks : node ≡ Split last.question children
  pub child : last.child < count
  pub at : j ≡ length old + last.child

left_is : (low : List Constraint) (n : Node) → n ≡ Left (Some low) → IsLeft n
left_is low n e = let P : Node → Type 0 = λ m. IsLeft m in subst P (sym e) tt

-- the decision at node i leads to a child that is left
at_new : (old new : List Node) (i : ℕ) (node : Node) (count : ℕ) (low : List Constraint) (a : ℕ) (d : Decision) (ds : List Decision) (k j : ℕ)
    → Grows old new i node count low → a ≡ i → Branches new a d k → Leads new k ds j
    → NewChild old i node count a (d ∷ ds) j
at_new old new i node count low a d ds k j g e b rest =
    let asks : node ≡ Split d.question b.children = sym g.here ∙ sym (ap (λ (n : ℕ). node_at new n) e) ∙ b.split in
    let cs : b.children ≡ numbers_from (length old) count = sym (ap children_of asks) ∙ g.children in
    let There : List ℕ → Type 0 = λ xs. d.child < length xs in
    let below : d.child < count = omega (arith, subst There cs b.there, length-numbers_from (length old) count) in
    let Is : List ℕ → Type 0 = λ xs. get_or xs d.child 0 ≡ k in
    let at : k ≡ length old + d.child = sym (subst Is cs b.child) ∙ get_or-numbers_from (length old) count d.child 0 below in
    let left = left_is low (node_at new k) (g.fresh k (omega (arith, at)) (omega (arith, at, below, g.size))) in
    ends ds rest asks below at left
  where
    ends : (ds : List Decision) → Leads new k ds j → (asks : node ≡ Split d.question b.children) → d.child < count
        → k ≡ length old + d.child
        → IsLeft (node_at new k) → NewChild old i node count a (d ∷ ds) j
    ends [] same asks below at left =
        record { before = []; last = d; is = refl; leads = e; children = b.children; asks = asks; child = below; at = omega (arith, at, same) }
    ends (d' ∷ ds) (k', b', more) asks below at left = absurd (split_is_not_left (node_at new k) d' b'.children b'.split left)

pub path_from : (old new : List Node) (i : ℕ) (node : Node) (count : ℕ) (low : List Constraint) (a : ℕ) (ds : List Decision) (j : ℕ)
    → Grows old new i node count low → a < length old → Leads new a ds j
    → ((j < length old) × Leads old a ds j) ⊎ NewChild old i node count a ds j
path_from old new i node count low a [] j g lt e = inl (omega (arith, lt, e), e)
path_from old new i node count low a (d ∷ ds) j g lt (k, b, rest) =
    ⊎_elim
    (λ e. inr (at_new old new i node count low a d ds k j g e b rest))
    (λ ne.
    let b' : Branches old a d k = record { children = b.children; split = sym (g.kept a ne lt) ∙ b.split; there = b.there; child = b.child } in
    let below = branch_later old a d k g.was b' in
    ⊎_elim
    (λ h. inl (h.0, (k, b', h.1)))
    (λ r. inr (record {
      before = d ∷ r.before;
      last = r.last;
      is = ap (λ (es : List Decision). d ∷ es) r.is;
      leads = (k, b', r.leads);
      children = r.children;
      asks = r.asks;
      child = r.child;
      at = r.at;
    }))
    (path_from old new i node count low k ds j g below.1 rest))
    (cases_eq a i)
