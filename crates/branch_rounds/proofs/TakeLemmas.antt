-- The expansions of a round are taken one after another.
use Rattle.std.proofs.Common.{◌≡◌, ℕ, suc, ◌+◌, ◌^◌, ◌<◌, ◌≤◌, List, [], ◌∷◌, ◌++◌, length, get_or, drop, refl, sym, ◌∙◌, ap, subst, arith, append_assoc}
use Rattle.std.specs.Prelude.{Option}
use Rattle.std.proofs.lemmas.List.{append-nil, length-append, drop_more, get_or_append_left, get_or_at, length_push}
use Rattle.choice_tree.specs.declared.node.Node.{Node}
use Rattle.choice_tree.specs.Nodes.{node_at, IsLeft, numbers_from}
use Rattle.node_expand.specs.declared.solved.Solved as plans
use Rattle.node_expand.specs.declared.expanded.Expanded.{Expanded}
use Rattle.branch_rounds.specs.Grown.{Search, result_at, taken, child_count, replaced, split_count, splits_of, better, best_of, after}
use Rattle.branch_rounds.specs.Kept.{left_at, times, IsPlaced, AreNarrow}
use Rattle.branch_rounds.proofs.ListLemmas.{taken_more, replaced_more, best_more, splits_more, few_splits, total}
use Rattle.branch_rounds.proofs.PlacedLemmas.{placed_at, placed_all, first_left}

-- these expansions were taken, and the rest is to come
pub record IsTaking (s : Search) (all done rest : List Expanded) (k : ℕ) (tree : List Node) (paths : List ℕ) (best : Option plans.Solved) (splits : ℕ)
    (frontier : List ℕ) : Type 0 where
  pub whole : done ++ rest ≡ all
  pub count : k ≡ length done
  pub is_tree : tree ≡ taken s.tree s.frontier done
  pub is_paths : paths ≡ replaced (length s.tree) done
  pub is_best : best ≡ best_of s.best done
  pub is_splits : splits ≡ s.splits + splits_of done
  pub is_frontier : frontier ≡ s.frontier

-- what may be taken from a state
pub record CanTake (s : Search) (all : List Expanded) : Type 0 where
  pub placed : IsPlaced s
  pub narrow : AreNarrow all
  pub few : length all ≤ length s.frontier
  pub room : s.splits + length all ≤ 20000

-- what the next one needs
pub record IsReady (tree : List Node) (k : ℕ) (node : ℕ) (x : Expanded) (splits : ℕ) : Type 0 where
  pub there : node < length tree
  pub left : IsLeft (node_at tree node)
  pub few : child_count x ≤ 6
  pub room : length tree + 6 < 2 ^ 32
  pub unspent : splits < 20000

narrow_part : (all done rest : List Expanded) → done ++ rest ≡ all → AreNarrow all → AreNarrow done
narrow_part all done rest e h = λ k x lt is.
    let at : get_or all k x ≡ get_or done k x = sym (ap (λ (ys : List Expanded). get_or ys k x) e) ∙ get_or_append_left done rest x k lt in
    h k x (omega (arith, lt, sym (ap (λ (ys : List Expanded). length ys) e), length-append done rest)) (is ∙ sym at)

narrow_next : (all done rest : List Expanded) (x : Expanded) → done ++ x ∷ rest ≡ all → AreNarrow all
    → child_count x ≤ 6
narrow_next all done rest x e h =
    let at : get_or all (length done) x ≡ x = sym (ap (λ (ys : List Expanded). get_or ys (length done) x) e) ∙ get_or_at done x rest x (length done) refl in
    h (length done) x (omega (arith, sym (ap (λ (ys : List Expanded). length ys) e), length-append done (x ∷ rest))) (sym at)

pub in_frontier : (s : Search) (all done rest : List Expanded) (x : Expanded) (k : ℕ) (tree : List Node) (paths : List ℕ) (best : Option plans.Solved)
    (splits : ℕ) (frontier : List ℕ)
    → CanTake s all → IsTaking s all done (x ∷ rest) k tree paths best splits frontier → k < length frontier
in_frontier s all done rest x k tree paths best splits frontier can t =
    omega (
      arith,
      t.count,
      can.few,
      sym (ap (λ (ys : List Expanded). length ys) t.whole),
      length-append done (x ∷ rest),
      ap
          (λ (ys : List ℕ). length ys) t.is_frontier,
    )

pub ready : (s : Search) (all done rest : List Expanded) (x : Expanded) (k : ℕ) (tree : List Node) (paths : List ℕ) (best : Option plans.Solved) (splits : ℕ)
    (frontier : List ℕ) (node : ℕ)
    → CanTake s all → IsTaking s all done (x ∷ rest) k tree paths best splits frontier → node ≡ get_or frontier k 0
    → IsReady tree k node x splits
ready s all done rest x k tree paths best splits frontier node can t is =
    let size : length all ≡ length done + suc (length rest) =
    omega (arith, sym (ap (λ (ys : List Expanded). length ys) t.whole), length-append done (x ∷ rest)) in
    let some : length done < length s.frontier = omega (arith, size, can.few) in
    let (p, count) =
    placed_all s.tree [] s.frontier s.best s.best s.splits done can.placed (narrow_part all done (x ∷ rest) t.whole can.narrow) (omega (arith, some))
    (omega (arith, size, can.room)) in
    let at : node ≡ get_or s.frontier (length done) 0 =
    is ∙ ap (λ (ys : List ℕ). get_or ys k 0) t.is_frontier ∙ ap (λ (n : ℕ). get_or s.frontier n 0) t.count in
    let next : drop (length done) s.frontier ≡ node ∷ drop (length done + 1) s.frontier =
    drop_more s.frontier (length done) 0 some ∙ ap (λ (n : ℕ). n ∷ drop (length done + 1) s.frontier) (sym at) in
    let L : List ℕ → Type 0 = λ ns. (j : ℕ) → times j (([] ++ replaced (length s.tree) done) ++ ns) ≡ left_at (taken s.tree s.frontier done) j in
    let r = first_left (taken s.tree s.frontier done) ([] ++ replaced (length s.tree) done) node (drop (length done + 1) s.frontier) (subst L next p.left) in
    let There : List Node → Type 0 = λ ns. node < length ns in
    let Left : List Node → Type 0 = λ ns. IsLeft (node_at ns node) in
    record {
      there = subst There (sym t.is_tree) r.0;
      left = subst Left (sym t.is_tree) r.1;
      few = narrow_next all done rest x t.whole can.narrow;
      room = omega (arith, ap (λ (ns : List Node). length ns) t.is_tree, p.nodes, few_splits done, size, can.room);
      unspent = omega (arith, t.is_splits, few_splits done, size, can.room);
    }

pub taking_more : (s : Search) (all done rest : List Expanded) (x : Expanded) (k k' : ℕ) (tree tree' : List Node) (paths paths' : List ℕ)
    (best best' : Option plans.Solved) (splits splits' : ℕ) (frontier frontier' : List ℕ) (node : ℕ)
    → CanTake s all → IsTaking s all done (x ∷ rest) k tree paths best splits frontier
    → node ≡ get_or frontier k 0 → k' ≡ k + 1 → tree' ≡ result_at tree node x
    → paths' ≡ paths ++ numbers_from (length tree) (child_count x)
    → best' ≡ better best x → splits' ≡ splits + split_count x → frontier' ≡ frontier
    → IsTaking s all (done ++ x ∷ []) rest k' tree' paths' best' splits' frontier'
taking_more s all done rest x k k' tree tree' paths paths' best best' splits splits' frontier frontier' node can t is ek et ep eb es ef =
    let size : length all ≡ length done + suc (length rest) =
    omega (arith, sym (ap (λ (ys : List Expanded). length ys) t.whole), length-append done (x ∷ rest)) in
    let some : length done < length s.frontier = omega (arith, size, can.few) in
    let (p, count) =
    placed_all s.tree [] s.frontier s.best s.best s.splits done can.placed (narrow_part all done (x ∷ rest) t.whole can.narrow) (omega (arith, some))
    (omega (arith, size, can.room)) in
    let at : node ≡ get_or s.frontier (length done) 0 =
    is ∙ ap (λ (ys : List ℕ). get_or ys k 0) t.is_frontier ∙ ap (λ (n : ℕ). get_or s.frontier n 0) t.count in
    let long : length tree ≡ length s.tree + total done = ap (λ (ns : List Node). length ns) t.is_tree ∙ count in
    record {
      whole = append_assoc done (x ∷ []) rest ∙ t.whole;
      count = omega (arith, ek, t.count, length_push done x);
      is_tree =
          et ∙ ap (λ (ns : List Node). result_at ns node x) t.is_tree ∙ ap (λ (n : ℕ). result_at (taken s.tree s.frontier done) n x) at
          ∙ sym (taken_more s.tree s.frontier done x some);
      is_paths =
          ep ∙ ap (λ (ns : List ℕ). ns ++ numbers_from (length tree) (child_count x)) t.is_paths
          ∙ ap (λ (n : ℕ). replaced (length s.tree) done ++ numbers_from n (child_count x)) long ∙ sym (replaced_more (length s.tree) done x);
      is_best = eb ∙ ap (λ (b : Option plans.Solved). better b x) t.is_best ∙ sym (best_more s.best done x);
      is_splits = omega (arith, es, t.is_splits, splits_more done x);
      is_frontier = ef ∙ t.is_frontier;
    }

-- all were taken
pub taken_all : (s : Search) (all done rest : List Expanded) (k : ℕ) (tree : List Node) (paths : List ℕ) (best : Option plans.Solved) (splits : ℕ)
    (frontier frontier' : List ℕ)
    → IsTaking s all done rest k tree paths best splits frontier → length rest ≡ 0
    → frontier' ≡ paths ++ drop (length all) frontier
    → placed_at tree frontier' best splits ≡ after s all
taken_all s all done [] k tree paths best splits frontier frontier' t none is =
    let e : done ≡ all = sym (append-nil done) ∙ t.whole in
    let et = t.is_tree ∙ ap (λ (ys : List Expanded). taken s.tree s.frontier ys) e in
    let ep = t.is_paths ∙ ap (λ (ys : List Expanded). replaced (length s.tree) ys) e in
    let eb = t.is_best ∙ ap (λ (ys : List Expanded). best_of s.best ys) e in
    let es = t.is_splits ∙ ap (λ (ys : List Expanded). s.splits + splits_of ys) e in
    let ef : frontier' ≡ replaced (length s.tree) all ++ drop (length all) s.frontier =
    is ∙ ap (λ (ns : List ℕ). ns ++ drop (length all) frontier) ep ∙ ap (λ (ns : List ℕ). replaced (length s.tree) all ++ drop (length all) ns) t.is_frontier in
    cc
taken_all s all done (x ∷ rest) k tree paths best splits frontier frontier' t none is = absurd (omega (arith, none))
