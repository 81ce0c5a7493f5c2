-- The section of a node, and the nodes one after another.
use Rattle.std.proofs.Common.{
  ⊎_elim,
  inl,
  inr,
  ◌≡◌,
  ℕ,
  ◌+◌,
  ◌<◌,
  ◌≤◌,
  List,
  length,
  get_or,
  Option,
  Some,
  None,
  option_map,
  Result,
  Ok,
  Err,
  refl,
  sym,
  ap,
  subst,
  ◌∙◌,
  arith,
}
use Rattle.std.specs.Prelude.{IfOk}
use Rattle.std.proofs.lemmas.Bool.{cases_lt}
use Rattle.std.proofs.lemmas.List.{get_or_default}
use Rattle.std.proofs.lemmas.List.Elements.{All-get_or}
use Rattle.hoist_base.specs.LineData.{LineData, is_single}
use Rattle.choice_tree.specs.declared.question.Decision.{Decision}
use Rattle.choice_tree.specs.declared.constraint.Constraint.{Constraint}
use Rattle.choice_tree.specs.declared.node.Node.{Node}
use Rattle.choice_tree.specs.Nodes.{node_at, IsPathTo}
use Rattle.choice_tree.specs.Trees.{IsTree, preorder}
use Rattle.choice_tree.proofs.PathLemmas.{one_path}
use Rattle.path_constraints.specs.Questions.{FitsPath}
use Rattle.path_constraints.specs.Proves.{Shows}
use Rattle.answer_text.specs.declared.answer.Answer.{Answer}
use Rattle.answer_text.specs.Answers.{IsWritable}
use Rattle.answer_text.specs.Nodes.{IsNodeText}
use Rattle.answer_text.proofs.OrderLemmas.{preorder_there}
use Rattle.markup.specs.Forms.{Form}
use Rattle.cert_checker.specs.Reasons.{number_at}
use Rattle.cert_checker.specs.Walks.{low_of, high_of}
use Rattle.cert_checker.specs.Rules.{KeepsRules}
use Rattle.report_reason.specs.Nearest.{IsUsable, setting_walk, Sets, NoneSets}
use Rattle.report_reason.specs.Reason.{branch_section, none_section, IsSectionAt, IsReason}
use Rattle.report_reason.proofs.Paths.{fits_path, usable_low, usable_high}

-- what is known of a node that is looked at
pub at_node : (l : LineData) (a : Answer) (i : ℕ) (items slice : List Decision) (node : Node) → IsTree a.tree
    → IsWritable l a → KeepsRules l a
    → i < length a.tree → IsPathTo a.tree i items → slice ≡ items → node ≡ node_at a.tree i
    → FitsPath l slice × IsUsable l slice (low_of node) × IsUsable l slice (high_of node)
at_node l a i items slice node tree text kept there lead same read =
    let leads = subst (IsPathTo a.tree i) (sym same) lead in
    let shows = subst (λ n. Shows l slice n a.bound) (sym read) (kept.proves i slice there leads) in
    let written = subst (IsNodeText (is_single l)) (sym read) (text.nodes i there) in (
      fits_path l a.tree a.bound i slice tree kept.proves leads,
      usable_low l slice node a.bound (is_single l) shows written,
      usable_high l slice node a.bound (is_single l) shows written,
    )

-- no node before number n sets the bound
abbrev pub NoneBefore : LineData → Answer → ℕ → Type 0
NoneBefore l a n = (m : ℕ) (path : List Decision) (walk : List Constraint) → m < n → Sets l a m path walk → ⊥

-- the number that is read from the order is that of a node
pub read_there : (nodes : List Node) (order : List ℕ) (n i : ℕ) → IsTree nodes → order ≡ preorder nodes
    → n < length order → i ≡ get_or order n i
    → (n < length (preorder nodes)) × (number_at nodes n ≡ i) × (i < length nodes)
read_there nodes order n i tree is lt read =
    let there : n < length (preorder nodes) = omega (arith, lt, ap (λ (xs : List ℕ). length xs) is) in
    let at : i ≡ get_or (preorder nodes) n 0 = read ∙ ap (λ (xs : List ℕ). get_or xs n i) is ∙ get_or_default
    (preorder nodes) n i 0 there in (
      there,
      sym at,
      omega (
        arith,
        at,
        All-get_or (λ j. j < length nodes) (preorder nodes) n 0 there
            (preorder_there nodes tree),
      ),
    )

-- the section of the first node that sets the bound is the reason
pub section_shown : (l : LineData) (a : Answer) (n i : ℕ) (e : Form) → n < length (preorder a.tree)
    → number_at a.tree n ≡ i → NoneBefore l a n
    → IsSectionAt l a i (Some e) → IsReason l a e
section_shown l a n i e there at before (path, lead, is) = by_walk
    (setting_walk l path a.bound (node_at a.tree i)) refl is
  where
    by_walk : (o : Option (List Constraint)) → setting_walk l path a.bound (node_at a.tree i) ≡ o
        → Some e ≡ option_map (branch_section l a.bound path) o
        → IsReason l a e
    by_walk None set form = cc
    by_walk (Some walk) set form =
        let shows : e ≡ branch_section l a.bound path walk = cc in
        inl
        (record {
          number = n;
          path = path;
          walk = walk;
          nearest = record {
            sets = record { node = i; stands = record { there = there; is = at; leads = lead }; is = set };
            first = before;
          };
          is = shows;
        })

-- a node without a section sets no bound
pub none_next : (l : LineData) (a : Answer) (n i : ℕ) → IsTree a.tree → number_at a.tree n ≡ i → NoneBefore l a n
    → IsSectionAt l a i None
    → NoneBefore l a (n + 1)
none_next l a n i tree at before (path, lead, is) m way walk lt sets =
    ⊎_elim
    (λ less. before m way walk less sets)
    (λ ge.
    let same : m ≡ n = omega (arith, lt, ge) in
    let node : sets.node ≡ i = sym sets.stands.is ∙ ap (number_at a.tree) same ∙ at in
    let ways : way ≡ path = one_path a.tree i way path tree
    (subst (λ k. IsPathTo a.tree k way) node sets.stands.leads) lead in
    let set : setting_walk l path a.bound (node_at a.tree i) ≡ Some walk =
    ap (λ ds. setting_walk l ds a.bound (node_at a.tree i)) (sym ways)
    ∙ ap (λ k. setting_walk l way a.bound (node_at a.tree k)) (sym node)
    ∙ sets.is in
    clash walk (branch_section l a.bound path) (is ∙ ap (option_map (branch_section l a.bound path)) set))
    (cases_lt m n)
  where
    clash : (walk : List Constraint) (f : List Constraint → Form) → None ≡ option_map f (Some walk) → ⊥
    clash walk f e = cc

-- after the last node there is none
pub none_all : (l : LineData) (a : Answer) (n : ℕ) → length (preorder a.tree) ≤ n → NoneBefore l a n → NoneSets l a
none_all l a n all before m path walk sets = before m path walk (omega (arith, all, sets.stands.there)) sets

pub none_shown : {E : Type 0} (l : LineData) (a : Answer) (r : Result Form E) → NoneSets l a
    → IfOk r (λ e. e ≡ none_section a.bound)
    → IfOk r (λ e. IsReason l a e)
none_shown l a (Ok e) none is = inr (none, is)
none_shown l a (Err e) none is = tt
