-- What the state at the end shows.
use Rattle.std.proofs.Common.{⊎_elim, inl, inr, ◌⊎◌, ◌≡◌, ℕ, zero, suc, ◌+◌, ◌<◌, ◌≤◌, List, [], ◌∷◌, length, get_or, refl, sym, ◌∙◌, ap, subst, arith, Some, None}
use Rattle.std.specs.Prelude.{Bool}
use Rattle.std.proofs.lemmas.Bool.{cases_lt, cases_eq}
use Rattle.hoist_base.specs.LineData.{LineData, is_single}
use Rattle.choice_tree.specs.declared.question.Decision.{Decision}
use Rattle.choice_tree.specs.declared.node.Node.{Node}
use Rattle.choice_tree.specs.declared.node.Node.TheVariants.{Split, Closed, Stuck, Solved, Left}
use Rattle.choice_tree.specs.Nodes.{node_at, IsLeft, NoneLeft, SomeLeft, children_of, IsChild, IsPathTo}
use Rattle.choice_tree.specs.Trees.{IsTree}
use Rattle.choice_tree.proofs.PathLemmas.{one_path}
use Rattle.choice_tree.proofs.NodeLemmas.{split_is_not_left}
use Rattle.choice_tree.proofs.SplitLemmas.{root_tree}
use Rattle.path_constraints.specs.Questions.{FitsPath}
use Rattle.path_constraints.specs.Proves.{Shows, Proves}
use Rattle.answer_text.specs.Nodes.{IsNodeText}
use Rattle.branch_rounds.specs.Grown.{Search, start, cap_of, LowRefutes, IsBound}
use Rattle.branch_rounds.specs.Kept.{times, left_at, shown_below, IsPlaced, IsKept, HasGoodLow}
use Rattle.branch_rounds.proofs.ListLemmas.{once, never, left_there, left_past}
use Rattle.branch_rounds.proofs.PlacedLemmas.{left_one}
use Rattle.branch_rounds.proofs.TextLemmas.{only}
use Rattle.branch_rounds.proofs.KeptLemmas.{shows_fewer}
use Rattle.branch_rounds.proofs.RoundLemmas.{at_frontier}

-- ---- the bound, path by path

pub record IsBoundTo (l : LineData) (s : Search) (n bound : ℕ) : Type 0 where
  pub some : 1 ≤ bound
  pub most : bound ≤ cap_of l s.best
  pub refuted : (k : ℕ) (path : List Decision) (period : ℕ) → k < n → IsPathTo s.tree (get_or s.frontier k 0) path
      → 1 ≤ period → period < bound → LowRefutes l path (node_at s.tree (get_or s.frontier k 0)) period
  pub met : (bound ≡ cap_of l s.best)
      ⊎ ((k : ℕ) × (path : List Decision) × (k < n) × IsPathTo s.tree (get_or s.frontier k 0) path
      × (LowRefutes l path (node_at s.tree (get_or s.frontier k 0)) bound → ⊥))

pub bound_begins : (l : LineData) (s : Search) (bound : ℕ) → 1 ≤ bound → bound ≡ cap_of l s.best → IsBoundTo l s 0 bound
bound_begins l s bound some e = record { some = some; most = omega (arith, e); refuted = λ k path period lt. absurd (omega (arith, lt)); met = inl e }

pub bound_more : (l : LineData) (s : Search) (n bound bound' : ℕ) (path : List Decision) (node : Node) → IsTree s.tree
    → IsBoundTo l s n bound
    → IsPathTo s.tree (get_or s.frontier n 0) path → node ≡ node_at s.tree (get_or s.frontier n 0)
    → 1 ≤ bound' → bound' ≤ bound → ((t : ℕ) → 1 ≤ t → t < bound' → LowRefutes l path node t)
    → (bound' ≡ bound) ⊎ (LowRefutes l path node bound' → ⊥)
    → IsBoundTo l s (n + 1) bound'
bound_more l s n bound bound' path node tree b leads is some le refuted met =
    let at = node_at s.tree (get_or s.frontier n 0) in record {
      some = some;
      most = omega (arith, le, b.most);
      refuted = λ k other period lt leads' from to.
          ⊎_elim
          (λ below. b.refuted k other period below leads' from (omega (arith, to, le)))
          (λ ge.
          let e : n ≡ k = omega (arith, lt, ge) in
          let P : ℕ → Type 0 =
          λ i. (ds : List Decision) → IsPathTo s.tree (get_or s.frontier i 0) ds → LowRefutes l ds (node_at s.tree (get_or s.frontier i 0)) period in
          let here : P n = λ ds leads''.
          let same : path ≡ ds = one_path s.tree (get_or s.frontier n 0) path ds tree leads leads'' in
          let D : List Decision → Type 0 = λ es. LowRefutes l es at period in
          let N : Node → Type 0 = λ x. LowRefutes l path x period in
          subst D same (subst N is (refuted period from to)) in
          subst P e here other leads')
          (cases_lt k n);
      met =
          ⊎_elim
          (λ same.
          ⊎_elim
          (λ e. inl (same ∙ e))
          (λ r.
          let N : ℕ → Type 0 = λ t. LowRefutes l r.1 (node_at s.tree (get_or s.frontier r.0 0)) t → ⊥ in
          inr (r.0, r.1, omega (arith, r.2), r.3, subst N (sym same) r.4))
          b.met)
          (λ no.
          let N : Node → Type 0 = λ x. LowRefutes l path x bound' → ⊥ in
          inr (n, path, omega arith, leads, subst N is no))
          met;
    }

pub bound_ends : (l : LineData) (s : Search) (n bound : ℕ) → n ≡ length s.frontier → IsBoundTo l s n bound
    → IsBound l s bound
bound_ends l s n bound e b =
    record {
      some = b.some;
      most = b.most;
      refuted = λ k path period lt. b.refuted k path period (omega (arith, lt, e));
      met = ⊎_elim (λ same. inl same) (λ r. inr (r.0, r.1, omega (arith, r.2, e), r.3, r.4)) b.met;
    }

-- the low of a node that is left
good_low : (l : LineData) (path : List Decision) (n : Node) (cap : ℕ) (single : Bool) → IsLeft n
    → Shows l path n (shown_below n cap) → IsNodeText single n
    → HasGoodLow l path n
good_low l path (Split question children) cap single h s t = absurd h
good_low l path (Closed low high) cap single h s t = absurd h
good_low l path (Stuck m) cap single h s t = absurd h
good_low l path (Solved low) cap single h s t = absurd h
good_low l path (Left None) cap single h s t = tt
good_low l path (Left (Some low)) cap single h s t = (s.closed low (only low), t.few)

pub good_at : (l : LineData) (s : Search) (k : ℕ) (path : List Decision) (node : Node) → IsKept l s
    → k < length s.frontier
    → IsPathTo s.tree (get_or s.frontier k 0) path → node ≡ node_at s.tree (get_or s.frontier k 0)
    → HasGoodLow l path node
good_at l s k path node kept lt leads is =
    let (there, left) = at_frontier s k kept.placed lt in
    let i = get_or s.frontier k 0 in
    subst (HasGoodLow l path) (sym is)
    (good_low l path (node_at s.tree i) (cap_of l s.best) (is_single l) left (kept.shows i path there leads) (kept.texts i there))

-- ---- the proof

found : (is : List ℕ) (j : ℕ) → 0 < times j is → (k : ℕ) × (k < length is) × (get_or is k 0 ≡ j)
found [] j some = absurd (omega (arith, some))
found (i ∷ is) j some =
    ⊎_elim
    (λ e. (0, omega arith, e))
    (λ ne. let r = found is j (omega (arith, some, never i j is ne)) in (suc r.0, omega (arith, r.1), r.2))
    (cases_eq i j)

pub in_frontier : (s : Search) (i : ℕ) → IsPlaced s → i < length s.tree → IsLeft (node_at s.tree i)
    → (k : ℕ) × (k < length s.frontier) × (get_or s.frontier k 0 ≡ i)
in_frontier s i p lt left = found s.frontier i (omega (arith, p.left i, left_there s.tree i lt, left_one (node_at s.tree i) left))

-- a node that is left, whose low refutes what is below the bound
left_shows : (l : LineData) (path : List Decision) (n : Node) (cap bound : ℕ) → IsLeft n
    → Shows l path n (shown_below n cap)
    → ((period : ℕ) → 1 ≤ period → period < bound → LowRefutes l path n period) → Shows l path n bound
left_shows l path (Split question children) cap bound h s r = absurd h
left_shows l path (Closed low high) cap bound h s r = absurd h
left_shows l path (Stuck m) cap bound h s r = absurd h
left_shows l path (Solved low) cap bound h s r = absurd h
left_shows l path (Left None) cap bound h s r = record { closed = s.closed; refuted = λ period some lt. absurd (r period some lt) }
left_shows l path (Left (Some low)) cap bound h s r = record { closed = s.closed; refuted = λ period some lt. (low, only low, r period some lt) }

node_shows : (l : LineData) (path : List Decision) (n : Node) (cap bound : ℕ) → bound ≤ cap
    → Shows l path n (shown_below n cap)
    → (IsLeft n → (period : ℕ) → 1 ≤ period → period < bound → LowRefutes l path n period) → Shows l path n bound
node_shows l path (Split question children) cap bound le s r = s
node_shows l path (Closed low high) cap bound le s r = shows_fewer l path (Closed low high) cap bound le s
node_shows l path (Stuck m) cap bound le s r = s
node_shows l path (Solved low) cap bound le s r = shows_fewer l path (Solved low) cap bound le s
node_shows l path (Left low) cap bound le s r = left_shows l path (Left low) cap bound tt s (r tt)

pub proves : (l : LineData) (s : Search) (bound : ℕ) → IsKept l s → IsBound l s bound → Proves l s.tree bound
proves l s bound kept b i path lt leads =
    node_shows l path (node_at s.tree i) (cap_of l s.best) bound b.most (kept.shows i path lt leads)
    (λ left period some below.
    let r = in_frontier s i kept.placed lt left in
    let P : ℕ → Type 0 = λ j. IsPathTo s.tree j path → LowRefutes l path (node_at s.tree j) period in
    let here : P (get_or s.frontier r.0 0) = λ h. b.refuted r.0 path period r.1 h some below in
    subst P r.2 here leads)

-- with no path left no node is left, and with some there is one
pub none_left : (s : Search) → IsPlaced s → length s.frontier ≡ 0 → NoneLeft s.tree
none_left s p none i lt left = let r = in_frontier s i p lt left in omega (arith, r.1, none)

pub some_left : (s : Search) → IsPlaced s → 0 < length s.frontier → SomeLeft s.tree
some_left s p some = let at = at_frontier s 0 p some in (get_or s.frontier 0 0, at.0, at.1)

-- with no path left the bound is the cap
pub bound_whole : (l : LineData) (s : Search) (bound : ℕ) → IsBound l s bound → length s.frontier ≡ 0
    → bound ≡ cap_of l s.best
bound_whole l s bound b none = ⊎_elim (λ e. e) (λ r. absurd (omega (arith, r.2, none))) b.met

-- ---- the root

root_left : (i : ℕ) → IsLeft (node_at (Left None ∷ []) i)
root_left zero = tt
root_left (suc i) = tt

pub root_path : (i : ℕ) (path : List Decision) → IsPathTo (Left None ∷ []) i path → path ≡ []
root_path i [] leads = refl
root_path i (d ∷ ds) (k, b, rest) = absurd (split_is_not_left (node_at (Left None ∷ []) 0) d b.children b.split tt)

root_once : (j : ℕ) → times j (0 ∷ []) ≡ left_at (Left None ∷ []) j
root_once zero = omega (arith, once 0 0 [] refl, left_there (Left None ∷ []) 0 (omega arith))
root_once (suc j) = omega (arith, never 0 (suc j) [] (λ e. omega (arith, e)), left_past (Left None ∷ []) (suc j) (omega arith))

root_shows : (l : LineData) (i : ℕ) (path : List Decision) → i < 1
    → Shows l path (node_at (Left None ∷ []) i) (shown_below (node_at (Left None ∷ []) i) (l.max_period + 1))
root_shows l zero path lt =
    record { closed = λ walk there. absurd (omega (arith, there.1)); refuted = λ period some below. absurd (omega (arith, some, below)) }
root_shows l (suc i) path lt = absurd (omega (arith, lt))

root_text : (l : LineData) (i : ℕ) → i < 1 → IsNodeText (is_single l) (node_at (Left None ∷ []) i)
root_text l zero lt = tt
root_text l (suc i) lt = absurd (omega (arith, lt))

pub kept_start : (l : LineData) → IsKept l start
kept_start l = record {
  placed = record { tree = root_tree; nodes = omega arith; paths = omega arith; counted = refl; left = root_once };
  fits = λ i path leads.
      let e : [] ≡ path = sym (root_path i path leads) in
      let P : List Decision → Type 0 = λ ds. FitsPath l ds × (length ds ≤ 0) in
      subst P e (λ n lt. absurd (omega (arith, lt)), omega arith);
  shows = λ i path lt leads. root_shows l i path lt;
  texts = λ i lt. root_text l i lt;
  best = tt;
}
