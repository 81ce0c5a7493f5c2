-- The way through a tree in preorder.
use Rattle.std.proofs.Common.{⊎_elim, Bool, IsTrue, ◌≡◌, ℕ, suc, ◌+◌, ◌<◌, ◌≤◌, List, [], ◌∷◌, ◌++◌, length, get_or, take, drop, map, reverse, refl, sym, ◌∙◌, ap, subst, arith}
use Rattle.std.specs.Prelude.{flat_map}
use Rattle.std.proofs.lemmas.Bool.{cases_lt}
use Rattle.std.proofs.lemmas.List.{length-drop, get_or-drop, drop-drop, map-append, take_all, take-append-le, reverse-append, reverse-reverse, append-nil, length-append}
use Rattle.std.proofs.lemmas.Grind.{flat_map-append}
use Rattle.hoist_base.specs.LineData.{LineData}
use Rattle.choice_tree.specs.declared.question.Question.{Question}
use Rattle.choice_tree.specs.declared.question.Question.TheVariants.{Choose, TankOrder, HoistOrder, Assign}
use Rattle.choice_tree.specs.declared.question.Decision.{Decision}
use Rattle.choice_tree.specs.declared.node.Node.{Node}
use Rattle.choice_tree.specs.declared.node.Node.TheVariants.{Split, Closed, Stuck, Solved, Left}
use Rattle.choice_tree.specs.Nodes.{node_at, children_of, Branches, IsPathTo}
use Rattle.choice_tree.specs.Trees.{IsTree, preorder}
use Rattle.choice_tree.proofs.OrderLemmas.{below, below_step}
use Rattle.choice_tree.proofs.PathLemmas.{branch_later, one_path, leads_on}
use Rattle.path_constraints.specs.Questions.{FitsPath}
use Rattle.path_constraints.specs.Proves.{Shows, Proves, IsWholeSplit}
use Rattle.path_constraints.proofs.CoverTreeLemmas.{fits_more}
use Rattle.answer_text.specs.Nodes.{IsNodeText, IsQuestionText}
use Rattle.cert_checker.specs.declared.reason.Reason.{Reason}
use Rattle.cert_checker.specs.declared.tree.Waiting.{Waiting}
use Rattle.cert_checker.specs.Reasons.{number_at, StandsAt, IsFlawed, is_split}
use Rattle.cert_checker.specs.Flaws.{HasFlaw}
use Rattle.cert_checker.specs.Judged.{IsFirstFlaw}
use Rattle.cert_checker.specs.Waiting.{waits_of, waits_below, IsFirstFlawed}
use Rattle.cert_checker.proofs.WaitLemmas.{nodes-waits}
use Rattle.cert_checker.proofs.DistinctLemmas.{place_of_path, preorder_short}
use Rattle.cert_checker.proofs.FlawLemmas.{no_flaw_shown}

-- a node to which a path leads that fits the line
pub record IsReady (l : LineData) (nodes : List Node) (path : List Decision) (i : ℕ) : Type 0 where
  pub leads : IsPathTo nodes i path
  pub fits : FitsPath l path
  pub there : i < length nodes

-- the path to a node that waits, where the path now is this one
abbrev pub path_of : List Decision → Waiting → List Decision
path_of path w = take w.above path ++ w.decision ∷ []

-- the nodes that wait, the next one first: each hangs at a part of the path, and those behind it at a part of that
abbrev pub AreReady : LineData → List Node → List Decision → List Waiting → Type 0
AreReady l nodes path [] = Unit {0}
AreReady l nodes path (w ∷ ws) = (w.above ≤ length path) × IsReady l nodes (path_of path w) w.node × AreReady l nodes (take w.above path) ws

-- a longer path leaves them ready
ready_longer : (l : LineData) (nodes : List Node) (path more : List Decision) (ws : List Waiting)
    → AreReady l nodes path ws
    → AreReady l nodes (path ++ more) ws
ready_longer l nodes path more [] h = tt
ready_longer l nodes path more (w ∷ ws) h =
    let same : take w.above (path ++ more) ≡ take w.above path = take-append-le w.above path more h.0 in
    let P : List Decision → Type 0 = λ ds. IsReady l nodes (ds ++ w.decision ∷ []) w.node in
    let Q : List Decision → Type 0 = λ ds. AreReady l nodes ds ws in
    (omega (arith, h.0, length-append path more), subst P (sym same) h.1, subst Q (sym same) h.2)

-- the children of a split at the path's end are ready
ready_children : (l : LineData) (nodes : List Node) (path : List Decision) (question : Question) (m : ℕ) (cs : List ℕ) (ws : List Waiting)
    → ((k : ℕ) → k < length cs → IsReady l nodes (path ++ (let d : Decision = record { question = question; child = m + k } in d) ∷ []) (get_or cs k 0))
    → AreReady l nodes path ws → AreReady l nodes path (waits_of (length path) question m cs ++ ws)
ready_children l nodes path question m [] ws each h = h
ready_children l nodes path question m (c ∷ cs) ws each h =
    let whole : take (length path) path ≡ path = take_all (length path) path (omega arith) in
    let decision : ℕ → Decision = λ n. record { question = question; child = n } in
    let zero_in : m + 0 ≡ m = omega arith in
    let N : ℕ → Type 0 = λ n. IsReady l nodes (path ++ decision n ∷ []) c in
    let P : List Decision → Type 0 = λ ds. IsReady l nodes (ds ++ decision m ∷ []) c in
    let Q : List Decision → Type 0 = λ ds. AreReady l nodes ds (waits_of (length path) question (m + 1) cs ++ ws) in
    let rest =
    ready_children l nodes path question (m + 1) cs ws
    (λ k lt. let e : m + suc k ≡ m + 1 + k = omega arith in let M : ℕ → Type 0 = λ n. IsReady l nodes (path ++ decision n ∷ []) (get_or cs k 0) in subst M e
    (each (suc k) (omega (arith, lt)))) h in
    (omega arith, subst P (sym whole) (subst N zero_in (each 0 (omega arith))), subst Q (sym whole) rest)

-- where one is: at node number n, with its path and the nodes that wait
pub record IsOnWay (l : LineData) (nodes : List Node) (n at : ℕ) (path : List Decision) (waiting : List Waiting) : Type 0 where
  pub here : IsReady l nodes path at
  pub left_over : drop n (preorder nodes) ≡ below nodes at ++ flat_map (below nodes) (map (λ (w : Waiting). w.node) (reverse waiting))
  pub ready : AreReady l nodes path (reverse waiting)

pub on_way_first : (l : LineData) (nodes : List Node) (path : List Decision) (waiting : List Waiting) → IsTree nodes
    → path ≡ [] → waiting ≡ []
    → IsOnWay l nodes 0 0 path waiting
on_way_first l nodes path waiting tree e f =
    let P : List Decision → Type 0 = λ ds. IsOnWay l nodes 0 0 ds waiting in
    let Q : List Waiting → Type 0 = λ ws. IsOnWay l nodes 0 0 [] ws in
    subst P (sym e) (subst Q (sym f) (record {
      here = record { leads = refl; fits = λ i lt. absurd (omega (arith, lt)); there = tree.root };
      left_over = sym (append-nil (below nodes 0));
      ready = tt;
    }))

-- the node where one is has its number
first_left_over : (nodes : List Node) (n i : ℕ) (rest : List ℕ) → drop n (preorder nodes) ≡ i ∷ rest
    → (n < length (preorder nodes)) × (number_at nodes n ≡ i)
first_left_over nodes n i rest e =
    let size = ap (λ (xs : List ℕ). length xs) e in
    let z : n + 0 ≡ n = omega arith in
    let first : get_or (drop n (preorder nodes)) 0 0 ≡ i = ap (λ (xs : List ℕ). get_or xs 0 0) e in (
      omega (arith, size, length-drop n (preorder nodes)),
      sym (ap (λ (k : ℕ). get_or (preorder nodes) k 0) z) ∙ sym (get_or-drop n (preorder nodes) 0 0)
          ∙ first,
    )

over_here : (l : LineData) (nodes : List Node) (n at : ℕ) (path : List Decision) (waiting : List Waiting) → IsTree nodes
    → IsOnWay l nodes n at path waiting
    → drop n (preorder nodes) ≡ at ∷ flat_map (below nodes) (children_of (node_at nodes at) ++ map (λ (w : Waiting). w.node) (reverse waiting))
over_here l nodes n at path waiting tree way =
    let rest = map (λ (w : Waiting). w.node) (reverse waiting) in
    let cs = children_of (node_at nodes at) in
    way.left_over
    ∙ ap (λ (xs : List ℕ). xs ++ flat_map (below nodes) rest) (below_step nodes tree at way.here.there)
    ∙ ap (λ (xs : List ℕ). at ∷ xs) (sym (flat_map-append (below nodes) cs rest))

pub stands_here : (l : LineData) (nodes : List Node) (n at : ℕ) (path : List Decision) (waiting : List Waiting)
    → IsTree nodes
    → IsOnWay l nodes n at path waiting → StandsAt nodes n at path
stands_here l nodes n at path waiting tree way =
    let r = first_left_over nodes n at _ (over_here l nodes n at path waiting tree way) in
    record { there = r.0; is = r.1; leads = way.here.leads }

-- only this node and path stand there
same_stand : (nodes : List Node) (n i j : ℕ) (p q : List Decision) → IsTree nodes → StandsAt nodes n i p
    → StandsAt nodes n j q → (i ≡ j) × (p ≡ q)
same_stand nodes n i j p q tree a b =
    let e : i ≡ j = sym a.is ∙ b.is in
    let P : ℕ → Type 0 = λ k. IsPathTo nodes k p in
    (e, one_path nodes j p q tree (subst P e a.leads) b.leads)

-- ---- the nodes before one

-- all nodes before number n show what they are to show
abbrev pub AreShown : LineData → List Node → ℕ → ℕ → Type 0
AreShown l nodes bound n = (m i : ℕ) (p : List Decision) → m < n → StandsAt nodes m i p → Shows l p (node_at nodes i) bound

pub flawed_here : (l : LineData) (nodes : List Node) (bound n at : ℕ) (path : List Decision) (r : Reason) → IsTree nodes
    → StandsAt nodes n at path → AreShown l nodes bound n → IsFirstFlaw l path (node_at nodes at) bound n r
    → IsFirstFlawed l nodes bound r
flawed_here l nodes bound n at path r tree stands shown first =
    let F : ℕ → Type 0 = λ k. IsFlawed l nodes bound k r in
    let flawed : IsFlawed l nodes bound n r = record { node = at; path = path; stands = stands; flaw = first.has } in
    record {
      has = subst F (sym first.names) flawed;
      first = λ m s lt f. no_flaw_shown l f.path (node_at nodes f.node) bound s (shown m f.node f.path (omega (arith, lt, first.names)) f.stands) f.flaw;
      first_here = λ s f less.
          let S : ℕ → Type 0 = λ k. StandsAt nodes k f.node f.path in
          let same = same_stand nodes n f.node at f.path path tree (subst S first.names f.stands) stands in
          let P : ℕ → Type 0 = λ i. HasFlaw l f.path (node_at nodes i) bound s in
          let Q : List Decision → Type 0 = λ ds. HasFlaw l ds (node_at nodes at) bound s in
          first.first s (subst Q same.1 (subst P same.0 f.flaw)) less;
    }

-- all nodes up to this one show it
pub shown_more : (l : LineData) (nodes : List Node) (bound n at : ℕ) (path : List Decision) → IsTree nodes
    → StandsAt nodes n at path → AreShown l nodes bound n → Shows l path (node_at nodes at) bound
    → AreShown l nodes bound (n + 1)
shown_more l nodes bound n at path tree here shown shows m i p lt stands =
    ⊎_elim (λ before. shown m i p before stands)
    (λ ge.
    let e : m ≡ n = omega (arith, lt, ge) in
    let S : ℕ → Type 0 = λ k. StandsAt nodes k i p in
    let same = same_stand nodes n i at p path tree (subst S e stands) here in
    let P : ℕ → Type 0 = λ k. Shows l p (node_at nodes k) bound in
    let Q : List Decision → Type 0 = λ ds. Shows l ds (node_at nodes at) bound in
    subst P (sym same.0) (subst Q (sym same.1) shows))
    (cases_lt m n)

-- ---- on to the next node

-- where one is, with the children of this node waiting
pub record IsPushed (l : LineData) (nodes : List Node) (n : ℕ) (path : List Decision) (waiting : List Waiting) : Type 0 where
  pub left_over : drop (n + 1) (preorder nodes) ≡ flat_map (below nodes) (map (λ (w : Waiting). w.node) (reverse waiting))
  pub ready : AreReady l nodes path (reverse waiting)

drop_one : (n i : ℕ) (xs rest : List ℕ) → drop n xs ≡ i ∷ rest → drop (n + 1) xs ≡ rest
drop_one n i xs rest e =
    sym (drop-drop 1 n xs) ∙ ap (λ (ys : List ℕ). drop 1 ys) e

children_ready : (l : LineData) (nodes : List Node) (at : ℕ) (path : List Decision) (question : Question) (cs : List ℕ)
    → IsTree nodes
    → IsReady l nodes path at → node_at nodes at ≡ Split question cs → IsWholeSplit l path question cs
    → (k : ℕ) → k < length cs
    → IsReady l nodes (path ++ (let d : Decision = record { question = question; child = 0 + k } in d) ∷ []) (get_or cs k 0)
children_ready l nodes at path question cs tree here split whole k lt =
    let d : Decision = record { question = question; child = 0 + k } in
    let z : 0 + k ≡ k = omega arith in
    let b : Branches nodes at d (get_or cs k 0) = record { children = cs; split = split; there = omega (arith, lt); child = ap (λ (n : ℕ). get_or cs n 0) z } in
    record {
      leads = leads_on nodes 0 at (get_or cs k 0) path d here.leads b;
      fits = fits_more l path d here.fits (record { question = whole.fits; child = omega (arith, lt, whole.count) });
      there = (branch_later nodes at d (get_or cs k 0) tree b).1;
    }

pushed_split : (l : LineData) (nodes : List Node) (n at : ℕ) (path : List Decision) (waiting pushed : List Waiting) (question : Question)
    (cs : List ℕ)
    → IsTree nodes → IsOnWay l nodes n at path waiting → node_at nodes at ≡ Split question cs
    → IsWholeSplit l path question cs → pushed ≡ waiting ++ reverse (waits_of (length path) question 0 cs)
    → IsPushed l nodes n path pushed
pushed_split l nodes n at path waiting pushed question cs tree way split whole is =
    let ws = waits_of (length path) question 0 cs in
    let turned : reverse pushed ≡ ws ++ reverse waiting =
    ap (λ (xs : List Waiting). reverse xs) is ∙ reverse-append waiting (reverse ws) ∙ ap (λ (xs : List Waiting). xs ++ reverse waiting) (reverse-reverse ws) in
    let kids : children_of (node_at nodes at) ≡ cs = ap children_of split in
    let name : Waiting → ℕ = λ w. w.node in
    let names : map name (ws ++ reverse waiting) ≡ cs ++ map name (reverse waiting) =
    map-append name ws (reverse waiting) ∙ ap (λ (xs : List ℕ). xs ++ map name (reverse waiting)) (nodes-waits (length path) question 0 cs) in
    let over = drop_one n at (preorder nodes) _ (over_here l nodes n at path waiting tree way) in
    let A : List Waiting → Type 0 = λ xs. AreReady l nodes path xs in
    record {
      left_over =
          over ∙ ap (λ (xs : List ℕ). flat_map (below nodes) (xs ++ map name (reverse waiting))) kids
          ∙ ap (λ (xs : List ℕ). flat_map (below nodes) xs) (sym names) ∙ ap (λ (xs : List Waiting). flat_map (below nodes) (map name xs)) (sym turned);
      ready =
          subst A (sym turned) (ready_children l nodes path question 0 cs (reverse waiting)
          (children_ready l nodes at path question cs tree way.here split whole) way.ready);
    }

pushed_leaf : (l : LineData) (nodes : List Node) (n at : ℕ) (path : List Decision) (waiting pushed : List Waiting)
    → IsTree nodes
    → IsOnWay l nodes n at path waiting → children_of (node_at nodes at) ≡ [] → pushed ≡ waiting ++ []
    → IsPushed l nodes n path pushed
pushed_leaf l nodes n at path waiting pushed tree way none is =
    let P : List Waiting → Type 0 = λ ws. IsPushed l nodes n path ws in
    let name : Waiting → ℕ = λ w. w.node in
    let over = drop_one n at (preorder nodes) _ (over_here l nodes n at path waiting tree way) in
    subst P (sym (is ∙ append-nil waiting)) (record {
      left_over = over ∙ ap (λ (xs : List ℕ). flat_map (below nodes) (xs ++ map name (reverse waiting))) none;
      ready = way.ready;
    })

-- the next node is taken
pub way_on : (l : LineData) (nodes : List Node) (n : ℕ) (path : List Decision) (pushed popped : List Waiting) (w : Waiting) (next : List Decision)
    → IsPushed l nodes n path pushed → pushed ≡ popped ++ w ∷ [] → next ≡ path_of path w
    → IsOnWay l nodes (n + 1) w.node next popped
way_on l nodes n path pushed popped w next p e is =
    let turned : reverse pushed ≡ w ∷ reverse popped = ap (λ (xs : List Waiting). reverse xs) e ∙ reverse-append popped (w ∷ []) in
    let A : List Waiting → Type 0 = λ xs. AreReady l nodes path xs in
    let ready = subst A turned p.ready in
    let name : Waiting → ℕ = λ v. v.node in
    let R : List Decision → Type 0 = λ ds. IsReady l nodes ds w.node in
    let B : List Decision → Type 0 = λ ds. AreReady l nodes ds (reverse popped) in
    record {
      here = subst R (sym is) ready.1;
      left_over = p.left_over ∙ ap (λ (xs : List Waiting). flat_map (below nodes) (map name xs)) turned;
      ready = subst B (sym is) (ready_longer l nodes (take w.above path) (w.decision ∷ []) (reverse popped) ready.2);
    }

-- no node waits: the tree proves the bound
pub way_ends : (l : LineData) (nodes : List Node) (bound n : ℕ) (path : List Decision) (pushed : List Waiting)
    → IsTree nodes
    → IsPushed l nodes n path pushed → pushed ≡ [] → AreShown l nodes bound (n + 1) → Proves l nodes bound
way_ends l nodes bound n path pushed tree p none shown i q lt leads =
    let name : Waiting → ℕ = λ v. v.node in
    let over : drop (n + 1) (preorder nodes) ≡ [] = p.left_over ∙ ap (λ (xs : List Waiting). flat_map (below nodes) (map name (reverse xs))) none in
    let size = ap (λ (xs : List ℕ). length xs) over in
    let (m, there, is) = place_of_path nodes tree i q leads in
    shown m i q (omega (arith, there, size, length-drop (n + 1) (preorder nodes))) (record { there = there; is = is; leads = leads })

-- one isn't past the last node
pub way_within : (l : LineData) (nodes : List Node) (n at : ℕ) (path : List Decision) (waiting : List Waiting)
    → IsTree nodes
    → IsOnWay l nodes n at path waiting → n < length nodes
way_within l nodes n at path waiting tree way =
    omega (arith, (stands_here l nodes n at path waiting tree way).there, preorder_short nodes tree)

-- a node that has a text has few children
few_asked : (single : Bool) (question : Question) (count : ℕ) → IsQuestionText single question count → count ≤ 6
few_asked single (Choose v) count text = text.2
few_asked single (TankOrder a b q) count text = omega (arith, text.3)
few_asked single (HoistOrder a b q) count text = omega (arith, text.3)
few_asked single (Assign m) count text = text.1

pub few_children : (single : Bool) (node : Node) → IsNodeText single node → length (children_of node) ≤ 6
few_children single (Split question children) text = few_asked single question (length children) text
few_children single (Closed low high) text = omega arith
few_children single (Stuck m) text = omega arith
few_children single (Solved low) text = omega arith
few_children single (Left low) text = omega arith

-- a node's children, at what the code reads
pushed_at : (l : LineData) (nodes : List Node) (bound n at : ℕ) (path : List Decision) (waiting pushed : List Waiting) (node : Node)
    → IsTree nodes
    → IsOnWay l nodes n at path waiting → node_at nodes at ≡ node → (IsTrue (is_split node) → Shows l path node bound)
    → pushed ≡ waiting ++ reverse (waits_below (length path) node) → IsPushed l nodes n path pushed
pushed_at l nodes bound n at path waiting pushed (Split question cs) tree way e shows is =
    pushed_split l nodes n at path waiting pushed question cs tree way e (shows refl) is
pushed_at l nodes bound n at path waiting pushed (Closed low high) tree way e shows is =
    pushed_leaf l nodes n at path waiting pushed tree way (ap children_of e) is
pushed_at l nodes bound n at path waiting pushed (Stuck m) tree way e shows is =
    pushed_leaf l nodes n at path waiting pushed tree way (ap children_of e) is
pushed_at l nodes bound n at path waiting pushed (Solved low) tree way e shows is =
    pushed_leaf l nodes n at path waiting pushed tree way (ap children_of e) is
pushed_at l nodes bound n at path waiting pushed (Left low) tree way e shows is =
    pushed_leaf l nodes n at path waiting pushed tree way (ap children_of e) is

pub pushed_node : (l : LineData) (nodes : List Node) (bound n at : ℕ) (path slice : List Decision) (waiting pushed : List Waiting) (node : Node) (above : ℕ)
    → IsTree nodes → IsOnWay l nodes n at path waiting → node ≡ node_at nodes at → slice ≡ path → above ≡ length slice
    → (IsTrue (is_split node) → Shows l slice node bound)
    → pushed ≡ waiting ++ reverse (waits_below above node) → IsPushed l nodes n path pushed
pushed_node l nodes bound n at path slice waiting pushed node above tree way read same up shows is =
    let D : List Decision → Type 0 = λ ds. IsTrue (is_split node) → Shows l ds node bound in
    let depth : above ≡ length path = up ∙ ap (λ (ds : List Decision). length ds) same in
    pushed_at l nodes bound n at path waiting pushed node tree way (sym read) (subst D same shows)
    (is ∙ ap (λ (k : ℕ). waiting ++ reverse (waits_below k node)) depth)

pub empty : (ws : List Waiting) → length ws ≡ 0 → ws ≡ []
empty [] e = refl
empty (w ∷ ws) e = absurd (omega (arith, e))
