-- The preorder, one node after another.
use Rattle.std.proofs.Common.{◌≡◌, ℕ, zero, suc, ◌+◌, ◌-◌, ◌<◌, ◌≤◌, List, [], ◌∷◌, ◌++◌, length, get_or, take, reverse, refl, sym, ◌∙◌, ap, subst, arith, append_assoc, None}
use Rattle.std.specs.List.{All, flat_map}
use Rattle.std.proofs.lemmas.List.{take_all, take_more, get_or-reverse, length-reverse, get_or_default, get_or_read, reverse-append, reverse-reverse}
use Rattle.std.proofs.lemmas.Grind.{flat_map-append}
use Rattle.std.proofs.lemmas.List.Elements.{All-append}
use Rattle.choice_tree.specs.declared.node.Node.{Node}
use Rattle.choice_tree.specs.declared.node.Node.TheVariants.{Left}
use Rattle.choice_tree.specs.Nodes.{node_at, children_of}
use Rattle.choice_tree.specs.Trees.{IsTree, preorder_below, preorder}

-- two functions that agree on every element of a list make one list of it
pub flat_map_same : (F G : ℕ → List ℕ) (xs : List ℕ) → ((m : ℕ) → m < length xs → F (get_or xs m 0) ≡ G (get_or xs m 0))
    → flat_map F xs ≡ flat_map G xs
flat_map_same F G [] h = refl
flat_map_same F G (x ∷ xs) h =
    let e : F x ≡ G x = h 0 (omega arith) in
    let r : flat_map F xs ≡ flat_map G xs = flat_map_same F G xs (λ m lt. h (suc m) (omega arith)) in
    ap (λ (ys : List ℕ). ys ++ flat_map F xs) e ∙ ap (λ (ys : List ℕ). G x ++ ys) r

-- each depth that is enough gives the same order
pub enough : (nodes : List Node) → IsTree nodes → (f g i : ℕ) → i < length nodes → length nodes ≤ f + i
    → length nodes ≤ g + i → preorder_below f nodes i ≡ preorder_below g nodes i
enough nodes tree zero g i lt p q = absurd (omega arith)
enough nodes tree (suc f) zero i lt p q = absurd (omega arith)
enough nodes tree (suc f) (suc g) i lt p q =
    let cs = children_of (node_at nodes i) in
    ap (λ (xs : List ℕ). i ∷ xs)
    (flat_map_same (preorder_below f nodes) (preorder_below g nodes) cs
    (λ m h.
    let c = tree.later i m (get_or cs m 0) (record { there = h; child = refl }) in
    enough nodes tree f g (get_or cs m 0) c.1 (omega (arith, c.0, p)) (omega (arith, c.0, q))))

-- all that is below a node, at full depth
abbrev pub below : List Node → ℕ → List ℕ
below nodes i = preorder_below (length nodes) nodes i

-- a node comes first, then all that is below its children, one child after another
pub below_step : (nodes : List Node) → IsTree nodes → (i : ℕ) → i < length nodes
    → below nodes i ≡ i ∷ flat_map (below nodes) (children_of (node_at nodes i))
below_step nodes tree i lt = enough nodes tree (length nodes) (suc (length nodes)) i lt (omega arith) (omega arith)

all_there : (P : ℕ → Type 0) (xs : List ℕ) → ((m : ℕ) → m < length xs → P (get_or xs m 0)) → All P xs
all_there P xs h = λ k d lt. subst P (get_or_default xs k 0 d lt) (h k lt)

all_first : (P : ℕ → Type 0) (x : ℕ) (xs : List ℕ) → All P (x ∷ xs) → P x
all_first P x xs h = h 0 x (omega arith)

all_rest : (P : ℕ → Type 0) (x : ℕ) (xs : List ℕ) → All P (x ∷ xs) → All P xs
all_rest P x xs h = λ k d lt. h (suc k) d (omega arith)

all_one : (P : ℕ → Type 0) (x : ℕ) → P x → All P (x ∷ [])
all_one P x h = all_there P (x ∷ []) one
  where
    one : (m : ℕ) → m < 1 → P (get_or (x ∷ []) m 0)
    one zero lt = h
    one (suc m) lt = absurd (omega arith)

-- what is written out, followed by all that is below the nodes that wait, the last one first, is the preorder
pub record IsWalked (nodes : List Node) (out waiting : List ℕ) : Type 0 where
  pub same : out ++ flat_map (below nodes) (reverse waiting) ≡ preorder nodes
  pub there : All (λ i. i < length nodes) (reverse waiting)

pub walked_start : (nodes : List Node) → IsTree nodes → IsWalked nodes [] (0 ∷ [])
walked_start nodes tree = record { same = append_nil_of (below nodes 0); there = all_one (λ k. k < length nodes) 0 tree.root }
  where
    append_nil_of : (xs : List ℕ) → xs ++ [] ≡ xs
    append_nil_of [] = refl
    append_nil_of (x ∷ xs) = ap (λ (ys : List ℕ). x ∷ ys) (append_nil_of xs)

reverse_push : (xs : List ℕ) (x : ℕ) → reverse (xs ++ x ∷ []) ≡ x ∷ reverse xs
reverse_push xs x = reverse-append xs (x ∷ [])

reverse_pushed : (xs cs : List ℕ) → reverse (xs ++ reverse cs) ≡ cs ++ reverse xs
reverse_pushed xs cs = reverse-append xs (reverse cs) ∙ ap (λ (ys : List ℕ). ys ++ reverse xs) (reverse-reverse cs)

-- the node that waits on top
pub walked_top : (nodes : List Node) (out waiting popped : List ℕ) (i : ℕ) → IsWalked nodes out waiting
    → waiting ≡ popped ++ i ∷ [] → i < length nodes
walked_top nodes out waiting popped i w e =
    let P : List ℕ → Type 0 = λ xs. All (λ k. k < length nodes) xs in
    let all : P (i ∷ reverse popped) = subst P (ap (λ (xs : List ℕ). reverse xs) e ∙ reverse_push popped i) w.there in
    all_first (λ k. k < length nodes) i (reverse popped) all

rest_of : (nodes : List Node) → IsTree nodes → (popped : List ℕ) (i : ℕ) → i < length nodes
    → flat_map (below nodes) (i ∷ reverse popped) ≡ i ∷ flat_map (below nodes) (children_of (node_at nodes i) ++ reverse popped)
rest_of nodes tree popped i lt =
    let cs = children_of (node_at nodes i) in
    let e = below_step nodes tree i lt in
    ap (λ (ys : List ℕ). ys ++ flat_map (below nodes) (reverse popped)) e
    ∙ ap (λ (ys : List ℕ). i ∷ ys) (sym (flat_map-append (below nodes) cs (reverse popped)))

-- one node is written out, and its children wait in its place
next_of : (nodes : List Node) → IsTree nodes → (out waiting popped pushed : List ℕ) (i : ℕ) → IsWalked nodes out waiting
    → waiting ≡ popped ++ i ∷ [] → pushed ≡ popped ++ reverse (children_of (node_at nodes i))
    → IsWalked nodes (out ++ i ∷ []) pushed
next_of nodes tree out waiting popped pushed i w e e' =
    let cs = children_of (node_at nodes i) in
    let lt = walked_top nodes out waiting popped i w e in
    let was : reverse waiting ≡ i ∷ reverse popped = ap (λ (xs : List ℕ). reverse xs) e ∙ reverse_push popped i in
    let is : reverse pushed ≡ cs ++ reverse popped = ap (λ (xs : List ℕ). reverse xs) e' ∙ reverse_pushed popped cs in
    let P : List ℕ → Type 0 = λ xs. All (λ k. k < length nodes) xs in
    let all : P (i ∷ reverse popped) = subst P was w.there in
    let rest = all_rest (λ k. k < length nodes) i (reverse popped) all in
    record {
      same =
          ap (λ (xs : List ℕ). (out ++ i ∷ []) ++ flat_map (below nodes) xs) is
          ∙ append_assoc out (i ∷ []) (flat_map (below nodes) (cs ++ reverse popped))
          ∙ ap (λ (ys : List ℕ). out ++ ys) (sym (rest_of nodes tree popped i lt))
          ∙ ap (λ (xs : List ℕ). out ++ flat_map (below nodes) xs) (sym was) ∙ w.same;
      there =
          subst P (sym is) (All-append (λ k. k < length nodes) cs (reverse popped)
          (all_there (λ k. k < length nodes) cs (λ m h. (tree.later i m (get_or cs m 0) (record { there = h; child = refl })).1)) rest);
    }

-- what is still to be written out
abbrev pub left_over : List Node → List ℕ → ℕ
left_over nodes waiting = length (flat_map (preorder_below (length nodes) nodes) (reverse waiting))

falls_of : (nodes : List Node) → IsTree nodes → (out waiting popped pushed : List ℕ) (i : ℕ)
    → IsWalked nodes out waiting → waiting ≡ popped ++ i ∷ []
    → pushed ≡ popped ++ reverse (children_of (node_at nodes i)) → left_over nodes pushed < left_over nodes waiting
falls_of nodes tree out waiting popped pushed i w e e' =
    let cs = children_of (node_at nodes i) in
    let lt = walked_top nodes out waiting popped i w e in
    let was : flat_map (below nodes) (reverse waiting) ≡ i ∷ flat_map (below nodes) (cs ++ reverse popped) =
    ap (λ (xs : List ℕ). flat_map (below nodes) xs) (ap (λ (xs : List ℕ). reverse xs) e ∙ reverse_push popped i) ∙ rest_of nodes tree popped i lt in
    let is : flat_map (below nodes) (reverse pushed) ≡ flat_map (below nodes) (cs ++ reverse popped) =
    ap (λ (xs : List ℕ). flat_map (below nodes) xs) (ap (λ (xs : List ℕ). reverse xs) e' ∙ reverse_pushed popped cs) in
    omega (arith, ap (λ (xs : List ℕ). length xs) was, ap (λ (xs : List ℕ). length xs) is)

-- both at what the code reads: the node i that was taken off, its children, and the list with one more number
kids_of : (nodes : List Node) (i : ℕ) (top : Node) (popped pushed kids : List ℕ) → i < length nodes
    → top ≡ get_or nodes i top → kids ≡ children_of top → pushed ≡ popped ++ reverse kids
    → pushed ≡ popped ++ reverse (children_of (node_at nodes i))
kids_of nodes i top popped pushed kids lt read is e =
    let at : top ≡ node_at nodes i = get_or_read nodes i top lt read (Left None) in
    e ∙ ap (λ (xs : List ℕ). popped ++ reverse xs) (is ∙ ap children_of at)

pub walked_next : (nodes : List Node) → IsTree nodes
    → (out waiting popped pushed kids out' : List ℕ) (i : ℕ) (top : Node) → IsWalked nodes out waiting
    → waiting ≡ popped ++ i ∷ [] → top ≡ get_or nodes i top → kids ≡ children_of top → pushed ≡ popped ++ reverse kids
    → out' ≡ out ++ i ∷ [] → IsWalked nodes out' pushed
walked_next nodes tree out waiting popped pushed kids out' i top w e read is e' longer =
    let lt = walked_top nodes out waiting popped i w e in
    let P : List ℕ → Type 0 = λ xs. IsWalked nodes xs pushed in
    subst P (sym longer) (next_of nodes tree out waiting popped pushed i w e (kids_of nodes i top popped pushed kids lt read is e'))

pub walked_falls : (nodes : List Node) → IsTree nodes → (out waiting popped pushed kids : List ℕ) (i : ℕ) (top : Node)
    → IsWalked nodes out waiting → waiting ≡ popped ++ i ∷ [] → top ≡ get_or nodes i top → kids ≡ children_of top
    → pushed ≡ popped ++ reverse kids → left_over nodes pushed < left_over nodes waiting
walked_falls nodes tree out waiting popped pushed kids i top w e read is e' =
    let lt = walked_top nodes out waiting popped i w e in
    falls_of nodes tree out waiting popped pushed i w e (kids_of nodes i top popped pushed kids lt read is e')

-- one more number of a list goes on a stack, from the last to the first
pub pushed_more : (old xs stack pushed : List ℕ) (k v : ℕ) → k < length xs → v ≡ get_or xs (length xs - 1 - k) v
    → stack ≡ old ++ take k (reverse xs) → pushed ≡ stack ++ v ∷ [] → pushed ≡ old ++ take (k + 1) (reverse xs)
pushed_more old xs stack pushed k v lt read was is =
    let there : k < length (reverse xs) = omega (arith, length-reverse xs) in
    let e : v ≡ get_or (reverse xs) k v = read ∙ sym (get_or-reverse xs k v lt) in
    let more : take (k + 1) (reverse xs) ≡ take k (reverse xs) ++ v ∷ [] = take_more (reverse xs) k v there
    ∙ ap (λ (n : ℕ). take k (reverse xs) ++ n ∷ []) (sym e) in
    is ∙ ap (λ (ys : List ℕ). ys ++ v ∷ []) was ∙ append_assoc old (take k (reverse xs)) (v ∷ []) ∙ ap (λ (ys : List ℕ). old ++ ys) (sym more)

pub pushed_all : (old xs stack : List ℕ) (count : ℕ) → count ≡ length xs → stack ≡ old ++ take count (reverse xs)
    → stack ≡ old ++ reverse xs
pushed_all old xs stack count e was =
    was ∙ ap (λ (ys : List ℕ). old ++ ys) (take_all count (reverse xs) (omega (arith, length-reverse xs, e)))
