-- The leaves that are kept on the way through a tree.
use Rattle.std.proofs.Common.{⊎_elim, Bool, true, false, IsTrue, true≢false, ◌≡◌, ℕ, suc, ◌+◌, ◌-◌, ◌<◌, List, [], ◌∷◌, ◌++◌, length, get_or, take, drop, map, Option, Some, None, MatchOption, All, Bor, refl, sym, ◌∙◌, ap, subst, arith}
use Rattle.std.specs.Prelude.{slice_get}
use Rattle.std.specs.Option.{is_some, option_or}
use Rattle.std.specs.List.{AllZip}
use Rattle.std.proofs.lemmas.Bool.{cases_lt}
use Rattle.std.proofs.lemmas.List.{map-append, length-drop, drop-append-le, drop_at, take-append-le, take_all, append-nil, length-append, get_or_append_left, get_or-append-add}
use Rattle.std.proofs.lemmas.List.Elements.{All-nil, All-cons, All-push, All-get_or, All-head, All-tail}
use Rattle.rayon.specs.Lists.{filter_by_mask}
use Rattle.rayon.proofs.ListFacts.{All-parts, AllZip-through}
use Rattle.rayon.proofs.ToStd.{slice-AllZip, answers-by_ref}
use Rattle.hoist_base.specs.LineData.{LineData}
use Rattle.choice_tree.specs.declared.question.Decision.{Decision}
use Rattle.choice_tree.specs.declared.node.Node.{Node}
use Rattle.choice_tree.specs.Nodes.{node_at}
use Rattle.choice_tree.specs.Trees.{IsTree}
use Rattle.path_constraints.specs.Proves.{Shows}
use Rattle.cert_checker.specs.declared.reason.Reason.{Reason}
use Rattle.cert_checker.specs.declared.tree.Waiting.{Waiting}
use Rattle.cert_checker.specs.Reasons.{is_split}
use Rattle.cert_checker.specs.Judged.{IsFirstFlaw}
use Rattle.cert_checker.specs.Waiting.{IsFirstFlawed, IsTreeAnswer}
use Rattle.cert_checker.specs.declared.passed.Leaf.{Leaf}
use Rattle.cert_checker.specs.Passed.{PassedLeaf, leaf_of, IsWithin}
use Rattle.cert_checker.specs.Trying.{IsPassed, passed_with, passed_at, LeafShows, IsLeafAnswer, IsFirstAmong, IsAnswerOf, AreTried}
use Rattle.cert_checker.proofs.TreeLemmas.{IsOnWay, IsPushed, AreShown, stands_here, flawed_here, shown_more, way_ends}

-- the leaves among the nodes before number n that are still to be tried: where those before one of them show what they
-- are to show, so does every node before it, and where they all do, every node before number n
pub record AreKept (l : LineData) (nodes : List Node) (bound n : ℕ) (leaves : List PassedLeaf) : Type 0 where
  pub each : All (IsPassed l nodes) leaves
  pub covered : (k : ℕ) (d : PassedLeaf) → k < length leaves → All (LeafShows l nodes bound) (take k leaves)
      → AreShown l nodes bound (get_or leaves k d).number
  pub shown : All (LeafShows l nodes bound) leaves → AreShown l nodes bound n

pub kept_none : (l : LineData) (nodes : List Node) (bound n : ℕ) (leaves : List PassedLeaf) → leaves ≡ []
    → AreShown l nodes bound n
    → AreKept l nodes bound n leaves
kept_none l nodes bound n leaves none shown =
    let P : List PassedLeaf → Type 0 = λ xs. AreKept l nodes bound n xs in
    subst P (sym none) (record {
      each = All-nil (λ x. IsPassed l nodes x);
      covered = λ k d lt. absurd (omega (arith, lt));
      shown = λ all. shown;
    })

pub kept_first : (l : LineData) (nodes : List Node) (bound : ℕ) (leaves : List PassedLeaf) → leaves ≡ []
    → AreKept l nodes bound 0 leaves
kept_first l nodes bound leaves none = kept_none l nodes bound 0 leaves none (λ m i p lt stands. absurd (omega (arith, lt)))

-- one more leaf is kept
kept_more : (l : LineData) (nodes : List Node) (bound n at : ℕ) (path : List Decision) (waiting : List Waiting) (leaves : List PassedLeaf)
    → IsTree nodes
    → IsOnWay l nodes n at path waiting → AreKept l nodes bound n leaves
    → AreKept l nodes bound (n + 1) (leaves ++ (let x : PassedLeaf = record { number = n; node = at; path = path } in x) ∷ [])
kept_more l nodes bound n at path waiting leaves tree way kept =
    let x : PassedLeaf = record { number = n; node = at; path = path } in
    let stands = stands_here l nodes n at path waiting tree way in
    let P : PassedLeaf → Type 0 = λ y. LeafShows l nodes bound y in
    let N : PassedLeaf → Type 0 = λ y. AreShown l nodes bound y.number in
    let A : List PassedLeaf → Type 0 = λ xs. All P xs in
    record {
      each = All-push (λ y. IsPassed l nodes y) leaves x kept.each (record { stands = stands; there = way.here.there; fits = way.here.fits });
      covered = λ k d lt before.
          ⊎_elim
          (λ inside.
          subst N (sym (get_or_append_left leaves (x ∷ []) d k inside))
          (kept.covered k d inside (subst A (take-append-le k leaves (x ∷ []) (omega (arith, inside))) before)))
          (λ past.
          let e : k ≡ length leaves + 0 = omega (arith, past, lt, length-append leaves (x ∷ [])) in
          let last : get_or (leaves ++ x ∷ []) k d ≡ x = ap (λ (j : ℕ). get_or (leaves ++ x ∷ []) j d) e ∙ get_or-append-add leaves (x ∷ []) 0 d in
          let whole : take k (leaves ++ x ∷ []) ≡ leaves =
          take-append-le k leaves (x ∷ []) (omega (arith, e)) ∙ take_all k leaves (omega (arith, e)) in
          subst N (sym last) (kept.shown (subst A whole before)))
          (cases_lt k (length leaves));
      shown = λ all.
          let parts = All-parts P leaves (x ∷ []) all in
          shown_more l nodes bound n at path tree stands (kept.shown parts.0) (All-head P x [] parts.1);
    }

-- a split that shows what it is to show is passed
kept_split : (l : LineData) (nodes : List Node) (bound n at : ℕ) (path : List Decision) (waiting : List Waiting) (leaves : List PassedLeaf)
    → IsTree nodes
    → IsOnWay l nodes n at path waiting → AreKept l nodes bound n leaves → Shows l path (node_at nodes at) bound
    → AreKept l nodes bound (n + 1) leaves
kept_split l nodes bound n at path waiting leaves tree way kept shows = record {
  each = kept.each;
  covered = kept.covered;
  shown = λ all. shown_more l nodes bound n at path tree (stands_here l nodes n at path waiting tree way) (kept.shown all) shows;
}

kept_with : (l : LineData) (nodes : List Node) (bound n at : ℕ) (path : List Decision) (waiting : List Waiting) (leaves : List PassedLeaf) (split : Bool)
    → IsTree nodes → IsOnWay l nodes n at path waiting → AreKept l nodes bound n leaves
    → (IsTrue split → Shows l path (node_at nodes at) bound)
    → AreKept l nodes bound (n + 1) (leaves ++ passed_with split n at path)
kept_with l nodes bound n at path waiting leaves true tree way kept shows =
    let P : List PassedLeaf → Type 0 = λ xs. AreKept l nodes bound (n + 1) xs in
    subst P (sym (append-nil leaves)) (kept_split l nodes bound n at path waiting leaves tree way kept (shows refl))
kept_with l nodes bound n at path waiting leaves false tree way kept shows = kept_more l nodes bound n at path waiting leaves tree way kept

-- a node is passed, at what the code reads
pub kept_on : (l : LineData) (nodes : List Node) (bound n at : ℕ) (path slice passed : List Decision) (waiting : List Waiting)
    (leaves more : List PassedLeaf) (node : Node)
    → IsTree nodes → IsOnWay l nodes n at path waiting → AreKept l nodes bound n leaves → node ≡ node_at nodes at
    → slice ≡ path → passed ≡ path
    → (IsTrue (is_split node) → Shows l slice node bound) → more ≡ leaves ++ passed_at n at node passed
    → AreKept l nodes bound (n + 1) more
kept_on l nodes bound n at path slice passed waiting leaves more node tree way kept read same again shows is =
    let S : Node → Type 0 = λ x. IsTrue (is_split node) → Shows l path x bound in
    let D : List Decision → Type 0 = λ ds. IsTrue (is_split node) → Shows l ds node bound in
    let P : List PassedLeaf → Type 0 = λ xs. AreKept l nodes bound (n + 1) xs in
    let e : more ≡ leaves ++ passed_with (is_split node) n at path = is ∙ ap (λ (ds : List Decision). leaves ++ passed_at n at node ds) again in
    subst P (sym e) (kept_with l nodes bound n at path waiting leaves (is_split node) tree way kept (subst S read (subst D same shows)))

-- ---- what is said of them

pub kept_flawed : (l : LineData) (nodes : List Node) (bound n : ℕ) (leaves : List PassedLeaf) (r : Reason)
    → IsTree nodes
    → AreKept l nodes bound n leaves → IsFirstAmong l nodes bound leaves r → IsFirstFlawed l nodes bound r
kept_flawed l nodes bound n leaves r tree kept first =
    let P : PassedLeaf → Type 0 = λ x. IsPassed l nodes x in
    let N : PassedLeaf → Type 0 = λ x. AreShown l nodes bound x.number in
    let passed = subst P first.is (All-get_or P leaves first.place first.leaf first.there kept.each) in
    let shown = subst N first.is (kept.covered first.place first.leaf first.there first.before) in
    flawed_here l nodes bound first.leaf.number first.leaf.node first.leaf.path r tree passed.stands shown first.flaw

-- a split has this flaw, and the leaves before it were tried
pub kept_split_flawed : (l : LineData) (nodes : List Node) (bound n at : ℕ) (path slice : List Decision) (waiting : List Waiting) (leaves : List PassedLeaf)
    (node : Node) (earlier : Option Reason) (r : Reason)
    → IsTree nodes → IsOnWay l nodes n at path waiting → AreKept l nodes bound n leaves → node ≡ node_at nodes at
    → slice ≡ path
    → IsFirstFlaw l slice node bound n r → IsAnswerOf l nodes bound leaves earlier
    → IsTreeAnswer l nodes bound (option_or earlier (Some r))
kept_split_flawed l nodes bound n at path slice waiting leaves node (Some s) r tree way kept read same flaw earlier =
    kept_flawed l nodes bound n leaves s tree kept earlier
kept_split_flawed l nodes bound n at path slice waiting leaves node None r tree way kept read same flaw earlier =
    let S : Node → Type 0 = λ x. IsFirstFlaw l path x bound n r in
    let D : List Decision → Type 0 = λ ds. IsFirstFlaw l ds node bound n r in
    flawed_here l nodes bound n at path r tree (stands_here l nodes n at path waiting tree way) (kept.shown earlier) (subst S read (subst D same flaw))

pub kept_tried : (l : LineData) (nodes : List Node) (bound n : ℕ) (leaves waiting : List PassedLeaf)
    → AreKept l nodes bound n leaves
    → AreTried l nodes bound leaves waiting → AreKept l nodes bound n waiting
kept_tried l nodes bound n leaves waiting kept tried =
    let P : List PassedLeaf → Type 0 = λ xs. AreKept l nodes bound n xs in
    ⊎_elim (λ same. subst P (sym same) kept) (λ all. kept_none l nodes bound n waiting all.0 (kept.shown all.1)) tried

-- no node waits, and the leaves are tried
pub kept_ends : (l : LineData) (nodes : List Node) (bound n : ℕ) (path : List Decision) (pushed : List Waiting) (leaves : List PassedLeaf)
    (answer : Option Reason)
    → IsTree nodes → IsPushed l nodes n path pushed → pushed ≡ [] → AreKept l nodes bound (n + 1) leaves
    → IsAnswerOf l nodes bound leaves answer
    → IsTreeAnswer l nodes bound answer
kept_ends l nodes bound n path pushed leaves None tree p none kept all = way_ends l nodes bound n path pushed tree p none (kept.shown all)
kept_ends l nodes bound n path pushed leaves (Some r) tree p none kept first = kept_flawed l nodes bound (n + 1) leaves r tree kept first

-- ---- the first among the answers

module _ (l : LineData) (nodes : List Node) (bound : ℕ) where
  among_later : (x : PassedLeaf) (xs : List PassedLeaf) (answer : Option Reason) → LeafShows l nodes bound x
      → IsAnswerOf l nodes bound xs answer
      → IsAnswerOf l nodes bound (x ∷ xs) answer
  among_later x xs None shows all = All-cons (λ y. LeafShows l nodes bound y) x xs shows all
  among_later x xs (Some r) shows first = record {
    place = suc first.place;
    leaf = first.leaf;
    there = omega (arith, first.there);
    is = first.is;
    before = All-cons (λ y. LeafShows l nodes bound y) x (take first.place xs) shows first.before;
    flaw = first.flaw;
  }

  found_later : (x : PassedLeaf) (xs : List PassedLeaf) (found : Option (Option Reason)) → LeafShows l nodes bound x
      → MatchOption found (IsAnswerOf l nodes bound xs None) (λ answer. IsAnswerOf l nodes bound xs answer)
      → MatchOption found (IsAnswerOf l nodes bound (x ∷ xs) None) (λ answer. IsAnswerOf l nodes bound (x ∷ xs) answer)
  found_later x xs None shows all = among_later x xs None shows all
  found_later x xs (Some answer) shows h = among_later x xs answer shows h

  -- the first answer that names a flaw
  pub first_found : (xs : List PassedLeaf) (answers : List (Option Reason)) (bs : List Bool)
      → AllZip (λ x answer. IsLeafAnswer l nodes bound x answer) xs answers
      → AllZip (λ answer b. b ≡ is_some answer) answers bs
      → MatchOption (slice_get (filter_by_mask answers bs) 0) (IsAnswerOf l nodes bound xs None) (λ answer. IsAnswerOf l nodes bound xs answer)
  first_found [] [] [] zip named = All-nil (λ y. LeafShows l nodes bound y)
  first_found [] [] (b ∷ bs) zip named = absurd named
  first_found [] (a ∷ answers) bs zip named = absurd zip
  first_found (x ∷ xs) [] bs zip named = absurd zip
  first_found (x ∷ xs) (a ∷ answers) [] zip named = absurd named
  first_found (x ∷ xs) (None ∷ answers) (true ∷ bs) zip named = absurd (true≢false named.0)
  first_found (x ∷ xs) (None ∷ answers) (false ∷ bs) zip named =
      found_later x xs (slice_get (filter_by_mask answers bs) 0) zip.0 (first_found xs answers bs zip.1 named.1)
  first_found (x ∷ xs) (Some r ∷ answers) (false ∷ bs) zip named = absurd (true≢false (sym named.0))
  first_found (x ∷ xs) (Some r ∷ answers) (true ∷ bs) zip named = record {
    place = 0;
    leaf = x;
    there = omega arith;
    is = refl;
    before = All-nil (λ y. LeafShows l nodes bound y);
    flaw = zip.0;
  }

-- ---- leaves and the decisions that are kept with them

pub unmapped : {X Y : Type 0} (P : X → Type 0) (f : Y → X) (ys : List Y) → All P (map f ys) → All (λ y. P (f y)) ys
unmapped P f [] h = All-nil (λ y. P (f y))
unmapped P f (y ∷ ys) h = All-cons (λ y. P (f y)) y ys (All-head P (f y) (map f ys) h) (unmapped P f ys (All-tail P (f y) (map f ys) h))

-- more decisions leave the path of a leaf as it is
leaf_longer : (ds path : List Decision) (leaf : Leaf) → IsWithin ds leaf → leaf_of (ds ++ path) leaf ≡ leaf_of ds leaf
leaf_longer ds path leaf h =
    let begin = leaf.begin in
    let count = leaf.end - begin in
    let e : take count (drop begin (ds ++ path)) ≡ take count (drop begin ds) =
    ap (λ (xs : List Decision). take count xs) (drop-append-le begin ds path (omega (arith, h.0, h.1)))
    ∙ take-append-le count (drop begin ds) path (omega (arith, h.0, h.1, length-drop begin ds)) in
    ap (λ (xs : List Decision). (let x : PassedLeaf = record { number = leaf.number; node = leaf.node; path = xs } in x)) e

leaves_longer : (ds path : List Decision) (leaves : List Leaf) → All (IsWithin ds) leaves
    → map (leaf_of (ds ++ path)) leaves ≡ map (leaf_of ds) leaves
leaves_longer ds path [] h = refl
leaves_longer ds path (x ∷ xs) h =
    let P : Leaf → Type 0 = λ y. IsWithin ds y in
    let first = leaf_longer ds path x (All-head P x xs h) in
    let rest = leaves_longer ds path xs (All-tail P x xs h) in
    ap (λ (y : PassedLeaf). y ∷ map (leaf_of (ds ++ path)) xs) first ∙ ap (λ (ys : List PassedLeaf). leaf_of ds x ∷ ys) rest

-- the path that was put behind the others is that of the last leaf
path_there : (ds path : List Decision) → take (length (ds ++ path) - length ds) (drop (length ds) (ds ++ path)) ≡ path
path_there ds path =
    let count = length (ds ++ path) - length ds in
    ap (λ (xs : List Decision). take count xs) (drop_at ds path (length ds) refl)
    ∙ take_all count path (omega (arith, length-append ds path))

pub leaf_kept : (ds more path : List Decision) (leaves pushed : List Leaf) (kept : List PassedLeaf) (number at begin end : ℕ) (node : Node)
    → All (IsWithin ds) leaves → map (leaf_of ds) leaves ≡ kept → more ≡ ds ++ path → begin ≡ length ds
    → end ≡ length more
    → pushed ≡ leaves ++ (let x : Leaf = record { number = number; node = at; begin = begin; end = end } in x) ∷ []
    → is_split node ≡ false
    → map (leaf_of more) pushed ≡ kept ++ passed_at number at node path
leaf_kept ds more path leaves pushed kept number at begin end node within seen longer from to is leaf =
    let x : Leaf = record { number = number; node = at; begin = begin; end = end } in
    let y : PassedLeaf = record { number = number; node = at; path = path } in
    let there : take (end - begin) (drop begin more) ≡ path =
    ap (λ (n : ℕ). take (n - begin) (drop begin more)) to ∙ ap (λ (n : ℕ). take (length more - n) (drop n more)) from
    ∙ ap (λ (xs : List Decision). take (length xs - length ds) (drop (length ds) xs)) longer ∙ path_there ds path in
    let last : leaf_of more x ≡ y = ap (λ (xs : List Decision). (let z : PassedLeaf = record { number = number; node = at; path = xs } in z)) there in
    let before : map (leaf_of more) leaves ≡ kept =
    ap (λ (xs : List Decision). map (leaf_of xs) leaves) longer ∙ leaves_longer ds path leaves within ∙ seen in
    ap (λ (xs : List Leaf). map (leaf_of more) xs) is ∙ map-append (leaf_of more) leaves (x ∷ [])
    ∙ ap (λ (xs : List PassedLeaf). xs ++ leaf_of more x ∷ []) before ∙ ap (λ (z : PassedLeaf). kept ++ z ∷ []) last
    ∙ ap (λ (b : Bool). kept ++ passed_with b number at path) (sym leaf)

-- what is found among the answers of all leaves
pub among_found : (l : LineData) (nodes : List Node) (bound : ℕ) (ds : List Decision) (leaves : List Leaf) (kept : List PassedLeaf) (lent : List (Bor Leaf))
    (answers : List (Option Reason)) (bs : List Bool) (found : Option (Option Reason))
    → map (λ (z : Bor Leaf). z.now) lent ≡ leaves → map (leaf_of ds) leaves ≡ kept
    → AllZip (λ (z : Bor Leaf) answer. IsLeafAnswer l nodes bound (leaf_of ds z.now) answer) lent answers
    → AllZip (λ answer b. (p : Bor (Option Reason)) × (p.now ≡ answer) × (b ≡ is_some p.now)) answers bs
    → found ≡ slice_get (filter_by_mask answers bs) 0
    → MatchOption found (IsAnswerOf l nodes bound kept None) (λ answer. IsAnswerOf l nodes bound kept answer)
among_found l nodes bound ds leaves kept lent answers bs found shown seen zip named is =
    let R : PassedLeaf → Option Reason → Type 0 = λ x answer. IsLeafAnswer l nodes bound x answer in
    let S : Leaf → Option Reason → Type 0 = λ x answer. R (leaf_of ds x) answer in
    let over_leaves : AllZip S leaves answers = slice-AllZip lent leaves shown S answers zip in
    let over_kept : AllZip R kept answers =
    subst (λ (xs : List PassedLeaf). AllZip R xs answers) seen (AllZip-through (leaf_of ds) S R (λ x answer h. h) leaves answers over_leaves) in
    let P : Option (Option Reason) → Type 0 = λ o. MatchOption o (IsAnswerOf l nodes bound kept None) (λ answer. IsAnswerOf l nodes bound kept answer) in
    subst P (sym is) (first_found l nodes bound kept answers bs over_kept (answers-by_ref is_some answers bs named))
