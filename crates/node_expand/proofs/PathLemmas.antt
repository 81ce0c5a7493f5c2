-- A path's system that goes on to a longer path and back to a shorter one.
use Rattle.std.proofs.Common.{◌≡◌, ℕ, ◌+◌, ◌-◌, ◌<◌, ◌≤◌, List, [], ◌∷◌, ◌++◌, length, take, refl, sym, ◌∙◌, ap, subst, arith, append_assoc, get_or, Vec, Global}
use Rattle.std.proofs.lemmas.List.{append-nil, length-append, length-take, take_all, take_at, take-take, take_more, length-map, ext_get_or, get_or_default}
use Rattle.hoist_base.specs.LineData.{LineData, move_count}
use Rattle.hoist_base.specs.declared.ids.MoveId.{MoveId}
use Rattle.hoist_base.specs.Valid.{IsLine}
use Rattle.longest_path.specs.declared.systems.Arc.{Arc}
use Rattle.longest_path.specs.System.{SystemData, arc}
use Rattle.choice_tree.specs.declared.question.Question.{Question}
use Rattle.choice_tree.specs.declared.question.Question.TheVariants.{Assign, TankOrder, HoistOrder, Choose}
use Rattle.choice_tree.specs.declared.question.Decision.{Decision}
use Rattle.choice_tree.specs.declared.constraint.Constraint.{Constraint}
use Rattle.choice_tree.specs.declared.constraint.Constraint.TheVariants.{Decided}
use Rattle.path_constraints.specs.Tanks.{no_decision, decision_at}
use Rattle.path_constraints.specs.Constraints.{IsOrder, decided_arc, arc_of, arcs_of, undecided_list, decided_list, decided_by, constraint_list}
use Rattle.path_constraints.specs.Questions.{FitsPath}
use Rattle.path_constraints.specs.Places.{system_below}
use Rattle.path_constraints.proofs.Settled.{fits-take}
use Rattle.path_constraints.proofs.BaseLemmas.{system_is}
use Rattle.path_constraints.proofs.GrowLemmas.{ordered, assigned_same, decided_more}
use Rattle.node_expand.specs.PathSystems.{IsAt, IsPathSystem, IsPrefix, Outgrows}
use Rattle.node_expand.specs.declared.path_system.PathSystem.{PathSystem}

-- ---- systems

pub same_system : (s b : SystemData) (n : ℕ) → s.nodes ≡ b.nodes → length s.arcs ≡ length b.arcs → n ≡ length b.arcs
    → ((j : ℕ) → j < n → arc s j ≡ arc b j)
    → s ≡ b
same_system s b n nodes count all same =
    let no_arc : Arc = arc (record { nodes = 0; arcs = [] }) 0 in
    system_is s b.nodes b.arcs nodes (ext_get_or no_arc s.arcs b.arcs count (λ j lt. same j (omega (arith, lt, all, count))))

pub system_same : (l : LineData) (p p' : List Decision) → arcs_of l p ≡ arcs_of l p'
    → system_below l p ≡ system_below l p'
system_same l p p' e = ap (λ (bs : List Arc). let r : SystemData = record { nodes = move_count l; arcs = bs } in r) e

-- ---- at a path

pub system_at : (l : LineData) (ds : List Decision) (at : PathSystem) → IsLine l → FitsPath l ds → length ds ≤ 20000
    → IsAt l ds at → IsPathSystem l at
system_at l ds at line fits short here =
    let P : List Decision → Type 0 = λ xs. FitsPath l xs in
    let e = sym here.path in
    record {
      valid = line;
      fits = subst P e fits;
      short = omega (arith, short, ap (λ (xs : List Decision). length xs) here.path);
      here = let Q : List Decision → Type 0 = λ xs. IsAt l xs at in subst Q e here;
    }

pub part_at : (l : LineData) (path : List Decision) (i : ℕ) (at : PathSystem) → IsLine l → FitsPath l path
    → length path ≤ 20000 → IsAt l (take i path) at
    → IsPathSystem l at
part_at l path i at line fits short here =
    system_at l (take i path) at line (fits-take l path i fits) (omega (arith, length-take i path, short)) here

-- the names before any decision
pub names_none : (l : LineData) → undecided_list l ≡ constraint_list l []
names_none l = sym (append-nil (undecided_list l))

-- one decision more
pub names_more : (l : LineData) (path : List Decision) (i : ℕ) → i < length path
    → constraint_list l (take (i + 1) path) ≡ constraint_list l (take i path) ++ decided_by (decision_at path i).question i
names_more l path i lt =
    ap (λ (ts : List Constraint). undecided_list l ++ ts) (decided_more path i lt)
    ∙ sym (append_assoc (undecided_list l) (decided_list 0 (take i path)) (decided_by (decision_at path i).question i))

-- ---- the last decision

-- a path without its last decision
abbrev pub rest : List Decision → List Decision
rest path = take (length path - 1) path

abbrev pub last : List Decision → Decision
last path = decision_at path (length path - 1)

pub whole : (path : List Decision) → 0 < length path → take (length path - 1 + 1) path ≡ path
whole path some = take_all (length path - 1 + 1) path (omega (arith, some))

pub names_last : (l : LineData) (path : List Decision) → 0 < length path
    → constraint_list l path ≡ constraint_list l (rest path) ++ decided_by (last path).question (length path - 1)
names_last l path some =
    ap (λ (ds : List Decision). constraint_list l ds) (sym (whole path some)) ∙ names_more l path (length path - 1) (omega (arith, some))

by_order : (q : Question) (i : ℕ) → IsOrder q → decided_by q i ≡ Decided i ∷ []
by_order (Assign m) i h = absurd h
by_order (TankOrder a b q) i h = refl
by_order (HoistOrder a b q) i h = refl
by_order (Choose v) i h = absurd h

-- an order at the end has the last name and the last constraint
pub order_name : (l : LineData) (path : List Decision) → 0 < length path → IsOrder (last path).question
    → constraint_list l path ≡ constraint_list l (rest path) ++ Decided (length path - 1) ∷ []
order_name l path some order =
    names_last l path some ∙ ap (λ (ts : List Constraint). constraint_list l (rest path) ++ ts) (by_order (last path).question (length path - 1) order)

pub order_names : (l : LineData) (path : List Decision) (n : ℕ) → 0 < length path → IsOrder (last path).question
    → n ≡ length (constraint_list l path) - 1
    → take n (constraint_list l path) ≡ constraint_list l (rest path)
order_names l path n some order is =
    let e = order_name l path some order in
    let count = ap (λ (ts : List Constraint). length ts) e in
    ap (λ (ts : List Constraint). take n ts) e
    ∙ take_at (constraint_list l (rest path)) (Decided (length path - 1) ∷ []) n
    (omega (arith, is, count, length-append (constraint_list l (rest path)) (Decided (length path - 1) ∷ [])))

pub some_names : (l : LineData) (path : List Decision) → 0 < length path → IsOrder (last path).question
    → 1 ≤ length (constraint_list l path)
some_names l path some order =
    omega (
      arith,
      ap (λ (ts : List Constraint). length ts) (order_name l path some order),
      length-append (constraint_list l (rest path))
          (Decided (length path - 1) ∷ []),
    )

pub order_arcs : (l : LineData) (path : List Decision) (n : ℕ) → FitsPath l path → 2 ≤ length l.stages → 0 < length path
    → IsOrder (last path).question
    → n ≡ length (constraint_list l path) - 1 → take n (arcs_of l path) ≡ arcs_of l (rest path)
order_arcs l path n fits two some order is =
    let a = decided_arc l (take (length path - 1 + 1) path) (last path).question (last path).child in
    let e : arcs_of l path ≡ arcs_of l (rest path) ++ a ∷ [] =
    ap (λ (ds : List Decision). arcs_of l ds) (sym (whole path some)) ∙ ordered l path (length path - 1) fits two (omega (arith, some)) order in
    let count = ap (λ (bs : List Arc). length bs) e in
    ap (λ (bs : List Arc). take n bs) e
    ∙ take_at (arcs_of l (rest path)) (a ∷ []) n
    (omega (arith, is, count, length-append (arcs_of l (rest path)) (a ∷ []), length-map (constraint_list l path) (arc_of l path)))

-- a hoist at the end has none
pub assign_names : (l : LineData) (path : List Decision) (m : MoveId) → 0 < length path
    → (last path).question ≡ Assign m
    → constraint_list l path ≡ constraint_list l (rest path)
assign_names l path m some is =
    names_last l path some
    ∙ ap (λ (q : Question). constraint_list l (rest path) ++ decided_by q (length path - 1)) is
    ∙ append-nil (constraint_list l (rest path))

pub assign_arcs : (l : LineData) (path : List Decision) (m : MoveId) → FitsPath l path → 2 ≤ length l.stages
    → 0 < length path → (last path).question ≡ Assign m
    → arcs_of l path ≡ arcs_of l (rest path)
assign_arcs l path m fits two some is =
    ap (λ (ds : List Decision). arcs_of l ds) (sym (whole path some)) ∙ assigned_same l path (length path - 1) m fits two (omega (arith, some)) is

-- ---- prefixes

-- what two paths begin with in common
pub prefix_there : (xs ys zs : List Decision) (n : ℕ) → IsPrefix xs ys → length xs ≤ n → take n ys ≡ take n zs
    → xs ≡ take (length xs) zs
prefix_there xs ys zs n prefix le same =
    let k = length xs in
    let least : (ws : List Decision) → take k (take n ws) ≡ take k ws = λ ws. take-take k n ws (omega (arith, le)) in
    prefix ∙ sym (least ys) ∙ ap (λ (ws : List Decision). take k ws) same ∙ least zs

pub prefix_on : (xs ys zs : List Decision) → IsPrefix xs ys → IsPrefix ys zs → length xs ≤ length ys → IsPrefix xs zs
prefix_on xs ys zs a b le = prefix_there xs ys zs (length ys) a le (take_all (length ys) ys (omega arith) ∙ b)

-- ---- a path that grows

pub path_more : (path : List Decision) (i : ℕ) (d e : Decision) (old new : List Decision) → i < length path
    → d ≡ get_or path i e → old ≡ take i path
    → new ≡ old ++ d ∷ [] → new ≡ take (i + 1) path
path_more path i d e old new lt is before pushed =
    pushed ∙ ap (λ (ds : List Decision). ds ++ d ∷ []) before ∙ ap (λ (x : Decision). take i path ++ x ∷ []) is ∙ sym (take_more path i e lt)

-- a path that grew by one, or not at all, still begins as before
pub begins_more : {A : Type 0} (old more new : List A) → new ≡ old ++ more → take (length old) new ≡ old
begins_more old more new e = ap (λ xs. take (length old) xs) e ∙ take_at old more (length old) refl

pub begins_same : {A : Type 0} (old new : List A) → new ≡ old → take (length old) new ≡ old
begins_same old new e = ap (λ xs. take (length old) xs) e ∙ take_all (length old) old (omega arith)

-- the last decision as the code reads it
pub last_read : (path : List Decision) (i : ℕ) (d : Decision) → 0 < length path → i ≡ length path - 1
    → d ≡ get_or path i d → d ≡ last path
last_read path i d some is read =
    read ∙ ap (λ (n : ℕ). get_or path n d) is ∙ get_or_default path (length path - 1) d no_decision (omega (arith, some))

-- ---- back by one

abbrev made : Vec Decision Global → SystemData → Vec Constraint Global → SystemData → PathSystem
made path system names base = record { path = path; system = system; names = names; base = base }

pub back_at : (l : LineData) (at : PathSystem) (i : ℕ) (path : Vec Decision Global) (system : SystemData) (names : Vec Constraint Global)
    → IsPathSystem l at → i ≡ length at.path.items - 1 → path.items ≡ take i at.path.items
    → system ≡ system_below l (rest at.path.items)
    → names.items ≡ constraint_list l (rest at.path.items)
    → IsPathSystem l (made path system names at.base)
back_at l at i path system names from is cut system_is names_is =
    let e : path.items ≡ rest at.path.items = cut ∙ ap (λ (n : ℕ). take n at.path.items) is in
    part_at l at.path.items (length at.path.items - 1) (made path system names at.base) from.valid from.fits from.short
    (record { path = e; system = system_is; names = names_is; base = from.here.base })

pub back_assign : (l : LineData) (at : PathSystem) (i : ℕ) (d : Decision) (m : MoveId) (path : Vec Decision Global)
    → IsPathSystem l at → 0 < length at.path.items → i ≡ length at.path.items - 1 → path.items ≡ take i at.path.items
    → d ≡ get_or at.path.items i d
    → d.question ≡ Assign m
    → IsPathSystem l (made path at.system at.names at.base)
back_assign l at i d m path from some is cut read assign =
    let ds = at.path.items in
    let question : (last ds).question ≡ Assign m = sym (ap (λ (x : Decision). x.question) (last_read ds i d some is read)) ∙ assign in
    back_at l at i path at.system at.names from is cut
    (from.here.system ∙ system_same l ds (rest ds) (assign_arcs l ds m from.fits from.valid.limits.stages.0 some question))
    (from.here.names ∙ assign_names l ds m some question)

pub order_last : (path : List Decision) (i : ℕ) (d : Decision) → 0 < length path → i ≡ length path - 1
    → d ≡ get_or path i d → IsOrder d.question
    → IsOrder (last path).question
order_last path i d some is read order = let P : Decision → Type 0 = λ x. IsOrder x.question in subst P (last_read path i d some is read) order

pub back_order : (l : LineData) (at : PathSystem) (i n : ℕ) (d : Decision) (path : Vec Decision Global) (system : SystemData) (names : Vec Constraint Global)
    → IsPathSystem l at → 0 < length at.path.items → i ≡ length at.path.items - 1 → path.items ≡ take i at.path.items
    → d ≡ get_or at.path.items i d
    → IsOrder d.question
    → n ≡ length at.names.items - 1 → names.items ≡ take n at.names.items
    → system ≡ record { nodes = at.system.nodes; arcs = take n at.system.arcs }
    → IsPathSystem l (made path system names at.base)
back_order l at i n d path system names from some is cut read order count names_are system_is =
    let ds = at.path.items in
    let last_order = order_last ds i d some is read order in
    let known : n ≡ length (constraint_list l ds) - 1 = count ∙ ap (λ (ts : List Constraint). length ts - 1) from.here.names in
    let arcs : take n at.system.arcs ≡ arcs_of l (rest ds) =
    ap (λ (s : SystemData). take n s.arcs) from.here.system ∙ order_arcs l ds n from.fits from.valid.limits.stages.0 some last_order known in
    let nodes : at.system.nodes ≡ move_count l = ap (λ (s : SystemData). s.nodes) from.here.system in
    back_at l at i path system names from is cut
    (system_is ∙ ap (λ (m : ℕ). let r : SystemData = record { nodes = m; arcs = take n at.system.arcs } in r) nodes ∙ ap
    (λ (bs : List Arc). let r : SystemData = record { nodes = move_count l; arcs = bs } in r) arcs)
    (names_are ∙ ap (λ (ts : List Constraint). take n ts) from.here.names ∙ order_names l ds n some last_order known)

-- ---- one decision more

pub names_next : (l : LineData) (path : List Decision) (i : ℕ) (d e : Decision) (old new : List Constraint)
    → i < length path → d ≡ get_or path i e
    → old ≡ constraint_list l (take i path) → new ≡ old ++ decided_by d.question i
    → new ≡ constraint_list l (take (i + 1) path)
names_next l path i d e old new lt read before pushed =
    let is : d ≡ decision_at path i = read ∙ get_or_default path i e no_decision lt in
    pushed ∙ ap (λ (ts : List Constraint). ts ++ decided_by d.question i) before
    ∙ ap (λ (x : Decision). constraint_list l (take i path) ++ decided_by x.question i) is
    ∙ sym (names_more l path i lt)

pub outgrows : (old : PathSystem) (path : Vec Decision Global) (system : SystemData) (names : Vec Constraint Global)
    → take (length old.path.items) path.items ≡ old.path.items
    → take (length old.names.items) names.items ≡ old.names.items → system ≡ old.system
    → Outgrows old (made path system names old.base)
outgrows old path system names p n s = record { path = p; names = n; system = s; base = refl }
