-- Walks of a path's system, by the names of their constraints.
use Rattle.std.proofs.Common.{⊎_elim, inl, inr, ◌⊎◌, ◌≡◌, ℕ, zero, suc, ◌<◌, ◌≤◌, List, [], ◌∷◌, ◌++◌, length, get_or, map, refl, sym, ◌∙◌, ap, subst, arith, pos, ℤ, Some, None}
use Rattle.std.specs.Prelude.{Option, option_map, option_to_list, IfSome}
use Rattle.std.proofs.lemmas.Int.{ints}
use Rattle.std.proofs.lemmas.List.{length-map, get_or-map}
use Rattle.hoist_base.specs.LineData.{LineData}
use Rattle.longest_path.specs.declared.systems.Arc.{Arc}
use Rattle.longest_path.specs.System.{SystemData, arc, Refutes}
use Rattle.longest_path.specs.System as system
use Rattle.cycle_walk.specs.Closed.{WalkData}
use Rattle.cycle_walk.specs.Closed as closed
use Rattle.cycle_walk.specs.Climb.{Gives}
use Rattle.choice_tree.specs.declared.question.Decision.{Decision}
use Rattle.choice_tree.specs.declared.constraint.Constraint.{Constraint}
use Rattle.choice_tree.specs.declared.constraint.Constraint.TheVariants.{Entry}
use Rattle.path_constraints.specs.Constraints.{IsConstraint, constraint_list, arc_of, arcs_of}
use Rattle.path_constraints.specs.Places.{system_below}
use Rattle.path_constraints.specs.Proves.{Walks, IsClosedWalk, sum_w, sum_q, RefutesPeriod, RefuteBelow}
use Rattle.path_constraints.proofs.NameLemmas.{In, in_at, from_list, in_contains, contains_in}
use Rattle.node_expand.specs.Expansion.{named}
use Rattle.node_expand.specs.Shown.{IsShortWalk}

abbrev no_arc : Arc
no_arc = record { from = 0; to = 0; w = pos 0; q = pos 0 }

-- the name of constraint k
abbrev pub name : LineData → List Decision → ℕ → Constraint
name l path k = get_or (constraint_list l path) k (Entry 0)

in_names : (l : LineData) (path : List Decision) (k : ℕ) → k < length (arcs_of l path)
    → k < length (constraint_list l path)
in_names l path k lt = omega (arith, lt, length-map (constraint_list l path) (arc_of l path))

pub arc_named : (l : LineData) (path : List Decision) (k : ℕ) → k < length (arcs_of l path)
    → arc (system_below l path) k ≡ arc_of l path (name l path k)
arc_named l path k lt = get_or-map (arc_of l path) (constraint_list l path) k (Entry 0) no_arc (in_names l path k lt)

pub name_there : (l : LineData) (path : List Decision) (k : ℕ) → k < length (arcs_of l path)
    → IsConstraint l path (name l path k)
name_there l path k lt = from_list l path (name l path k) (in_at (constraint_list l path) k (Entry 0) (in_names l path k lt))

-- ---- walks

pub walks_named : (l : LineData) (path : List Decision) (i : ℕ) (ks : List ℕ) (j : ℕ)
    → closed.Walks (system_below l path) i ks j
    → Walks l path i (map (name l path) ks) j
walks_named l path i [] j h = h
walks_named l path i (k ∷ ks) j h =
    let e = arc_named l path k h.0 in
    let P : ℕ → Type 0 = λ n. closed.Walks (system_below l path) n ks j in
    let on : closed.Walks (system_below l path) (arc_of l path (name l path k)).to ks j = subst P (ap (λ (a : Arc). a.to) e) h.2 in
    (name_there l path k h.0, ap (λ (a : Arc). a.from) (sym e) ∙ h.1, walks_named l path (arc_of l path (name l path k)).to ks j on)

closed_list : (l : LineData) (path : List Decision) (n : ℕ) (ks : List ℕ) → 1 ≤ length ks
    → closed.Walks (system_below l path) n ks n
    → IsClosedWalk l path (map (name l path) ks)
closed_list l path n [] some h = absurd (omega (arith, some))
closed_list l path n (k ∷ ks) some h =
    let w = walks_named l path n (k ∷ ks) n h in
    let P : ℕ → Type 0 = λ m. Walks l path m (map (name l path) (k ∷ ks)) m in
    subst P (sym w.1) w

pub closed_named : (l : LineData) (path : List Decision) (walk : WalkData)
    → closed.IsClosedWalk (system_below l path) walk
    → IsClosedWalk l path (named l path walk)
closed_named l path walk h = closed_list l path h.node walk.arcs h.some h.leads

w_named : (l : LineData) (path : List Decision) (i : ℕ) (ks : List ℕ) (j : ℕ)
    → closed.Walks (system_below l path) i ks j
    → system.sum_w (system_below l path) ks ≡ sum_w l path (map (name l path) ks)
w_named l path i [] j h = refl
w_named l path i (k ∷ ks) j h =
    let e = ap (λ (a : Arc). a.w) (arc_named l path k h.0) in
    omega (arith, ints, e, w_named l path (arc (system_below l path) k).to ks j h.2)

q_named : (l : LineData) (path : List Decision) (i : ℕ) (ks : List ℕ) (j : ℕ)
    → closed.Walks (system_below l path) i ks j
    → system.sum_q (system_below l path) ks ≡ sum_q l path (map (name l path) ks)
q_named l path i [] j h = refl
q_named l path i (k ∷ ks) j h =
    let e = ap (λ (a : Arc). a.q) (arc_named l path k h.0) in
    omega (arith, ints, e, q_named l path (arc (system_below l path) k).to ks j h.2)

pub refutes_named : (l : LineData) (path : List Decision) (walk : WalkData) (period : ℕ)
    → closed.IsClosedWalk (system_below l path) walk
    → Refutes walk.w walk.q period → RefutesPeriod l path period (named l path walk)
refutes_named l path walk period h gives =
    let w = h.w ∙ w_named l path h.node walk.arcs h.node h.leads in
    let q = h.q ∙ q_named l path h.node walk.arcs h.node h.leads in
    let P : ℤ → Type 0 = λ z. Refutes z walk.q period in
    let Q : ℤ → Type 0 = λ z. Refutes (sum_w l path (named l path walk)) z period in
    subst Q q (subst P w gives)

-- a walk's constraints are those of the system
pub walk_there : (s : SystemData) (i : ℕ) (ks : List ℕ) (j : ℕ) → closed.Walks s i ks j → (k : ℕ) → k < length ks
    → get_or ks k 0 < length s.arcs
walk_there s i [] j h k lt = absurd (omega (arith, lt))
walk_there s i (x ∷ ks) j h zero lt = h.0
walk_there s i (x ∷ ks) j h (suc k) lt = walk_there s (arc s x).to ks j h.2 k (omega (arith, lt))

pub short_named : (l : LineData) (path : List Decision) (walk : WalkData)
    → closed.IsClosedWalk (system_below l path) walk → IsShortWalk (named l path walk)
short_named l path walk h =
    let n = length-map walk.arcs (name l path) in
    (omega (arith, n, h.some), omega (arith, n, h.few))

-- ---- what walks refute

abbrev pub names_of : LineData → List Decision → Option WalkData → Option (List Constraint)
names_of l path walk = option_map (named l path) walk

gives_named : (l : LineData) (path : List Decision) (walk : Option WalkData) (period : ℕ)
    → IfSome walk (closed.IsClosedWalk (system_below l path))
    → Gives walk period
    → (names : List Constraint) × In (option_to_list (names_of l path walk)) names × RefutesPeriod l path period names
gives_named l path None period h gives = absurd gives
gives_named l path (Some walk) period h gives = (named l path walk, inl refl, refutes_named l path walk period h gives)

closed_names : (l : LineData) (path : List Decision) (walk : Option WalkData) (names : List Constraint)
    → IfSome walk (closed.IsClosedWalk (system_below l path)) → In (option_to_list (names_of l path walk)) names
    → IsClosedWalk l path names
closed_names l path None names h there = absurd there
closed_names l path (Some walk) names h there =
    ⊎_elim (λ e. let P : List Constraint → Type 0 = λ ts. IsClosedWalk l path ts in subst P e (closed_named l path walk h)) (λ none. absurd none) there

in_first : {A : Type 0} (xs ys : List A) (x : A) → In xs x → In (xs ++ ys) x
in_first [] ys x h = absurd h
in_first (y ∷ xs) ys x h = ⊎_elim (λ e. inl e) (λ more. inr (in_first xs ys x more)) h

in_second : {A : Type 0} (xs ys : List A) (x : A) → In ys x → In (xs ++ ys) x
in_second [] ys x h = h
in_second (y ∷ xs) ys x h = inr (in_second xs ys x h)

in_one : {A : Type 0} (xs ys : List A) (x : A) → In (xs ++ ys) x → In xs x ⊎ In ys x
in_one [] ys x h = inr h
in_one (y ∷ xs) ys x h = ⊎_elim (λ e. inl (inl e)) (λ more. ⊎_elim (λ a. inl (inr a)) (λ b. inr b) (in_one xs ys x more)) h

-- two walks that refute every period below a bound
pub refute_two : (l : LineData) (path : List Decision) (low high : Option WalkData) (bound : ℕ)
    → IfSome low (closed.IsClosedWalk (system_below l path))
    → IfSome high (closed.IsClosedWalk (system_below l path))
    → ((t : ℕ) → 1 ≤ t → t < bound → Gives low t ⊎ Gives high t)
    → RefuteBelow l path (option_to_list (names_of l path low) ++ option_to_list (names_of l path high)) bound
refute_two l path low high bound a b gives =
    let xs = option_to_list (names_of l path low) in
    let ys = option_to_list (names_of l path high) in
    record {
      closed =
          λ walk there. ⊎_elim (λ h. closed_names l path low walk a h) (λ h. closed_names l path high walk b h)
          (in_one xs ys walk (in_contains (xs ++ ys) walk there));
      refuted = λ t some below.
          ⊎_elim
          (λ g. let r = gives_named l path low t a g in (r.0, contains_in (xs ++ ys) r.0 (in_first xs ys r.0 r.1), r.2))
          (λ g. let r = gives_named l path high t b g in (r.0, contains_in (xs ++ ys) r.0 (in_second xs ys r.0 r.1), r.2)) (gives t some below);
    }

-- one walk that does
pub refute_one : (l : LineData) (path : List Decision) (walk : WalkData) (bound : ℕ)
    → closed.IsClosedWalk (system_below l path) walk
    → ((t : ℕ) → 1 ≤ t → t < bound → Refutes walk.w walk.q t)
    → RefuteBelow l path (named l path walk ∷ []) bound
refute_one l path walk bound h gives =
    let xs = named l path walk ∷ [] in
    record {
      closed = λ names there. closed_names l path (Some walk) names h (in_contains xs names there);
      refuted = λ t some below. (named l path walk, contains_in xs (named l path walk) (inl refl), refutes_named l path walk t h (gives t some below));
    }
