-- The sums of a walk, one constraint after another.
use Rattle.std.proofs.Common.{◌≡◌, ℕ, zero, suc, ◌+◌, ◌<◌, ◌≤◌, List, [], ◌∷◌, length, get_or, drop, sym, ap, subst, arith, ℤ, pos, ◌+ℤ◌}
use Rattle.std.proofs.lemmas.Int.{ints}
use Rattle.std.proofs.lemmas.List.{drop_more, drop_all}
use Rattle.hoist_base.specs.LineData.{LineData}
use Rattle.longest_path.specs.declared.systems.Arc.{Arc}
use Rattle.choice_tree.specs.declared.question.Decision.{Decision}
use Rattle.choice_tree.specs.declared.constraint.Constraint.{Constraint}
use Rattle.path_constraints.specs.Constraints.{IsConstraint, arc_of}
use Rattle.path_constraints.specs.Proves.{Walks, IsClosedWalk, sum_w, sum_q}

pub w_more : (l : LineData) (path : List Decision) (names : List Constraint) (i : ℕ) (d : Constraint) (a : Arc) (w z all : ℤ)
    → i < length names
    → a ≡ arc_of l path (get_or names i d) → z ≡ w +ℤ a.w → w +ℤ sum_w l path (drop i names) ≡ all
    → z +ℤ sum_w l path (drop (i + 1) names) ≡ all
w_more l path names i d a w z all lt is e h =
    let next : drop i names ≡ get_or names i d ∷ drop (i + 1) names = drop_more names i d lt in
    let sum : sum_w l path (drop i names) ≡ (arc_of l path (get_or names i d)).w +ℤ sum_w l path (drop (i + 1) names) =
    ap (λ (ns : List Constraint). sum_w l path ns) next in
    let same : a.w ≡ (arc_of l path (get_or names i d)).w = ap (λ (b : Arc). b.w) is in
    omega (arith, ints, h, sum, e, same)

pub q_more : (l : LineData) (path : List Decision) (names : List Constraint) (i : ℕ) (d : Constraint) (a : Arc) (q z all : ℤ)
    → i < length names
    → a ≡ arc_of l path (get_or names i d) → z ≡ q +ℤ a.q → q +ℤ sum_q l path (drop i names) ≡ all
    → z +ℤ sum_q l path (drop (i + 1) names) ≡ all
q_more l path names i d a q z all lt is e h =
    let next : drop i names ≡ get_or names i d ∷ drop (i + 1) names = drop_more names i d lt in
    let sum : sum_q l path (drop i names) ≡ (arc_of l path (get_or names i d)).q +ℤ sum_q l path (drop (i + 1) names) =
    ap (λ (ns : List Constraint). sum_q l path ns) next in
    let same : a.q ≡ (arc_of l path (get_or names i d)).q = ap (λ (b : Arc). b.q) is in
    omega (arith, ints, h, sum, e, same)

pub w_all : (l : LineData) (path : List Decision) (names : List Constraint) (i : ℕ) (w : ℤ) → length names ≤ i
    → w +ℤ sum_w l path (drop i names) ≡ sum_w l path names → w ≡ sum_w l path names
w_all l path names i w le h =
    let e : sum_w l path (drop i names) ≡ pos 0 = ap (λ (ns : List Constraint). sum_w l path ns) (drop_all i names le) in
    omega (arith, ints, h, e)

pub q_all : (l : LineData) (path : List Decision) (names : List Constraint) (i : ℕ) (q : ℤ) → length names ≤ i
    → q +ℤ sum_q l path (drop i names) ≡ sum_q l path names → q ≡ sum_q l path names
q_all l path names i q le h =
    let e : sum_q l path (drop i names) ≡ pos 0 = ap (λ (ns : List Constraint). sum_q l path ns) (drop_all i names le) in
    omega (arith, ints, h, e)

-- each constraint of a walk is one of the path
pub walk_names : (l : LineData) (path : List Decision) (i : ℕ) (walk : List Constraint) (j : ℕ) → Walks l path i walk j
    → (k : ℕ) (x : Constraint)
    → k < length walk → x ≡ get_or walk k x → IsConstraint l path x
walk_names l path i [] j h k x lt is = absurd (omega (arith, lt))
walk_names l path i (t ∷ ts) j h zero x lt is = subst (IsConstraint l path) (sym is) h.0
walk_names l path i (t ∷ ts) j h (suc k) x lt is = walk_names l path (arc_of l path t).to ts j h.2 k x (omega (arith, lt)) is

pub closed_names : (l : LineData) (path : List Decision) (walk : List Constraint) → IsClosedWalk l path walk
    → (k : ℕ) (x : Constraint) → k < length walk
    → x ≡ get_or walk k x → IsConstraint l path x
closed_names l path [] h k x lt is = absurd h
closed_names l path (t ∷ ts) h k x lt is = walk_names l path (arc_of l path t).from (t ∷ ts) (arc_of l path t).from h k x lt is
