-- The constraints of a closed walk are on its path.
use Rattle.std.proofs.Common.{ℕ, zero, suc, ◌<◌, List, [], ◌∷◌, length, get_or, arith}
use Rattle.hoist_base.specs.LineData.{LineData}
use Rattle.choice_tree.specs.declared.question.Decision.{Decision}
use Rattle.choice_tree.specs.declared.constraint.Constraint.{Constraint}
use Rattle.path_constraints.specs.Constraints.{IsConstraint, arc_of}
use Rattle.path_constraints.specs.Proves.{Walks, IsClosedWalk}

named_along : (l : LineData) (path : List Decision) (i : ℕ) (walk : List Constraint) (j : ℕ) → Walks l path i walk j
    → (k : ℕ) (d : Constraint) → k < length walk → IsConstraint l path (get_or walk k d)
named_along l path i [] j walks k d lt = absurd (omega (arith, lt))
named_along l path i (t ∷ ts) j (is, from, rest) zero d lt = is
named_along l path i (t ∷ ts) j (is, from, rest) (suc k) d lt = named_along l path (arc_of l path t).to ts j rest k d
    (omega (arith, lt))

pub closed_named : (l : LineData) (path : List Decision) (walk : List Constraint) → IsClosedWalk l path walk
    → (k : ℕ) (d : Constraint) → k < length walk → IsConstraint l path (get_or walk k d)
closed_named l path [] closed k d lt = absurd closed
closed_named l path (t ∷ ts) closed k d lt = named_along l path (arc_of l path t).from (t ∷ ts)
    (arc_of l path t).from closed k d lt
