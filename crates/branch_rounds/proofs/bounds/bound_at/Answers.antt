use Rattle.std.proofs.Common.{List, subst, sym, rules}
use Rattle.choice_tree.specs.declared.constraint.Constraint.{Constraint}
use Rattle.path_constraints.specs.Proves.{IsClosedWalk}
use Rattle.branch_rounds.proofs.BoundLemmas.{closed_names}
use Rattle.branch_rounds.proofs.bounds.bound_at.Goals as goal

pub sums_of-requires-clause-named : goal.sums_of-requires-clause-named
sums_of-requires-clause-named c =
    let l = c.args.line.now in
    let path = c.args.path.now in
    let closed : IsClosedWalk l path c.in-Left-Some.low = search rules in
    let C : List Constraint → Type 0 = λ walk. IsClosedWalk l path walk in
    closed_names l path c.as_slice.result.now (subst C (sym c.as_slice.ensures) closed)
