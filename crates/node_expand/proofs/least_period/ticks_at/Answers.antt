use Rattle.std.proofs.Common.{ℤ, List, arith, sym, subst, ap}
use Rattle.longest_path.specs.System.{SystemData, IsReached}
use Rattle.longest_path.specs.Answer.{IsLeastAnswer}
use Rattle.longest_path.specs.declared.least_ticks.LeastTicks.{LeastTicks}
use Rattle.path_constraints.specs.Places.{system_below}
use Rattle.path_constraints.specs.Ticks.{AreTicks}
use Rattle.node_expand.proofs.FloorLemmas.{all_reached, are_ticks}
use Rattle.node_expand.proofs.least_period.ticks_at.Goals as goal

pub least_in-requires-clause-reached : goal.least_in-requires-clause-reached
least_in-requires-clause-reached c i lt =
    let l = c.args.line.now in
    let path = c.args.path.now in
    let e = c.requires.at.system in
    let P : SystemData → Type 0 = λ s. IsReached s i in
    let nodes = ap (λ (s : SystemData). s.nodes) e in
    subst P (sym e) (all_reached l path i c.requires.valid (omega (arith, lt, nodes)))

pub unreachable-requires : goal.unreachable-requires
unreachable-requires c =
    let P : SystemData → Type 0 = λ s. IsLeastAnswer s c.args.period c.in_ok-ticks.field-0 in
    let Q : LeastTicks → Type 0 = λ x. IsLeastAnswer (system_below c.args.line.now c.args.path.now) c.args.period x in
    let none = subst Q c.in-Positive.is (subst P c.requires.at.system c.in_ok-ticks.ensures.least) in
    let some = c.requires.feasible in
    none some.0 some.1

pub returns-clause-ticks : goal.returns-clause-ticks
returns-clause-ticks c =
    let l = c.args.line.now in
    let path = c.args.path.now in
    let P : SystemData → Type 0 = λ s. IsLeastAnswer s c.args.period c.in_ok-ticks.field-0 in
    let Q : LeastTicks → Type 0 = λ x. IsLeastAnswer (system_below l path) c.args.period x in
    let least = subst Q c.in-Feasible.is (subst P c.requires.at.system c.in_ok-ticks.ensures.least) in
    let R : List ℤ → Type 0 = λ ts. AreTicks l ts in
    subst R (sym c.from_vec.ensures)
    (are_ticks l path c.in-Feasible.ticks.items c.args.period c.requires.valid least.solves c.requires.period.1 least.at_start least.count)
