use Rattle.std.proofs.Common.{◌≡◌, suc, List, ℤ, subst}
use Rattle.longest_path.specs.Rounds.{weights_at, value_from, cell}
use Rattle.longest_path.proofs.rounds.fill.Goals as goal

pub returns-clause-still : goal.returns-clause-still
returns-clause-still c less i p =
    let s = c.args.s.now in
    let wt = weights_at s c.args.period in
    subst (λ (rows : List ℤ). value_from s wt (cell s.nodes rows 0) (suc c.fill_rows.result) i
    ≡ value_from s wt (cell s.nodes rows 0) c.fill_rows.result i) c.deref_mut-2.ensures.value
    (c.fill_rows.ensures.still less i p)
