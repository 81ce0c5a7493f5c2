use Rattle.std.proofs.Common.{ℕ, sym, subst, arith, [], ◌∷◌}
use Rattle.std.specs.Prelude.{Option}
use Rattle.choice_tree.specs.declared.question.Question.{Question}
use Rattle.period_constraints.specs.Order.{IsFirstQuestion}
use Rattle.path_constraints.specs.Proves.{RefuteBelow}
use Rattle.path_constraints.specs.Ticks.{tick_at}
use Rattle.node_expand.proofs.ExpandLemmas.{plannable}
use Rattle.node_expand.proofs.LeastLemmas.{least_refutes}
use Rattle.node_expand.proofs.SettledLemmas.{tanks_settled, hoists_settled, some_children}
use Rattle.node_expand.proofs.expander.expand_least.Goals as goal

pub solved_of-requires-clause-tanks : goal.solved_of-requires-clause-tanks
solved_of-requires-clause-tanks c =
    let P : Option Question → Type 0 = λ o. IsFirstQuestion c.args.line.now c.args.path.now (tick_at c.args.least.ticks) c.args.least.period o in
    tanks_settled c.args.line.now c.args.path.now (tick_at c.args.least.ticks) c.args.least.period c.requires.valid (subst P c.in-None.is c.requires.first)

pub solved_of-requires-clause-hoists : goal.solved_of-requires-clause-hoists
solved_of-requires-clause-hoists c =
    let P : Option Question → Type 0 = λ o. IsFirstQuestion c.args.line.now c.args.path.now (tick_at c.args.least.ticks) c.args.least.period o in
    hoists_settled c.args.line.now c.args.path.now (tick_at c.args.least.ticks) c.args.least.period c.requires.valid c.requires.fits
    (subst P c.in-None.is c.requires.first)

pub returns-in-Some-clause-shows : goal.returns-in-Some-clause-shows
returns-in-Some-clause-shows c cap below =
    let l = c.args.line.now in
    let path = c.args.path.now in
    let P : Option Question → Type 0 = λ o. IsFirstQuestion l path (tick_at c.args.least.ticks) c.args.least.period o in
    let fits = (subst P c.in-Some.is c.requires.first).0 in
    let count = some_children l path c.in-Some.question c.requires.valid c.requires.reach fits in (
      least_refutes l path c.args.least c.requires.least,
      c.requires.least.some,
      below,
      fits,
      c.child_count.ensures,
      omega
          (arith, count.0, c.child_count.ensures),
      omega (arith, count.1, c.child_count.ensures),
    )

pub returns-in_ok-solved-in-None-clause-shows : goal.returns-in_ok-solved-in-None-clause-shows
returns-in_ok-solved-in-None-clause-shows c cap below =
    let l = c.args.line.now in
    let path = c.args.path.now in
    let least = c.args.least in
    let s = c.in_ok-solved-in-None in
    let P : ℕ → Type 0 = λ t. RefuteBelow l path (least.low ∷ []) t in
    let Q : Option Question → Type 0 = λ o. IsFirstQuestion l path (tick_at least.ticks) least.period o in (
      subst P (sym s.ensures.period) (least_refutes l path least c.requires.least),
      omega (arith, below, s.ensures.period),
      plannable l path least.period least.ticks s.solved c.requires.valid c.requires.fits c.requires.least.some c.requires.small c.requires.least.solution
          (subst Q c.in-None.is c.requires.first) s.ensures.period s.ensures.ticks s.ensures.settles s.ensures.route s.ensures.count,
    )
