use Rattle.std.proofs.Common.{◌≡◌, ◌∙◌, ℕ, ◌+◌, ◌-◌, ◌<◌, refl, length, List, ℤ, ap, arith}
use Rattle.std.proofs.lemmas.Int.{ints}
use Rattle.longest_path.specs.Rounds.{number, weights_at}
use Rattle.longest_path.proofs.ValueLemmas.{from_at, from_small}
use Rattle.longest_path.proofs.SettleLemmas.{between_more, raised_solves, settled, none_above, none_grown}
use Rattle.longest_path.proofs.settling.settle.Goals as goal

pub loop-m-preserved : goal.loop-m-preserved
loop-m-preserved c =
    let s = c.args.s.now in
    let m = c.loop-m._m in
    let first = number c.args.row.now in
    let valid = c.nodes-m-end.ensures.valid in
    let old = c.loop-m.row in
    let new = c.raise.new.row in
    let count : length new ≡ s.nodes = c.raise.ensures.len ∙ c.loop-m.invariant.0.count in
    let raised = c.raise.ensures.row in
    let between = between_more s c.args.period m first old new valid c.loop-m.invariant.0 count raised in (
      between,
      λ i i_in.
          omega (
            arith,
            ints,
            between.low i i_in,
            c.if-passes_most.ensures.no refl i (omega (arith, i_in, count)),
            from_small s c.args.period first (m + 1) i valid c.requires.period
                (omega (arith, c.loop-m-test.true, c.nodes-m-end.ensures.value, valid.nodes.1)) c.requires.small i_in,
          ),
      λ _.
          let (i, lt, other) = c.if-not-has_changed.ensures.changed refl in
          let i_in : i < s.nodes = omega (arith, lt, count, c.copy_from_slice.ensures.len, c.loop-m.auto.before, c.requires.before) in
          let was = ap (λ (xs : List ℤ). number xs i) c.copy_from_slice.ensures.after in (
            i,
            i_in,
            omega (
              arith,
              ints,
              other,
              was,
              raised.keeps i i_in,
              c.loop-m.invariant.0.low i i_in,
              from_at s (weights_at s c.args.period) first (m + 1 - 1) m i (omega arith),
            ),
          ),
    )

pub returns-then-not-has_changed-clause-settled : goal.returns-then-not-has_changed-clause-settled
returns-then-not-has_changed-clause-settled c _ =
    let s = c.args.s.now in
    let m = c.loop-m._m in
    let first = number c.args.row.now in
    let valid = c.nodes-m-end.ensures.valid in
    let old = c.loop-m.row in
    let new = c.raise.new.row in
    let count : length new ≡ s.nodes = c.raise.ensures.len ∙ c.loop-m.invariant.0.count in
    let raised = c.raise.ensures.row in
    let between = between_more s c.args.period m first old new valid c.loop-m.invariant.0 count raised in
    let same : (i : ℕ) → i < s.nodes → number new i ≡ number old i = λ i i_in. c.if-not-has_changed.ensures.still refl i
    (omega (arith, i_in, c.copy_from_slice.ensures.len, c.loop-m.auto.before, c.requires.before))
    ∙ ap (λ (xs : List ℤ). number xs i) c.copy_from_slice.ensures.after in
    settled s c.args.period (m + 1) first new valid between (raised_solves s c.args.period old new valid raised same)

pub returns-then-passes_most-clause-none : goal.returns-then-passes_most-clause-none
returns-then-passes_most-clause-none c _ t solves =
    let s = c.args.s.now in
    let m = c.loop-m._m in
    let first = number c.args.row.now in
    let valid = c.nodes-m-end.ensures.valid in
    let old = c.loop-m.row in
    let new = c.raise.new.row in
    let count : length new ≡ s.nodes = c.raise.ensures.len ∙ c.loop-m.invariant.0.count in
    let raised = c.raise.ensures.row in
    let between = between_more s c.args.period m first old new valid c.loop-m.invariant.0 count raised in
    let (i, lt, above) = c.if-passes_most.ensures.yes refl in
    none_above s c.args.period (m + 1) first t new i valid c.requires.period c.requires.small between (omega (arith, lt, count)) above solves

pub returns-clause-none : goal.returns-clause-none
returns-clause-none c _ t solves =
    let s = c.args.s.now in
    let m = c.loop-m._m in
    let valid = c.nodes-m-end.ensures.valid in
    let (i, i_in, grown) = c.loop-m.invariant.2 (omega (arith, c.loop-m-test.false, c.nodes-m-end.ensures.value, valid.nodes.0)) in
    let all : m ≡ s.nodes = omega (arith, c.loop-m-test.false, c.loop-m.auto._m-end, c.nodes-m-end.ensures.value) in
    none_grown s c.args.period m (number c.args.row.now) t c.loop-m.row valid c.loop-m.invariant.0 (
      i,
      i_in,
      omega (
        arith,
        ints,
        grown,
        from_at s (weights_at s c.args.period) (number c.args.row.now) (m - 1)
            (s.nodes - 1) i (omega (arith, all)),
      ),
    ) solves
