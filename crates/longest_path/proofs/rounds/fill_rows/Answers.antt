use Rattle.std.proofs.Common.{◌∙◌, sym, ◌+◌, ◌-◌, suc, refl, arith}
use Rattle.std.proofs.lemmas.Int.{ints}
use Rattle.longest_path.specs.Rounds.{weights_at, cell}
use Rattle.longest_path.proofs.ValueLemmas.{from_at, from_small}
use Rattle.longest_path.proofs.RowLemmas.{rows_more}
use Rattle.longest_path.proofs.NearLemmas.{steps_fit, packed_small}
use Rattle.longest_path.proofs.rounds.fill_rows.Goals as goal

pub next_row-requires-clause-small : goal.next_row-requires-clause-small
next_row-requires-clause-small c i p =
    let valid = c.nodes-n.ensures.valid in
    let m = c.loop-m.m in
    omega (
      arith,
      ints,
      c.loop-m.invariant.0.is m i (omega arith) p,
      from_small c.args.s.now c.args.period (cell c.args.s.now.nodes c.args.rows.now 0) m i valid c.requires.period
          (omega (arith, valid.nodes.1, c.nodes-n.ensures.value)) c.requires.small p,
    )

pub returns-then-not-next_row-clause-still : goal.returns-then-not-next_row-clause-still
returns-then-not-next_row-clause-still c _ i p =
    let s = c.args.s.now in
    let wt = weights_at s c.args.period in
    let first = cell s.nodes c.args.rows.now 0 in
    let m = c.loop-m.m in
    let rows = rows_more s c.args.period first m c.pack-count.result c.pack-count.new.near c.pack-count.new.steps
    c.loop-m.rows c.next_row.new.rows c.nodes-n.ensures.valid c.pack-count.ensures c.loop-m.invariant.0
    (λ j j_in. omega (
      arith,
      ints,
      c.loop-m.invariant.0.is m j (omega arith) j_in,
      from_small s c.args.period first m j c.nodes-n.ensures.valid c.requires.period
          (omega (
            arith,
            c.loop-m-test.true,
            c.nodes-n.ensures.value,
            c.nodes-n.ensures.valid.nodes.1,
          )) c.requires.small j_in,
    )) c.next_row.ensures.table c.next_row.ensures.kept
    c.next_row.ensures.made in
    from_at s wt first (suc m) (m + 1) i (omega arith) ∙ sym (rows.is (m + 1) i (omega arith) p)
    ∙ c.if-not-next_row.ensures.still refl i p ∙ c.loop-m.invariant.0.is m i (omega arith) p

pub loop-m-preserved : goal.loop-m-preserved
loop-m-preserved c =
    let s = c.args.s.now in
    let wt = weights_at s c.args.period in
    let first = cell s.nodes c.args.rows.now 0 in
    let m = c.loop-m.m in
    let rows = rows_more s c.args.period first m c.pack-count.result c.pack-count.new.near c.pack-count.new.steps
    c.loop-m.rows c.next_row.new.rows c.nodes-n.ensures.valid c.pack-count.ensures c.loop-m.invariant.0
    (λ j j_in. omega (
      arith,
      ints,
      c.loop-m.invariant.0.is m j (omega arith) j_in,
      from_small s c.args.period first m j c.nodes-n.ensures.valid c.requires.period
          (omega (
            arith,
            c.loop-m-test.true,
            c.nodes-n.ensures.value,
            c.nodes-n.ensures.valid.nodes.1,
          )) c.requires.small j_in,
    )) c.next_row.ensures.table c.next_row.ensures.kept
    c.next_row.ensures.made in (
      rows,
      c.pack-count.ensures,
      λ _.
          let (i, p, lt) = c.if-not-next_row.ensures.grown refl in (
            i,
            p,
            omega (
              arith,
              ints,
              lt,
              from_at s wt first (m + 1 - 1) m i (omega arith),
              c.loop-m.invariant.0.is m i (omega arith) p,
              rows.is (m + 1) i (omega arith) p,
            ),
          ),
    )

pub next_row-requires-clause-steps : goal.next_row-requires-clause-steps
next_row-requires-clause-steps c =
    let are = c.pack-count.ensures in (
      omega (arith, are.few, are.room),
      steps_fit c.args.s.now c.args.period c.pack-count.result c.pack-count.new.near
          c.pack-count.new.steps c.nodes-n.ensures.valid c.requires.period are,
    )

pub next_row-requires-clause-near : goal.next_row-requires-clause-near
next_row-requires-clause-near c =
    let are = c.pack-count.ensures in (
      are.nodes,
      packed_small c.args.s.now c.args.period c.pack-count.result c.pack-count.new.near c.pack-count.new.steps
          c.nodes-n.ensures.valid c.requires.period are,
    )
