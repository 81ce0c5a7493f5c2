use Rattle.std.proofs.Common.{◌∙◌, ◌-◌, sym, refl, ap, length, arith}
use Rattle.cycle_walk.proofs.BackLemmas.{j_below, steps_left, arc_at, way_more, way_ends}
use Rattle.cycle_walk.proofs.going_back.go_back.Goals as goal

pub bounds-seen-j : goal.bounds-seen-j
bounds-seen-j c = omega (
  arith,
  c.loop-seen.invariant.size,
  j_below c.args.s.now c.args.period c.args.start
      c.loop-seen.t c.loop-seen.j c.loop-seen.back c.loop-seen.seen c.nodes-n.ensures.valid c.requires.start
      c.requires.rises c.loop-seen.invariant,
)

pub bounds-seen-j-2 : goal.bounds-seen-j-2
bounds-seen-j-2 c = omega (
  arith,
  c.loop-seen.invariant.size,
  j_below c.args.s.now c.args.period c.args.start c.loop-seen.t c.loop-seen.j c.loop-seen.back c.loop-seen.seen
      c.nodes-n.ensures.valid c.requires.start c.requires.rises c.loop-seen.invariant,
)

pub overflow_sub-n-in-loop-seen : goal.overflow_sub-n-in-loop-seen
overflow_sub-n-in-loop-seen c =
    let left = steps_left c.args.s.now c.args.period c.args.start c.loop-seen.t c.loop-seen.j c.loop-seen.back
    c.loop-seen.seen c.nodes-n.ensures.valid c.requires.start c.requires.rises c.loop-seen.invariant
    (c.loop-seen-test.true ∙ c.nodes-n.ensures.value) in
    omega (arith, left, c.nodes-n.ensures.value)

pub bounds-back-t : goal.bounds-back-t
bounds-back-t c =
    let left = steps_left c.args.s.now c.args.period c.args.start c.loop-seen.t c.loop-seen.j c.loop-seen.back
    c.loop-seen.seen c.nodes-n.ensures.valid c.requires.start c.requires.rises c.loop-seen.invariant
    (c.loop-seen-test.true ∙ c.nodes-n.ensures.value) in
    omega (arith, left, c.loop-seen.invariant.count)

pub overflow_cast-back : goal.overflow_cast-back
overflow_cast-back c =
    let at = arc_at c.args.s.now c.args.period c.args.start c.loop-seen.t c.loop-seen.j c.nodes-n.result c.fit-k.result
    (c.nodes-n.result - 1 - c.loop-seen.t) c.loop-seen.back c.loop-seen.seen c.nodes-n.ensures.valid
    c.requires.start c.requires.rises c.loop-seen.invariant
    (c.loop-seen-test.true ∙ c.nodes-n.ensures.value) c.nodes-n.ensures.value refl c.fit-k.ensures in
    omega (arith, at.1, c.nodes-n.ensures.valid.count)

pub offset_bounds-arcs-k : goal.offset_bounds-arcs-k
offset_bounds-arcs-k c =
    let at = arc_at c.args.s.now c.args.period c.args.start c.loop-seen.t c.loop-seen.j c.nodes-n.result c.fit-k.result
    (c.nodes-n.result - 1 - c.loop-seen.t) c.loop-seen.back c.loop-seen.seen c.nodes-n.ensures.valid
    c.requires.start c.requires.rises c.loop-seen.invariant
    (c.loop-seen-test.true ∙ c.nodes-n.ensures.value) c.nodes-n.ensures.value refl c.fit-k.ensures in
    omega (arith, at.1, c.nodes-n.ensures.valid.count)

pub bounds-arcs-k : goal.bounds-arcs-k
bounds-arcs-k c =
    let at = arc_at c.args.s.now c.args.period c.args.start c.loop-seen.t c.loop-seen.j c.nodes-n.result c.fit-k.result
    (c.nodes-n.result - 1 - c.loop-seen.t) c.loop-seen.back c.loop-seen.seen c.nodes-n.ensures.valid
    c.requires.start c.requires.rises c.loop-seen.invariant
    (c.loop-seen-test.true ∙ c.nodes-n.ensures.value) c.nodes-n.ensures.value refl c.fit-k.ensures in
    omega (arith, at.1, ap length c.arcs.ensures.value)

pub loop-seen-smaller : goal.loop-seen-smaller
loop-seen-smaller c =
    let left = steps_left c.args.s.now c.args.period c.args.start c.loop-seen.t c.loop-seen.j c.loop-seen.back
    c.loop-seen.seen c.nodes-n.ensures.valid c.requires.start c.requires.rises c.loop-seen.invariant
    (c.loop-seen-test.true ∙ c.nodes-n.ensures.value) in
    omega (arith, left)

pub loop-seen-preserved : goal.loop-seen-preserved
loop-seen-preserved c =
    let unseen = c.loop-seen-test.true ∙ c.nodes-n.ensures.value in
    let at = arc_at c.args.s.now c.args.period c.args.start c.loop-seen.t c.loop-seen.j c.nodes-n.result c.fit-k.result
    (c.nodes-n.result - 1 - c.loop-seen.t) c.loop-seen.back c.loop-seen.seen c.nodes-n.ensures.valid
    c.requires.start c.requires.rises c.loop-seen.invariant unseen c.nodes-n.ensures.value refl c.fit-k.ensures in
    rw c.arcs.ensures.value
    (way_more c.args.s.now c.args.period c.args.start c.loop-seen.t c.loop-seen.j c.fit-k.result c.loop-seen.back
    c.loop-seen.seen c.nodes-n.ensures.valid c.requires.start c.requires.rises c.loop-seen.invariant unseen at.0)

pub returns-clause-trail : goal.returns-clause-trail
returns-clause-trail c =
    way_ends c.args.s.now c.args.period c.args.start c.loop-seen.t c.loop-seen.j c.loop-seen.back c.loop-seen.seen
    c.nodes-n.ensures.valid c.requires.start c.requires.rises c.loop-seen.invariant
    (λ e. c.loop-seen-test.false (e ∙ sym c.nodes-n.ensures.value))
