use Rattle.std.proofs.Common.{◌≡◌, ℕ, List, ◌++◌, length, take, ◌∙◌, subst, sym, ap, refl, Some, arith}
use Rattle.std.proofs.lemmas.Int.{ints}
use Rattle.std.proofs.Math.Seq.{take-append_seam}
use Rattle.longest_path.specs.Rounds.{cell}
use Rattle.cycle_walk.specs.Values.{AreValues}
use Rattle.cycle_walk.specs.Closed.{walk_of}
use Rattle.cycle_walk.specs.Trail.{IsTrail}
use Rattle.cycle_walk.proofs.ValueLemmas.{value_small}
use Rattle.cycle_walk.proofs.ClosedLemmas.{none_where_still, some_where_risen}
use Rattle.cycle_walk.proofs.FoundLemmas.{start_is, start_rises, trail_walk}
use Rattle.cycle_walk.proofs.closed_walks.walk_within.Goals as goal

pub returns-then-not-rises-clause-walk : goal.returns-then-not-rises-clause-walk
returns-then-not-rises-clause-walk c = sym (none_where_still c.args.s.now c.args.period (c.if-not-rises.ensures.still refl))

pub first_grown-start-requires-clause-small : goal.first_grown-start-requires-clause-small
first_grown-start-requires-clause-small c r i le p =
    let s = c.args.s.now in
    let valid = c.nodes.ensures.valid in
    let rows = subst (AreValues s c.args.period s.nodes) (sym c.deref.ensures.value) (c.if-not-rises.ensures.rows refl) in
    let n = c.nodes.ensures.value in
    omega (
      arith,
      ints,
      rows.is r i (omega (arith, le, n)) (omega (arith, p, n)),
      value_small s c.args.period r i valid c.requires.period (omega (arith, valid.nodes.1, le, n))
          (omega (arith, p, n)),
      ap (λ k. cell k c.deref.result.now r i) n,
    )

pub overflow_cast-start : goal.overflow_cast-start
overflow_cast-start c =
    let s = c.args.s.now in
    let is = start_is s c.args.period c.nodes.result c.first_grown-start.result c.deref.result.now
    (subst (AreValues s c.args.period s.nodes) (sym c.deref.ensures.value)
    (c.if-not-rises.ensures.rows refl)) c.nodes.ensures.value c.first_grown-start.ensures in
    let (i, p, rises) = c.if-not-rises.ensures.rises refl in
    omega (arith, (start_rises s c.args.period c.first_grown-start.result i is p rises).0, c.nodes.ensures.valid.nodes.1)

pub go_back-turn-requires-clause-start : goal.go_back-turn-requires-clause-start
go_back-turn-requires-clause-start c =
    let s = c.args.s.now in
    let is = start_is s c.args.period c.nodes.result c.first_grown-start.result c.deref.result.now
    (subst (AreValues s c.args.period s.nodes) (sym c.deref.ensures.value)
    (c.if-not-rises.ensures.rows refl)) c.nodes.ensures.value c.first_grown-start.ensures in
    let (i, p, rises) = c.if-not-rises.ensures.rises refl in
    (start_rises s c.args.period c.first_grown-start.result i is p rises).0

pub go_back-turn-requires-clause-rises : goal.go_back-turn-requires-clause-rises
go_back-turn-requires-clause-rises c =
    let s = c.args.s.now in
    let is = start_is s c.args.period c.nodes.result c.first_grown-start.result c.deref.result.now
    (subst (AreValues s c.args.period s.nodes) (sym c.deref.ensures.value)
    (c.if-not-rises.ensures.rows refl)) c.nodes.ensures.value c.first_grown-start.ensures in
    let (i, p, rises) = c.if-not-rises.ensures.rises refl in
    (start_rises s c.args.period c.first_grown-start.result i is p rises).1

-- what was written through a slice of a whole list
written : (n : ℕ) (new rest : List ℕ) → length new ≡ n → take n (new ++ rest) ≡ new
written n new rest e = ap (λ x. take x (new ++ rest)) (sym e) ∙ take-append_seam new rest

pub returns-clause-walk : goal.returns-clause-walk
returns-clause-walk c =
    let s = c.args.s.now in
    let start = c.first_grown-start.result in
    let turn = c.go_back-turn.result in
    let is = start_is s c.args.period c.nodes.result start c.deref.result.now
    (subst (AreValues s c.args.period s.nodes) (sym c.deref.ensures.value)
    (c.if-not-rises.ensures.rows refl)) c.nodes.ensures.value c.first_grown-start.ensures in
    let (i, p, rises) = c.if-not-rises.ensures.rises refl in
    let start_in = (start_rises s c.args.period start i is p rises).0 in
    let back = c.deref-5.result.now in
    let same : back ≡ c.go_back-turn.new.back = c.deref-5.ensures.value
    ∙ written _ c.go_back-turn.new.back _ (omega (
      arith,
      c.go_back-turn.ensures.back,
      c.if-not-rises.ensures.room.back,
      c.rises.new.room.back.ok,
    )) in
    let trail = subst (λ (xs : List ℕ). IsTrail s c.args.period start xs turn.first turn.end) (sym same) c.go_back-turn.ensures.trail in
    ap Some (c.in_ok-walk.ensures.value ∙ ap (walk_of s) (trail_walk s c.args.period start turn.first turn.end back trail))
    ∙ sym (some_where_risen s c.args.period start is start_in)
