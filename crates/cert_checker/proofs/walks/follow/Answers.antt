use Rattle.std.proofs.Common.{◌≡◌, List, length, ap, arith, refl}
use Rattle.std.proofs.lemmas.Int.{ints}
use Rattle.std.proofs.lemmas.Bool.{false≢true}
use Rattle.longest_path.specs.declared.systems.Arc.{Arc}
use Rattle.choice_tree.specs.declared.constraint.Constraint.{Constraint}
use Rattle.path_constraints.specs.Constraints.{arc_of}
use Rattle.cert_checker.specs.Walks.{token_at}
use Rattle.cert_checker.proofs.FollowLemmas.{along_start, along_more, along_all, whole_sums, sums_are}
use Rattle.cert_checker.proofs.walks.follow.Goals as goal

pub loop-j-init : goal.loop-j-init
loop-j-init c =
    let names = c.as_slice-names.ensures in
    let named = rw names at c.in-Some.ensures.named in
    let value = rw names at c.in-Some.ensures.value in
    along_start c.args.line.now c.args.path.now c.args.walk.now _ c.in-Some.first _ _ c.requires.walk.some (named.0 refl) value c.in-Some.ensures.arc
    (omega (arith, ints, c.in-Some.ensures.arc)) (omega (arith, ints, c.in-Some.ensures.arc))

pub overflow_add-w : goal.overflow_add-w
overflow_add-w c =
    let names : length c.as_slice-names.result.now ≡ length c.args.walk.now = ap (λ (ts : List Constraint). length ts) c.as_slice-names.ensures in
    omega (arith, ints, names, c.loop-j.invariant.small_w, c.in-Some-constraint_at.ensures.arc, c.loop-j-test.true, c.requires.walk.few)

pub overflow_add-q : goal.overflow_add-q
overflow_add-q c =
    let names : length c.as_slice-names.result.now ≡ length c.args.walk.now = ap (λ (ts : List Constraint). length ts) c.as_slice-names.ensures in
    omega (arith, ints, names, c.loop-j.invariant.small_q, c.in-Some-constraint_at.ensures.arc, c.loop-j-test.true, c.requires.walk.few)

pub loop-j-preserved : goal.loop-j-preserved
loop-j-preserved c =
    let names = c.as_slice-names.ensures in
    let size : length c.as_slice-names.result.now ≡ length c.args.walk.now = ap (λ (ts : List Constraint). length ts) names in
    let named = rw names at c.in-Some-constraint_at.ensures.named in
    let value = rw names at c.in-Some-constraint_at.ensures.value in
    let small = c.in-Some-constraint_at.ensures.arc in
    let inv = c.loop-j.invariant in
    along_more c.args.line.now c.args.path.now c.args.walk.now c.loop-j.j c.loop-j.end _ _ c.loop-j.loose _ c.in-Some-constraint_at.arc _ _ _ c.loop-j.auto.j
    (omega (arith, size, c.loop-j-test.true)) inv (named.0 refl) value small
    (omega (arith, ints, size, inv.small_w, small, c.loop-j-test.true, c.requires.walk.few))
    (omega (arith, ints, size, inv.small_q, small, c.loop-j-test.true, c.requires.walk.few)) c.first_gap-loose.ensures

pub returns : goal.returns
returns c =
    let l = c.args.line.now in
    let path = c.args.path.now in
    let xs = c.args.walk.now in
    let names = c.as_slice-names.ensures in
    let size : length c.as_slice-names.result.now ≡ length xs = ap (λ (ts : List Constraint). length ts) names in
    let inv = c.loop-j.invariant in
    let j = c.loop-j.j in
    let all : j ≡ length xs = omega (arith, size, c.loop-j-test.false, c.loop-j.auto.j-end, c.requires.walk.some) in
    let value = rw names at c.in-Some.ensures.value in
    let begin : c.in-Some.first.from ≡ (arc_of l path (token_at xs 0)).from = ap (λ (a : Arc). a.from) value in
    let sums = whole_sums l path xs j c.loop-j.end _ _ c.loop-j.loose all inv in
    record {
      some = c.requires.walk.some;
      count = size;
      few = omega (arith, size, c.requires.walk.few);
      there = λ k lt. inv.there k (omega (arith, all, lt));
      sums = sums_are l path xs _ _ sums.0 sums.1;
      small = (omega (arith, inv.small_w, all, c.requires.walk.few), omega (arith, inv.small_q, all, c.requires.walk.few));
      loose =
          along_all l path xs j c.loop-j.end _ _ c.loop-j.loose c.in-Some.first.from _ _ c.requires.walk.some all inv begin
          (omega (arith, size, all)) c.first_gap-loose-2.ensures;
    }

pub returns-in_default : goal.returns-in_default
returns-in_default c =
    let named = rw c.as_slice-names.ensures at c.in_default.ensures.named in
    (omega (arith, c.requires.walk.some), λ h. false≢true (named.1 h), λ k lt. absurd (omega (arith, lt)))

pub returns-in_default-constraint_at : goal.returns-in_default-constraint_at
returns-in_default-constraint_at c =
    let names = c.as_slice-names.ensures in
    let size : length c.as_slice-names.result.now ≡ length c.args.walk.now = ap (λ (ts : List Constraint). length ts) names in
    let named = rw names at c.in_default-constraint_at.ensures.named in
    (omega (arith, size, c.loop-j-test.true), λ h. false≢true (named.1 h), λ k lt. c.loop-j.invariant.there k lt)
