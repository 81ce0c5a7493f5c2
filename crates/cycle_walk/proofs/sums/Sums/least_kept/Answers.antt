use Rattle.std.proofs.Common.{◌≡◌, ◌<ℤ◌, pos, arith}
use Rattle.std.specs.Prelude.{unsigned_abs}
use Rattle.std.proofs.lemmas.Int.{ints}
use Rattle.longest_path.specs.System.{Refutes}
use Rattle.cycle_walk.proofs.ClimbLemmas.{refuted_before, kept_from}
use Rattle.cycle_walk.proofs.sums.Sums.least_kept.Goals as goal

pub returns-clause-below : goal.returns-clause-below
returns-clause-below c t some lt =
    let s = c.args.self in
    let w : c.unsigned_abs.result ≡ unsigned_abs s.w = omega (arith, ints) in
    let q : c.unsigned_abs-2.result ≡ unsigned_abs s.q = omega (arith, ints) in
    let one : Refutes s.w s.q 1 = omega (arith, ints, c.refutes.ensures.0 c.if-not-refutes.false) in
    let down : s.q <ℤ pos 0 = omega (arith, ints, c.falls.ensures.0 c.if-not-falls.false) in
    refuted_before s.w s.q c.unsigned_abs.result c.unsigned_abs-2.result 1 t w q one down
    (omega (arith, lt, c.min.ensures, c.from.ensures, c.div_ceil-kept.ensures))

pub returns-clause-kept : goal.returns-clause-kept
returns-clause-kept c lt again =
    let s = c.args.self in
    let w : c.unsigned_abs.result ≡ unsigned_abs s.w = omega (arith, ints) in
    let q : c.unsigned_abs-2.result ≡ unsigned_abs s.q = omega (arith, ints) in
    let down : s.q <ℤ pos 0 = omega (arith, ints, c.falls.ensures.0 c.if-not-falls.false) in
    kept_from s.w s.q c.unsigned_abs.result c.unsigned_abs-2.result c.min.result w q down
    (omega (arith, lt, c.min.ensures, c.from.ensures, c.div_ceil-kept.ensures)) again
