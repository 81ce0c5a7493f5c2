use Rattle.std.proofs.Common.{◌≡◌, arith, Some}
use Rattle.std.proofs.lemmas.Int.{ints}
use mir.Val.{to_z, of_z}
use mir.Syntax.{w64}
use Rattle.period_constraints.specs.Starts.{start, AreClashing, AreMeeting}
use Rattle.period_constraints.proofs.PairLemmas.{shift_same, row_found, row_more, row_none}
use Rattle.period_constraints.proofs.starts.first_meeting_of.Goals as goal

pub returns-in-Some-clause-first : goal.returns-in-Some-clause-first
returns-in-Some-clause-first c =
    let l = c.args.line.now in
    let xs = c.args.starts.now in
    let t = c.args.period in
    let i = c.args.first in
    let j = c.loop-second.second in
    let q : to_z w64 (of_z w64 c.in-Some.shift) ≡ c.in-Some.shift = omega (arith, ints, c.in-Some.ensures.small) in
    row_found (AreMeeting l xs t) i j c.in-Some.shift (to_z w64 (of_z w64 c.in-Some.shift)) q c.loop-second.invariant
    (shift_same (λ r. AreClashing l (start xs i) (start xs j) t r) (AreMeeting l xs t i j) (Some c.in-Some.shift)
    (λ r h. record { before = omega (arith, c.loop-second.auto.second); there = c.loop-second-test.true; clash = h }) (λ r h. h.clash) c.in-Some.ensures.first)

pub loop-second-preserved : goal.loop-second-preserved
loop-second-preserved c =
    row_more (AreMeeting c.args.line.now c.args.starts.now c.args.period) c.args.first c.loop-second.second c.loop-second.invariant
    (λ q h. c.in_default.ensures.first q h.clash)

pub returns-clause-first : goal.returns-clause-first
returns-clause-first c =
    row_none (AreMeeting c.args.line.now c.args.starts.now c.args.period) c.args.first c.loop-second.second
    (λ k j q h. omega (arith, h.there, c.loop-second-test.false)) c.loop-second.invariant
