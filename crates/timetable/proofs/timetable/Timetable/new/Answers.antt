use Rattle.std.proofs.Common.{◌≡◌, ℕ, ◌+◌, arith, subst}
use Rattle.hoist_base.specs.LineData.{last_stage}
use Rattle.timetable.specs.TimetableData.{IsTimetable}
use Rattle.timetable.specs.PartsData.{data_of}
use Rattle.timetable.proofs.Kept.{kept}
use Rattle.timetable.proofs.timetable.Timetable.new.Goals as goal

pub invariant_of-result : goal.invariant_of-result
invariant_of-result c =
    let n : ℕ = last_stage c.args.line.now in
    let e : n ≡ c.inner-moves.result + 1 = omega (arith, c.inner-moves.ensures.count) in
    rw c.from_vec.ensures (subst (λ (m : ℕ). IsTimetable (data_of m c.args.parts)) e
    (kept c.args.line.now (data_of n c.args.parts) c.inner-moves.ensures.valid c.requires))
