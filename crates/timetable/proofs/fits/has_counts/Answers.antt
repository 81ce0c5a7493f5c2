use Rattle.std.proofs.Common.{◌≡◌, ◌+◌, ◌*◌, arith, ap, ℕ, ◌∙◌}
use Rattle.hoist_base.specs.LineData.{last_stage, move_count}
use Rattle.timetable.specs.PartsData.{data_of}
use Rattle.timetable.proofs.FitLemmas.{counts_are}
use Rattle.timetable.proofs.fits.has_counts.Goals as goal

pub returns : goal.returns
returns c =
    let l = c.args.line.now in
    let r = c.degree-carriers.result in
    let n = c.inner.result + 1 in
    let steps : n ≡ last_stage l = omega (arith, c.inner.ensures.count) in
    let moves : r * n ≡ move_count l = ap (λ (x : ℕ). x * n) c.degree-carriers.ensures.value ∙ ap (λ (x : ℕ). l.degree * x) steps in
    let positions : c.hoists.result * c.args.parts.now.period ≡ l.hoists * c.args.parts.now.period = ap
    (λ (x : ℕ). x * c.args.parts.now.period) c.hoists.ensures.value in
    counts_are l (data_of (last_stage l) c.args.parts.now) c.are_counts.result r (r * n)
    (c.hoists.result * c.args.parts.now.period) (omega arith)
    (omega arith) c.degree-carriers.ensures.value moves positions c.are_counts.ensures
