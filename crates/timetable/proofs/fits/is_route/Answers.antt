use Rattle.std.proofs.Common.{◌≡◌, ℕ, ◌%◌, ◌<◌, length, get_or, arith, below_more, refl}
use Rattle.std.specs.Prelude.{true, false}
use Rattle.hoist_base.specs.LineData.{Serves}
use Rattle.timetable.proofs.FitLemmas.{route_from, route_at}
use Rattle.timetable.proofs.fits.is_route.Goals as goal

pub returns-then-not-is_served : goal.returns-then-not-is_served
returns-then-not-is_served c =
    let l = c.args.line.now in
    let tanks = c.args.tanks.now in
    let n = length l.stages in
    let served = rw c.stages-stages.ensures.value at c.if-not-is_served.ensures in
    let some : 0 < n = omega (arith, c.stages-stages.ensures.valid.limits.stages) in
    (λ e. let no : false ≡ true = e in cc, λ route. served.1 (route_at l tanks c.loop-number.number some route c.loop-number-test.true))

pub loop-number-preserved : goal.loop-number-preserved
loop-number-preserved c =
    let l = c.args.line.now in
    let served = rw c.stages-stages.ensures.value at c.if-not-is_served.ensures in
    below_more (λ (i : ℕ). Serves l (get_or c.args.tanks.now i 0) (i % length l.stages)) c.loop-number.number c.loop-number.invariant (served.0 refl)

pub returns : goal.returns
returns c =
    let l = c.args.line.now in
    let count = rw (c.degree.ensures.value, c.stages-stages.ensures.value) at c.if-tanks-degree.false in
    (λ _. route_from l c.args.tanks.now count (λ i lt. c.loop-number.invariant i (omega (arith, lt, c.loop-number-test.false))), λ _. refl)
