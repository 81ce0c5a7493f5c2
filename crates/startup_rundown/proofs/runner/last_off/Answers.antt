use Rattle.std.proofs.Common.{◌≡◌, ℕ, ◌+◌, ◌-◌, ◌*◌, ◌/◌, ◌≤◌, ◌<◌, sym, ap, subst, ◌∙◌, arith}
use Rattle.std.specs.Prelude.{min, max}
use Rattle.timetable.specs.TimetableData.{timetable_of}
use Rattle.startup_rundown.proofs.LastOff.{Latest, one_more_soon, last_is}
use Rattle.startup_rundown.proofs.runner.last_off.Goals as goal

pub loop-c-preserved : goal.loop-c-preserved
loop-c-preserved c =
    let l = c.args.line.now in
    let d = c.args.t.now in
    let n = c.args.carriers in
    let degree = c.degree-degree.ensures.value in
    let lt : c.loop-c.c < l.degree = omega (arith, c.loop-c-test.true, c.min-c-end.ensures, degree) in
    let there : c.loop-c.c < n = omega (arith, c.loop-c-test.true, c.min-c-end.ensures) in
    let so = one_more_soon l (timetable_of d) n c.loop-c.c c.loop-c.last lt there c.requires.carriers
    c.period-period.ensures.valid.period.1 (c.off.ensures.valid.off_ticks c.loop-c.c) c.loop-c.invariant.0
    c.loop-c.invariant.1 in
    let p = timetable_of d in
    let i = c.loop-c.c in
    let was = c.loop-c.last in
    let same : c.max-last.result ≡ max was (p.off i + (n - 1 - i) / l.degree * p.period) =
    c.max-last.ensures ∙ ap (λ (x : ℕ). max was (x + (n - 1 - i) / c.degree-degree.result * c.period-period.result)) c.off.ensures.value
    ∙ ap (λ (r : ℕ). max was (p.off i + (n - 1 - i) / r * c.period-period.result)) degree
    ∙ ap (λ (q : ℕ). max was (p.off i + (n - 1 - i) / l.degree * q)) c.period-period.ensures.value in
    subst (λ (m : ℕ). Latest l p n (i + 1) m × (m ≤ 2000000000)) (sym same) so

pub returns-clause-value : goal.returns-clause-value
returns-clause-value c =
    let l = c.args.line.now in
    let n = c.args.carriers in
    let degree = c.degree-degree.ensures.value in
    let all : c.loop-c.c ≡ min l.degree n = omega (arith, c.loop-c-test.false, c.loop-c.auto.c-end, c.min-c-end.ensures, degree) in
    last_is l (timetable_of c.args.t.now) n c.loop-c.c c.loop-c.last c.degree-degree.ensures.valid.limits.degree.0 all c.loop-c.invariant.0
