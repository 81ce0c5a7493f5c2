use Rattle.std.proofs.Common.{◌≡◌, ℕ, ◌<◌, List, length, sym, ap, ◌∙◌, arith}
use Rattle.std.proofs.lemmas.List.{get_or_read}
use Rattle.hoist_base.specs.declared.tank.Tank.{Tank}
use Rattle.hoist_base.specs.LineData.{LineData, IsVisit, tank, no_tank}
use Rattle.hoist_base.specs.Valid.{IsLine}
use Rattle.line_model.specs.Timetable.{Timetable}
use Rattle.line_model.specs.Legal.{IsRouted}
use Rattle.timetable.specs.TimetableData.{timetable_of}
use Rattle.gantt_report.proofs.dwell.tank_name.Goals as goal

-- the tank that a carrier uses is one of the line
there : (l : LineData) (p : Timetable) (c k i : ℕ) → IsLine l → IsRouted l p → IsVisit l c k → i ≡ p.tank c k
    → i < length l.tanks
there l p c k i valid routed visit is = omega (arith, is, valid.stages.there k (p.tank c k) (routed c k visit))

pub bounds-tanks-tank : goal.bounds-tanks-tank
bounds-tanks-tank c =
    let v = c.args.v in
    let below =
    there c.args.line.now (timetable_of c.args.t.now) v.carrier v.stage c.tank.result c.tanks.ensures.valid c.requires.legal.routed
    c.requires.there c.tank.ensures.value in
    omega (arith, below, ap (λ (tanks : List Tank). length tanks) c.tanks.ensures.value)

pub returns : goal.returns
returns c =
    let l = c.args.line.now in
    let v = c.args.v in
    let below =
    there l (timetable_of c.args.t.now) v.carrier v.stage c.tank.result c.tanks.ensures.valid c.requires.legal.routed
    c.requires.there c.tank.ensures.value in
    let named = get_or_read l.tanks c.tank.result c.index-tanks-tank.result below (rw c.tanks.ensures.value at c.index-tanks-tank.is) no_tank in
    c.as_slice.ensures ∙ ap (λ (x : Tank). x.name) (sym c.index-tanks-tank.is ∙ named) ∙ ap (λ i. (tank l i).name) c.tank.ensures.value
