use Rattle.std.proofs.Common.{◌≡◌, ◌<◌, List, length, sym, ap, ◌∙◌, arith}
use Rattle.std.proofs.lemmas.List.{get_or_read}
use Rattle.hoist_base.specs.declared.tank.Tank.{Tank}
use Rattle.hoist_base.specs.LineData.{tank, no_tank}
use Rattle.timeway.proofs.Tanks.{there}
use Rattle.timeway.proofs.rides.tank_name.Goals as goal

pub bounds-tanks-tank : goal.bounds-tanks-tank
bounds-tanks-tank c =
    let v = c.args.v in
    let below =
    there c.args.line.now c.args.t.now v.carrier v.stage c.tank.result c.tanks.ensures.valid c.requires.fits c.requires.there c.tank.ensures.value in
    omega (arith, below, ap (λ (tanks : List Tank). length tanks) c.tanks.ensures.value)

pub returns : goal.returns
returns c =
    let l = c.args.line.now in
    let v = c.args.v in
    let below = there l c.args.t.now v.carrier v.stage c.tank.result c.tanks.ensures.valid c.requires.fits c.requires.there c.tank.ensures.value in
    let named = get_or_read l.tanks c.tank.result c.index-tanks-tank.result below (rw c.tanks.ensures.value at c.index-tanks-tank.is) no_tank in
    c.as_slice.ensures ∙ ap (λ (x : Tank). x.name) (sym c.index-tanks-tank.is ∙ named) ∙ ap (λ i. (tank l i).name) c.tank.ensures.value
