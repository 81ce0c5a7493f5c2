use Rattle.std.proofs.Common.{◌≡◌, ◌<◌, List, length, sym, ap, ◌∙◌, arith}
use Rattle.std.proofs.lemmas.List.{get_or_read}
use Rattle.hoist_base.specs.declared.tank.Tank.{Tank}
use Rattle.hoist_base.specs.LineData.{position_of, no_tank}
use Rattle.timeway.proofs.Tanks.{there}
use Rattle.timeway.proofs.bars.tank_place.Goals as goal

pub bounds-tanks-tank : goal.bounds-tanks-tank
bounds-tanks-tank c =
    let v = c.args.v in
    let below =
    there c.args.line.now c.args.t.now v.carrier v.stage c.tank-tank.result c.tanks.ensures.valid c.requires.fits c.requires.there c.tank-tank.ensures.value in
    omega (arith, below, ap (λ (tanks : List Tank). length tanks) c.tanks.ensures.value)

pub bounds-tanks-tank-2 : goal.bounds-tanks-tank-2
bounds-tanks-tank-2 c =
    let v = c.args.v in
    let below =
    there c.args.line.now c.args.t.now v.carrier v.stage c.tank-tank.result c.tanks.ensures.valid c.requires.fits c.requires.there c.tank-tank.ensures.value in
    omega (arith, below, ap (λ (tanks : List Tank). length tanks) c.tanks.ensures.value)

pub returns : goal.returns
returns c =
    let l = c.args.line.now in
    let v = c.args.v in
    let below = there l c.args.t.now v.carrier v.stage c.tank-tank.result c.tanks.ensures.valid c.requires.fits c.requires.there c.tank-tank.ensures.value in
    let placed = get_or_read l.tanks c.tank-tank.result c.index-tanks-tank.result below (rw c.tanks.ensures.value at c.index-tanks-tank.is) no_tank in
    ap (λ (x : Tank). x.at) (sym c.index-tanks-tank.is ∙ placed) ∙ ap (λ i. position_of l i) c.tank-tank.ensures.value
