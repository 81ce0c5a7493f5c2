-- One tick after another is compared in its nearest copy.
use Rattle.std.proofs.Common.{◌≡◌, ◌+◌, ℕ, get_or, refl, sym, subst, arith, ℤ, w64, to_z, of_z}
use Rattle.std.proofs.lemmas.Int.{ints}
use Rattle.path_envelope.specs.declared.point.Point.{Point}
use Rattle.path_envelope.specs.Duties.{Contradict}
use Rattle.path_envelope.specs.FirstClash.{IsNearestTick}
use Rattle.path_envelope.proofs.FirstLemmas.{tick_passes, tick_found, none_of_move}
use Rattle.path_envelope.proofs.TableLemmas.{hoist_there}
use Rattle.path_envelope.proofs.clash.partner_of_move.Goals as goal

pub contradicts-requires-clause-hoists : goal.contradicts-requires-clause-hoists
contradicts-requires-clause-hoists c = (
  c.requires.small.hoist,
  hoist_there c.args.asked.line.now c.args.asked.route.now c.args.asked.starts.now
      c.args.asked.hoists.now c.args.asked.period c.args.number c.requires.number
      c.motion_by_number-motion.ensures.moves c.requires.moves.reach,
)

pub returns-then-contradicts : goal.returns-then-contradicts
returns-then-contradicts c =
    let tick : ℤ = to_z w64 (of_z w64 c.nearest.result) in
    let y : Point = record { hoist = get_or c.args.asked.hoists.now c.args.number 0; tick = tick; at = c.place.result } in
    let to : to_z w64 (of_z w64 c.args.x.tick) ≡ c.args.x.tick = omega (arith, ints, c.requires.small.from, c.requires.small.to) in
    let whole : to_z w64 (of_z w64 c.nearest.result) ≡ c.nearest.result = omega (
      arith,
      ints,
      c.nearest.ensures.near,
      c.requires.small.from,
      c.requires.small.to,
    ) in
    let near : IsNearestTick c.args.asked.period c.args.x.tick (get_or c.args.asked.starts.now c.args.number 0 + c.loop-u.u) c.nearest.result =
    subst (λ (n : ℕ). IsNearestTick c.args.asked.period c.args.x.tick (get_or c.args.asked.starts.now c.args.number 0 + n) c.nearest.result) c.from.ensures
    (subst (λ (t : ℤ). IsNearestTick c.args.asked.period t (get_or c.args.asked.starts.now c.args.number
    0 + c.from.result) c.nearest.result) to c.nearest.ensures.nearest) in
    let near' : IsNearestTick c.args.asked.period c.args.x.tick (get_or c.args.asked.starts.now c.args.number 0 + c.loop-u.u) tick =
    subst (λ (t : ℤ). IsNearestTick c.args.asked.period c.args.x.tick (get_or c.args.asked.starts.now c.args.number 0 + c.loop-u.u) t) (sym whole) near in
    tick_found c.args.asked.line.now c.args.asked.route.now c.args.asked.starts.now c.args.asked.hoists.now
    c.args.asked.period c.args.number c.loop-u.u c.motion_by_number-motion.result c.args.x y
    (record { inside = c.requires.number; some = c.motion_by_number-motion.ensures.moves; motion = c.motion_by_number-motion.ensures.value })
    (omega arith) near' refl c.place.ensures.value (c.if-contradicts.ensures.0 refl) c.loop-u.invariant

pub loop-u-preserved : goal.loop-u-preserved
loop-u-preserved c =
    let y : Point = record { hoist = get_or c.args.asked.hoists.now c.args.number 0; tick = c.nearest.result; at = c.place.result } in
    let to : to_z w64 (of_z w64 c.args.x.tick) ≡ c.args.x.tick = omega (arith, ints, c.requires.small.from, c.requires.small.to) in
    let whole : to_z w64 (of_z w64 c.nearest.result) ≡ c.nearest.result = omega (
      arith,
      ints,
      c.nearest.ensures.near,
      c.requires.small.from,
      c.requires.small.to,
    ) in
    let near : IsNearestTick c.args.asked.period c.args.x.tick (get_or c.args.asked.starts.now c.args.number 0 + c.loop-u.u) c.nearest.result =
    subst (λ (n : ℕ). IsNearestTick c.args.asked.period c.args.x.tick (get_or c.args.asked.starts.now c.args.number 0 + n) c.nearest.result) c.from.ensures
    (subst (λ (t : ℤ). IsNearestTick c.args.asked.period t (get_or c.args.asked.starts.now c.args.number
    0 + c.from.result) c.nearest.result) to c.nearest.ensures.nearest) in
    let none : Contradict c.args.asked.line.now c.args.x y → ⊥ = λ contradict. absurd (cc (c.if-contradicts.ensures.1
    (subst (λ (t : ℤ). Contradict c.args.asked.line.now c.args.x
    (record { hoist = get_or c.args.asked.hoists.now c.args.number 0; tick = t; at = c.place.result }))
    (sym whole) contradict))) in
    tick_passes c.args.asked.line.now c.args.asked.route.now c.args.asked.starts.now c.args.asked.hoists.now
    c.args.asked.period c.args.number c.loop-u.u c.motion_by_number-motion.result c.args.x y
    (record { inside = c.requires.number; some = c.motion_by_number-motion.ensures.moves; motion = c.motion_by_number-motion.ensures.value })
    near refl c.place.ensures.value none c.loop-u.invariant

pub returns : goal.returns
returns c =
    none_of_move c.args.asked.line.now c.args.asked.route.now c.args.asked.starts.now c.args.asked.hoists.now
    c.args.asked.period c.args.number c.loop-u.u c.motion_by_number-motion.result _
    (record { inside = c.requires.number; some = c.motion_by_number-motion.ensures.moves; motion = c.motion_by_number-motion.ensures.value })
    (omega arith) c.loop-u.invariant
