-- One tick after another is asked for its first partner.
use Rattle.std.proofs.Common.{◌≡◌, ◌+◌, ℕ, get_or, refl, arith, pos, w64, to_z}
use Rattle.std.proofs.lemmas.Int.{ints}
use Rattle.path_envelope.specs.declared.point.Point.{Point}
use Rattle.path_envelope.proofs.FirstLemmas.{point_passes, point_found, none_of_move}
use Rattle.path_envelope.proofs.TableLemmas.{hoist_there}
use Rattle.path_envelope.proofs.clash.clash_of_move.Goals as goal

pub first_partner-requires-clause-small : goal.first_partner-requires-clause-small
first_partner-requires-clause-small c =
    let a = c.args.asked in
    let start : ℕ = get_or a.starts.now c.args.number 0 in
    let tick : to_z w64 (start + c.from.result) ≡ pos (start + c.loop-u.u) = omega (
      arith,
      ints,
      c.from.ensures,
      c.requires.moves.start_small c.args.number,
      c.duration-u-end.ensures.small,
    ) in
    record {
      hoist = hoist_there a.line.now a.route.now a.starts.now a.hoists.now a.period c.args.number c.requires.number
          c.motion_by_number-motion.ensures.moves c.requires.moves.reach;
      at = c.place.ensures.small;
      from = omega (arith, ints, tick);
      to = omega (arith, ints, tick, c.requires.moves.start_small c.args.number, c.duration-u-end.ensures.small);
    }

pub returns-in-Some : goal.returns-in-Some
returns-in-Some c =
    let start : ℕ = get_or c.args.asked.starts.now c.args.number 0 in
    let x : Point = record { hoist = get_or c.args.asked.hoists.now c.args.number 0; tick = to_z w64 (start + c.from.result); at = c.place.result } in
    let tick : x.tick ≡ pos (start + c.loop-u.u) = omega (
      arith,
      ints,
      c.from.ensures,
      c.requires.moves.start_small c.args.number,
      c.duration-u-end.ensures.small,
    ) in
    point_found c.args.asked.line.now c.args.asked.route.now c.args.asked.starts.now c.args.asked.hoists.now
    c.args.asked.period c.args.number c.loop-u.u c.motion_by_number-motion.result x c.in-Some.y
    (record { inside = c.requires.number; some = c.motion_by_number-motion.ensures.moves; motion = c.motion_by_number-motion.ensures.value })
    (omega arith) tick refl c.place.ensures.value c.in-Some.ensures c.loop-u.invariant

pub loop-u-preserved : goal.loop-u-preserved
loop-u-preserved c =
    let start : ℕ = get_or c.args.asked.starts.now c.args.number 0 in
    let x : Point = record { hoist = get_or c.args.asked.hoists.now c.args.number 0; tick = to_z w64 (start + c.from.result); at = c.place.result } in
    let tick : x.tick ≡ pos (start + c.loop-u.u) = omega (
      arith,
      ints,
      c.from.ensures,
      c.requires.moves.start_small c.args.number,
      c.duration-u-end.ensures.small,
    ) in
    point_passes c.args.asked.line.now c.args.asked.route.now c.args.asked.starts.now c.args.asked.hoists.now
    c.args.asked.period c.args.number c.loop-u.u c.motion_by_number-motion.result x
    (record { inside = c.requires.number; some = c.motion_by_number-motion.ensures.moves; motion = c.motion_by_number-motion.ensures.value })
    tick refl c.place.ensures.value c.in_default.ensures c.loop-u.invariant

pub returns : goal.returns
returns c =
    none_of_move c.args.asked.line.now c.args.asked.route.now c.args.asked.starts.now c.args.asked.hoists.now
    c.args.asked.period c.args.number c.loop-u.u c.motion_by_number-motion.result _
    (record { inside = c.requires.number; some = c.motion_by_number-motion.ensures.moves; motion = c.motion_by_number-motion.ensures.value })
    (omega arith) c.loop-u.invariant
