-- Each move of the hoist is written, or clashes with one before it.
use Rattle.std.proofs.Common.{◌<◌, ◌+◌, ℕ, List, Option, sym, subst, arith}
use Rattle.hoist_base.specs.LineData.{move_count}
use Rattle.path_envelope.specs.Duties.{duties}
use Rattle.path_envelope.specs.Slots.{IsTable}
use Rattle.path_envelope.proofs.TableLemmas.{hoist_more, hoist_skip, hoist_double}
use Rattle.path_envelope.proofs.slots.write_hoist.Goals as goal
use Rattle.path_envelope.proofs.slots.write_hoist.Goals.{then-asked-number+else-not-write_motion, else-asked-number}

pub returns-then-not-write_motion : goal.returns-then-not-write_motion
returns-then-not-write_motion c =
    let a = c.args.asked in
    let inside : c.loop-number.number < move_count a.line.now = omega (arith, c.move_count-number-end.ensures.value, c.loop-number-test.true) in
    let motion = rw c.move_at.ensures.value at c.motion_of-motion.ensures.value in
    hoist_double a.line.now a.route.now a.starts.now a.hoists.now a.period c.args.h c.loop-number.number _ _ _
    inside (omega (arith, c.move_at.ensures.there.1)) motion c.if-asked-number.true
    c.loop-number.invariant c.if-not-write_motion.ensures.written

pub loop-number-preserved : goal.loop-number-preserved
loop-number-preserved c =
    let a = c.args.asked in
    let l = a.line.now in
    let n : ℕ = c.loop-number.number in
    let inside : n < move_count l = omega (arith, c.move_count-number-end.ensures.value, c.loop-number-test.true) in
    elim c.if-asked-number.branch [
      | then-asked-number+else-not-write_motion w ↦
          let motion = rw w.move_at.ensures.value at w.motion_of-motion.ensures.value in
          let more : IsTable l (duties l a.route.now a.period a.starts.now a.hoists.now) c.args.h (n + 1) w.write_motion.new.table =
          hoist_more l a.route.now a.starts.now a.hoists.now a.period c.args.h n _ _ _
          inside (omega (arith, w.move_at.ensures.there.1)) motion w.if-asked-number.true
          c.loop-number.invariant w.if-not-write_motion.ensures.written in
          subst (λ (t : List (Option ℕ)). IsTable l (duties l a.route.now a.period a.starts.now a.hoists.now) c.args.h (n + 1) t) (sym w.table-is) more
      | else-asked-number w ↦
          let more = hoist_skip l a.route.now a.starts.now a.hoists.now a.period c.args.h n c.loop-number.table
          inside (omega (arith, c.move_count-number-end.ensures.valid.limits.stages)) w.if-asked-number.false c.loop-number.invariant in
          subst (λ (t : List (Option ℕ)). IsTable l (duties l a.route.now a.period a.starts.now a.hoists.now) c.args.h (n + 1) t) (sym w.table-is) more
    ]
