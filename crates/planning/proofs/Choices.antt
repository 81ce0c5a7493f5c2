-- A timetable whose tanks and hoists are those that a path settles: durations, rides and clashes below the path are its
-- own.
use Rattle.std.proofs.Common.{◌≡◌, ℕ, ◌+◌, ◌≤◌, List, map, refl, sym, ◌∙◌, ap, arith, Some, None}
use Rattle.std.specs.Prelude.{Option, option_map, option_and_then}
use Rattle.hoist_base.specs.LineData.{LineData, IsMove, IsVisit}
use Rattle.hoist_base.specs.Valid.{IsLine}
use Rattle.hoist_base.specs.declared.ids.MoveId.{MoveId}
use Rattle.line_model.specs.declared.motion.Motion.{Motion}
use Rattle.line_model.specs.Motion.{IsMotion, duration}
use Rattle.line_model.specs.Timetable.{Timetable, motion}
use Rattle.line_model.specs.Legal.{IsRouted}
use Rattle.collision_pairs.specs.Clash.{clash_of}
use Rattle.collision_pairs.proofs.MotionLemmas.{lasts}
use Rattle.choice_tree.specs.declared.question.Decision.{Decision}
use Rattle.path_constraints.specs.Tanks.{there_and_back, least_of, low, high, back, tank_below, motion_below}
use Rattle.path_constraints.specs.Hoists.{ride_below, hoist_below, clash_between, clash_below}
use Rattle.path_constraints.specs.Meets.{ride_of}
use Rattle.path_constraints.proofs.Settled.{motions_are, motion_is, low_is, high_is, settled_ride}

-- the path leaves each visit its tank of the timetable, and each move its hoist
pub record Settled (l : LineData) (path : List Decision) (p : Timetable) : Type 0 where
  pub routed : IsRouted l p
  pub tank : (c k : ℕ) → IsVisit l c k → tank_below l path c k ≡ Some (p.tank c k)
  pub hoist : (c k : ℕ) → IsMove l c k → hoist_below l path c k ≡ Some (p.hoist c k)

pub visit_before : (l : LineData) (c k : ℕ) → IsMove l c k → IsVisit l c k
visit_before l c k move = (move.0, omega (arith, move.1))

pub visit_after : (l : LineData) (c k : ℕ) → IsMove l c k → IsVisit l c (k + 1)
visit_after l c k move = (move.0, omega (arith, move.1))

-- ---- motions

pub is_motion : (l : LineData) (p : Timetable) (c k : ℕ) → IsLine l → IsRouted l p → IsMove l c k
    → IsMotion (motion l p c k)
is_motion l p c k line routed move =
    let from = line.tanks.on_track (p.tank c k) (line.stages.there k (p.tank c k) (routed c k (visit_before l c k move))) in
    let to = line.tanks.on_track (p.tank c (k + 1)) (line.stages.there (k + 1) (p.tank c (k + 1)) (routed c (k + 1) (visit_after l c k move))) in
    let short = line.limits.track.1 in
    record { from = omega (arith, from, short); to = omega (arith, to, short); lift = line.times.lift k move.1; lower = line.times.lower k move.1 }

pub lasts_little : (l : LineData) (p : Timetable) (c k : ℕ) → IsLine l → IsRouted l p → IsMove l c k
    → duration (motion l p c k) ≤ 2000
lasts_little l p c k line routed move = (lasts (motion l p c k) (is_motion l p c k line routed move)).1

pub low_own : (l : LineData) (path : List Decision) (p : Timetable) (c k : ℕ) → Settled l path p → IsMove l c k
    → low l path c k ≡ duration (motion l p c k)
low_own l path p c k s move =
    low_is l path c k (p.tank c k) (p.tank c (k + 1)) (s.tank c k (visit_before l c k move)) (s.tank c (k + 1) (visit_after l c k move))

pub high_own : (l : LineData) (path : List Decision) (p : Timetable) (c k : ℕ) → Settled l path p → IsMove l c k
    → high l path c k ≡ duration (motion l p c k)
high_own l path p c k s move =
    high_is l path c k (p.tank c k) (p.tank c (k + 1)) (s.tank c k (visit_before l c k move)) (s.tank c (k + 1) (visit_after l c k move))

pub back_own : (l : LineData) (path : List Decision) (p : Timetable) (c k : ℕ) → Settled l path p → IsMove l c k
    → back l path c k ≡ there_and_back (motion l p c k)
back_own l path p c k s move =
    ap (λ (ms : List Motion). least_of (map there_and_back ms))
    (motions_are l path c k (p.tank c k) (p.tank c (k + 1)) (s.tank c k (visit_before l c k move)) (s.tank c (k + 1) (visit_after l c k move)))

-- ---- rides

some_same : {X : Type 0} (x y : X) → Some x ≡ Some y → x ≡ y
some_same x y e = cc

with_part : {X : Type 0} (o : Option X) (f : X → ℕ) (h : ℕ) → option_map f o ≡ Some h
    → (x : X) × (o ≡ Some x) × (f x ≡ h)
with_part None f h e = cc
with_part (Some x) f h e = (x, refl, some_same (f x) h e)

pub ride_own : (l : LineData) (path : List Decision) (p : Timetable) (c k : ℕ) → Settled l path p → IsMove l c k
    → ride_below l path c k ≡ Some (ride_of l p c k)
ride_own l path p c k s move =
    let (r, is, rides) = with_part (ride_below l path c k) (λ x. x.hoist) (p.hoist c k) (s.hoist c k move) in
    let parts = settled_ride l path c k r is in
    let own : motion_below l path c k ≡ Some (motion l p c k) =
    motion_is l path c k (p.tank c k) (p.tank c (k + 1)) (s.tank c k (visit_before l c k move)) (s.tank c (k + 1) (visit_after l c k move)) in
    let same : r.motion ≡ motion l p c k = some_same r.motion (motion l p c k) (sym parts.motion ∙ own) in
    is ∙ ap (λ (x : Motion). Some (record r { motion = x })) same ∙ ap (λ (y : ℕ). Some (record (ride_of l p c k) { hoist = y })) rides

pub clash_own : (l : LineData) (path : List Decision) (p : Timetable) (a b : MoveId) → Settled l path p
    → IsMove l a.carrier a.step → IsMove l b.carrier b.step
    → clash_below l path a b ≡ clash_of l (motion l p a.carrier a.step) (p.hoist a.carrier a.step) (motion l p b.carrier b.step) (p.hoist b.carrier b.step)
clash_own l path p a b s move move' =
    ap (λ o. option_and_then (λ x. option_and_then (λ y. clash_between l x y) (ride_below l path b.carrier b.step)) o)
    (ride_own l path p a.carrier a.step s move)
    ∙ ap (λ o. option_and_then (λ y. clash_between l (ride_of l p a.carrier a.step) y) o) (ride_own l path p b.carrier b.step s move')
