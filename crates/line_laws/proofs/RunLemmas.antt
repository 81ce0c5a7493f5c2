-- What holds of the carriers of one period holds of every carrier of a run.
use Rattle.std.proofs.Common.{◌≡◌, ℕ, ◌+◌, ◌*◌, ◌/◌, ◌%◌, ◌≤◌, ◌<◌, ap, ◌∙◌, arith}
use Rattle.std.specs.Prelude.{IfSome, Option, Some, None}
use Rattle.std.proofs.lemmas.Nat.{div-add-mod', mod_below}
use Rattle.std.proofs.Math.Nat.{add-mul-mod_self_right}
use Rattle.hoist_base.specs.LineData.{LineData, stage}
use Rattle.line_model.specs.Motion.{duration}
use Rattle.line_model.specs.Timetable.{Timetable, position, motion}
use Rattle.line_model.specs.Legal.{CarriesAt, HoldsAt}
use Rattle.line_model.specs.Run.{copied, run_start, run_hoist, RunCarriesAt, RunHoldsAt}
use Rattle.line_laws.specs.Runs.{RunsKeepWindows}

-- whole periods change no position
pub position_later : (p : Timetable) (h t z : ℕ) → position p h (t + z * p.period) ≡ position p h t
position_later p h t z = ap (p.path h) (add-mul-mod_self_right t z p.period)

-- a carrier is known by the one that it copies and the number of periods
pub same_carrier : (r c c' : ℕ) → c % r ≡ c' % r → c / r ≡ c' / r → c ≡ c'
same_carrier r c c' e f = omega (arith, div-add-mod' c r, div-add-mod' c' r, e, ap (λ q. q * r) f)

-- a bound that is there stays one when both sides are moved
moved_bound : (o : Option ℕ) (a b d z : ℕ) → IfSome o (λ m. a ≤ b + d + m) → IfSome o (λ m. a + z ≤ b + z + d + m)
moved_bound None a b d z h = tt
moved_bound (Some m) a b d z h = omega (arith, h)

carries : (l : LineData) (p : Timetable) (h c k t : ℕ) → copied l c < l.degree → RunCarriesAt l p h c k t
    → CarriesAt l p h (copied l c) k (c / l.degree) t
carries l p h c k t there a =
    record { move = (there, a.step); hoist = a.hoist; from = a.from; before = omega (arith, a.before) }

holds : (l : LineData) (p : Timetable) (i c k t : ℕ) → copied l c < l.degree → RunHoldsAt l p i c k t
    → HoldsAt l p i (copied l c) k (c / l.degree) t
holds l p i c k t there a =
    record { visit = (there, a.stage); tank = a.tank; from = a.from; before = a.before }

pub runs_keep_windows : RunsKeepWindows
runs_keep_windows l p n line legal =
    let r = l.degree in
    let some : 0 < r = omega (arith, line.limits.degree.0) in
    let there : (c : ℕ) → c % r < r = λ c. mod_below c r some in
    record {
      least = λ c k lt step. omega (arith, legal.windows.least (c % r) k (there c, step));
      greatest = λ c k lt step.
          moved_bound (stage l (k + 1)).max (p.start (c % r) (k + 1)) (p.start (c % r) k) (duration (motion l p (c % r) k)) (c / r * p.period)
          (legal.windows.greatest (c % r) k (there c, step));
      load = λ c lt. omega (arith, legal.windows.load (c % r) (there c));
      unload = λ c lt. omega (arith, legal.windows.unload (c % r) (there c));
      along = λ c k u lt step le.
          let at : position p (run_hoist l p c k) (run_start l p c k + u) ≡ position p (run_hoist l p c k) (p.start (c % r) k + u + c / r * p.period) = ap (position p (run_hoist l p c k)) (omega arith) in
          at ∙ position_later p (run_hoist l p c k) (p.start (c % r) k + u) (c / r) ∙ legal.carried.along (c % r) k u (there c, step) le;
      carried_alone = λ h t c k c' k' lt lt' a b.
          let e = legal.carried.alone h t (c % r) k (c / r) (c' % r) k' (c' / r) (carries l p h c k t (there c) a) (carries l p h c' k' t (there c') b) in
          (same_carrier r c c' e.0 e.2, e.1);
      held_alone = λ i t c k c' k' lt lt' a b.
          let e = legal.held i t (c % r) k (c / r) (c' % r) k' (c' / r) (holds l p i c k t (there c) a) (holds l p i c' k' t (there c') b) in
          (same_carrier r c c' e.0 e.2, e.1);
      track = legal.track;
    }
