use Rattle.std.proofs.Common.{◌≡◌, ℕ, ◌≤◌, take, map, min, max}
use Rattle.std.specs.Prelude.{fold}
use Rattle.line_model.specs.Motion.{duration, motion_between}
use Rattle.path_constraints.specs.Tanks.{there_and_back}
use Rattle.path_constraints.proofs.times.widened_from.Given as goal

-- the times over what was seen before and the motions to the first tanks
abbrev pub invariant-loop-i : goal.invariant-loop-i
invariant-loop-i l = record {
  low : l.times.low ≡ fold min l.fn.seen.low (map duration (map (λ (j : ℕ). motion_between l.line l.step l.from j) (take l.i l.to)));
  high : l.times.high ≡ fold max l.fn.seen.high (map duration (map (λ (j : ℕ). motion_between l.line l.step l.from j) (take l.i l.to)));
  back : l.times.back ≡ fold min l.fn.seen.back (map there_and_back (map (λ (j : ℕ). motion_between l.line l.step l.from j) (take l.i l.to)));
  small : (l.times.low ≤ 2000) × (l.times.high ≤ 2000) × (l.times.back ≤ 3000);
}
