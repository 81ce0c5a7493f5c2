use Rattle.std.proofs.Common.{◌≡◌, ℕ, ◌≤◌, drop, map, min, max}
use Rattle.std.specs.Prelude.{fold, flat_map}
use Rattle.line_model.specs.Motion.{duration, motion_between}
use Rattle.path_constraints.specs.Tanks.{there_and_back, low, high, back}
use Rattle.path_constraints.proofs.times.times_below.Given as goal

-- the times over what was seen and the motions from the tanks that are left are those of the move
abbrev pub invariant-loop-i : goal.invariant-loop-i
invariant-loop-i l = record {
  low : fold min l.times.low (map duration (flat_map (λ (i : ℕ). map (λ (j : ℕ). motion_between l.line l.m.step i j) l.to) (drop l.i l.from))) ≡ low l.line
      l.path l.m.carrier l.m.step;
  high : fold max l.times.high (map duration (flat_map (λ (i : ℕ). map (λ (j : ℕ). motion_between l.line l.m.step i j) l.to) (drop l.i l.from))) ≡ high l.line
      l.path l.m.carrier l.m.step;
  back : fold min l.times.back (map there_and_back (flat_map (λ (i : ℕ). map (λ (j : ℕ). motion_between l.line l.m.step i j) l.to) (drop l.i l.from))) ≡ back
      l.line l.path l.m.carrier l.m.step;
  small : (l.times.low ≤ 2000) × (l.times.high ≤ 2000) × (l.times.back ≤ 3000);
}
