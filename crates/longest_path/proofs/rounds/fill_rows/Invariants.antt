use Rattle.std.proofs.Common.{length, ℕ, ◌<◌, ◌-◌, ◌<ℤ◌}
use Rattle.longest_path.specs.Near.{IsPacked}
use Rattle.longest_path.specs.Rounds.{AreRows, weights_at, value_from, cell}
use Rattle.longest_path.proofs.rounds.fill_rows.Given as goal

abbrev pub invariant-loop-m : goal.invariant-loop-m
invariant-loop-m l =
    let first = cell l.s.nodes l.fn.rows 0 in
    AreRows l.s l.period first l.m l.rows
    × IsPacked l.s l.period (length l.s.arcs) l.count l.near l.steps
    × (0 < l.m → (i : ℕ) × (i < l.s.nodes) × (value_from l.s (weights_at l.s l.period) first
    (l.m - 1) i <ℤ value_from l.s (weights_at l.s l.period) first l.m i))
