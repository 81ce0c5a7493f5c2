use Rattle.std.proofs.Common.{ℕ, ◌-◌, ◌<◌, ◌≤◌}
use Rattle.std.specs.Prelude.{unsigned_abs}
use Rattle.longest_path.specs.Rounds.{number}
use Rattle.longest_path.proofs.SettleLemmas.{IsBetween, HasGrown}
use Rattle.longest_path.proofs.settling.settle.Given as goal

abbrev pub invariant-loop-m : goal.invariant-loop-m
invariant-loop-m l =
    IsBetween l.s l.period (number l.fn.row) l._m l.row
    × ((i : ℕ) → i < l.s.nodes → unsigned_abs (number l.row i) ≤ 20000000000000000)
    × (0 < l._m → HasGrown l.s l.period (number l.fn.row) (l._m - 1) l.row)
