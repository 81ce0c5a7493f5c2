use Rattle.std.proofs.Common.{◌≡◌, ◌*◌, ◌≤◌, drop, ◌+ℤ◌}
use Rattle.std.specs.Prelude.{unsigned_abs}
use Rattle.path_constraints.specs.Proves.{sum_w, sum_q}
use Rattle.branch_rounds.proofs.bounds.sums_of.Given as goal

abbrev pub invariant-loop-i : goal.invariant-loop-i
invariant-loop-i l = record {
  w : l.w +ℤ sum_w l.line l.path (drop l.i l.names) ≡ sum_w l.line l.path l.names;
  q : l.q +ℤ sum_q l.line l.path (drop l.i l.names) ≡ sum_q l.line l.path l.names;
  small_w : unsigned_abs l.w ≤ l.i * 10000000;
  small_q : unsigned_abs l.q ≤ l.i * 1000000000;
}
