use Rattle.std.proofs.Common.{◌≡◌, ◌*◌, ◌≤◌, drop, ◌+ℤ◌}
use Rattle.std.specs.Prelude.{unsigned_abs}
use Rattle.path_constraints.specs.Proves.{sum_w, sum_q}
use Rattle.walk_words.proofs.sums.sums_of.Given as goal

-- what was added so far, and what is still to come
abbrev pub invariant-loop-name : goal.invariant-loop-name
invariant-loop-name l =
    (l.w +ℤ sum_w l.line l.path (drop l.name-index l.walk) ≡ sum_w l.line l.path l.walk)
    × (l.q +ℤ sum_q l.line l.path (drop l.name-index l.walk) ≡ sum_q l.line l.path l.walk)
    × (unsigned_abs l.w ≤ l.name-index * 10000000)
    × (unsigned_abs l.q ≤ l.name-index * 1000000000)
