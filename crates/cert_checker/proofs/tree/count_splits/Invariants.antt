use Rattle.std.proofs.Common.{◌≡◌, ◌≤◌, take}
use Rattle.std.specs.Prelude.{count_by}
use Rattle.cert_checker.specs.Reasons.{is_split}
use Rattle.cert_checker.proofs.tree.count_splits.Given as goal

abbrev pub invariant-loop-i : goal.invariant-loop-i
invariant-loop-i l = (l.count ≡ count_by is_split (take l.i l.tree)) × (l.count ≤ l.i)
