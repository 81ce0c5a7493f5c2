use Rattle.std.proofs.Common.{◌≡◌, length}
use Rattle.branch_rounds.specs.Kept.{ArePaths}
use Rattle.branch_rounds.proofs.state.Search.first_paths.Given as goal

abbrev pub invariant-loop-k : goal.invariant-loop-k
invariant-loop-k l = record {
  count : length l.paths.items ≡ l.k;
  leads : ArePaths l.self l.paths.items;
}
