use Rattle.std.proofs.Common.{◌≡◌, ℕ, ◌+◌, ◌<◌, length, get_or, pos}
use Rattle.search_rows.proofs.longest_paths.chain.Given as goal

abbrev pub invariant-loop-k : goal.invariant-loop-k
invariant-loop-k l =
    (length l.arcs.items ≡ l.k)
    × ((j : ℕ) → j < l.k → get_or l.arcs.items j (record { from = 0; to = 0; w = pos 0; q = pos 0 }) ≡ record { from = j; to = j + 1; w = l.w; q = l.q })
