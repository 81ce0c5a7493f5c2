-- What a claim did to its seat, by its answer. Source: this project's own.
use Rattle.std.specs.Prelude.{◌≡◌, ◌+◌, ◌-◌, ◌<◌, ◌≤◌, true, [], ◌∷◌, ◌++◌}
use Rattle.claim_board.specs.declared.claim.Claim.{Claim}
use Rattle.claim_board.specs.declared.claim.Claim.TheVariants.{Index, Exhausted, Stopped}
use Rattle.claim_board.specs.Tidy.{times, EachOnceBelow}
use Rattle.claim_board.specs.Seats.{BoardData, SeatData, HasAll}

-- Index: the number is below n, the seat hadn't drawn it before, and now it stands at the end of its list; one claim
-- went from left to used. Exhausted: the word `next` was n or more, the seat notes that and used one claim; if it has
-- all claims, it drew each number below n exactly once. Stopped: the seat notes that it read the word `stop` as set,
-- and nothing else changed.
abbrev pub Claimed : BoardData → SeatData → Claim → SeatData → Type 0
Claimed board before (Index i) after =
    (i < board.n) × (times i before.list ≡ 0)
    × (after ≡ record before { list = before.list ++ i ∷ []; left = before.left - 1; used = before.used + 1 })
Claimed board before (Exhausted seen) after =
    (board.n ≤ seen) × (after ≡ record before { left = before.left - 1; used = before.used + 1; read_end = true })
    × (HasAll after → EachOnceBelow board.n after.list)
Claimed board before Stopped after = after ≡ record before { read_stop = true }
