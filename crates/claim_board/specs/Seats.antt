-- What contracts see of a board and of its seats. Source: this project's own.
use Rattle.std.specs.Prelude.{◌≡◌, ℕ, ◌+◌, ◌*◌, Bool, false, ◌||◌, List, [], ◌++◌}
use Rattle.atomic_table.specs.Seated.{TableId}

-- A board: which one it is, how many jobs it numbers, and for how many workers it was made.
pub record BoardData : Type 0 where
  pub id : TableId
  pub n : ℕ
  pub workers : ℕ

-- A seat: its board, the numbers that it drew, in this order, its claims left and used, and three notes: it has read
-- the word `stop` as set, it has set that word, and it has read the word `next` as n or more at a claim.
pub record SeatData : Type 0 where
  pub board : BoardData
  pub list : List ℕ
  pub left : ℕ
  pub used : ℕ
  pub read_stop : Bool
  pub set_stop : Bool
  pub read_end : Bool

-- all claims of a board: for each worker one more than there are jobs
abbrev pub all_claims : BoardData → ℕ
all_claims board = board.workers * (board.n + 1)

-- The seat has all claims of its board, left or used: every other seat was joined into it.
abbrev pub HasAll : SeatData → Type 0
HasAll seat = seat.left + seat.used ≡ all_claims seat.board

-- a seat with so many claims that has done nothing
abbrev pub fresh_seat : BoardData → ℕ → SeatData
fresh_seat board share =
    record { board = board; list = []; left = share; used = 0; read_stop = false; set_stop = false; read_end = false }

-- the first seat after it took in the second
abbrev pub joined_seat : SeatData → SeatData → SeatData
joined_seat seat other =
    record seat {
      list = seat.list ++ other.list;
      left = seat.left + other.left;
      used = seat.used + other.used;
      read_stop = seat.read_stop || other.read_stop;
      set_stop = seat.set_stop || other.set_stop;
      read_end = seat.read_end || other.read_end;
    }
