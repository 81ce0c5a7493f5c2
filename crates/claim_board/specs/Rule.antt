-- The rule of the running board over its words and all views, and what each kind of step makes of a view. Source: this
-- project's own.
use Rattle.std.specs.Prelude.{◌≡◌, ℕ, ◌+◌, ◌-◌, ◌*◌, ◌^◌, ◌<◌, ◌≤◌, true, false, ◌||◌, ◌↔◌, List, [], ◌∷◌, ◌++◌, map, length, nat_lt, sum_by, count_by, slice_index, if◌then◌else◌}
use mathlib.Core.Option.{some}
use lib.ListN.{get_elem?}
use Rattle.atomic_table.specs.Table.{State, Me, Step}
use Rattle.atomic_table.specs.Seated.{TableId}
use Rattle.claim_board.specs.declared.rule.View.{View}
use Rattle.claim_board.specs.declared.rule.Plan.{Plan}
use Rattle.claim_board.specs.Tidy.{Tidy, EachOnceBelow, times}
use Rattle.claim_board.specs.Seats.{BoardData, SeatData}

-- what contracts see of a board with this plan
abbrev pub board_data : TableId → Plan → BoardData
board_data id plan = record { id = id; n = plan.n; workers = plan.workers }

-- what contracts see of a seat with this view
abbrev pub seat_data : TableId → View → SeatData
seat_data id v =
    record {
      board = record { id = id; n = v.n; workers = v.workers };
      list = v.list;
      left = v.left;
      used = v.used;
      read_stop = v.read_stop;
      set_stop = v.set_stop;
      read_end = v.read_end;
    }

-- Fewer than 2^32 jobs, and from 1 to 64 workers.
abbrev pub IsSmall : Plan → Type 0
IsSmall plan = (plan.n < 2 ^ 32) × (1 ≤ plan.workers) × (plan.workers ≤ 64)

-- A spent view has an empty list, nothing left, nothing used and no note.
pub record IsEmpty (v : View) : Type 0 where
  pub list : v.list ≡ []
  pub left : v.left ≡ 0
  pub used : v.used ≡ 0
  pub read_stop : v.read_stop ≡ false
  pub set_stop : v.set_stop ≡ false
  pub read_end : v.read_end ≡ false

-- What each view says is so: its notes are true of the words `next` and `stop`, its list has at most as many numbers as
-- it has used claims, only who has used a claim has set `stop`, a spent view is empty, and any other has the plan's
-- numbers.
pub record IsSound (plan : Plan) (next stop : ℕ) (v : View) : Type 0 where
  pub read_stop : v.read_stop ≡ true → 0 < stop
  pub read_end : v.read_end ≡ true → plan.n < next
  pub few : length v.list ≤ v.used
  pub set_stop : v.set_stop ≡ true → 0 < v.used
  pub spent : v.spent ≡ true → IsEmpty v
  pub n : v.spent ≡ false → v.n ≡ plan.n
  pub workers : v.spent ≡ false → v.workers ≡ plan.workers

-- The rule. Word 0 is `next` and word 1 is `stop`. The lists are tidy; `next` is the sum of all claims used, and all
-- claims, left and used, are one more than there are jobs for each worker; `stop` isn't 0 exactly where some view has
-- set it; and each view is sound.
pub record Rule (plan : Plan) (words : List ℕ) (views : List View) : Type 0 where
  pub two_words : words ≡ slice_index words 0 ∷ slice_index words 1 ∷ []
  pub small : IsSmall plan
  pub tidy : Tidy (slice_index words 0) plan.n (map (λ (v : View). v.list) views)
  pub counted : sum_by (λ (v : View). v.used) views ≡ slice_index words 0
  pub all : sum_by (λ (v : View). v.left) views + sum_by (λ (v : View). v.used) views ≡ plan.workers * (plan.n + 1)
  pub stop_set : (0 < slice_index words 1) ↔ (0 < count_by (λ (v : View). v.set_stop) views)
  pub sound : (k : ℕ) (v : View) → get_elem? views k ≡ some v
      → IsSound plan (slice_index words 0) (slice_index words 1) v

abbrev pub Holds : Plan → State ℕ View → Type 0
Holds plan s = Rule plan s.words s.views

-- make: one view, with all claims left
abbrev pub first_view : Plan → View
first_view plan =
    record {
      n = plan.n;
      workers = plan.workers;
      list = [];
      left = plan.workers * (plan.n + 1);
      used = 0;
      read_stop = false;
      set_stop = false;
      read_end = false;
      share = 0;
      spent = false;
    }

-- A seat with every claim of the board that has read `next` as n or more has each number below n exactly once.
abbrev pub Whole : View → Type 0
Whole v = v.read_end ≡ true → v.left + v.used ≡ v.workers * (v.n + 1) → EachOnceBelow v.n v.list

-- load of `stop`: the view notes that it read the word as set
abbrev pub view_read_stop : View → View
view_read_stop v = record v { read_stop = true }

abbrev pub noted_stop : View → ℕ → View
noted_stop v found = if nat_lt 0 found then view_read_stop v else v

abbrev pub LoadedStop : Step ℕ → Me ℕ View → ℕ → Me ℕ View → Type 0
LoadedStop step before found after = (after.0 ≡ noted_stop before.0 found) × (after.1 ≡ before.1)

-- claim: one left less and one used more; the old word joins the list where it is below n, else the view notes that it
-- read n or more
abbrev pub view_drew : View → ℕ → View
view_drew v i = record v { list = v.list ++ i ∷ []; left = v.left - 1; used = v.used + 1 }

abbrev pub view_drew_none : View → View
view_drew_none v = record v { left = v.left - 1; used = v.used + 1; read_end = true }

abbrev pub after_claim : View → ℕ → View
after_claim v found = if nat_lt found v.n then view_drew v found else view_drew_none v

-- the number that was found wasn't in the list before
abbrev pub Claimed : Step ℕ → Me ℕ View → ℕ → Me ℕ View → Type 0
Claimed step before found after =
    (after.0 ≡ after_claim before.0 found) × (after.1 ≡ before.1) × (times found before.0.list ≡ 0) × Whole after.0

-- stop: the view notes that it has set the word
abbrev pub with_stop : View → View
with_stop v = record v { set_stop = true }

abbrev pub SetStop : Step ℕ → Me ℕ View → ℕ → Me ℕ View → Type 0
SetStop step before found after = (after.0 ≡ with_stop before.0) × (after.1 ≡ before.1)

-- mark: the view notes how many claims go to the next seat that is cut off
abbrev pub with_share : View → ℕ → View
with_share v share = record v { share = share }

abbrev pub Marked : Step ℕ → Me ℕ View → ℕ → Me ℕ View → Type 0
Marked step before found after = (after.0 ≡ with_share before.0 step.first) × (after.1 ≡ before.1)

-- split: the share moves from the old view's left to a new view
abbrev pub kept_part : View → View
kept_part v = record v { left = v.left - v.share }

abbrev pub given_part : View → View
given_part v =
    record {
      n = v.n;
      workers = v.workers;
      list = [];
      left = v.share;
      used = 0;
      read_stop = false;
      set_stop = false;
      read_end = false;
      share = 0;
      spent = false;
    }

-- join: list, left, used and notes go to one view, and the other becomes spent
abbrev pub joined_view : View → View → View
joined_view v w =
    record v {
      list = v.list ++ w.list;
      left = v.left + w.left;
      used = v.used + w.used;
      read_stop = v.read_stop || w.read_stop;
      set_stop = v.set_stop || w.set_stop;
      read_end = v.read_end || w.read_end;
    }

abbrev pub spent_view : View
spent_view =
    record { n = 0; workers = 0; list = []; left = 0; used = 0; read_stop = false; set_stop = false; read_end = false; share = 0; spent = true }

-- load of `next`: nothing changes, and the seat learns whether its list is whole
abbrev pub LoadedNext : Step ℕ → Me ℕ View → ℕ → Me ℕ View → Type 0
LoadedNext step before found after = (after.0 ≡ before.0) × (after.1 ≡ before.1) × Whole before.0
