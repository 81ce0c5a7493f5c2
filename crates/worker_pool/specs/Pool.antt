-- What workers keep of their jobs, and how it is put in order. Source: this project's own.
use Rattle.std.specs.Prelude.{◌≡◌, ℕ, true, List, length, map, replicate, fold, slice_get, slice_set, All, Option, Some, None}
use Rattle.claim_board.specs.Seats.{SeatData}

-- for a relation of the jobs and their answers, and a list of jobs
module _ {J A : Type 0} (Answers : J → A → Type 0) (jobs : List J) where
  -- an answer of the job with this number
  abbrev pub AnswersAt : ℕ → A → Type 0
  AnswersAt i answer = (job : J) × (slice_get jobs i ≡ Some job) × Answers job answer

  -- For each number of the list, in the list's order, a pair of that number and an answer of its job.
  abbrev pub Keeps : List ℕ → List (ℕ × A) → Type 0
  Keeps list kept =
      (map (λ (p : ℕ × A). p.0) kept ≡ list) × All (λ (p : ℕ × A). AnswersAt p.0 p.1) kept

  -- The seat has read that no number is left, and each number that it drew is kept with its answer.
  abbrev pub Done : SeatData → List (ℕ × A) → Type 0
  Done seat kept = (seat.read_end ≡ true) × Keeps seat.list kept

  -- one answer of each job, in the order of the jobs
  abbrev pub AreAnswers : List A → Type 0
  AreAnswers outs =
      (length outs ≡ length jobs) × ((i : ℕ) (out : A) → slice_get outs i ≡ Some out → AnswersAt i out)

-- so many rooms, each of which serves
abbrev pub Serve : {R : Type 0} → (R → Type 0) → ℕ → List R → Type 0
Serve Serves count rooms = (length rooms ≡ count) × All Serves rooms

module _ {A : Type 0} where
  -- so many places, after each answer was written at its number
  abbrev pub placed : ℕ → List (ℕ × A) → List (Option A)
  placed count kept =
      fold (λ (places : List (Option A)) (p : ℕ × A). slice_set places p.0 (Some p.1)) (replicate count None) kept
