-- The round machine: every interleaving of workers that claim the jobs of a round and finish them, as a list of events.
-- Source: this project's own.
use Rattle.std.specs.Prelude.{◌≡◌, ℕ, ◌+◌, ◌<◌, ◌==◌, Bool, true, false, List, [], ◌∷◌, ◌++◌, map, replicate, nat_lt, slice_get, slice_set, if◌then◌else◌, All, Option, Some, None, option_map}
use Rattle.std.specs.List.{flat_map, find, range_with_len}
use Rattle.claim_board.specs.Tidy.{Tidy}

-- A worker: the jobs that it claimed, the one of them that it works on, whether it is out, and the finished pairs of a
-- job and its answer.
pub record Worker (A : Type 0) : Type 0 where
  pub claimed : List ℕ
  pub current : Option ℕ
  pub is_out : Bool
  pub finished : List (ℕ × A)

-- A round: the number of the next job, and the workers, numbered from 0.
pub record Round (A : Type 0) : Type 0 where
  pub next : ℕ
  pub workers : List (Worker A)

-- What a worker does: it claims, or it finishes its current job.
pub data Event : Type 0 where
  claim : ℕ → Event
  finish : ℕ → Event

module _ {A : Type 0} where
  abbrev pub new_worker : Worker A
  new_worker = record { claimed = []; current = None; is_out = false; finished = [] }

  -- so many workers, none of whom has done anything
  abbrev pub begun : ℕ → Round A
  begun workers = record { next = 0; workers = replicate workers new_worker }

  -- the worker after a claim at this `next`, where there are n jobs
  abbrev pub after_claim : ℕ → ℕ → Worker A → Worker A
  after_claim n next w =
      if nat_lt next n then record w { claimed = w.claimed ++ next ∷ []; current = Some next } else record w { is_out = true }

  -- the worker after it finished the job i with its answer
  abbrev pub after_finish : (ℕ → A) → ℕ → Worker A → Worker A
  after_finish answer i w = record w { current = None; finished = w.finished ++ (i, answer i) ∷ [] }

  -- A lawful event and the round after it. Only a worker that has no current job and isn't out claims; only one that
  -- has a current job finishes it.
  abbrev pub Happens : ℕ → (ℕ → A) → Event → Round A → Round A → Type 0
  Happens n answer (claim k) before after =
      (w : Worker A) × (slice_get before.workers k ≡ Some w) × (w.current ≡ None) × (w.is_out ≡ false)
      × (after ≡ record { next = before.next + 1; workers = slice_set before.workers k (after_claim n before.next w) })
  Happens n answer (finish k) before after =
      (w : Worker A) × (i : ℕ) × (slice_get before.workers k ≡ Some w) × (w.current ≡ Some i)
      × (after ≡ record before { workers = slice_set before.workers k (after_finish answer i w) })

  -- the events are lawful, one after another, and lead from one round to the other
  abbrev pub Leads : ℕ → (ℕ → A) → List Event → Round A → Round A → Type 0
  Leads n answer [] before after = before ≡ after
  Leads n answer (e ∷ es) before after =
      (between : Round A) × Happens n answer e before between × Leads n answer es between after

  -- the lists of claimed jobs
  abbrev pub claims : Round A → List (List ℕ)
  claims r = map (λ (w : Worker A). w.claimed) r.workers

  -- a round ends where every worker is out
  abbrev pub IsOver : Round A → Type 0
  IsOver r = All (λ (w : Worker A). w.is_out ≡ true) r.workers

  -- the answer that was finished under the job i, by any worker
  abbrev pub finished_under : Round A → ℕ → Option A
  finished_under r i =
      option_map (λ (p : ℕ × A). p.1) (find (λ (p : ℕ × A). p.0 == i) (flat_map (λ (w : Worker A). w.finished) r.workers))

  -- the answers under the jobs 0 to n - 1, in this order
  abbrev pub gathered : ℕ → Round A → List (Option A)
  gathered n r = map (finished_under r) (range_with_len 0 n)

-- Any order: every lawful list of events keeps the claims tidy, and where it ends the round, the gathered answers are
-- those of the jobs 0, 1, .., in that order. So it is for every number of jobs, every number of workers above 0 and
-- every answer of each job.
abbrev pub AnyOrder : Type 0 → Type 0
AnyOrder A =
    (n workers : ℕ) (answer : ℕ → A) (events : List Event) (r : Round A) → 0 < workers → Leads n answer events (begun workers) r
    → Tidy r.next n (claims r) × (IsOver r → gathered n r ≡ map (λ i. Some (answer i)) (range_with_len 0 n))
