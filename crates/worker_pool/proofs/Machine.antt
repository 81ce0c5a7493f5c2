-- Any order: what every lawful list of events keeps.
use Rattle.std.proofs.Common.{◌≡◌, ℕ, zero, suc, ◌+◌, ◌<◌, ◌≤◌, ◌==◌, ◌⊎◌, List, [], ◌∷◌, ◌++◌, length, map, min, nat_lt, sum_by, set, slice_get, if◌then◌else◌, cond, refl, sym, ap, ◌∙◌, subst, arith, Bool, true, false, inl, inr, ⊎_elim, All, Option, Some, None, option_map, replicate}
use Rattle.std.specs.List.{flat_map, find, range_with_len}
use Rattle.std.proofs.lemmas.List.{append-nil, map-append, length-set, length-replicate}
use Rattle.std.proofs.lemmas.List.Sums.{sum_by-set, sum_by-cons}
use Rattle.std.proofs.lemmas.Bool.{true≢false}
use Rattle.std.proofs.lemmas.Option.{same_Some, none-some, slice_get_within, get_or_from_slice_get}
use Rattle.claim_board.specs.Tidy.{times, once_below}
use Rattle.claim_board.proofs.Counts.{times-append, times-snoc, once_below-next, once_below-full}
use Rattle.worker_pool.specs.RoundMachine.{Worker, Round, Event, Event.claim, Event.finish, new_worker, begun, after_claim, after_finish, Happens, Leads, IsOver, finished_under, gathered, AnyOrder}

-- lists read by `slice_get`
module _ {A : Type 0} where
  pub at_set : (l : List A) (i j : ℕ) (a b : A) → slice_get (set l i a) j ≡ Some b → (a ≡ b) ⊎ (slice_get l j ≡ Some b)
  at_set [] i j a b e = absurd (none-some b e)
  at_set (x ∷ xs) zero zero a b e = inl (same_Some a b e)
  at_set (x ∷ xs) zero (suc j) a b e = inr e
  at_set (x ∷ xs) (suc i) zero a b e = inr e
  at_set (x ∷ xs) (suc i) (suc j) a b e = at_set xs i j a b e

  pub at_replicate : (n j : ℕ) (a b : A) → slice_get (replicate n a) j ≡ Some b → a ≡ b
  at_replicate zero j a b e = absurd (none-some b e)
  at_replicate (suc n) zero a b e = same_Some a b e
  at_replicate (suc n) (suc j) a b e = at_replicate n j a b e

  pub sum_moved : (f : A → ℕ) (l : List A) (i : ℕ) (a b : A) → slice_get l i ≡ Some a
      → sum_by f (set l i b) + f a ≡ sum_by f l + f b
  sum_moved f l i a b e =
      ap (λ u. sum_by f (set l i b) + f u) (sym (get_or_from_slice_get l i a a e)) ∙ sum_by-set f l i b a (slice_get_within l i a e)

abbrev current_list : Option ℕ → List ℕ
current_list None = []
current_list (Some i) = i ∷ []

module _ {A : Type 0} (n : ℕ) (answer : ℕ → A) where
  abbrev pair : ℕ → ℕ × A
  pair i = (i, answer i)

  abbrev drawn : ℕ → Worker A → ℕ
  drawn x w = times x w.claimed

  -- what a worker finished and works on is what it claimed, with the answers, and only where no job is left is it out
  record IsGood (next : ℕ) (w : Worker A) : Type 0 where
    done : List ℕ
    finished : w.finished ≡ map pair done
    claimed : w.claimed ≡ done ++ current_list w.current
    out : w.is_out ≡ true → (w.current ≡ None) × (n ≤ next)

  record IsSound (r : Round A) : Type 0 where
    tidy : (x : ℕ) → sum_by (drawn x) r.workers ≡ once_below (min r.next n) x
    each : (k : ℕ) (w : Worker A) → slice_get r.workers k ≡ Some w → IsGood r.next w
    some : 0 < length r.workers

  good_later : (next : ℕ) (w : Worker A) → IsGood next w → IsGood (next + 1) w
  good_later next w g =
      record { done = g.done; finished = g.finished; claimed = g.claimed; out = λ e. ((g.out e).0, omega (arith, (g.out e).1)) }

  -- a claim
  good_claim : (next : ℕ) (w : Worker A) → IsGood next w → w.current ≡ None → w.is_out ≡ false
      → IsGood (next + 1) (after_claim n next w)
  good_claim next w g idle inside = by_test (nat_lt next n) refl where
    by_test : (b : Bool) → nat_lt next n ≡ b
        → IsGood (next + 1) (if b then record w { claimed = w.claimed ++ next ∷ []; current = Some next } else record w { is_out = true })
    by_test true e =
        record {
          done = g.done;
          finished = g.finished;
          claimed = ap (λ l. l ++ next ∷ []) (g.claimed ∙ ap (λ o. g.done ++ current_list o) idle ∙ append-nil g.done);
          out = λ f. absurd (true≢false (sym f ∙ inside));
        }
    by_test false e =
        record { done = g.done; finished = g.finished; claimed = g.claimed; out = λ f. (idle, grind (arith, e)) }

  times_claim : (x next : ℕ) (w : Worker A)
      → drawn x (after_claim n next w) + once_below (min next n) x ≡ drawn x w + once_below (min (next + 1) n) x
  times_claim x next w = by_test (nat_lt next n) refl where
    by_test : (b : Bool) → nat_lt next n ≡ b
        → times x (if b then record w {
          claimed = w.claimed ++ next ∷ [];
          current = Some next;
        } else record w { is_out = true }).claimed + once_below (min next n) x
        ≡ times x w.claimed + once_below (min (next + 1) n) x
    by_test true e = let below : next < n = grind (arith, e) in omega (arith, times-snoc x next w.claimed, once_below-next x next n below)
    by_test false e = let above : n ≤ next = grind (arith, e) in omega (arith, once_below-full x next n above)

  -- a finish
  good_finish : (next i : ℕ) (w : Worker A) → IsGood next w → w.current ≡ Some i → IsGood next (after_finish answer i w)
  good_finish next i w g busy =
      record {
        done = g.done ++ i ∷ [];
        finished = ap (λ l. l ++ pair i ∷ []) g.finished ∙ sym (map-append pair g.done (i ∷ []));
        claimed = g.claimed ∙ ap (λ o. g.done ++ current_list o) busy ∙ sym (append-nil (g.done ++ i ∷ []));
        out = λ f. (refl, (g.out f).1);
      }

  sound_step : (e : Event) (r t : Round A) → IsSound r → Happens n answer e r t → IsSound t
  sound_step (claim k) r t s (w, there, idle, inside, after) =
      subst IsSound (sym after) record {
        tidy = λ x. omega (arith, sum_moved (drawn x) r.workers k w (after_claim n r.next w) there, s.tidy x, times_claim x r.next w);
        each = λ j u e. ⊎_elim (λ same. subst (IsGood (r.next + 1)) same
            (good_claim r.next w (s.each k w there) idle inside)) (λ old. good_later r.next u (s.each j u old))
            (at_set r.workers k j (after_claim n r.next w) u e);
        some = omega (arith, length-set r.workers k (after_claim n r.next w), s.some);
      }
  sound_step (finish k) r t s (w, i, there, busy, after) =
      subst IsSound (sym after) record {
        tidy = λ x. omega (arith, sum_moved (drawn x) r.workers k w (after_finish answer i w) there, s.tidy x);
        each = λ j u e. ⊎_elim (λ same. subst (IsGood r.next) same (good_finish r.next i w (s.each k w there) busy))
            (λ old. s.each j u old) (at_set r.workers k j (after_finish answer i w) u e);
        some = omega (arith, length-set r.workers k (after_finish answer i w), s.some);
      }

  sound_events : (events : List Event) (r t : Round A) → IsSound r → Leads n answer events r t → IsSound t
  sound_events [] r t s same = subst IsSound same s
  sound_events (e ∷ es) r t s (u, first, rest) = sound_events es u t (sound_step e r u s first) rest

  sound_begun : (workers : ℕ) → 0 < workers → IsSound (begun workers)
  sound_begun workers some =
      record {
        tidy = λ x. none x workers ∙ sym (nothing x);
        each = λ k w e. subst (IsGood 0) (at_replicate workers k new_worker w e) record {
          done = [];
          finished = refl;
          claimed = refl;
          out = λ f. absurd (true≢false (sym f));
        };
        some = omega (arith, length-replicate workers (new_worker {A = A}), some);
      }
    where
      none : (x m : ℕ) → sum_by (drawn x) (replicate m new_worker) ≡ 0
      none x zero = refl
      none x (suc m) = omega (arith, sum_by-cons (drawn x) new_worker (replicate m new_worker), none x m)

      nothing : (x : ℕ) → once_below (min 0 n) x ≡ 0
      nothing x = grind arith

  -- where all are out, what they finished is what they claimed, with the answers
  finished_all : (next : ℕ) (ws : List (Worker A)) → ((k : ℕ) (w : Worker A) → slice_get ws k ≡ Some w → IsGood next w)
      → All (λ (w : Worker A). w.is_out ≡ true) ws
      → flat_map (λ (w : Worker A). w.finished) ws ≡ map pair (flat_map (λ (w : Worker A). w.claimed) ws)
  finished_all next [] each over = refl
  finished_all next (w ∷ ws) each over =
      let g = each 0 w refl in
      let first = g.claimed ∙ ap (λ o. g.done ++ current_list o) (g.out (over 0 w (omega arith))).0 ∙ append-nil g.done in
      let now : w.finished ≡ map pair w.claimed = g.finished ∙ ap (map pair) (sym first) in
      let rest = finished_all next ws (λ k u e. each (suc k) u e) (λ k d h. over (suc k) d (omega (arith, h))) in
      (λ k. now k ++ rest k) ∙ sym (map-append pair w.claimed (flat_map (λ (u : Worker A). u.claimed) ws))

  times-claims : (x : ℕ) (ws : List (Worker A))
      → times x (flat_map (λ (w : Worker A). w.claimed) ws) ≡ sum_by (drawn x) ws
  times-claims x [] = refl
  times-claims x (w ∷ ws) =
      times-append x w.claimed (flat_map (λ (u : Worker A). u.claimed) ws)
      ∙ ap (λ m. times x w.claimed + m) (times-claims x ws) ∙ sym (sum_by-cons (drawn x) w ws)

  -- the first pair under a number that was claimed has its answer
  found : (i : ℕ) (xs : List ℕ) → 0 < times i xs
      → option_map (λ (p : ℕ × A). p.1) (find (λ (p : ℕ × A). p.0 == i) (map pair xs)) ≡ Some (answer i)
  found i [] some = absurd (omega (arith, some))
  found i (x ∷ xs) some = by_test (x == i) refl (found i xs) where
    by_test : (b : Bool) → (x == i) ≡ b
        → (0 < times i xs → option_map (λ (p : ℕ × A). p.1) (find (λ (p : ℕ × A). p.0 == i) (map pair xs)) ≡ Some (answer i))
        → option_map (λ (p : ℕ × A). p.1) (cond b (Some (pair x)) (find (λ (p : ℕ × A). p.0 == i) (map pair xs))) ≡ Some (answer i)
    by_test true e later = let same : x ≡ i = grind (arith, e) in ap (λ k. Some (answer k)) same
    by_test false e later = let number : Bool → ℕ = λ b. cond b 1 0 in let no : number (x == i)
        ≡ number false = ap number e in later (omega (arith, sum_by-cons (λ y. number (y == i)) x xs, no, some))

  over_past : (next : ℕ) (ws : List (Worker A)) → 0 < length ws
      → ((k : ℕ) (w : Worker A) → slice_get ws k ≡ Some w → IsGood next w) → All (λ (w : Worker A). w.is_out ≡ true) ws
      → n ≤ next
  over_past next [] some each over = absurd (omega (arith, some))
  over_past next (w ∷ ws) some each over = ((each 0 w refl).out (over 0 w (omega arith))).1

  once_past : (x next : ℕ) → n ≤ next → x < n → once_below (min next n) x ≡ 1
  once_past x next past below = grind arith

  gathered_all : (r : Round A) → IsSound r → IsOver r → gathered n r ≡ map (λ i. Some (answer i)) (range_with_len 0 n)
  gathered_all r s over =
      same_range (finished_under r) (λ i. Some (answer i)) 0 n
      (λ i low high.
      let past = over_past r.next r.workers s.some s.each over in
      let one : times i (flat_map (λ (w : Worker A). w.claimed) r.workers) ≡ 1 = times-claims i r.workers ∙ s.tidy i
      ∙ once_past i r.next past (omega (arith, high)) in
      ap (λ ps. option_map (λ (p : ℕ × A). p.1) (find (λ (p : ℕ × A). p.0 == i) ps)) (finished_all r.next r.workers s.each over)
      ∙ found i (flat_map (λ (w : Worker A). w.claimed) r.workers) (omega (arith, one)))
    where
      same_range : (f g : ℕ → Option A) (a m : ℕ) → ((i : ℕ) → a ≤ i → i < a + m → f i ≡ g i)
          → map f (range_with_len a m) ≡ map g (range_with_len a m)
      same_range f g a zero same = refl
      same_range f g a (suc m) same =
          let first = same a (omega arith) (omega arith) in
          let rest = same_range f g (a + 1) m (λ i low high. same i (omega (arith, low)) (omega (arith, high))) in
          λ k. first k ∷ rest k

  sum-claims : (x : ℕ) (ws : List (Worker A))
      → sum_by (λ xs. times x xs) (map (λ (w : Worker A). w.claimed) ws) ≡ sum_by (drawn x) ws
  sum-claims x [] = refl
  sum-claims x (w ∷ ws) =
      sum_by-cons (λ xs. times x xs) w.claimed (map (λ (u : Worker A). u.claimed) ws)
      ∙ ap (λ m. times x w.claimed + m) (sum-claims x ws) ∙ sym (sum_by-cons (drawn x) w ws)

pub any_order : {A : Type 0} → AnyOrder A
any_order {A} n workers answer events r some lawful =
    let s = sound_events n answer events (begun workers) r (sound_begun n answer workers some) lawful in
    ((λ x. sum-claims n answer x r.workers ∙ s.tidy x), (λ over. gathered_all n answer r s over))
