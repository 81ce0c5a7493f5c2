-- What the workers keep is the answers of the jobs, and their shares add up.
use Rattle.std.proofs.Common.{◌≡◌, ℕ, zero, suc, ◌+◌, ◌-◌, ◌*◌, ◌<◌, ◌≤◌, ◌==◌, ◌⊎◌, ◌||◌, List, [], ◌∷◌, ◌++◌, length, map, get_or, take, drop, replicate, fold, set, nat_lt, count_by, slice_get, cond, refl, sym, ap, ◌∙◌, subst, arith, Bool, true, false, inl, inr, ⊎_elim, zero-add, suc-mul, All, Option, Some, None, option_map, IsSome, Result, Ok, Err, IfOk, IsOkAnd}
use Rattle.std.proofs.lemmas.List.{map-append, length-append, length-drop, take-append-drop, length-set, length-map, length-replicate}
use Rattle.std.proofs.lemmas.List.Elements.{All-push, All-append, All-drop}
use Rattle.std.proofs.lemmas.List.Sums.{sum_by-cons}
use Rattle.std.proofs.lemmas.Option.{same_Some, none-some, slice_get-map, slice_get_within, slice_get-get_or}
use Rattle.claim_board.specs.Tidy.{times, once_below, EachOnceBelow}
use Rattle.claim_board.specs.Seats.{BoardData, SeatData, HasAll, all_claims, joined_seat}
use Rattle.claim_board.proofs.Counts.{times-snoc}
use Rattle.worker_pool.specs.Pool.{AnswersAt, Keeps, Done, Serve, placed}

pub share-sum : (a b n : ℕ) → (a + b) * n ≡ a * n + b * n
share-sum zero b n = let e : (0 + b) * n ≡ b * n = ap (λ k. k * n) (zero-add b) in omega (arith, e)
share-sum (suc a) b n =
    let same : suc a + b ≡ suc (a + b) = omega arith in
    let e : (suc a + b) * n ≡ suc (a + b) * n = ap (λ k. k * n) same in
    omega (arith, e, suc-mul (a + b) n, suc-mul a n, share-sum a b n)

-- a list that was cut in two
pub cut_in_two : {A : Type 0} (n : ℕ) (all first second : List A) → first ≡ take n all → second ≡ drop n all
    → length first + length second ≡ length all
cut_in_two n all first second e f =
    let both : first ++ second ≡ take n all ++ drop n all = λ k. e k ++ f k in sym (length-append first second)
    ∙ ap length both ∙ ap length (take-append-drop n all)

-- a list of different numbers below n is no longer than n
count-step : (m : ℕ) (xs : List ℕ) → count_by (λ y. nat_lt y (suc m)) xs ≡ count_by (λ y. nat_lt y m) xs + times m xs
count-step m [] = refl
count-step m (x ∷ xs) =
    omega (
      arith,
      sum_by-cons (λ y. cond (nat_lt y (suc m)) 1 0) x xs,
      sum_by-cons (λ y. cond (nat_lt y m) 1 0) x xs,
      sum_by-cons (λ y. cond (y == m) 1 0) x xs,
      one x,
      count-step m xs,
    )
  where
    one : (y : ℕ) → cond (nat_lt y (suc m)) 1 0 ≡ cond (nat_lt y m) 1 0 + cond (y == m) 1 0
    one y = grind arith

abbrev number : Bool → ℕ
number b = cond b 1 0

once-le : (bound x : ℕ) → once_below bound x ≤ 1
once-le bound x = grind arith

count-few : (m : ℕ) (xs : List ℕ) → ((x : ℕ) → times x xs ≤ 1) → count_by (λ y. nat_lt y m) xs ≤ m
count-few zero xs once = none xs where
  none : (ys : List ℕ) → count_by (λ y. nat_lt y 0) ys ≤ 0
  none [] = omega arith
  none (y ∷ ys) = let never : number (nat_lt y 0) ≡ 0 = grind arith in omega (arith, sum_by-cons (λ z. cond (nat_lt z 0) 1 0) y ys, never, none ys)
count-few (suc m) xs once = omega (arith, count-step m xs, count-few m xs once, once m)

all-below : (n : ℕ) (xs : List ℕ) → ((x : ℕ) → times x xs ≤ once_below n x) → count_by (λ y. nat_lt y n) xs ≡ length xs
all-below n [] once = refl
all-below n (y ∷ ys) once =
    let here : 1 ≤ times y (y ∷ ys) = omega (arith, sum_by-cons (λ z. cond (z == y) 1 0) y ys, itself) in
    let below : y < n = inside n y (omega (arith, here, once y)) in
    omega (
      arith,
      sum_by-cons (λ z. cond (nat_lt z n) 1 0) y ys,
      is_below y below,
      all-below n ys (λ x. omega (arith, once x, sum_by-cons (λ z. cond (z == x) 1 0) y ys)),
    )
  where
    itself : number (y == y) ≡ 1
    itself = grind arith

    inside : (bound x : ℕ) → 1 ≤ once_below bound x → x < bound
    inside bound x h = grind arith

    is_below : (x : ℕ) → x < n → number (nat_lt x n) ≡ 1
    is_below x h = grind arith

pub few_below : (n : ℕ) (xs : List ℕ) → ((x : ℕ) → times x xs ≤ once_below n x) → length xs ≤ n
few_below n xs once = omega (arith, all-below n xs once, count-few n xs (λ x. omega (arith, once x, once-le n x)))

-- one number more, that is new
pub once_more : (n i : ℕ) (xs : List ℕ) → i < n → times i xs ≡ 0 → ((x : ℕ) → times x xs ≤ once_below n x) → (x : ℕ)
    → times x (xs ++ i ∷ []) ≤ once_below n x
once_more n i xs below new once x = by_test (i == x) refl where
  here : once_below n i ≡ 1
  here = grind (arith, below)

  itself : number (i == i) ≡ 1
  itself = grind arith

  by_test : (b : Bool) → (i == x) ≡ b → times x (xs ++ i ∷ []) ≤ once_below n x
  by_test true e =
      let same : i ≡ x = grind (arith, e) in subst (λ k. times k (xs ++ i ∷ []) ≤ once_below n k) same (omega (arith, times-snoc i i xs, new, here, itself))
  by_test false e = let apart : number (i == x) ≡ 0 = ap number e in omega (arith, times-snoc x i xs, once x, apart)

module _ {J A : Type 0} (Answers : J → A → Type 0) (jobs : List J) where
  pub keeps_more : (list : List ℕ) (kept : List (ℕ × A)) (i : ℕ) (a : A) → AnswersAt Answers jobs i a
      → Keeps Answers jobs list kept → Keeps Answers jobs (list ++ i ∷ []) (kept ++ (i, a) ∷ [])
  keeps_more list kept i a here k = (
    map-append (λ (p : ℕ × A). p.0) kept ((i, a) ∷ []) ∙ ap (λ l. l ++ i ∷ []) k.0,
    All-push (λ (p : ℕ × A). AnswersAt Answers jobs p.0 p.1) kept (i, a) k.1 here,
  )

  pub keeps_both : (xs ys : List ℕ) (ks ls : List (ℕ × A)) → Keeps Answers jobs xs ks → Keeps Answers jobs ys ls
      → Keeps Answers jobs (xs ++ ys) (ks ++ ls)
  keeps_both xs ys ks ls k l =
      (map-append (λ (p : ℕ × A). p.0) ks ls ∙ (λ i. k.0 i ++ l.0 i), All-append (λ (p : ℕ × A). AnswersAt Answers jobs p.0 p.1) ks ls k.1 l.1)

  pub done_both : (seat other : SeatData) (ks ls : List (ℕ × A)) → Done Answers jobs seat ks
      → Done Answers jobs other ls
      → Done Answers jobs (joined_seat seat other) (ks ++ ls)
  done_both seat other ks ls k l =
      (ap (λ b. b || other.read_end) k.0, keeps_both seat.list other.list ks ls k.1 l.1)

  -- the two parts of the workers, where neither had an error
  pub joined_done : {V E R : Type 0} (items : V → List (ℕ × A)) (rooms : V → List R) (seat other after : SeatData) (mine theirs all : Result V E)
      → after ≡ joined_seat seat other
      → IfOk all (λ ms. IsOkAnd mine (λ ks. IsOkAnd theirs (λ ls. (items ms ≡ items ks ++ items ls) × (rooms ms ≡ rooms ks ++ rooms ls))))
      → IfOk mine (λ ks. Done Answers jobs seat (items ks)) → IfOk theirs (λ ls. Done Answers jobs other (items ls))
      → IfOk all (λ ms. Done Answers jobs after (items ms))
  joined_done items rooms seat other after (Ok ks) (Ok ls) (Ok ms) joined is k l =
      subst (Done Answers jobs after) (sym is.0)
      (subst (λ s. Done Answers jobs s (items ks ++ items ls)) (sym joined) (done_both seat other (items ks) (items ls) k l))
  joined_done items rooms seat other after (Ok ks) (Err e) (Ok ms) joined is k l = absurd is
  joined_done items rooms seat other after (Err e) theirs (Ok ms) joined is k l = absurd is
  joined_done items rooms seat other after mine theirs (Err e) joined is k l = tt

  pub numbers_below : (list : List ℕ) (kept : List (ℕ × A)) → Keeps Answers jobs list kept
      → All (λ (p : ℕ × A). p.0 < length jobs) kept
  numbers_below list kept k j d h = let (job, read, holds) = k.1 j d h in slice_get_within jobs _ job read

-- the last rooms of a list
pub tail_serves : {V E R : Type 0} (Serves : R → Type 0) (items : V → List R) (at count : ℕ) (all : List R) (r : Result V E)
    → at + count ≡ length all → All Serves all
    → IfOk r (λ v. items v ≡ drop at all) → IfOk r (λ v. Serve Serves count (items v))
tail_serves Serves items at count all (Ok v) sum serve is =
    subst (Serve Serves count) (sym is) (omega (arith, length-drop at all, sum), All-drop Serves at all serve)
tail_serves Serves items at count all (Err e) sum serve is = tt

-- the rooms of two parts of the workers, where neither had an error
pub joined_rooms : {V E T R : Type 0} (Serves : R → Type 0) (items : V → List T) (rooms : V → List R) (m n : ℕ) (mine theirs all : Result V E)
    → IfOk all (λ ms. IsOkAnd mine (λ ks. IsOkAnd theirs (λ ls. (items ms ≡ items ks ++ items ls) × (rooms ms ≡ rooms ks ++ rooms ls))))
    → IfOk mine (λ ks. Serve Serves m (rooms ks)) → IfOk theirs (λ ls. Serve Serves n (rooms ls))
    → IfOk all (λ ms. Serve Serves (m + n) (rooms ms))
joined_rooms Serves items rooms m n (Ok ks) (Ok ls) (Ok ms) is k l =
    subst (Serve Serves (m + n)) (sym is.1) (
      omega (arith, length-append (rooms ks) (rooms ls), k.0, l.0),
      All-append Serves (rooms ks) (rooms ls) k.1 l.1,
    )
joined_rooms Serves items rooms m n (Ok ks) (Err e) (Ok ms) is k l = absurd is
joined_rooms Serves items rooms m n (Err e) theirs (Ok ms) is k l = absurd is
joined_rooms Serves items rooms m n mine theirs (Err e) is k l = tt

module _ {A : Type 0} where
  -- lists read by `slice_get`
  get_set_same : (l : List A) (i : ℕ) (a : A) → i < length l → slice_get (set l i a) i ≡ Some a
  get_set_same [] i a h = absurd (omega (arith, h))
  get_set_same (x ∷ xs) zero a h = refl
  get_set_same (x ∷ xs) (suc i) a h = get_set_same xs i a (omega (arith, h))

  get_set_other : (l : List A) (i j : ℕ) (a : A) → ¬ (j ≡ i) → slice_get (set l i a) j ≡ slice_get l j
  get_set_other [] i j a apart = refl
  get_set_other (x ∷ xs) zero zero a apart = absurd (apart refl)
  get_set_other (x ∷ xs) zero (suc j) a apart = refl
  get_set_other (x ∷ xs) (suc i) zero a apart = refl
  get_set_other (x ∷ xs) (suc i) (suc j) a apart = get_set_other xs i j a (λ e. apart (ap suc e))

-- what holds of the answer at a number
module _ {A : Type 0} (Holds : ℕ → A → Type 0) where
  abbrev write : List (Option A) → ℕ × A → List (Option A)
  write places p = set places p.0 (Some p.1)

  -- the place of a number has an answer, and it is right
  abbrev pub IsRight : ℕ → Option (Option A) → Type 0
  IsRight i place = (a : A) × (place ≡ Some (Some a)) × Holds i a

  length-written : (places : List (Option A)) (kept : List (ℕ × A)) → length (fold write places kept) ≡ length places
  length-written places [] = refl
  length-written places (p ∷ ps) = length-written (write places p) ps ∙ length-set places p.0 (Some p.1)

  length-placed : (n : ℕ) (kept : List (ℕ × A)) → length (placed n kept) ≡ n
  length-placed n kept =
      let nowhere : Option A = None in length-written (replicate n None) kept ∙ length-replicate n nowhere

  -- a place that is right, or whose number was kept, is right in the end
  written_at : (kept : List (ℕ × A)) (places : List (Option A)) (i : ℕ) → All (λ (p : ℕ × A). Holds p.0 p.1) kept
      → i < length places
      → IsRight i (slice_get places i) ⊎ (0 < times i (map (λ (p : ℕ × A). p.0) kept))
      → IsRight i (slice_get (fold write places kept) i)
  written_at [] places i right inside how = ⊎_elim (λ h. h) (λ h. absurd (omega (arith, h))) how
  written_at (p ∷ ps) places i right inside how = by_test (p.0 == i) refl (written_at ps (write places p) i
      (λ k d h. right (suc k) d (omega (arith, h))) (omega (arith, length-set places p.0 (Some p.1), inside))) where
        this : Holds p.0 p.1
        this = right 0 p (omega arith)

        by_test : (b : Bool) → (p.0 == i) ≡ b
            → (IsRight i (slice_get (write places p) i) ⊎ (0 < times i (map (λ (q : ℕ × A). q.0) ps)) → IsRight i (slice_get (fold write (write places p) ps) i))
            → IsRight i (slice_get (fold write (write places p) ps) i)
        by_test true e later =
            let same : p.0 ≡ i = grind (arith, e) in
            let now : slice_get (write places p) p.0 ≡ Some (Some p.1) = get_set_same places p.0 (Some p.1) (omega (arith, same, inside)) in
            later (inl (subst (λ k. IsRight k (slice_get (write places p) k)) same (p.1, now, this)))
        by_test false e later =
            let other : number (p.0 == i) ≡ 0 = ap number e in
            let apart : ¬ (i ≡ p.0) = λ same. grind (arith, e, same) in
            ⊎_elim (λ h. later (inl (h.0, get_set_other places p.0 i (Some p.1) apart ∙ h.1, h.2)))
            (λ h. later (inr (omega (arith, h, other, sum_by-cons (λ y. cond (y == i) 1 0) p.0 (map (λ (q : ℕ × A). q.0) ps))))) how

  -- where each number below n was kept once, each place is right
  pub placed_right : (n : ℕ) (list : List ℕ) (kept : List (ℕ × A)) → EachOnceBelow n list
      → map (λ (p : ℕ × A). p.0) kept ≡ list
      → All (λ (p : ℕ × A). Holds p.0 p.1) kept → (i : ℕ) → i < n → IsRight i (slice_get (placed n kept) i)
  placed_right n list kept each same right i below =
      let nowhere : Option A = None in
      let once : times i list ≡ 1 = each i ∙ is_once n i below in
      let there : times i (map (λ (p : ℕ × A). p.0) kept) ≡ 1 = ap (times i) same ∙ once in
      written_at kept (replicate n None) i right (omega (arith, below, length-replicate n nowhere)) (inr (omega (arith, there)))
    where
      is_once : (bound x : ℕ) → x < bound → once_below bound x ≡ 1
      is_once bound x h = grind arith

  pub all_placed : (n : ℕ) (kept : List (ℕ × A)) → ((i : ℕ) → i < n → IsRight i (slice_get (placed n kept) i))
      → All (λ (o : Option A). IsSome o) (placed n kept)
  all_placed n kept right k d h =
      let (a, there, holds) = right k (omega (arith, h, length-placed n kept)) in
      let is : get_or (placed n kept) k d ≡ Some a = same_Some (get_or (placed n kept) k d) (Some a) (sym (slice_get-get_or (placed n kept) k d h) ∙ there) in
      subst (λ o. IsSome o) (sym is) refl

  -- what stands in right places is right
  pub outs_right : (n : ℕ) (kept : List (ℕ × A)) (outs : List A) → map Some outs ≡ placed n kept
      → ((i : ℕ) → i < n → IsRight i (slice_get (placed n kept) i))
      → (length outs ≡ n) × ((i : ℕ) (out : A) → slice_get outs i ≡ Some out → Holds i out)
  outs_right n kept outs e right =
      let size : length outs ≡ n = sym (length-map outs Some) ∙ ap length e ∙ length-placed n kept in (
        size,
        λ i out at.
            let (a, there, holds) = right i (omega (arith, slice_get_within outs i out at, size)) in
            let both : Some (Some out) ≡ Some (Some a) = sym (ap (option_map Some) at) ∙ sym (slice_get-map Some outs i) ∙ ap (λ l. slice_get l i) e ∙ there in
            let same : out ≡ a = same_Some out a (same_Some (Some out) (Some a) both) in
            subst (Holds i) (sym same) holds,
      )

-- a pair that was pushed
pub kept_answer : {J A : Type 0} (Answers : J → A → Type 0) (jobs : List J) (list : List ℕ) (old new : List (ℕ × A)) (i : ℕ) (job : J) (a : A)
    → i < length jobs → job ≡ get_or jobs i job → Answers job a → new ≡ old ++ (i, a) ∷ []
    → Keeps Answers jobs list old → Keeps Answers jobs (list ++ i ∷ []) new
kept_answer Answers jobs list old new i job a inside is answer pushed k =
    let read : slice_get jobs i ≡ Some job = slice_get-get_or jobs i job inside ∙ ap Some (sym is) in
    subst (Keeps Answers jobs (list ++ i ∷ [])) (sym pushed) (keeps_more Answers jobs list old i a (job, read, answer) k)

empty_list : {A : Type 0} (xs : List A) → length xs ≤ 0 → xs ≡ []
empty_list [] h = refl
empty_list (x ∷ xs) h = absurd (omega (arith, h))

-- the seat that had nothing left and took in one with all claims that has read the end
pub settled : (n : ℕ) (before after whole : SeatData) → after ≡ joined_seat before whole
    → length before.list ≤ before.used → before.used ≡ 0 → before.left ≡ 0
    → whole.left + whole.used ≡ all_claims before.board → whole.read_end ≡ true
    → (after.read_end ≡ true → HasAll after → EachOnceBelow n after.list)
    → EachOnceBelow n whole.list × EachOnceBelow n after.list
settled n before after whole both few used left all ended each =
    let nothing : before.list ≡ [] = empty_list before.list (omega (arith, few, used)) in
    let same : after.list ≡ whole.list = ap (λ (s : SeatData). s.list) both ∙ ap (λ l. l ++ whole.list) nothing in
    let lefts : after.left ≡ before.left + whole.left = ap (λ (s : SeatData). s.left) both in
    let useds : after.used ≡ before.used + whole.used = ap (λ (s : SeatData). s.used) both in
    let claims : all_claims after.board ≡ all_claims before.board = ap (λ (s : SeatData). all_claims s.board) both in
    let ended' : after.read_end ≡ true = ap (λ (s : SeatData). s.read_end) both ∙ ap (λ b. before.read_end || b) ended ∙ or_true before.read_end in
    let once = each ended' (omega (arith, lefts, useds, claims, all, used, left)) in
    ((λ x. ap (times x) (sym same) ∙ once x), once)
  where
    or_true : (b : Bool) → (b || true) ≡ true
    or_true true = refl
    or_true false = refl

-- a round that ended well: the lent seat has each number once, and at each place stands an answer of its job
pub round_done : {J A : Type 0} (Answers : J → A → Type 0) (jobs : List J) (workers share : ℕ) (board : BoardData)
    (lent before after whole : SeatData) (kept : List (ℕ × A))
    → board.n ≡ length jobs → board.workers ≡ workers → share ≡ workers * (length jobs + 1)
    → lent.board ≡ board → lent.used ≡ 0 → lent.left ≡ workers * (length jobs + 1)
    → before ≡ record lent { left = lent.left - share } → length before.list ≤ before.used
    → after ≡ joined_seat before whole
    → whole.left + whole.used ≡ workers * (length jobs + 1)
    → (after.read_end ≡ true → HasAll after → EachOnceBelow board.n after.list)
    → Done Answers jobs whole kept
    → ((i : ℕ) → i < length jobs → IsRight (AnswersAt Answers jobs) i (slice_get (placed (length jobs) kept) i))
    × EachOnceBelow (length jobs) after.list
round_done Answers jobs workers share board lent before after whole kept same_n same_workers shares lent_board lent_used
    lent_left cut few both counts each done =
    let n : ℕ = length jobs in
    let claims : all_claims before.board ≡ workers * (n + 1) = ap (λ (s : SeatData). all_claims s.board) cut
    ∙ ap all_claims lent_board ∙ (λ k. same_workers k * (same_n k + 1)) in
    let left : before.left ≡ 0 = omega (arith, ap (λ (s : SeatData). s.left) cut, lent_left, shares) in
    let s = settled n before after whole both few (ap (λ (s : SeatData). s.used) cut ∙ lent_used) left
    (counts ∙ sym claims) done.0 (λ ended all x. each ended all x ∙ ap (λ k. once_below k x) same_n) in
    (placed_right (AnswersAt Answers jobs) n whole.list kept s.0 done.1.0 done.1.1, s.1)
