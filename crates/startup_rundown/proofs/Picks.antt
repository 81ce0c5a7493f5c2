-- The value that a test hits.
use Rattle.std.proofs.Common.{◌≡◌, ℕ, zero, suc, ◌+◌, ◌<◌, Option, Some, None, ◌⊎◌, inl, inr, ⊎_elim, sym, refl, ap, ◌∙◌, arith}
use Rattle.std.specs.Prelude.{Bool, true, false, cond}
use Rattle.std.proofs.lemmas.Bool.{cases_eq, cases_Bool, cond-true, cond-false, false_from_ne_true}
use Rattle.tick_machine.specs.declared.event.What.{What}
use Rattle.tick_machine.specs.Events.{collect}
use Rattle.startup_rundown.specs.Picks.{or_value, lowest, pick, pick_move}

pub lowest_none : {A : Type 0} (n : ℕ) (event : ℕ → Option A) → ((i : ℕ) → i < n → event i ≡ None)
    → lowest n event ≡ None
lowest_none {A = A} zero event none = refl
lowest_none {A = A} (suc n) event none = ap (λ (e : Option A). or_value e (event n)) (lowest_none n event (λ i lt. none i (omega arith))) ∙ none n (omega arith)

pub lowest_is : {A : Type 0} (n i : ℕ) (event : ℕ → Option A) (v : A) → i < n → event i ≡ Some v
    → ((j : ℕ) → j < n → (j ≡ i → ⊥) → event j ≡ None) → lowest n event ≡ Some v
lowest_is {A = A} zero i event v lt is alone = absurd (omega arith)
lowest_is {A = A} (suc n) i event v lt is alone =
    ⊎_elim
    (λ last.
    let none : lowest n event ≡ None = lowest_none n event (λ j jn. alone j (omega arith) (λ e. omega arith)) in
    ap (λ (e : Option A). or_value e (event n)) none ∙ sym (ap event last) ∙ is)
    (λ below. ap (λ (e : Option A). or_value e (event n)) (lowest_is n i event v (omega arith) is (λ j jn ne. alone j (omega arith) ne)))
    (cases_eq i n)

pub pick_none : {A : Type 0} (n : ℕ) (hit : ℕ → Bool) (event : ℕ → A) → ((i : ℕ) → i < n → hit i ≡ true → ⊥)
    → pick n hit event ≡ None
pick_none {A = A} n hit event none = lowest_none n (λ i. cond (hit i) (Some (event i)) None)
    (λ i lt. cond-false (hit i) _ _ (false_from_ne_true (hit i) (none i lt)))

pub pick_is : {A : Type 0} (n i : ℕ) (hit : ℕ → Bool) (event : ℕ → A) → i < n → hit i ≡ true
    → ((j : ℕ) → j < n → hit j ≡ true → j ≡ i) → pick n hit event ≡ Some (event i)
pick_is {A = A} n i hit event lt is alone =
    lowest_is n i (λ j. cond (hit j) (Some (event j)) None) (event i) lt (cond-true (hit i) _ _ is)
    (λ j jn ne. cond-false (hit j) _ _ (false_from_ne_true (hit j) (λ e. ne (alone j jn e))))

pub pick_move_none : {A : Type 0} (n m : ℕ) (hit : ℕ → ℕ → Bool) (event : ℕ → ℕ → A)
    → ((c k : ℕ) → (c < n) × (k < m) → hit c k ≡ true → ⊥) → pick_move n m hit event ≡ None
pick_move_none {A = A} n m hit event none = lowest_none n (λ c. pick m (hit c) (event c))
    (λ c lt. pick_none m (hit c) (event c) (λ k below. none c k (lt, below)))

pub pick_move_is : {A : Type 0} (n m : ℕ) (c k : ℕ) (hit : ℕ → ℕ → Bool) (event : ℕ → ℕ → A) → (c < n) × (k < m)
    → hit c k ≡ true → ((d j : ℕ) → (d < n) × (j < m) → hit d j ≡ true → (d ≡ c) × (j ≡ k))
    → pick_move n m hit event ≡ Some (event c k)
pick_move_is {A = A} n m c k hit event v is alone =
    lowest_is n c (λ d. pick m (hit d) (event d)) (event c k) v.0
    (pick_is m k (hit c) (event c) v.1 is (λ j lt e. (alone c j (v.0, lt) e).1))
    (λ d lt ne. pick_none m (hit d) (event d) (λ j below e. ne (alone d j (lt, below) e).0))

pub collect_same : (n : ℕ) (f g : ℕ → Option What) → ((h : ℕ) → h < n → f h ≡ g h) → collect n f ≡ collect n g
collect_same zero f g same = refl
collect_same (suc n) f g same =
    let a = collect_same n f g (λ h lt. same h (omega arith)) in
    let b = same n (omega arith) in
    cc

-- tests and values that agree on what is there pick the same
pub lowest_same : {A : Type 0} (n : ℕ) (f g : ℕ → Option A) → ((i : ℕ) → i < n → f i ≡ g i) → lowest n f ≡ lowest n g
lowest_same {A = A} zero f g same = refl
lowest_same {A = A} (suc n) f g same =
    ap (λ (e : Option A). or_value e (f n)) (lowest_same n f g (λ i lt. same i (omega arith))) ∙ ap (or_value (lowest n g)) (same n (omega arith))

pub pick_same : {A : Type 0} (n : ℕ) (hit hit' : ℕ → Bool) (event event' : ℕ → A)
    → ((i : ℕ) → i < n → (hit i ≡ hit' i) × (event i ≡ event' i)) → pick n hit event ≡ pick n hit' event'
pick_same {A = A} n hit hit' event event' same =
    lowest_same n (λ i. cond (hit i) (Some (event i)) None) (λ i. cond (hit' i) (Some (event' i)) None)
    (λ i lt. let e = same i lt in ap (λ (b : Bool). cond b (Some (event i)) None) e.0 ∙ ap (λ (v : A). cond (hit' i) (Some v) None) e.1)

pub pick_move_same : {A : Type 0} (n m : ℕ) (hit hit' : ℕ → ℕ → Bool) (event event' : ℕ → ℕ → A)
    → ((c k : ℕ) → (c < n) × (k < m) → (hit c k ≡ hit' c k) × (event c k ≡ event' c k))
    → pick_move n m hit event ≡ pick_move n m hit' event'
pick_move_same {A = A} n m hit hit' event event' same =
    lowest_same n (λ c. pick m (hit c) (event c)) (λ c. pick m (hit' c) (event' c))
    (λ c lt. pick_same m (hit c) (hit' c) (event c) (event' c) (λ k below. same c k (lt, below)))

-- where none of the first ones has a value, the next one's is the first
pub lowest_first : {A : Type 0} (n i : ℕ) (value : ℕ → Option A) (v : A) → i < n → lowest i value ≡ None
    → value i ≡ Some v → lowest n value ≡ Some v
lowest_first {A = A} zero i value v lt none here = absurd (omega arith)
lowest_first {A = A} (suc n) i value v lt none here =
    ⊎_elim
    (λ last. ap (λ (e : Option A). or_value e (value n)) (ap (λ (m : ℕ). lowest m value) (sym last) ∙ none) ∙ ap value (sym last) ∙ here)
    (λ below. ap (λ (e : Option A). or_value e (value n)) (lowest_first n i value v (omega arith) none here))
    (cases_eq i n)

pub pick_first : {A : Type 0} (n i : ℕ) (hit : ℕ → Bool) (value : ℕ → A) → i < n → pick i hit value ≡ None
    → hit i ≡ true → pick n hit value ≡ Some (value i)
pick_first {A = A} n i hit value lt none here = lowest_first n i (λ j. cond (hit j) (Some (value j)) None) (value i) lt none (cond-true (hit i) _ _ here)

-- one more that has none
pub lowest_more : {A : Type 0} (i : ℕ) (value : ℕ → Option A) → lowest i value ≡ None → value i ≡ None
    → lowest (i + 1) value ≡ None
lowest_more {A = A} i value none here =
    let e : i + 1 ≡ suc i = omega arith in
    ap (λ (m : ℕ). lowest m value) e ∙ ap (λ (o : Option A). or_value o (value i)) none ∙ here

pub pick_more : {A : Type 0} (i : ℕ) (hit : ℕ → Bool) (value : ℕ → A) → pick i hit value ≡ None → hit i ≡ false
    → pick (i + 1) hit value ≡ None
pick_more {A = A} i hit value none here = lowest_more i (λ j. cond (hit j) (Some (value j)) None) none (cond-false (hit i) _ _ here)

-- what is picked was hit
or_found : {A : Type 0} (o e : Option A) (v : A) → or_value o e ≡ Some v → (o ≡ Some v) ⊎ (e ≡ Some v)
or_found None e v is = inr is
or_found (Some w) e v is = inl is

pub lowest_found : {A : Type 0} (n : ℕ) (event : ℕ → Option A) (v : A) → lowest n event ≡ Some v
    → (i : ℕ) × (i < n) × (event i ≡ Some v)
lowest_found {A = A} zero event v e = absurd (let g = e in cc)
lowest_found {A = A} (suc n) event v e =
    ⊎_elim
    (λ before. let r = lowest_found n event v before in (r.0, omega (arith, r.1), r.2))
    (λ here. (n, omega arith, here))
    (or_found (lowest n event) (event n) v e)

pub pick_found : {A : Type 0} (n : ℕ) (hit : ℕ → Bool) (event : ℕ → A) (v : A) → pick n hit event ≡ Some v
    → (i : ℕ) × (i < n) × (hit i ≡ true) × (event i ≡ v)
pick_found {A = A} n hit event v e =
    let r = lowest_found n (λ i. cond (hit i) (Some (event i)) None) v e in
    ⊎_elim
    (λ yes. let g : Some (event r.0) ≡ Some v = sym (cond-true (hit r.0) _ _ yes) ∙ r.2 in (r.0, r.1, yes, (let w = g in cc)))
    (λ no. let g : None ≡ Some v = sym (cond-false (hit r.0) _ _ no) ∙ r.2 in absurd (let w = g in cc))
    (cases_Bool (hit r.0))

pub pick_move_found : {A : Type 0} (n m : ℕ) (hit : ℕ → ℕ → Bool) (event : ℕ → ℕ → A) (v : A)
    → pick_move n m hit event ≡ Some v → (c : ℕ) × (k : ℕ) × ((c < n) × (k < m)) × (hit c k ≡ true) × (event c k ≡ v)
pick_move_found {A = A} n m hit event v e =
    let r = lowest_found n (λ c. pick m (hit c) (event c)) v e in
    let q = pick_found m (hit r.0) (event r.0) v r.2 in
    (r.0, q.0, (r.1, q.1), q.2, q.3)

-- where nothing is picked nothing was hit
or_empty : {A : Type 0} (o e : Option A) → or_value o e ≡ None → (o ≡ None) × (e ≡ None)
or_empty None e is = (refl, is)
or_empty (Some w) e is = absurd (let g = is in cc)

pub lowest_empty : {A : Type 0} (n : ℕ) (event : ℕ → Option A) (i : ℕ) → i < n → lowest n event ≡ None → event i ≡ None
lowest_empty {A = A} zero event i lt e = absurd (omega arith)
lowest_empty {A = A} (suc n) event i lt e =
    let both = or_empty (lowest n event) (event n) e in
    ⊎_elim (λ same. ap event same ∙ both.1) (λ other. lowest_empty n event i (omega arith) both.0) (cases_eq i n)

pub hit_not : {A : Type 0} (n : ℕ) (hit : ℕ → Bool) (event : ℕ → A) (i : ℕ) → i < n → hit i ≡ true
    → pick n hit event ≡ None → ⊥
hit_not {A = A} n hit event i lt hits e =
    let none = lowest_empty n (λ j. cond (hit j) (Some (event j)) None) i lt e in
    let some = cond-true (hit i) (Some (event i)) None hits in
    cc

pub move_not : {A : Type 0} (n m : ℕ) (hit : ℕ → ℕ → Bool) (event : ℕ → ℕ → A) (c k : ℕ) → (c < n) × (k < m)
    → hit c k ≡ true → pick_move n m hit event ≡ None → ⊥
move_not {A = A} n m hit event c k v hits e = hit_not m (hit c) (event c) k v.1 hits (lowest_empty n (λ d. pick m (hit d) (event d)) c v.0 e)
