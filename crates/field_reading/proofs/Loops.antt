-- Readers that go over a list or a count.
use Rattle.std.proofs.Common.{◌≡◌, ℕ, zero, suc, ◌+◌, ◌-◌, ◌<◌, ◌≤◌, min, List, [], ◌∷◌, ◌++◌, length, drop, Result, Ok, Err, refl, sym, ap, ◌∙◌, append_assoc}
use Rattle.std.proofs.Common.{arith, map}
use Rattle.std.specs.List.{concat}
use Rattle.std.proofs.lemmas.List.{append-nil}
use Rattle.field_reading.specs.Reading.{◌>>=◌, word_at, kind_or, kind_at, items_at, with_front}
use Rattle.field_reading.specs.declared.stop.Stop.{Stop}
use Rattle.field_reading.specs.declared.stop.Stop.TheVariants as stops
use Rattle.field_reading.specs.Gives.{Fails}

-- where the words before left so many bytes
abbrev pub at_most : {A : Type 0} → ℕ → Result A ℕ → Result A ℕ
at_most left (Ok x) = Ok x
at_most left (Err other) = Err (min left other)

kind_or_bounded : {K : Type 0} (k : K) (a : Result (List ℕ) ℕ) (b : Result (K × List ℕ) ℕ) (n : ℕ) → at_most n b ≡ b
    → at_most n (kind_or k a b) ≡ kind_or k a b
kind_or_bounded k (Ok rest) b n e = refl
kind_or_bounded k (Err left) (Ok x) n e = refl
kind_or_bounded k (Err left) (Err other) n e =
    let m : min n other ≡ other = cc in
    ap (λ (x : ℕ). Err x) (omega (arith, m))

pub kind_begins : {K : Type 0} (word : K → List ℕ) (kinds : List K) (bytes : List ℕ)
    → at_most (length bytes) (kind_at word kinds bytes) ≡ kind_at word kinds bytes
unfolding kind_at
kind_begins word [] bytes = ap (λ (x : ℕ). Err x) (omega arith)
kind_begins word (k ∷ kinds) bytes = kind_or_bounded k (word_at (word k) bytes) (kind_at word kinds bytes) (length bytes) (kind_begins word kinds bytes)

drop_past : {A : Type 0} (xs : List A) (n : ℕ) → length xs ≤ n → drop n xs ≡ []
drop_past [] zero le = refl
drop_past [] (suc n) le = refl
drop_past (x ∷ xs) zero le = absurd (omega (arith, le))
drop_past (x ∷ xs) (suc n) le = drop_past xs n (omega (arith, le))

pub kind_ends : {K : Type 0} (word : K → List ℕ) (kinds : List K) (bytes : List ℕ) (n left : ℕ) (total : Result (K × List ℕ) ℕ)
    → length kinds ≤ n
    → left ≤ length bytes → at_most left (kind_at word (drop n kinds) bytes) ≡ total → total ≡ Err left
unfolding kind_at
kind_ends word kinds bytes n left total past le so_far =
    let none : at_most left (kind_at word (drop n kinds) bytes) ≡ Err (min left (length bytes)) = rw (drop_past kinds n past) refl in
    sym so_far ∙ none ∙ ap (λ (x : ℕ). Err x) (omega arith)

-- ---- a count

regroup : {A : Type 0} (front : List A) (a : A) (read : Result (List A × List ℕ) ℕ)
    → with_front front (read >>= λ x. Ok (a ∷ x.0, x.1)) ≡ with_front (front ++ a ∷ []) read
regroup {A = A} front a (Ok x) = ap (λ (xs : List A). Ok (xs, x.1)) (simp append_assoc)
regroup front a (Err left) = refl

pub item_more : {A : Type 0} (item : ℕ → List ℕ → Result (A × List ℕ) ℕ) (front : List A) (count i : ℕ) (bytes : List ℕ) (a : A) (after : List ℕ)
    (total : Result (List A × List ℕ) ℕ) → i < count → item i bytes ≡ Ok (a, after)
    → with_front front (items_at item i (count - i) bytes) ≡ total
    → with_front (front ++ a ∷ []) (items_at item (i + 1) (count - (i + 1)) after) ≡ total
unfolding items_at
item_more item front count i bytes a after total lt h so_far =
    let k : count - i ≡ suc (count - (i + 1)) = omega arith in
    let one : with_front front (items_at item i (count - i) bytes) ≡ with_front (front ++ a ∷ []) (items_at item (i + 1) (count - (i + 1)) after) =
    rw (k, h) (regroup front a (items_at item (i + 1) (count - (i + 1)) after)) in
    sym one ∙ so_far

pub item_breaks : {A : Type 0} (item : ℕ → List ℕ → Result (A × List ℕ) ℕ) (e : Stop) (front : List A) (count i : ℕ) (bytes : List ℕ)
    (total : Result (List A × List ℕ) ℕ) → i < count → Fails e (item i bytes)
    → with_front front (items_at item i (count - i) bytes) ≡ total → Fails e total
unfolding items_at
item_breaks item stops.Memory front count i bytes total lt h so_far = tt
item_breaks item (stops.Broken left) front count i bytes total lt h so_far =
    let k : count - i ≡ suc (count - (i + 1)) = omega arith in
    let one : with_front front (items_at item i (count - i) bytes) ≡ Err left = rw (k, h) refl in
    sym so_far ∙ one

pub items_done : {A : Type 0} (item : ℕ → List ℕ → Result (A × List ℕ) ℕ) (front : List A) (count i : ℕ) (bytes : List ℕ) (total : Result (List A × List ℕ) ℕ)
    → count ≤ i → with_front front (items_at item i (count - i) bytes) ≡ total → total ≡ Ok (front, bytes)
unfolding items_at
items_done {A = A} item front count i bytes total le so_far =
    let k : count - i ≡ 0 = omega arith in
    let one : with_front front (items_at item i (count - i) bytes) ≡ Ok (front, bytes) = rw k (ap (λ (xs : List A). Ok (xs, bytes)) (append-nil front)) in
    sym so_far ∙ one

-- ---- a count of pairs, as two lists

abbrev pub fronts : List ℕ → List ℕ → Result (List (ℕ × ℕ) × List ℕ) ℕ → Result ((List ℕ × List ℕ) × List ℕ) ℕ
fronts firsts seconds r = r >>= λ x. Ok ((firsts ++ map (λ (p : ℕ × ℕ). p.0) x.0, seconds ++ map (λ (p : ℕ × ℕ). p.1) x.0), x.1)

regroup_pairs : (firsts seconds : List ℕ) (a b : ℕ) (r : Result (List (ℕ × ℕ) × List ℕ) ℕ)
    → fronts firsts seconds (r >>= λ x. Ok ((a, b) ∷ x.0, x.1)) ≡ fronts (firsts ++ a ∷ []) (seconds ++ b ∷ []) r
regroup_pairs firsts seconds a b (Ok x) =
    let e : firsts ++ a ∷ map (λ (p : ℕ × ℕ). p.0) x.0 ≡ (firsts ++ a ∷ []) ++ map (λ (p : ℕ × ℕ). p.0) x.0 = simp append_assoc in
    let f : seconds ++ b ∷ map (λ (p : ℕ × ℕ). p.1) x.0 ≡ (seconds ++ b ∷ []) ++ map (λ (p : ℕ × ℕ). p.1) x.0 = simp append_assoc in
    ap (λ (xs : List ℕ). Ok ((xs, seconds ++ b ∷ map (λ (p : ℕ × ℕ). p.1) x.0), x.1)) e
    ∙ ap (λ (ys : List ℕ). Ok (((firsts ++ a ∷ []) ++ map (λ (p : ℕ × ℕ). p.0) x.0, ys), x.1)) f
regroup_pairs firsts seconds a b (Err left) = refl

pub pair_more : (item : ℕ → List ℕ → Result ((ℕ × ℕ) × List ℕ) ℕ) (firsts seconds : List ℕ) (count i : ℕ) (bytes : List ℕ) (a b : ℕ) (after : List ℕ)
    (total : Result ((List ℕ × List ℕ) × List ℕ) ℕ) → i < count → item i bytes ≡ Ok ((a, b), after)
    → fronts firsts seconds (items_at item i (count - i) bytes) ≡ total
    → fronts (firsts ++ a ∷ []) (seconds ++ b ∷ []) (items_at item (i + 1) (count - (i + 1)) after) ≡ total
unfolding items_at
pair_more item firsts seconds count i bytes a b after total lt h so_far =
    let k : count - i ≡ suc (count - (i + 1)) = omega arith in
    let one : fronts firsts seconds (items_at item i (count - i) bytes) ≡ fronts (firsts ++ a ∷ []) (seconds ++ b ∷ [])
    (items_at item (i + 1) (count - (i + 1)) after) =
    rw (k, h) (regroup_pairs firsts seconds a b (items_at item (i + 1) (count - (i + 1)) after)) in
    sym one ∙ so_far

pub pair_breaks : (item : ℕ → List ℕ → Result ((ℕ × ℕ) × List ℕ) ℕ) (e : Stop) (firsts seconds : List ℕ) (count i : ℕ) (bytes : List ℕ)
    (total : Result ((List ℕ × List ℕ) × List ℕ) ℕ) → i < count → Fails e (item i bytes)
    → fronts firsts seconds (items_at item i (count - i) bytes) ≡ total → Fails e total
unfolding items_at
pair_breaks item stops.Memory firsts seconds count i bytes total lt h so_far = tt
pair_breaks item (stops.Broken left) firsts seconds count i bytes total lt h so_far =
    let k : count - i ≡ suc (count - (i + 1)) = omega arith in
    let one : fronts firsts seconds (items_at item i (count - i) bytes) ≡ Err left = rw (k, h) refl in
    sym so_far ∙ one

pub pairs_done : (item : ℕ → List ℕ → Result ((ℕ × ℕ) × List ℕ) ℕ) (firsts seconds : List ℕ) (count i : ℕ) (bytes : List ℕ)
    (total : Result ((List ℕ × List ℕ) × List ℕ) ℕ) → count ≤ i → fronts firsts seconds (items_at item i (count - i) bytes) ≡ total
    → total ≡ Ok ((firsts, seconds), bytes)
unfolding items_at
pairs_done item firsts seconds count i bytes total le so_far =
    let k : count - i ≡ 0 = omega arith in
    let one : fronts firsts seconds (items_at item i (count - i) bytes) ≡ Ok ((firsts, seconds), bytes) = rw (k, append-nil firsts, append-nil seconds) refl in
    sym so_far ∙ one

-- ---- a count of lists, as one list

abbrev pub with_joined : List ℕ → Result (List (List ℕ) × List ℕ) ℕ → Result (List ℕ × List ℕ) ℕ
with_joined front r = r >>= λ x. Ok (front ++ concat x.0, x.1)

regroup_lists : (front xs : List ℕ) (r : Result (List (List ℕ) × List ℕ) ℕ)
    → with_joined front (r >>= λ x. Ok (xs ∷ x.0, x.1)) ≡ with_joined (front ++ xs) r
regroup_lists front xs (Ok x) = ap (λ (ys : List ℕ). Ok (ys, x.1)) (sym (append_assoc front xs (concat x.0)))
regroup_lists front xs (Err left) = refl

-- what an item is, read behind others
front_ok : (front new after : List ℕ) (r : Result (List ℕ × List ℕ) ℕ) → with_front front r ≡ Ok (new, after)
    → (xs : List ℕ) × (r ≡ Ok (xs, after)) × (new ≡ front ++ xs)
front_ok front new after (Ok x) e =
    let p : (front ++ x.0, x.1) ≡ (new, after) = cc in
    let n : front ++ x.0 ≡ new = ap (λ (y : List ℕ × List ℕ). y.0) p in
    let l : x.1 ≡ after = ap (λ (y : List ℕ × List ℕ). y.1) p in
    (x.0, ap (λ (y : List ℕ). Ok (x.0, y)) l, sym n)
front_ok front new after (Err left) e = absurd cc

front_fails : (e : Stop) (front : List ℕ) (r : Result (List ℕ × List ℕ) ℕ) → Fails e (with_front front r) → Fails e r
front_fails stops.Memory front r f = tt
front_fails (stops.Broken left) front (Ok x) f = absurd cc
front_fails (stops.Broken left) front (Err other) f = let p : other ≡ left = cc in ap (λ (k : ℕ). Err k) p

list_step : (item : ℕ → List ℕ → Result (List ℕ × List ℕ) ℕ) (front xs : List ℕ) (count i : ℕ) (bytes after : List ℕ)
    → i < count
    → item i bytes ≡ Ok (xs, after)
    → with_joined front (items_at item i (count - i) bytes) ≡ with_joined (front ++ xs) (items_at item (i + 1) (count - (i + 1)) after)
unfolding items_at
list_step item front xs count i bytes after lt h =
    let k : count - i ≡ suc (count - (i + 1)) = omega arith in
    rw (k, h) (regroup_lists front xs (items_at item (i + 1) (count - (i + 1)) after))

pub list_more : (item : ℕ → List ℕ → Result (List ℕ × List ℕ) ℕ) (front new : List ℕ) (count i : ℕ) (bytes after : List ℕ) (total : Result (List ℕ × List ℕ) ℕ)
    → i < count → with_front front (item i bytes) ≡ Ok (new, after)
    → with_joined front (items_at item i (count - i) bytes) ≡ total
    → with_joined new (items_at item (i + 1) (count - (i + 1)) after) ≡ total
list_more item front new count i bytes after total lt h so_far =
    let was = front_ok front new after (item i bytes) h in
    ap (λ (xs : List ℕ). with_joined xs (items_at item (i + 1) (count - (i + 1)) after)) was.2 ∙ sym (list_step item front was.0 count i bytes after lt was.1)
    ∙ so_far

pub list_breaks : (item : ℕ → List ℕ → Result (List ℕ × List ℕ) ℕ) (e : Stop) (front : List ℕ) (count i : ℕ) (bytes : List ℕ)
    (total : Result (List ℕ × List ℕ) ℕ) → i < count → Fails e (with_front front (item i bytes))
    → with_joined front (items_at item i (count - i) bytes) ≡ total → Fails e total
unfolding items_at
list_breaks item stops.Memory front count i bytes total lt h so_far = tt
list_breaks item (stops.Broken left) front count i bytes total lt h so_far =
    let k : count - i ≡ suc (count - (i + 1)) = omega arith in
    let f : item i bytes ≡ Err left = front_fails (stops.Broken left) front (item i bytes) h in
    let one : with_joined front (items_at item i (count - i) bytes) ≡ Err left = rw (k, f) refl in
    sym so_far ∙ one

pub lists_done : (item : ℕ → List ℕ → Result (List ℕ × List ℕ) ℕ) (front : List ℕ) (count i : ℕ) (bytes : List ℕ) (total : Result (List ℕ × List ℕ) ℕ)
    → count ≤ i → with_joined front (items_at item i (count - i) bytes) ≡ total → total ≡ Ok (front, bytes)
unfolding items_at
lists_done item front count i bytes total le so_far =
    let k : count - i ≡ 0 = omega arith in
    let one : with_joined front (items_at item i (count - i) bytes) ≡ Ok (front, bytes) = rw (k, append-nil front) refl in
    sym so_far ∙ one

pub front_none : {A : Type 0} (r : Result (List A × List ℕ) ℕ) → with_front [] r ≡ r
front_none (Ok x) = refl
front_none (Err left) = refl
