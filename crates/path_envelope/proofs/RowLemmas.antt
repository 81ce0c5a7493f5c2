-- Heights that are carried along a row, and what a row is that was raised from the left and from the right.
use Rattle.std.proofs.Common.{◌≡◌, ℕ, ◌+◌, ◌-◌, ◌*◌, ◌/◌, ◌%◌, ◌≤◌, ◌<◌, ◌⊎◌, inl, inr, ⊎_elim, ◌∙◌, sym, ap, max, zero, suc, arith}
use Rattle.std.proofs.lemmas.Bool.{cases_lt}
use Rattle.std.proofs.lemmas.Nat.{mod_below, div-add-mod'}
use Rattle.std.proofs.Math.Nat.{add-mod_right, mod-eq_of_lt, mod-add-mod, add-mul-mod_self_right}
use Rattle.path_envelope.specs.Rows.{carried, next, IsSlow, ComesFrom, IsRaised}

pub carried_next : (f : ℕ → ℕ) (c i : ℕ) → carried f c (i + 1) ≡ max (carried f c i - 1) (f i)
carried_next f c i = let e : i + 1 ≡ suc i = omega arith in ap (carried f c) e

-- it is no lower than f before it allows
cover : (f : ℕ → ℕ) (c i s : ℕ) → s < i → f s + s + 1 ≤ carried f c i + i
cover f c zero s lt = omega (arith, lt)
cover f c (suc i) s lt =
    ⊎_elim (λ below. omega (arith, cover f c i s below)) (λ past. let e : f s ≡ f i = ap f (omega arith) in omega (arith, e)) (cases_lt s i)

-- nor than what it began with allows
keeps : (f : ℕ → ℕ) (c i : ℕ) → c ≤ carried f c i + i
keeps f c zero = omega arith
keeps f c (suc i) = omega (arith, keeps f c i)

-- it comes from its beginning, or from some tick before it
comes : (f : ℕ → ℕ) (c i : ℕ) → (carried f c i ≡ c - i) ⊎ ((s : ℕ) × (s < i) × (carried f c i + i ≡ f s + s + 1))
comes f c zero = inl (omega arith)
comes f c (suc i) =
    ⊎_elim (λ lower.
    ⊎_elim (λ z. ⊎_elim (λ nil. inl (omega arith)) (λ some. inr (i, omega arith, omega arith)) (cases_lt (f i) 1))
    (λ pos. ⊎_elim (λ at_start. inl (omega (arith, at_start))) (λ w. inr (w.0, omega (arith, w.1), omega (arith, w.2))) (comes f c i))
    (cases_lt (carried f c i) 1))
    (λ here. inr (i, omega arith, omega arith))
    (cases_lt (f i) (carried f c i - 1))

-- carried round once more from what the first round ends with, it ends with the same
around : (f : ℕ → ℕ) (n : ℕ) → carried f (carried f 0 n) n ≡ carried f 0 n
around f n =
    let c : ℕ = carried f 0 n in
    let le : carried f c n ≤ c =
    ⊎_elim (λ start. omega (arith, start)) (λ w. omega (arith, w.2, cover f 0 n w.0 w.1)) (comes f c n) in
    let ge : c ≤ carried f c n =
    ⊎_elim (λ start. omega (arith, start)) (λ w. omega (arith, w.2, cover f c n w.0 w.1)) (comes f 0 n) in
    omega (arith, le, ge)

-- the tick after the last is the first
pub next_last : (n t : ℕ) → t + 1 ≡ n → next n t ≡ 0
next_last n t e =
    let d : (t + 1) % n ≡ (0 + n) % n = ap (λ k. k % n) (omega (arith, e)) in
    let first : 0 % n ≡ 0 = mod-eq_of_lt (omega (arith, e)) in
    d ∙ (add-mod_right 0 n ∙ first)

pub next_inner : (n t : ℕ) → t + 1 < n → next n t ≡ t + 1
next_inner n t lt = mod-eq_of_lt lt

pub next_below : (n t : ℕ) → t < n → next n t < n
next_below n t lt = mod_below (t + 1) n (omega arith)

-- the second round falls by at most 1, round the period too, and rises only where the row does
record Steps (f g : ℕ → ℕ) (t u : ℕ) : Type 0 where
  falls : g t ≤ g u + 1
  rises : g u ≤ max (g t) (f u)

steps : (f g : ℕ → ℕ) (n t : ℕ) → t < n → ((k : ℕ) → k < n → g k ≡ carried f (carried f 0 n) (k + 1))
    → Steps f g t (next n t)
steps f g n t lt is =
    let c : ℕ = carried f 0 n in
    ⊎_elim
    (λ inner.
    let e : next n t ≡ t + 1 = next_inner n t inner in
    let a : g (next n t) ≡ g (t + 1) = ap g e in
    let b : f (next n t) ≡ f (t + 1) = ap f e in
    record {
      falls = omega (arith, a, is t lt, is (t + 1) inner, carried_next f c (t + 1));
      rises = omega (arith, a, b, is t lt, is (t + 1) inner, carried_next f c (t + 1));
    })
    (λ last.
    let e : next n t ≡ 0 = next_last n t (omega arith) in
    let a : g (next n t) ≡ g 0 = ap g e in
    let b : f (next n t) ≡ f 0 = ap f e in
    let d : carried f c (t + 1) ≡ carried f c n = ap (carried f c) (omega arith) in
    let wrap : g t ≡ c = is t lt ∙ (d ∙ around f n) in
    let first : g 0 ≡ max (c - 1) (f 0) = is 0 (omega (arith, lt)) in
    record { falls = omega (arith, a, wrap, first); rises = omega (arith, a, b, wrap, first) })
    (cases_lt (t + 1) n)

-- where a height of the second round comes from
source : (f : ℕ → ℕ) (n t : ℕ) → t < n
    → (s : ℕ) × (m : ℕ) × (s < n) × ((s + m) % n ≡ t) × (carried f (carried f 0 n) (t + 1) + m ≡ f s)
source f n t lt =
    let c : ℕ = carried f 0 n in
    let self : t % n ≡ t = mod-eq_of_lt lt in
    ⊎_elim
    (λ start.
    ⊎_elim
    (λ low.
    let e : (t + 0) % n ≡ t = ap (λ k. k % n) (omega arith) ∙ self in
    (t, 0, lt, e, omega (arith, start, low, cover f c (t + 1) t (omega arith))))
    (λ high.
    ⊎_elim (λ none. absurd (omega (arith, none, high)))
    (λ w.
    let m : ℕ = t + n - w.0 in
    let e : (w.0 + m) % n ≡ t = ap (λ k. k % n) (omega (arith, w.1)) ∙ (add-mod_right t n ∙ self) in
    (w.0, m, w.1, e, omega (arith, w.1, w.2, start, high)))
    (comes f 0 n))
    (cases_lt c (t + 1)))
    (λ w.
    let e : (w.0 + (t - w.0)) % n ≡ t = ap (λ k. k % n) (omega (arith, w.1)) ∙ self in
    (w.0, t - w.0, omega (arith, w.1), e, omega (arith, w.1, w.2)))
    (comes f c (t + 1))

pub raised : (f g : ℕ → ℕ) (n : ℕ) → ((k : ℕ) → k < n → g k ≡ carried f (carried f 0 n) (k + 1)) → IsRaised n f g
raised f g n is = record {
  least = λ t lt. omega (arith, is t lt, carried_next f (carried f 0 n) t);
  falls = λ t lt. (steps f g n t lt is).falls;
  rises = λ t lt. (steps f g n t lt is).rises;
  from = λ t lt. let w = source f n t lt in (w.0, w.1, w.2, w.3, omega (arith, w.4, is t lt));
}

-- a tick and the one before it, seen from the other end
turned_next : (n t : ℕ) → t < n → next n (n - 1 - next n t) ≡ n - 1 - t
turned_next n t lt =
    ⊎_elim
    (λ inner.
    let e = next_inner n t inner in
    let d : next n (n - 1 - next n t) ≡ next n (n - 1 - (t + 1)) = ap (λ k. next n (n - 1 - k)) e in
    omega (arith, d, next_inner n (n - 1 - (t + 1)) (omega (arith, inner))))
    (λ last.
    let e = next_last n t (omega (arith, lt, last)) in
    let d : next n (n - 1 - next n t) ≡ next n (n - 1 - 0) = ap (λ k. next n (n - 1 - k)) e in
    omega (arith, d, next_last n (n - 1 - 0) (omega (arith, lt)), last))
    (cases_lt (t + 1) n)

-- m ticks before and after, seen from the other end
turned_ticks : (n s t m : ℕ) → s < n → t < n → (s + m) % n ≡ n - 1 - t → (t + m) % n ≡ n - 1 - s
turned_ticks n s t m a b e =
    let q : ℕ = (s + m) / n in
    let d = div-add-mod' (s + m) n in
    let f : (t + m) % n ≡ (n - 1 - s + q * n) % n = ap (λ k. k % n) (omega (arith, a, b, d, e)) in
    let inside : (n - 1 - s) % n ≡ n - 1 - s = mod-eq_of_lt (omega (arith, a)) in
    f ∙ (add-mul-mod_self_right (n - 1 - s) q n ∙ inside)

-- more ticks keep two ticks of the period one
pub same_later : (n a b m : ℕ) → a % n ≡ b % n → (a + m) % n ≡ (b + m) % n
same_later n a b m e =
    let qa : ℕ = a / n in
    let qb : ℕ = b / n in
    let da = div-add-mod' a n in
    let db = div-add-mod' b n in
    let f : (a + m) % n ≡ (a % n + m + qa * n) % n = ap (λ k. k % n) (omega (arith, da)) in
    let g : (b + m) % n ≡ (a % n + m + qb * n) % n = ap (λ k. k % n) (omega (arith, db, e)) in
    f ∙ (add-mul-mod_self_right (a % n + m) qa n ∙ (sym (add-mul-mod_self_right (a % n + m) qb n) ∙ sym g))

-- a row that was raised from the left and then, seen from the other end, from the right
pub record IsSwept (n : ℕ) (f row : ℕ → ℕ) : Type 0 where
  pub least : (t : ℕ) → t < n → f t ≤ row t
  pub slow : IsSlow n row
  pub from : ComesFrom n f row

swept_from : (n : ℕ) (f a b c row : ℕ → ℕ) → IsRaised n f a → ((t : ℕ) → t < n → b t ≡ a (n - 1 - t)) → IsRaised n b c
    → ((t : ℕ) → t < n → row t ≡ c (n - 1 - t)) → ComesFrom n f row
swept_from n f a b c row left ba right rc t lt =
    let there : n - 1 - t < n = omega (arith, lt) in
    let w = right.from (n - 1 - t) there in
    let s : ℕ = n - 1 - w.0 in
    let s_in : s < n = omega (arith, w.2) in
    let v = left.from s s_in in
    let back : (t + w.1) % n ≡ s = turned_ticks n w.0 t w.1 w.2 lt w.3 in
    (v.0, w.1, v.1, v.2, omega (arith, v.3, back), omega (arith, rc t lt, w.4, ba w.0 w.2, v.4))

swept_slow : (n : ℕ) (f a b c row : ℕ → ℕ) → IsRaised n f a → ((t : ℕ) → t < n → b t ≡ a (n - 1 - t)) → IsRaised n b c
    → ((t : ℕ) → t < n → row t ≡ c (n - 1 - t)) → IsSlow n row
swept_slow n f a b c row left ba right rc t lt =
    let u : ℕ = next n t in
    let u_in : u < n = next_below n t lt in
    let j : ℕ = n - 1 - u in
    let j_in : j < n = omega (arith, u_in) in
    let e : next n j ≡ n - 1 - t = turned_next n t lt in
    let k_in : n - 1 - t < n = omega (arith, lt) in
    let ce : c (next n j) ≡ c (n - 1 - t) = ap c e in
    let be : b (next n j) ≡ b (n - 1 - t) = ap b e in
    let bt : b (n - 1 - t) ≡ a t = ba (n - 1 - t) k_in ∙ ap a (omega (arith, lt)) in
    let bu : b j ≡ a u = ba j j_in ∙ ap a (omega (arith, u_in)) in
    let falls = right.falls j j_in in
    let rises = right.rises j j_in in
    let least = right.least j j_in in
    let down = left.falls t lt in
    (omega (arith, rc t lt, rc u u_in, ce, be, bt, bu, rises, least, down), omega (arith, rc t lt, rc u u_in, ce, falls))

swept_least : (n : ℕ) (f a b c row : ℕ → ℕ) → IsRaised n f a → ((t : ℕ) → t < n → b t ≡ a (n - 1 - t)) → IsRaised n b c
    → ((t : ℕ) → t < n → row t ≡ c (n - 1 - t)) → (t : ℕ) → t < n → f t ≤ row t
swept_least n f a b c row left ba right rc t lt =
    let k_in : n - 1 - t < n = omega (arith, lt) in
    let bt : b (n - 1 - t) ≡ a t = ba (n - 1 - t) k_in ∙ ap a (omega (arith, lt)) in
    omega (arith, rc t lt, bt, left.least t lt, right.least (n - 1 - t) k_in)

pub swept : (n : ℕ) (f a b c row : ℕ → ℕ) → IsRaised n f a → ((t : ℕ) → t < n → b t ≡ a (n - 1 - t)) → IsRaised n b c
    → ((t : ℕ) → t < n → row t ≡ c (n - 1 - t)) → IsSwept n f row
swept n f a b c row left ba right rc = record {
  least = swept_least n f a b c row left ba right rc;
  slow = swept_slow n f a b c row left ba right rc;
  from = swept_from n f a b c row left ba right rc;
}

-- a slow row, n ticks on
pub slow_far : (n : ℕ) (row : ℕ → ℕ) (t m : ℕ) → 0 < n → IsSlow n row
    → (row (t % n) ≤ row ((t + m) % n) + m) × (row ((t + m) % n) ≤ row (t % n) + m)
slow_far n row t zero p slow =
    let e : row ((t + 0) % n) ≡ row (t % n) = ap (λ k. row (k % n)) (omega arith) in
    (omega (arith, e), omega (arith, e))
slow_far n row t (suc m) p slow =
    let before = slow_far n row t m p slow in
    let u : ℕ = (t + m) % n in
    let u_in : u < n = mod_below (t + m) n p in
    let step = slow u u_in in
    let e : (u + 1) % n ≡ (t + m + 1) % n = mod-add-mod (t + m) n 1 in
    let d : (t + m + 1) % n ≡ (t + suc m) % n = ap (λ k. k % n) (omega arith) in
    let f : row (next n u) ≡ row ((t + suc m) % n) = ap row (e ∙ d) in
    (omega (arith, before.0, step.0, f), omega (arith, before.1, step.1, f))
