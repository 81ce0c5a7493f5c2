-- A word that may stand there, before what else may.
use Rattle.std.proofs.Common.{◌≡◌, ℕ, ◌≤◌, min, List, ◌++◌, length, ◌⊎◌, inl, inr, ⊎_elim, Bool, true, false, Result, Ok, Err, refl, sym, ap, subst, ◌∙◌}
use Rattle.std.proofs.Common.{append_assoc, arith, length-append}
use Rattle.std.proofs.lemmas.Bool.{cases_lt}
use Rattle.std.proofs.lemmas.List.{append_cancel_left}
use Rattle.field_reading.specs.Reading.{◌>>=◌, word_at}
use Rattle.field_reading.specs.Reads.{SameHead, IsBroken, Reads, Any}
use Rattle.field_reading.proofs.Field.{SameHead-front, made_reads}
use Rattle.field_reading.proofs.Words.{cut_again, one_word}
use Rattle.track_log.specs.Reading.{at_most, or_at, flag_at}
use Rattle.track_log.specs.Logs.{flag_text}

-- a break leaves no more than there is
pub bounded : {A : Type 0} (F : A → Type 0) (text : A → List ℕ) (S : List ℕ → Type 0) (bytes : List ℕ) (r : Result (A × List ℕ) ℕ)
    → Reads F text S bytes r → at_most (length bytes) r ≡ r
bounded F text S bytes (Ok x) h = refl
bounded F text S bytes (Err left) h = ap (λ (n : ℕ). Err n) (omega (arith, h.left_is, ap length h.is, length-append h.front h.back))

-- values of two kinds: the texts of the one begin with a word, and none of the other does
pub record IsChoice {C : Type 0} (word : List ℕ) (FY FN FC : C → Type 0) (text u : C → List ℕ) : Type 0 where
  pub splits : (c : C) → FC c → FY c ⊎ FN c
  pub with_word : (c : C) → FY c → FC c
  pub without : (c : C) → FN c → FC c
  pub begins : (c : C) → FY c → text c ≡ word ++ u c
  pub apart : (c : C) (t y : List ℕ) → FN c → text c ++ t ≡ word ++ y → ⊥
  pub some : (c : C) × FY c

-- the same word in front
in_front : {C : Type 0} (word : List ℕ) (text u : C → List ℕ) (c : C) (t : List ℕ) → text c ≡ word ++ u c
    → text c ++ t ≡ word ++ (u c ++ t)
in_front {C = C} word text u c t e = ap (λ (x : List ℕ). x ++ t) e ∙ append_assoc word (u c) t

-- the word stands there
taken : {C : Type 0} (word : List ℕ) (FY FN FC : C → Type 0) (text u : C → List ℕ) (S : List ℕ → Type 0) (bytes rest : List ℕ) (r : Result (C × List ℕ) ℕ)
    → IsChoice word FY FN FC text u → bytes ≡ word ++ rest → Reads FY u S rest r → Reads FC text S bytes r
taken {C = C} word FY FN FC text u S bytes rest (Ok x) is e h =
    let whole = in_front word text u x.0 x.1 (is.begins x.0 h.fits) in
    record {
      fits = is.with_word x.0 h.fits;
      is = e ∙ ap (λ (l : List ℕ). word ++ l) h.is ∙ sym whole;
      only = λ b t y f s e' same.
          let past : text b ++ t ≡ word ++ (u x.0 ++ y) = e' ∙ in_front word text u x.0 y (is.begins x.0 h.fits) in
          ⊎_elim
          (λ fy. h.only b t y fy s (append_cancel_left word (u b ++ t) (u x.0 ++ y) (sym (in_front word text u b t (is.begins b fy)) ∙ past)) same)
          (λ fn. absurd (is.apart b t (u x.0 ++ y) fn past))
          (is.splits b f);
    }
taken {C = C} word FY FN FC text u S bytes rest (Err left) is e h = record {
  front = word ++ h.front;
  back = h.back;
  is = e ∙ ap (λ (l : List ℕ). word ++ l) h.is ∙ sym (append_assoc word h.front h.back);
  left_is = h.left_is;
  some = h.some;
  fits = is.with_word h.some h.fits;
  more = h.more;
  begun = is.begins h.some h.fits ∙ ap (λ (l : List ℕ). word ++ l) h.begun ∙ sym (append_assoc word h.front h.more);
  none = λ b t y f s e' same.
      let past : text b ++ t ≡ word ++ (h.front ++ y) = e' ∙ append_assoc word h.front y in
      ⊎_elim
      (λ fy. h.none b t y fy s (append_cancel_left word (u b ++ t) (h.front ++ y) (sym (in_front word text u b t (is.begins b fy)) ∙ past)) same)
      (λ fn. is.apart b t (h.front ++ y) fn past)
      (is.splits b f);
}

-- the word breaks at its front, and so do all texts that begin with it
word_breaks : {C : Type 0} (word : List ℕ) (FY FN FC : C → Type 0) (text u : C → List ℕ) (S : List ℕ → Type 0) (bytes : List ℕ) (left : ℕ)
    → IsChoice word FY FN FC text u → IsBroken (λ v. v ≡ word) (λ v. v) Any bytes left → IsBroken FY text S bytes left
word_breaks {C = C} word FY FN FC text u S bytes left is h = record {
  front = h.front;
  back = h.back;
  is = h.is;
  left_is = h.left_is;
  some = is.some.0;
  fits = is.some.1;
  more = h.more ++ u is.some.0;
  begun = is.begins is.some.0 is.some.1 ∙ ap (λ (l : List ℕ). l ++ u is.some.0) (sym h.fits ∙ h.begun) ∙ append_assoc h.front h.more (u is.some.0);
  none = λ b t y f s e same. h.none word (u b ++ t) y refl tt (sym (in_front word text u b t (is.begins b f)) ∙ e) same;
}

-- of two breaks the one that goes on further is that of both kinds
further_both : {A : Type 0} (FA FB FC : A → Type 0) (text : A → List ℕ) (S : List ℕ → Type 0) (bytes : List ℕ) (l k : ℕ)
    → ((a : A) → FC a → FA a ⊎ FB a) → ((a : A) → FA a → FC a) → IsBroken FA text S bytes l → IsBroken FB text S bytes k
    → l ≤ k
    → IsBroken FC text S bytes l
further_both FA FB FC text S bytes l k splits into first second le =
    let m = cut_again first.front first.back second.front second.back (sym first.is ∙ second.is) (omega (arith, first.left_is, second.left_is)) in
    record {
      front = first.front;
      back = first.back;
      is = first.is;
      left_is = first.left_is;
      some = first.some;
      fits = into first.some first.fits;
      more = first.more;
      begun = first.begun;
      none = λ b t y f s e h.
          ⊎_elim
          (λ fa. first.none b t y fa s e h)
          (λ fb. second.none b t (m.0 ++ y) fb s (e ∙ ap (λ (z : List ℕ). z ++ y) m.1 ∙ append_assoc second.front m.0 y)
          (subst (λ (z : List ℕ). SameHead (m.0 ++ y) z) (sym m.2) (SameHead-front m.0 y first.back h)))
          (splits b f);
    }

-- the word doesn't stand there
other_reads : {C : Type 0} (word : List ℕ) (FY FN FC : C → Type 0) (text u : C → List ℕ) (S : List ℕ → Type 0) (bytes : List ℕ) (left : ℕ)
    (r : Result (C × List ℕ) ℕ) → IsChoice word FY FN FC text u → IsBroken (λ v. v ≡ word) (λ v. v) Any bytes left → Reads FN text S bytes r
    → Reads FC text S bytes (at_most left r)
other_reads {C = C} word FY FN FC text u S bytes left (Ok x) is broken h = record {
  fits = is.without x.0 h.fits;
  is = h.is;
  only = λ b t y f s e same.
      ⊎_elim
      (λ fy. absurd (is.apart x.0 y (u b ++ t) h.fits (sym e ∙ in_front word text u b t (is.begins b fy))))
      (λ fn. h.only b t y fn s e same)
      (is.splits b f);
}
other_reads {C = C} word FY FN FC text u S bytes left (Err other) is broken h =
    let first = word_breaks word FY FN FC text u S bytes left is broken in
    ⊎_elim
    (λ lt.
    let m : min left other ≡ left = omega arith in
    subst (λ (n : ℕ). IsBroken FC text S bytes n) (sym m) (further_both FY FN FC text S bytes left other is.splits is.with_word first h (omega arith)))
    (λ le.
    let m : min left other ≡ other = omega arith in
    subst (λ (n : ℕ). IsBroken FC text S bytes n) (sym m)
    (further_both FN FY FC text S bytes other left (λ a f. ⊎_elim (λ x. inr x) (λ x. inl x) (is.splits a f)) is.without h first le))
    (cases_lt left other)

choice_by : {C : Type 0} (word : List ℕ) (FY FN FC : C → Type 0) (text u : C → List ℕ) (S : List ℕ → Type 0) (bytes : List ℕ)
    (w : Result (List ℕ) ℕ) (behind : List ℕ → Result (C × List ℕ) ℕ) (other : Result (C × List ℕ) ℕ) → IsChoice word FY FN FC text u
    → Reads (λ v. v ≡ word) (λ v. v) Any bytes (w >>= λ rest. Ok (word, rest))
    → ((rest : List ℕ) → bytes ≡ word ++ rest → Reads FY u S rest (behind rest)) → Reads FN text S bytes other
    → Reads FC text S bytes (or_at w behind other)
choice_by word FY FN FC text u S bytes (Ok rest) behind other is first h none = taken word FY FN FC text u S bytes rest
    (behind rest) is first.is (h rest first.is)
choice_by word FY FN FC text u S bytes (Err left) behind other is first h none = other_reads word FY FN FC text u S bytes left other is first none

pub choice_reads : {C : Type 0} (word : List ℕ) (FY FN FC : C → Type 0) (text u : C → List ℕ) (S : List ℕ → Type 0) (bytes : List ℕ)
    (behind : List ℕ → Result (C × List ℕ) ℕ) (other : Result (C × List ℕ) ℕ) → IsChoice word FY FN FC text u
    → ((rest : List ℕ) → bytes ≡ word ++ rest → Reads FY u S rest (behind rest)) → Reads FN text S bytes other
    → Reads FC text S bytes (or_at (word_at word bytes) behind other)
choice_reads word FY FN FC text u S bytes behind other is h none =
    choice_by word FY FN FC text u S bytes (word_at word bytes) behind other is (one_word (λ (v : List ℕ). v) word bytes) h none

-- ---- a word that is there or not, and what comes next

pub flag_reads : {A : Type 0} (word : List ℕ) (F : A → Type 0) (text : A → List ℕ) (S : List ℕ → Type 0) (next : List ℕ → Result (A × List ℕ) ℕ) (nil : A)
    → F nil → ((a : A) (t y : List ℕ) → F a → text a ++ t ≡ word ++ y → ⊥)
    → ((bytes : List ℕ) → Reads F text S bytes (next bytes))
    → (bytes : List ℕ) → Reads (λ p. F p.1) (λ p. flag_text word p.0 ++ text p.1) S bytes (flag_at word next bytes)
flag_reads {A = A} word F text S next nil fits apart reads bytes =
    choice_reads word (λ p. F p.1 × (p.0 ≡ true)) (λ p. F p.1 × (p.0 ≡ false)) (λ p. F p.1) (λ p. flag_text word p.0 ++ text p.1) (λ p. text p.1) S bytes
    (λ rest. next rest >>= λ x. Ok ((true, x.0), x.1)) (next bytes >>= λ x. Ok ((false, x.0), x.1))
    (record {
      splits = λ p f. splits p.0 p.1 f;
      with_word = λ p f. f.0;
      without = λ p f. f.0;
      begins = λ p f. ap (λ (b : Bool). flag_text word b ++ text p.1) f.1;
      apart = λ p t y f e. apart p.1 t y f.0 (ap (λ (b : Bool). (flag_text word b ++ text p.1) ++ t) (sym f.1) ∙ e);
      some = ((true, nil), (fits, refl));
    })
    (λ rest e.
    made_reads F text (λ p. F p.1 × (p.0 ≡ true)) (λ p. text p.1) S (λ a. (true, a)) rest (next rest) (λ a f. ((f, refl), refl))
    (λ p t f s head. (p.1, f.0, ap (λ (b : Bool). (b, p.1)) (sym f.1))) (reads rest))
    (made_reads F text (λ p. F p.1 × (p.0 ≡ false)) (λ p. flag_text word p.0 ++ text p.1) S (λ a. (false, a)) bytes (next bytes) (λ a f. ((f, refl), refl))
    (λ p t f s head. (p.1, f.0, ap (λ (b : Bool). (b, p.1)) (sym f.1))) (reads bytes))
  where
    splits : (b : Bool) (a : A) → F a → (F a × (b ≡ true)) ⊎ (F a × (b ≡ false))
    splits true a f = inl (f, refl)
    splits false a f = inr (f, refl)
