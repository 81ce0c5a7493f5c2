-- What a reader of one field promises, and how readers one after the other keep it.
use Rattle.std.proofs.Common.{◌≡◌, ℕ, List, [], ◌∷◌, ◌++◌, length, Bool, true, false, cond, eqb, Result, Ok, Err, refl, sym, ap, subst, ◌∙◌, append_assoc}
use Rattle.std.proofs.lemmas.List.{append_cancel_left}
use Rattle.std.proofs.lemmas.Bool.{eqb-true, eqb-false}
use Rattle.field_reading.specs.Reading.{◌>>=◌, word_at}
use Rattle.field_reading.specs.Reads.{SameHead, IsRead, IsBroken, Reads}

pub SameHead-front : (front y s : List ℕ) → SameHead y s → SameHead (front ++ y) (front ++ s)
SameHead-front [] y s h = h
SameHead-front (a ∷ front) y s h = refl

pub SameHead-refl : (s : List ℕ) → SameHead s s
SameHead-refl [] = tt
SameHead-refl (a ∷ s) = refl

-- the same texts, written otherwise
pub retext : {A : Type 0} (Fits : A → Type 0) (u text : A → List ℕ) (S : List ℕ → Type 0) (bytes : List ℕ) (r : Result (A × List ℕ) ℕ)
    → ((a : A) → Fits a → u a ≡ text a) → Reads Fits u S bytes r → Reads Fits text S bytes r
retext Fits u text S bytes (Ok x) is h = record {
  fits = h.fits;
  is = h.is ∙ ap (λ (l : List ℕ). l ++ x.1) (is x.0 h.fits);
  only = λ b t y f s e same. h.only b t y f s (ap (λ (l : List ℕ). l ++ t) (is b f) ∙ e ∙ ap (λ (l : List ℕ). l ++ y) (sym (is x.0 h.fits))) same;
}
retext Fits u text S bytes (Err left) is h = record {
  front = h.front;
  back = h.back;
  is = h.is;
  left_is = h.left_is;
  some = h.some;
  fits = h.fits;
  more = h.more;
  begun = sym (is h.some h.fits) ∙ h.begun;
  none = λ b t y f s e same. h.none b t y f s (ap (λ (l : List ℕ). l ++ t) (is b f) ∙ e) same;
}

-- ---- nothing more: the value is known

pub done_reads : {C : Type 0} (Fits : C → Type 0) (Stops : List ℕ → Type 0) (bytes : List ℕ) (c : C) → Fits c
    → ((d : C) → Fits d → d ≡ c)
    → Reads Fits (λ _. []) Stops bytes (Ok (c, bytes))
done_reads Fits Stops bytes c fits one = record { fits = fits; is = refl; only = λ d t y f s e h. one d f }

-- ---- a field, and what comes after it

-- how the text of a whole begins with that of a part
pub record IsPart {A C : Type 0} (FA : A → Type 0) (ta : A → List ℕ) (SA : List ℕ → Type 0) (FC : C → Type 0) (tc : C → List ℕ) (S : List ℕ → Type 0)
    (part : C → A) (u : C → List ℕ) : Type 0 where
  pub parts : (c : C) → FC c → FA (part c)
  pub text : (c : C) → FC c → tc c ≡ ta (part c) ++ u c
  pub stops : (c : C) (t : List ℕ) → FC c → S t → SA (u c ++ t)
  pub completes : (a : A) → FA a → (c : C) × FC c × (part c ≡ a)

-- a text that agrees past the part has that part
pub part_same : {A C : Type 0} (FA : A → Type 0) (ta : A → List ℕ) (SA : List ℕ → Type 0) (FC : C → Type 0) (tc : C → List ℕ) (S : List ℕ → Type 0)
    (part : C → A) (u : C → List ℕ) → IsPart FA ta SA FC tc S part u → (bytes : List ℕ) (a : A) (rest : List ℕ) → IsRead FA ta SA bytes a rest
    → (b : C) (t y : List ℕ) → FC b → S t → tc b ++ t ≡ ta a ++ y → SameHead y rest → (part b ≡ a) × (u b ++ t ≡ y)
part_same {A = A} FA ta SA FC tc S part u is bytes a rest first b t y f s e h =
    let flat : ta (part b) ++ (u b ++ t) ≡ ta a ++ y = sym (append_assoc (ta (part b)) (u b) t) ∙ ap (λ (l : List ℕ). l ++ t) (sym (is.text b f)) ∙ e in
    let p : part b ≡ a = first.only (part b) (u b ++ t) y (is.parts b f) (is.stops b t f s) flat h in
    (p, append_cancel_left (ta a) (u b ++ t) y (ap (λ (x : A). ta x ++ (u b ++ t)) (sym p) ∙ flat))

pub then_ends : {A C : Type 0} (FA : A → Type 0) (ta : A → List ℕ) (SA : List ℕ → Type 0) (FC : C → Type 0) (tc : C → List ℕ) (S : List ℕ → Type 0)
    (part : C → A) (u : C → List ℕ) → IsPart FA ta SA FC tc S part u → (bytes : List ℕ) (a : A) (rest : List ℕ) → IsRead FA ta SA bytes a rest
    → (r : Result (C × List ℕ) ℕ) → Reads (λ c. FC c × (part c ≡ a)) u S rest r → Reads FC tc S bytes r
then_ends {A = A} FA ta SA FC tc S part u is bytes a rest first (Ok x) second =
    let starts : tc x.0 ≡ ta a ++ u x.0 = is.text x.0 second.fits.0 ∙ ap (λ (b : A). ta b ++ u x.0) second.fits.1 in
    record {
      fits = second.fits.0;
      is = first.is ∙ ap (λ (l : List ℕ). ta a ++ l) second.is ∙ sym (append_assoc (ta a) (u x.0) x.1) ∙ ap (λ (l : List ℕ). l ++ x.1) (sym starts);
      only = λ b t y f s e h.
          let e' : tc b ++ t ≡ ta a ++ (u x.0 ++ y) = e ∙ ap (λ (l : List ℕ). l ++ y) starts ∙ append_assoc (ta a) (u x.0) y in
          let head : SameHead (u x.0 ++ y) rest = subst (λ (l : List ℕ). SameHead (u x.0 ++ y) l) (sym second.is) (SameHead-front (u x.0) y x.1 h) in
          let same = part_same FA ta SA FC tc S part u is bytes a rest first b t (u x.0 ++ y) f s e' head in
          second.only b t y (f, same.0) s same.1 h;
    }
then_ends {A = A} FA ta SA FC tc S part u is bytes a rest first (Err left) second =
    let starts : tc second.some ≡ ta a ++ u second.some = is.text second.some second.fits.0 ∙ ap (λ (b : A). ta b ++ u second.some) second.fits.1 in
    record {
      front = ta a ++ second.front;
      back = second.back;
      is = first.is ∙ ap (λ (l : List ℕ). ta a ++ l) second.is ∙ sym (append_assoc (ta a) second.front second.back);
      left_is = second.left_is;
      some = second.some;
      fits = second.fits.0;
      more = second.more;
      begun = starts ∙ ap (λ (l : List ℕ). ta a ++ l) second.begun ∙ sym (append_assoc (ta a) second.front second.more);
      none = λ b t y f s e h.
          let e' : tc b ++ t ≡ ta a ++ (second.front ++ y) = e ∙ append_assoc (ta a) second.front y in
          let head : SameHead (second.front ++ y) rest =
          subst (λ (l : List ℕ). SameHead (second.front ++ y) l) (sym second.is) (SameHead-front second.front y second.back h) in
          let same = part_same FA ta SA FC tc S part u is bytes a rest first b t (second.front ++ y) f s e' head in
          second.none b t y (f, same.0) s same.1 h;
    }

pub then_reads : {A C : Type 0} (FA : A → Type 0) (ta : A → List ℕ) (SA : List ℕ → Type 0) (FC : C → Type 0) (tc : C → List ℕ) (S : List ℕ → Type 0)
    (part : C → A) (u : C → List ℕ) → IsPart FA ta SA FC tc S part u → (bytes : List ℕ) (ra : Result (A × List ℕ) ℕ) (rc : A × List ℕ → Result (C × List ℕ) ℕ)
    → Reads FA ta SA bytes ra
    → ((a : A) (rest : List ℕ) → FA a → bytes ≡ ta a ++ rest → Reads (λ c. FC c × (part c ≡ a)) u S rest (rc (a, rest)))
    → Reads FC tc S bytes (ra >>= rc)
then_reads {A = A} FA ta SA FC tc S part u is bytes (Ok x) rc first second =
    then_ends FA ta SA FC tc S part u is bytes x.0 x.1 first (rc x) (second x.0 x.1 first.fits first.is)
then_reads {A = A} FA ta SA FC tc S part u is bytes (Err left) rc first second =
    let full = is.completes first.some first.fits in
    record {
      front = first.front;
      back = first.back;
      is = first.is;
      left_is = first.left_is;
      some = full.0;
      fits = full.1;
      more = first.more ++ u full.0;
      begun =
          is.text full.0 full.1 ∙ ap (λ (a : A). ta a ++ u full.0) full.2 ∙ ap (λ (l : List ℕ). l ++ u full.0) first.begun
          ∙ append_assoc first.front first.more (u full.0);
      none =
          λ b t y f s e h. first.none (part b) (u b ++ t) y (is.parts b f) (is.stops b t f s)
          (sym (append_assoc (ta (part b)) (u b) t) ∙ ap (λ (l : List ℕ). l ++ t) (sym (is.text b f)) ∙ e) h;
    }

-- ---- a word that is fixed, and what comes after it

pub cons_reads : {A : Type 0} (Fits : A → Type 0) (text u : A → List ℕ) (S : List ℕ → Type 0) (w : ℕ) (bytes : List ℕ) (r : Result (A × List ℕ) ℕ)
    → ((a : A) → Fits a → text a ≡ w ∷ u a) → Reads Fits u S bytes r → Reads Fits text S (w ∷ bytes) r
cons_reads Fits text u S w bytes (Ok x) is h = record {
  fits = h.fits;
  is = ap (λ (l : List ℕ). w ∷ l) h.is ∙ ap (λ (l : List ℕ). l ++ x.1) (sym (is x.0 h.fits));
  only = λ b t y f s e same.
      let flat : w ∷ (u b ++ t) ≡ w ∷ (u x.0 ++ y) = ap (λ (l : List ℕ). l ++ t) (sym (is b f)) ∙ e ∙ ap (λ (l : List ℕ). l ++ y) (is x.0 h.fits) in
      h.only b t y f s (cc) same;
}
cons_reads Fits text u S w bytes (Err left) is h = record {
  front = w ∷ h.front;
  back = h.back;
  is = ap (λ (l : List ℕ). w ∷ l) h.is;
  left_is = h.left_is;
  some = h.some;
  fits = h.fits;
  more = h.more;
  begun = is h.some h.fits ∙ ap (λ (l : List ℕ). w ∷ l) h.begun;
  none = λ b t y f s e same.
      let flat : w ∷ (u b ++ t) ≡ w ∷ (h.front ++ y) = ap (λ (l : List ℕ). l ++ t) (sym (is b f)) ∙ e in
      h.none b t y f s (cc) same;
}

-- nothing is read, since no text begins as the bytes do
pub stuck_reads : {A : Type 0} (Fits : A → Type 0) (text : A → List ℕ) (S : List ℕ → Type 0) (bytes : List ℕ) (some : A)
    → Fits some
    → ((b : A) (t : List ℕ) → Fits b → S t → SameHead (text b ++ t) bytes → ⊥)
    → Reads Fits text S bytes (Err (length bytes))
stuck_reads Fits text S bytes some fits none = record {
  front = [];
  back = bytes;
  is = refl;
  left_is = refl;
  some = some;
  fits = fits;
  more = text some;
  begun = refl;
  none = λ b t y f s e h. none b t f s (subst (λ (l : List ℕ). SameHead l bytes) (sym e) h);
}

word_step : {A : Type 0} (Fits : A → Type 0) (text u : A → List ℕ) (S : List ℕ → Type 0) (w : ℕ) (word : List ℕ) (b : ℕ) (bytes : List ℕ)
    (r : List ℕ → Result (A × List ℕ) ℕ) (some : A) → Fits some
    → ((a : A) → Fits a → text a ≡ w ∷ (word ++ u a)) → (same : Bool) → eqb w b ≡ same
    → (w ≡ b → Reads Fits (λ a. word ++ u a) S bytes (word_at word bytes >>= r))
    → Reads Fits text S (b ∷ bytes) (cond same (word_at word bytes) (Err (length (b ∷ bytes))) >>= r)
word_step Fits text u S w word b bytes r some fits is true e h =
    let p : w ≡ b = eqb-true w b e in
    cons_reads Fits text (λ a. word ++ u a) S b bytes (word_at word bytes >>= r) (λ a f. is a f ∙ ap (λ (x : ℕ). x ∷ (word ++ u a)) p) (h p)
word_step Fits text u S w word b bytes r some fits is false e h =
    stuck_reads Fits text S (b ∷ bytes) some fits (λ a t f s head.
    let p : w ≡ b = subst (λ (l : List ℕ). SameHead (l ++ t) (b ∷ bytes)) (is a f) head in
    eqb-false w b e p)

pub word_reads : {A : Type 0} (Fits : A → Type 0) (text u : A → List ℕ) (S : List ℕ → Type 0) (word bytes : List ℕ) (r : List ℕ → Result (A × List ℕ) ℕ)
    (some : A) → Fits some
    → ((a : A) → Fits a → text a ≡ word ++ u a)
    → ((rest : List ℕ) → bytes ≡ word ++ rest → Reads Fits u S rest (r rest))
    → Reads Fits text S bytes (word_at word bytes >>= r)
unfolding word_at
word_reads Fits text u S [] bytes r some fits is h = retext Fits u text S bytes (r bytes) (λ a f. sym (is a f)) (h bytes refl)
word_reads Fits text u S (w ∷ word) [] r some fits is h =
    stuck_reads Fits text S [] some fits (λ b t f s head. subst (λ (l : List ℕ). SameHead (l ++ t) []) (is b f) head)
word_reads Fits text u S (w ∷ word) (b ∷ bytes) r some fits is h =
    word_step Fits text u S w word b bytes r some fits is (eqb w b) refl
    (λ p. word_reads Fits (λ a. word ++ u a) u S word bytes r some fits (λ a f. refl)
    (λ rest e. h rest (ap (λ (l : List ℕ). b ∷ l) e ∙ ap (λ (x : ℕ). x ∷ (word ++ rest)) (sym p))))

-- ---- a value made of another, or one kind of several

-- C's texts that agree with the bytes in the first place are those of A
pub made_reads : {A C : Type 0} (FA : A → Type 0) (ta : A → List ℕ) (FC : C → Type 0) (tc : C → List ℕ) (S : List ℕ → Type 0) (make : A → C) (bytes : List ℕ)
    (r : Result (A × List ℕ) ℕ)
    → ((a : A) → FA a → FC (make a) × (tc (make a) ≡ ta a))
    → ((c : C) (t : List ℕ) → FC c → S t → SameHead (tc c ++ t) bytes → (a : A) × FA a × (make a ≡ c))
    → Reads FA ta S bytes r → Reads FC tc S bytes (r >>= λ x. Ok (make x.0, x.1))
made_reads {A = A} FA ta FC tc S make bytes (Ok x) into from h = record {
  fits = (into x.0 h.fits).0;
  is = h.is ∙ ap (λ (l : List ℕ). l ++ x.1) (sym (into x.0 h.fits).1);
  only = λ c t y f s e same.
      let e' : tc c ++ t ≡ ta x.0 ++ y = e ∙ ap (λ (l : List ℕ). l ++ y) (into x.0 h.fits).1 in
      let head : SameHead (ta x.0 ++ y) bytes = subst (λ (l : List ℕ). SameHead (ta x.0 ++ y) l) (sym h.is) (SameHead-front (ta x.0) y x.1 same) in
      let a = from c t f s (subst (λ (l : List ℕ). SameHead l bytes) (sym e') head) in
      let back : ta a.0 ≡ tc c = sym (into a.0 a.1).1 ∙ ap tc a.2 in
      let one : a.0 ≡ x.0 = h.only a.0 t y a.1 s (ap (λ (l : List ℕ). l ++ t) back ∙ e') same in
      sym a.2 ∙ ap make one;
}
made_reads FA ta FC tc S make bytes (Err left) into from h = record {
  front = h.front;
  back = h.back;
  is = h.is;
  left_is = h.left_is;
  some = make h.some;
  fits = (into h.some h.fits).0;
  more = h.more;
  begun = (into h.some h.fits).1 ∙ h.begun;
  none = λ c t y f s e same.
      let head : SameHead (h.front ++ y) bytes = subst (λ (l : List ℕ). SameHead (h.front ++ y) l) (sym h.is) (SameHead-front h.front y h.back same) in
      let a = from c t f s (subst (λ (l : List ℕ). SameHead l bytes) (sym e) head) in
      let back : ta a.0 ≡ tc c = sym (into a.0 a.1).1 ∙ ap tc a.2 in
      h.none a.0 t y a.1 s (ap (λ (l : List ℕ). l ++ t) back ∙ e) same;
}

-- the same texts, where only those of one kind begin as the bytes do
pub narrow_reads : {A : Type 0} (FA FC : A → Type 0) (text : A → List ℕ) (S : List ℕ → Type 0) (bytes : List ℕ) (r : Result (A × List ℕ) ℕ)
    → ((a : A) → FA a → FC a)
    → ((a : A) (t : List ℕ) → FC a → S t → SameHead (text a ++ t) bytes → FA a) → Reads FA text S bytes r
    → Reads FC text S bytes r
narrow_reads FA FC text S bytes (Ok x) into from h = record {
  fits = into x.0 h.fits;
  is = h.is;
  only = λ b t y f s e same.
      let head : SameHead (text x.0 ++ y) bytes = subst (λ (l : List ℕ). SameHead (text x.0 ++ y) l) (sym h.is) (SameHead-front (text x.0) y x.1 same) in
      h.only b t y (from b t f s (subst (λ (l : List ℕ). SameHead l bytes) (sym e) head)) s e same;
}
narrow_reads FA FC text S bytes (Err left) into from h = record {
  front = h.front;
  back = h.back;
  is = h.is;
  left_is = h.left_is;
  some = h.some;
  fits = into h.some h.fits;
  more = h.more;
  begun = h.begun;
  none = λ b t y f s e same.
      let head : SameHead (h.front ++ y) bytes = subst (λ (l : List ℕ). SameHead (h.front ++ y) l) (sym h.is) (SameHead-front h.front y h.back same) in
      h.none b t y (from b t f s (subst (λ (l : List ℕ). SameHead l bytes) (sym e) head)) s e same;
}
