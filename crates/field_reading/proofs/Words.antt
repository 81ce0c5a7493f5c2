-- One of several words, none of which begins another.
use Rattle.std.proofs.Common.{◌≡◌, ℕ, ◌≤◌, min, List, [], ◌∷◌, ◌++◌, length, codes, decimal, Bool, true, false, cond, eqb, ◌⊎◌, inl, inr, ⊎_elim, Result, Ok}
use Rattle.std.proofs.Common.{Err, refl, sym, ap, subst, ◌∙◌, append_assoc, arith, length-append}
use Rattle.std.proofs.lemmas.Bool.{cases_lt, eqb-false}
use Rattle.std.proofs.lemmas.List.{append-nil}
use Rattle.field_reading.specs.Reading.{◌>>=◌, word_at, known_pair_at, kind_or, kind_at, both_at, next_at}
use Rattle.text_writing.specs.Texts.{pair_text}
use Rattle.field_reading.specs.Reads.{SameHead, IsRead, IsBroken, Reads, Any, In, AreApart}
use Rattle.field_reading.proofs.Field.{SameHead-front, word_reads, then_reads, made_reads, done_reads, narrow_reads}

pub same_pair : {A B : Type 0} (p : A × B) (a : A) (b : B) → p.0 ≡ a → p.1 ≡ b → p ≡ (a, b)
same_pair {A = A} {B = B} p a b e h = let first : (p.0, p.1) ≡ (a, p.1) = ap (λ (x : A). (x, p.1)) e in first ∙ ap (λ (y : B). (a, y)) h

-- two fields with a word between
pub both_reads : {A B : Type 0} (FA : A → Type 0) (ta : A → List ℕ) (SA : List ℕ → Type 0) (first : List ℕ → Result (A × List ℕ) ℕ) (word : List ℕ)
    (FB : B → Type 0) (tb : B → List ℕ) (S : List ℕ → Type 0) (second : List ℕ → Result (B × List ℕ) ℕ) (nil : B) → FB nil
    → ((b : B) (t : List ℕ) → FB b → S t → SA (word ++ (tb b ++ t)))
    → ((bytes : List ℕ) → Reads FA ta SA bytes (first bytes)) → ((bytes : List ℕ) → Reads FB tb S bytes (second bytes))
    → (bytes : List ℕ)
    → Reads (λ p. FA p.0 × FB p.1) (λ p. ta p.0 ++ (word ++ tb p.1)) S bytes (both_at first word second bytes)
both_reads {A = A} {B = B} FA ta SA first word FB tb S second nil fits stops h k bytes =
    let F : A × B → Type 0 = λ p. FA p.0 × FB p.1 in
    then_reads FA ta SA (λ p. FA p.0 × FB p.1) (λ p. ta p.0 ++ (word ++ tb p.1)) S (λ p. p.0) (λ p. word ++ tb p.1)
    (record {
      parts = λ p f. f.0;
      text = λ p f. refl;
      stops = λ p t f s. subst SA (sym (append_assoc word (tb p.1) t)) (stops p.1 t f.1 s);
      completes = λ a f. ((a, nil), (f, fits), refl);
    })
    bytes (first bytes) (λ x. word_at word x.1 >>= λ between. second between >>= λ y. Ok ((x.0, y.0), y.1)) (h bytes)
    (λ a rest f e.
    word_reads (λ p. (FA p.0 × FB p.1) × (p.0 ≡ a)) (λ p. word ++ tb p.1) (λ p. tb p.1) S word rest (λ between. second between >>= λ y. Ok ((a, y.0), y.1))
    (a, nil) ((f, fits), refl) (λ p g. refl)
    (λ between e'.
    made_reads FB tb (λ p. (FA p.0 × FB p.1) × (p.0 ≡ a)) (λ p. tb p.1) S (λ b. (a, b)) between (second between) (λ b g. (((f, g), refl), refl))
    (λ p t g s head. (p.1, g.0.1, sym (same_pair p a p.1 g.1 refl))) (k between)))

-- two fields, one after the other
pub next_reads : {A B : Type 0} (FA : A → Type 0) (ta : A → List ℕ) (SA : List ℕ → Type 0) (first : List ℕ → Result (A × List ℕ) ℕ)
    (FB : B → Type 0) (tb : B → List ℕ) (S : List ℕ → Type 0) (second : List ℕ → Result (B × List ℕ) ℕ) (nil : B) → FB nil
    → ((b : B) (t : List ℕ) → FB b → S t → SA (tb b ++ t))
    → ((bytes : List ℕ) → Reads FA ta SA bytes (first bytes)) → ((bytes : List ℕ) → Reads FB tb S bytes (second bytes))
    → (bytes : List ℕ) → Reads (λ p. FA p.0 × FB p.1) (λ p. ta p.0 ++ tb p.1) S bytes (next_at first second bytes)
unfolding word_at
next_reads FA ta SA first FB tb S second nil fits stops h k bytes = both_reads FA ta SA first [] FB tb S second nil fits stops h k bytes

-- a field, and a word behind it
pub worded_reads : {A : Type 0} (F : A → Type 0) (text : A → List ℕ) (S : List ℕ → Type 0) (word : List ℕ)
    → ((t : List ℕ) → S (word ++ t))
    → (bytes : List ℕ) (r : Result (A × List ℕ) ℕ)
    → Reads F text S bytes r
    → Reads F (λ a. text a ++ word) Any bytes (r >>= λ x. word_at word x.1 >>= λ rest. Ok (x.0, rest))
worded_reads F text S word stops bytes r h =
    then_reads F text S F (λ a. text a ++ word) Any (λ a. a) (λ a. word)
    (record { parts = λ a f. f; text = λ a f. refl; stops = λ a t f s. stops t; completes = λ a f. (a, f, refl) })
    bytes r (λ x. word_at word x.1 >>= λ rest. Ok (x.0, rest)) h
    (λ a rest f e.
    word_reads (λ b. F b × (b ≡ a)) (λ b. word) (λ b. []) Any word rest (λ after. Ok (a, after)) a (f, refl) (λ b g. sym (append-nil word))
    (λ after e'. done_reads (λ b. F b × (b ≡ a)) Any after a (f, refl) (λ b g. g.1)))

-- two cuts of one list
pub cut_again : (f b g c : List ℕ) → f ++ b ≡ g ++ c → length b ≤ length c → (m : List ℕ) × (f ≡ g ++ m) × (c ≡ m ++ b)
cut_again f b [] c e le = (f, refl, sym e)
cut_again [] b (x ∷ g) c e le = absurd (omega (arith, ap length e, length-append (x ∷ g) c))
cut_again (y ∷ f) b (x ∷ g) c e le =
    let r = cut_again f b g c (cc) le in
    let p : y ≡ x = cc in
    (r.0, ap (λ (l : List ℕ). y ∷ l) r.1 ∙ ap (λ (k : ℕ). k ∷ (g ++ r.0)) p, r.2)

-- where neither of two kinds of text goes on, the further one of the two breaks is that of both
broken_both : {A : Type 0} (FA FB : A → Type 0) (text : A → List ℕ) (S : List ℕ → Type 0) (bytes : List ℕ) (l k : ℕ)
    → IsBroken FA text S bytes l
    → IsBroken FB text S bytes k → l ≤ k
    → IsBroken (λ a. FA a ⊎ FB a) text S bytes l
broken_both FA FB text S bytes l k first second le =
    let m = cut_again first.front first.back second.front second.back (sym first.is ∙ second.is) (omega (arith, first.left_is, second.left_is)) in
    record {
      front = first.front;
      back = first.back;
      is = first.is;
      left_is = first.left_is;
      some = first.some;
      fits = inl first.fits;
      more = first.more;
      begun = first.begun;
      none = λ b t y f s e h.
          ⊎_elim
          (λ fa. first.none b t y fa s e h)
          (λ fb. second.none b t (m.0 ++ y) fb s (e ∙ ap (λ (z : List ℕ). z ++ y) m.1 ∙ append_assoc second.front m.0 y)
          (subst (λ (z : List ℕ). SameHead (m.0 ++ y) z) (sym m.2) (SameHead-front m.0 y first.back h)))
          f;
    }

-- the same texts, told otherwise
pub refit : {A : Type 0} (FA FB : A → Type 0) (text : A → List ℕ) (S : List ℕ → Type 0) (bytes : List ℕ) (r : Result (A × List ℕ) ℕ)
    → ((a : A) → FA a → FB a) → ((a : A) → FB a → FA a) → Reads FA text S bytes r → Reads FB text S bytes r
refit FA FB text S bytes r into from h = narrow_reads FA FB text S bytes r into (λ a t f s head. from a f) h

pub one_word : {K : Type 0} (word : K → List ℕ) (k : K) (bytes : List ℕ)
    → Reads (λ j. j ≡ k) word Any bytes (word_at (word k) bytes >>= λ rest. Ok (k, rest))
one_word word k bytes =
    word_reads (λ j. j ≡ k) word (λ j. []) Any (word k) bytes (λ rest. Ok (k, rest)) k refl
    (λ j e. ap word e ∙ sym (append-nil (word k)))
    (λ rest e. done_reads (λ j. j ≡ k) Any rest k refl (λ d e. e))

-- a break leaves no more than there is
left_le : {A : Type 0} (FA : A → Type 0) (text : A → List ℕ) (S : List ℕ → Type 0) (bytes : List ℕ) (l : ℕ)
    → IsBroken FA text S bytes l → l ≤ length bytes
left_le FA text S bytes l h = omega (arith, h.left_is, ap length h.is, length-append h.front h.back)

kind_step : {K : Type 0} (word : K → List ℕ) (k : K) (kinds : List K) (bytes : List ℕ) (a : Result (List ℕ) ℕ) (b : Result (K × List ℕ) ℕ)
    → AreApart word (k ∷ kinds)
    → Reads (λ j. j ≡ k) word Any bytes (a >>= λ rest. Ok (k, rest)) → Reads (In kinds) word Any bytes b
    → Reads (In (k ∷ kinds)) word Any bytes (kind_or k a b)
kind_step word k kinds bytes (Ok rest) b apart first others = record { fits = inl refl; is = first.is; only = λ j t y f s e h. apart j k t y f (inl refl) e }
kind_step word k kinds bytes (Err left) (Ok x) apart first others =
    record { fits = inr others.fits; is = others.is; only = λ j t y f s e h. apart j x.0 t y f (inr others.fits) e }
kind_step word k kinds bytes (Err left) (Err other) apart first others =
    ⊎_elim
    (λ lt.
    let m : min left other ≡ left = omega arith in
    subst (λ (n : ℕ). IsBroken (In (k ∷ kinds)) word Any bytes n) (sym m)
    (broken_both (λ j. j ≡ k) (In kinds) word Any bytes left other first others (omega arith)))
    (λ le.
    let m : min left other ≡ other = omega arith in
    let both = broken_both (In kinds) (λ j. j ≡ k) word Any bytes other left others first le in
    subst (λ (n : ℕ). IsBroken (In (k ∷ kinds)) word Any bytes n) (sym m)
    (refit (λ j. In kinds j ⊎ (j ≡ k)) (In (k ∷ kinds)) word Any bytes (Err other) (λ j f. ⊎_elim (λ x. inr x) (λ x. inl x) f)
    (λ j f. ⊎_elim (λ x. inr x) (λ x. inl x) f) both))
    (cases_lt left other)

kind_last : {K : Type 0} (word : K → List ℕ) (k : K) (bytes : List ℕ) (a : Result (List ℕ) ℕ)
    → Reads (λ j. j ≡ k) word Any bytes (a >>= λ rest. Ok (k, rest))
    → Reads (In (k ∷ [])) word Any bytes (kind_or k a (Err (length bytes)))
kind_last word k bytes (Ok rest) first =
    refit (λ j. j ≡ k) (In (k ∷ [])) word Any bytes (Ok (k, rest)) (λ j f. inl f) (λ j f. ⊎_elim (λ x. x) (λ x. absurd x) f) first
kind_last word k bytes (Err left) first =
    let m : min left (length bytes) ≡ left = omega (arith, left_le (λ j. j ≡ k) word Any bytes left first) in
    subst (λ (n : ℕ). IsBroken (In (k ∷ [])) word Any bytes n) (sym m)
    (refit (λ j. j ≡ k) (In (k ∷ [])) word Any bytes (Err left) (λ j f. inl f) (λ j f. ⊎_elim (λ x. x) (λ x. absurd x) f) first)

pub kind_read : {K : Type 0} (word : K → List ℕ) (k : K) (kinds : List K) (bytes : List ℕ) → AreApart word (k ∷ kinds)
    → Reads (In (k ∷ kinds)) word Any bytes (kind_at word (k ∷ kinds) bytes)
unfolding kind_at
kind_read word k [] bytes apart = kind_last word k bytes (word_at (word k) bytes) (one_word word k bytes)
kind_read word k (j ∷ kinds) bytes apart =
    kind_step word k (j ∷ kinds) bytes (word_at (word k) bytes) (kind_at word (j ∷ kinds) bytes) apart (one_word word k bytes)
    (kind_read word j kinds bytes (λ a b t y fa fb e. apart a b t y (inr fa) (inr fb) e))

-- the words differ at some place that both have
abbrev pub apart_at : List ℕ → List ℕ → Bool
apart_at [] w = false
apart_at (a ∷ v) [] = false
apart_at (a ∷ v) (b ∷ w) = cond (eqb a b) (apart_at v w) true

apart_step : (a b : ℕ) (v w t y : List ℕ) (d : Bool) → eqb a b ≡ d → cond d (apart_at v w) true ≡ true
    → (apart_at v w ≡ true → v ++ t ≡ w ++ y → ⊥)
    → a ∷ (v ++ t) ≡ b ∷ (w ++ y) → ⊥
apart_step a b v w t y true d h next e = next h (cc)
apart_step a b v w t y false d h next e = eqb-false a b d (cc)

pub apart_is : (v w t y : List ℕ) → apart_at v w ≡ true → v ++ t ≡ w ++ y → ⊥
apart_is [] w t y h e = absurd cc
apart_is (a ∷ v) [] t y h e = absurd cc
apart_is (a ∷ v) (b ∷ w) t y h e = apart_step a b v w t y (eqb a b) refl h (λ h' e'. apart_is v w t y h' e') e

-- ---- words that are read in two parts

pub bind_ext : {A B : Type 0} (r : Result A ℕ) (f g : A → Result B ℕ) → ((x : A) → f x ≡ g x) → (r >>= f) ≡ (r >>= g)
bind_ext (Ok x) f g h = h x
bind_ext (Err left) f g h = refl

same_or : (both first : Result (List ℕ) ℕ) (second : List ℕ → Result (List ℕ) ℕ) (left : ℕ) (d : Bool)
    → both ≡ (first >>= second)
    → cond d both (Err left) ≡ (cond d first (Err left) >>= second)
same_or both first second left true e = e
same_or both first second left false e = refl

pub word_at_append : (a b bytes : List ℕ) → word_at (a ++ b) bytes ≡ (word_at a bytes >>= λ r. word_at b r)
unfolding word_at
word_at_append [] b bytes = refl
word_at_append (w ∷ a) b [] = refl
word_at_append (w ∷ a) b (x ∷ bytes) =
    same_or (word_at (a ++ b) bytes) (word_at a bytes) (λ r. word_at b r) (length (x ∷ bytes)) (eqb w x) (word_at_append a b bytes)

known_pair_is : (c k : ℕ) (bytes : List ℕ) → known_pair_at c k bytes ≡ word_at (pair_text c k) bytes
unfolding known_pair_at
known_pair_is c k bytes =
    sym (word_at_append (decimal c) (codes " " ++ decimal k) bytes
    ∙ bind_ext (word_at (decimal c) bytes) (λ a. word_at (codes " " ++ decimal k) a) (λ a. word_at (codes " ") a >>= λ b. word_at (decimal k) b)
    (λ a. word_at_append (codes " ") (decimal k) a))

pub known_pair_reads : {A : Type 0} (Fits : A → Type 0) (text u : A → List ℕ) (S : List ℕ → Type 0) (c k : ℕ) (bytes : List ℕ)
    (r : List ℕ → Result (A × List ℕ) ℕ) (some : A) → Fits some
    → ((a : A) → Fits a → text a ≡ pair_text c k ++ u a)
    → ((rest : List ℕ) → bytes ≡ pair_text c k ++ rest → Reads Fits u S rest (r rest))
    → Reads Fits text S bytes (known_pair_at c k bytes >>= r)
known_pair_reads {A = A} Fits text u S c k bytes r some fits is h =
    subst (λ (q : Result (List ℕ) ℕ). Reads Fits text S bytes (q >>= r)) (sym (known_pair_is c k bytes))
    (word_reads Fits text u S (pair_text c k) bytes r some fits is h)

-- what is left is no longer than what there was
pub rest_shorter : {A : Type 0} (Fits : A → Type 0) (text : A → List ℕ) (S : List ℕ → Type 0) (bytes : List ℕ) (r : Result (A × List ℕ) ℕ) (a : A)
    (rest : List ℕ) → Reads Fits text S bytes r → r ≡ Ok (a, rest) → length rest ≤ length bytes
rest_shorter {A = A} Fits text S bytes r a rest reads e =
    let h : IsRead Fits text S bytes a rest = subst (λ (q : Result (A × List ℕ) ℕ). Reads Fits text S bytes q) e reads in
    omega (arith, ap length h.is, length-append (text a) rest)

pub word_shorter : (word bytes rest : List ℕ) → word_at word bytes ≡ Ok rest → length rest ≤ length bytes
word_shorter word bytes rest e =
    let found : (word_at word bytes >>= λ left. Ok (word, left)) ≡ Ok (word, rest) = ap (λ (q : Result (List ℕ) ℕ). q >>= λ left. Ok (word, left)) e in
    rest_shorter (λ j. j ≡ word) (λ (x : List ℕ). x) Any bytes (word_at word bytes >>= λ left. Ok (word, left)) word rest
    (one_word (λ (x : List ℕ). x) word bytes) found
