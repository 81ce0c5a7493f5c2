-- Pairs, constraints and walks are read as they are written.
use Rattle.std.proofs.Common.{◌≡◌, ℕ, List, [], ◌∷◌, ◌++◌, length, codes, decimal, inl, inr, refl, subst, arith}
use Rattle.std.specs.List.{flat_map}
use Rattle.std.proofs.lemmas.List.Elements.{All-get_or, All-from_get_or}
use Rattle.choice_tree.specs.declared.constraint.Constraint.{Constraint}
use Rattle.choice_tree.specs.declared.constraint.Constraint.TheVariants.{Min, Max, Entry, Visit, Repeat, Decided}
use Rattle.text_writing.specs.Texts.{end, pair_text}
use Rattle.answer_text.specs.declared.words.TokenKind.{TokenKind}
use Rattle.answer_text.specs.declared.words.TokenKind.TheVariants as tokens
use Rattle.answer_text.specs.Limits.{most_carrier, most_stage, most_decision, most_tokens}
use Rattle.answer_text.specs.Words.{token_word}
use Rattle.answer_text.specs.Fields.{token_text, walk_text, IsToken, IsWalk}
use Rattle.field_reading.specs.Reading.{number_at, kind_at, items_at}
use Rattle.answer_read.specs.Lines.{token_kinds, pair_at, token_rest, token_at, walk_at, walk_line_at}
use Rattle.field_reading.specs.Reads.{SameHead, Reads, NoDigit, InRange, Any, In, AreApart}
use Rattle.field_reading.proofs.Field.{then_reads, made_reads, retext}
use Rattle.field_reading.proofs.Numbers.{number_read}
use Rattle.field_reading.proofs.Words.{kind_read, apart_is, refit, both_reads, worded_reads}
use Rattle.field_reading.proofs.Items.{IsItem, AllFrom, texts_from, nils, length_nils, all_nils, stops_after, items_read, texts_are, all_at, all_from}

abbrev pub FitsPair : ℕ × ℕ → Type 0
FitsPair p = InRange 0 most_carrier p.0 × InRange 0 most_stage p.1

abbrev pub text_of_pair : ℕ × ℕ → List ℕ
text_of_pair p = pair_text p.0 p.1

pub pair_read : (bytes : List ℕ) → Reads FitsPair text_of_pair NoDigit bytes (pair_at bytes)
unfolding pair_at
pair_read bytes =
    both_reads (InRange 0 most_carrier) decimal NoDigit (number_at 0 most_carrier) (codes " ") (InRange 0 most_stage) decimal NoDigit
    (number_at 0 most_stage) 0 (omega arith, omega arith) (λ k t f s. refl)
    (λ b. number_read 0 most_carrier b (omega arith) (omega arith) (omega arith))
    (λ b. number_read 0 most_stage b (omega arith) (omega arith) (omega arith)) bytes

-- ---- constraints

abbrev kind_of : Constraint → TokenKind
kind_of (Min c k) = tokens.Min
kind_of (Max c k) = tokens.Max
kind_of (Entry c) = tokens.Entry
kind_of (Visit c k) = tokens.Visit
kind_of (Repeat c k) = tokens.Repeat
kind_of (Decided i) = tokens.Decided

-- what stands behind the letter
abbrev after_word : Constraint → List ℕ
after_word (Min c k) = pair_text c k
after_word (Max c k) = pair_text c k
after_word (Entry c) = decimal c
after_word (Visit c k) = pair_text c k
after_word (Repeat c k) = pair_text c k
after_word (Decided i) = decimal i

token_split : (t : Constraint) → token_text t ≡ token_word (kind_of t) ++ after_word t
token_split (Min c k) = refl
token_split (Max c k) = refl
token_split (Entry c) = refl
token_split (Visit c k) = refl
token_split (Repeat c k) = refl
token_split (Decided i) = refl

kind_in : (t : TokenKind) → In token_kinds t
kind_in tokens.Min = inl refl
kind_in tokens.Max = inr (inl refl)
kind_in tokens.Entry = inr (inr (inl refl))
kind_in tokens.Visit = inr (inr (inr (inl refl)))
kind_in tokens.Repeat = inr (inr (inr (inr (inl refl))))
kind_in tokens.Decided = inr (inr (inr (inr (inr (inl refl)))))

-- some constraint of each kind
token_of : (k : TokenKind) → (t : Constraint) × IsToken t × (kind_of t ≡ k)
token_of tokens.Min = (Min 0 0, (omega arith, omega arith), refl)
token_of tokens.Max = (Max 0 0, (omega arith, omega arith), refl)
token_of tokens.Entry = (Entry 0, omega arith, refl)
token_of tokens.Visit = (Visit 0 0, (omega arith, omega arith), refl)
token_of tokens.Repeat = (Repeat 0 0, (omega arith, omega arith), refl)
token_of tokens.Decided = (Decided 0, omega arith, refl)

tokens_apart : AreApart token_word token_kinds
tokens_apart tokens.Min tokens.Min t y f g e = refl
tokens_apart tokens.Max tokens.Max t y f g e = refl
tokens_apart tokens.Entry tokens.Entry t y f g e = refl
tokens_apart tokens.Visit tokens.Visit t y f g e = refl
tokens_apart tokens.Repeat tokens.Repeat t y f g e = refl
tokens_apart tokens.Decided tokens.Decided t y f g e = refl
tokens_apart j k t y f g e = absurd (apart_is (token_word j) (token_word k) t y refl e)

abbrev Token : TokenKind → Constraint → Type 0
Token k t = IsToken t × (kind_of t ≡ k)

rest_read : (k : TokenKind) (bytes : List ℕ) → Reads (Token k) after_word NoDigit bytes (token_rest k bytes)
unfolding token_rest
rest_read tokens.Min bytes =
    made_reads FitsPair text_of_pair (Token tokens.Min) after_word NoDigit (λ p. Min p.0 p.1) bytes (pair_at bytes)
    (λ p f. (((f.0.1, f.1.1), refl), refl)) from (pair_read bytes)
  where
    from : (t : Constraint) (x : List ℕ) → Token tokens.Min t → NoDigit x → SameHead (after_word t ++ x) bytes
        → (p : ℕ × ℕ) × FitsPair p × (Min p.0 p.1 ≡ t)
    from (Min c k) x f s h = ((c, k), ((omega arith, f.0.0), (omega arith, f.0.1)), refl)
    from t x f s h = let e = f.1 in absurd cc
rest_read tokens.Max bytes =
    made_reads FitsPair text_of_pair (Token tokens.Max) after_word NoDigit (λ p. Max p.0 p.1) bytes (pair_at bytes)
    (λ p f. (((f.0.1, f.1.1), refl), refl)) from (pair_read bytes)
  where
    from : (t : Constraint) (x : List ℕ) → Token tokens.Max t → NoDigit x → SameHead (after_word t ++ x) bytes
        → (p : ℕ × ℕ) × FitsPair p × (Max p.0 p.1 ≡ t)
    from (Max c k) x f s h = ((c, k), ((omega arith, f.0.0), (omega arith, f.0.1)), refl)
    from t x f s h = let e = f.1 in absurd cc
rest_read tokens.Entry bytes =
    made_reads (InRange 0 most_carrier) decimal (Token tokens.Entry) after_word NoDigit (λ c. Entry c) bytes (number_at 0 most_carrier bytes)
    (λ c f. ((f.1, refl), refl)) from
    (number_read 0 most_carrier bytes (omega arith) (omega arith) (omega arith))
  where
    from : (t : Constraint) (x : List ℕ) → Token tokens.Entry t → NoDigit x → SameHead (after_word t ++ x) bytes
        → (c : ℕ) × InRange 0 most_carrier c × (Entry c ≡ t)
    from (Entry c) x f s h = (c, (omega arith, f.0), refl)
    from t x f s h = let e = f.1 in absurd cc
rest_read tokens.Visit bytes =
    made_reads FitsPair text_of_pair (Token tokens.Visit) after_word NoDigit (λ p. Visit p.0 p.1) bytes (pair_at bytes)
    (λ p f. (((f.0.1, f.1.1), refl), refl)) from (pair_read bytes)
  where
    from : (t : Constraint) (x : List ℕ) → Token tokens.Visit t → NoDigit x → SameHead (after_word t ++ x) bytes
        → (p : ℕ × ℕ) × FitsPair p × (Visit p.0 p.1 ≡ t)
    from (Visit c k) x f s h = ((c, k), ((omega arith, f.0.0), (omega arith, f.0.1)), refl)
    from t x f s h = let e = f.1 in absurd cc
rest_read tokens.Repeat bytes =
    made_reads FitsPair text_of_pair (Token tokens.Repeat) after_word NoDigit (λ p. Repeat p.0 p.1) bytes (pair_at bytes)
    (λ p f. (((f.0.1, f.1.1), refl), refl)) from (pair_read bytes)
  where
    from : (t : Constraint) (x : List ℕ) → Token tokens.Repeat t → NoDigit x → SameHead (after_word t ++ x) bytes
        → (p : ℕ × ℕ) × FitsPair p × (Repeat p.0 p.1 ≡ t)
    from (Repeat c k) x f s h = ((c, k), ((omega arith, f.0.0), (omega arith, f.0.1)), refl)
    from t x f s h = let e = f.1 in absurd cc
rest_read tokens.Decided bytes =
    made_reads (InRange 0 most_decision) decimal (Token tokens.Decided) after_word NoDigit (λ i. Decided i) bytes (number_at 0 most_decision bytes)
    (λ i f. ((f.1, refl), refl)) from
    (number_read 0 most_decision bytes (omega arith) (omega arith) (omega arith))
  where
    from : (t : Constraint) (x : List ℕ) → Token tokens.Decided t → NoDigit x → SameHead (after_word t ++ x) bytes
        → (i : ℕ) × InRange 0 most_decision i × (Decided i ≡ t)
    from (Decided i) x f s h = (i, (omega arith, f.0), refl)
    from t x f s h = let e = f.1 in absurd cc

token_read : (bytes : List ℕ) → Reads IsToken token_text NoDigit bytes (token_at bytes)
unfolding token_at
token_read bytes =
    then_reads (In token_kinds) token_word Any IsToken token_text NoDigit kind_of after_word
    (record { parts = λ t f. kind_in (kind_of t); text = λ t f. token_split t; stops = λ t x f s. tt; completes = λ k f. token_of k })
    bytes (kind_at token_word token_kinds bytes) (λ x. token_rest x.0 x.1)
    (kind_read token_word tokens.Min (tokens.Max ∷ tokens.Entry ∷ tokens.Visit ∷ tokens.Repeat ∷ tokens.Decided ∷ []) bytes tokens_apart)
    (λ k rest f e. rest_read k rest)

blank_first : (t : Constraint) (x : List ℕ) → NoDigit (token_text t ++ x)
blank_first (Min c k) x = refl
blank_first (Max c k) x = refl
blank_first (Entry c) x = refl
blank_first (Visit c k) x = refl
blank_first (Repeat c k) x = refl
blank_first (Decided i) x = refl

token_item : IsItem (λ i. IsToken) (λ i. token_text) NoDigit (λ i. token_at) (λ i. Entry 0)
token_item = record { reads = λ i. token_read; stops = λ i t x f s. blank_first t x; nil_fits = λ i. omega arith }

-- ---- walks

walk_into : (w : List Constraint) → InRange 1 most_tokens (length w) → AllFrom (λ i. IsToken) 0 w → IsWalk w
walk_into w f all = record { some = f.0; few = f.1; tokens = All-from_get_or IsToken w (Entry 0) (λ j lt. all_at (λ i. IsToken) (Entry 0) 0 w all j lt) }

walk_from : (w : List Constraint) → IsWalk w → AllFrom (λ i. IsToken) 0 w
walk_from w f = all_from (λ i. IsToken) (Entry 0) 0 w (λ j lt. All-get_or IsToken w j (Entry 0) lt f.tokens)

pub walk_read : (bytes : List ℕ) → Reads IsWalk walk_text NoDigit bytes (walk_at bytes)
unfolding walk_at
walk_read bytes =
    then_reads (InRange 1 most_tokens) decimal NoDigit IsWalk walk_text NoDigit length (λ w. flat_map token_text w)
    (record {
      parts = λ w f. (f.some, f.few);
      text = λ w f. refl;
      stops =
          λ w t f s. subst (λ (l : List ℕ). NoDigit (l ++ t)) (texts_are token_text 0 w)
          (stops_after (λ i. IsToken) (λ i. token_text) NoDigit token_item.stops 0 w t (walk_from w f) s);
      completes = λ n f.
          let w : List Constraint = nils (λ i. Entry 0) 0 n in
          let e : length w ≡ n = length_nils (λ i. Entry 0) 0 n in
          (w, walk_into w (omega (arith, f.0, e), omega (arith, f.1, e)) (all_nils (λ i. IsToken) (λ i. Entry 0) 0 n token_item.nil_fits), e);
    })
    bytes (number_at 1 most_tokens bytes) (λ x. items_at (λ i. token_at) 0 x.0 x.1) (number_read 1 most_tokens bytes (omega arith) (omega arith) (omega arith))
    (λ n rest f e.
    refit (λ xs. (length xs ≡ n) × AllFrom (λ i. IsToken) 0 xs) (λ w. IsWalk w × (length w ≡ n)) (λ w. flat_map token_text w) NoDigit rest
    (items_at (λ i. token_at) 0 n rest)
    (λ w g. (walk_into w (omega (arith, f.0, g.0), omega (arith, f.1, g.0)) g.1, g.0)) (λ w g. (g.1, walk_from w g.0))
    (retext (λ xs. (length xs ≡ n) × AllFrom (λ i. IsToken) 0 xs) (λ xs. texts_from (λ i. token_text) 0 xs) (λ w. flat_map token_text w) NoDigit rest
    (items_at (λ i. token_at) 0 n rest)
    (λ w g. texts_are token_text 0 w)
    (items_read (λ i. IsToken) (λ i. token_text) NoDigit (λ i. token_at) (λ i. Entry 0) token_item 0 n rest)))

-- some walk
pub a_walk : (w : List Constraint) × IsWalk w
a_walk = (Entry 0 ∷ [], walk_into (Entry 0 ∷ []) (omega arith, omega arith) (omega arith, tt))

abbrev pub walk_line : List Constraint → List ℕ
walk_line w = walk_text w ++ end

pub walk_line_read : (bytes : List ℕ) → Reads IsWalk walk_line Any bytes (walk_line_at bytes)
unfolding walk_line_at
walk_line_read bytes = worded_reads IsWalk walk_text NoDigit end (λ t. refl) bytes (walk_at bytes) (walk_read bytes)
