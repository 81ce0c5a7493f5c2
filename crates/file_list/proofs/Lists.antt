-- How a list is cut into its names, where bytes stop being one, and what one byte more makes of a front.
use Rattle.std.proofs.Common.{◌≡◌, ℕ, suc, ◌-◌, ◌<◌, ◌≤◌, ◌⊎◌, inl, inr, ⊎_elim, List, [], ◌∷◌, ◌++◌, length, take, drop, get_or, All, refl, sym, ap, subst, ◌∙◌}
use Rattle.std.proofs.Common.{append_assoc, arith, length-append}
use Rattle.std.specs.Prelude.{IsUtf8}
use Rattle.std.proofs.Math.Seq.{drop-cons}
use Rattle.std.proofs.lemmas.Grind.{flat_map-append}
use Rattle.std.proofs.lemmas.List.{append-nil, length-drop, take-append-drop}
use Rattle.std.proofs.lemmas.List.Concat.{flat_map-cons}
use Rattle.std.proofs.lemmas.List.Elements.{All-head, All-tail, All-cons, All-nil, All-append}
use Rattle.std.proofs.lemmas.Str.{IsUtf8-from_ascii}
use Rattle.std.proofs.lemmas.Str.Ascii.{IsAscii-from_all}
use Rattle.text_writing.specs.Texts.{end}
use Rattle.field_reading.specs.Fronts.{GoesOn, BreaksAt}
use Rattle.field_reading.specs.Reads.{SameHead}
use Rattle.field_reading.proofs.Wholes.{breaks_at}
use Rattle.file_list.specs.declared.read.ListRead.{ListRead}
use Rattle.file_list.specs.declared.read.ListRead.TheVariants.{Ready, Broken}
use Rattle.file_list.specs.FileList.{IsSeen, HasNoDash, IsName, IsFileList, list_text, IsListRead}
use Rattle.file_list.specs.Front.{IsFront, front_text, CanFollow, IsStuck}

-- ---- cuts

-- two lines are cut at the same place
line_cut : (n m x y : List ℕ) → All IsSeen n → All IsSeen m → n ++ 10 ∷ x ≡ m ++ 10 ∷ y → (n ≡ m) × (x ≡ y)
line_cut [] [] x y s t e = (refl, cc)
line_cut [] (b ∷ m) x y s t e = let h : 10 ≡ b = cc in let seen = All-head IsSeen b m t in absurd (omega (arith, h, seen.0))
line_cut (a ∷ n) [] x y s t e = let h : a ≡ 10 = cc in let seen = All-head IsSeen a n s in absurd (omega (arith, h, seen.0))
line_cut (a ∷ n) (b ∷ m) x y s t e =
    let h : a ≡ b = cc in
    let rest : n ++ 10 ∷ x ≡ m ++ 10 ∷ y = cc in
    let r = line_cut n m x y (All-tail IsSeen a n s) (All-tail IsSeen b m t) rest in
    (ap (λ (z : ℕ). z ∷ n) h ∙ ap (λ (l : List ℕ). b ∷ l) r.0, r.1)

list_cons : (n : List ℕ) (ns : List (List ℕ)) → list_text (n ∷ ns) ≡ n ++ 10 ∷ list_text ns
list_cons n ns = flat_map-cons (λ (name : List ℕ). name ++ end) n ns ∙ append_assoc n end (list_text ns)

-- a list that begins with these names has more names behind them, whose text is the rest
list_cut : (names ns : List (List ℕ)) (rest : List ℕ) → All IsName names → All IsName ns
    → list_text ns ≡ list_text names ++ rest
    → (ms : List (List ℕ)) × (ns ≡ names ++ ms) × All IsName ms × (list_text ms ≡ rest)
list_cut [] ns rest f g e = (ns, refl, g, e)
list_cut (n ∷ names) [] rest f g e =
    let h : [] ≡ (n ++ 10 ∷ list_text names) ++ rest = e ∙ ap (λ (l : List ℕ). l ++ rest) (list_cons n names) in
    absurd (omega (arith, ap length h, length-append (n ++ 10 ∷ list_text names) rest, length-append n (10 ∷ list_text names)))
list_cut (n ∷ names) (m ∷ ns) rest f g e =
    let flat : m ++ 10 ∷ list_text ns ≡ n ++ 10 ∷ (list_text names ++ rest) =
    sym (list_cons m ns) ∙ e ∙ ap (λ (l : List ℕ). l ++ rest) (list_cons n names) ∙ append_assoc n (10 ∷ list_text names) rest in
    let nf = All-head IsName n names f in
    let mf = All-head IsName m ns g in
    let c = line_cut m n (list_text ns) (list_text names ++ rest) mf.seen nf.seen flat in
    let r = list_cut names ns rest (All-tail IsName n names f) (All-tail IsName m ns g) c.1 in
    (r.0, ap (λ (z : List ℕ). z ∷ ns) c.0 ∙ ap (λ (l : List (List ℕ)). n ∷ l) r.1, r.2, r.3)

-- a line that agrees with a name and a byte: the byte ends it, or stands in it
name_goes : (n name x y : List ℕ) (b : ℕ) → All IsSeen name → n ++ 10 ∷ x ≡ name ++ b ∷ y
    → ((n ≡ name) × (b ≡ 10)) ⊎ ((k : List ℕ) × (n ≡ name ++ b ∷ k))
name_goes [] [] x y b s e = inl (refl, cc)
name_goes [] (c ∷ name) x y b s e = let h : 10 ≡ c = cc in let seen = All-head IsSeen c name s in absurd (omega (arith, h, seen.0))
name_goes (a ∷ n) [] x y b s e = let h : a ≡ b = cc in inr (n, ap (λ (z : ℕ). z ∷ n) h)
name_goes (a ∷ n) (c ∷ name) x y b s e =
    let h : a ≡ c = cc in
    let rest : n ++ 10 ∷ x ≡ name ++ b ∷ y = cc in
    ⊎_elim
    (λ r. inl (ap (λ (z : ℕ). z ∷ n) h ∙ ap (λ (l : List ℕ). c ∷ l) r.0, r.1))
    (λ r. inr (r.0, ap (λ (z : ℕ). z ∷ n) h ∙ ap (λ (l : List ℕ). c ∷ l) r.1))
    (name_goes n name x y b (All-tail IsSeen c name s) rest)

seen_in : (name k : List ℕ) (b : ℕ) → All IsSeen (name ++ b ∷ k) → IsSeen b
seen_in [] k b s = All-head IsSeen b k s
seen_in (c ∷ name) k b s = seen_in name k b (All-tail IsSeen c (name ++ b ∷ k) s)

first_no_dash : (name k : List ℕ) (b : ℕ) → HasNoDash (name ++ b ∷ k) → name ≡ [] → b ≡ 45 → ⊥
first_no_dash [] k b f none = f
first_no_dash (c ∷ name) k b f none = absurd (omega (arith, ap length none))

-- ---- where no list goes on

stuck_rest : (names : List (List ℕ)) (name y : List ℕ) (b : ℕ) (ns ms : List (List ℕ)) → IsFront names name
    → IsStuck names name b → IsFileList ns
    → ns ≡ names ++ ms → All IsName ms → list_text ms ≡ name ++ b ∷ y → ⊥
stuck_rest names name y b ns [] front stuck list is each e =
    absurd (omega (arith, ap length e, length-append name (b ∷ y)))
stuck_rest names name y b ns (n ∷ ms) front stuck list is each e =
    let nf = All-head IsName n ms each in
    ⊎_elim
    (λ r.
    let none : name ≡ [] = stuck.no_end r.1 in
    omega (arith, nf.some, ap length r.0, ap length none))
    (λ r.
    let long = ap length r.1 ∙ length-append name (b ∷ r.0) in
    let many = ap length is ∙ length-append names (n ∷ ms) in
    stuck.no_more (record {
      seen = seen_in name r.0 b (subst (All IsSeen) r.1 nf.seen);
      short = omega (arith, nf.few, long);
      no_dash = first_no_dash name r.0 b (subst HasNoDash r.1 nf.no_dash);
      room = omega (arith, list.few, many);
    }))
    (name_goes n name (list_text ms) y b front.seen (sym (list_cons n ms) ∙ e))

-- no list begins with the front and a byte with which it is stuck
no_list : (names : List (List ℕ)) (name y : List ℕ) (b : ℕ) (ns : List (List ℕ)) → IsFront names name
    → IsStuck names name b → IsFileList ns
    → list_text ns ≡ front_text names name ++ b ∷ y → ⊥
no_list names name y b ns front stuck list e =
    let c = list_cut names ns (name ++ b ∷ y) front.each list.each (e ∙ append_assoc (list_text names) name (b ∷ y)) in
    stuck_rest names name y b ns c.0 front stuck list c.1 c.2 c.3

-- ---- where some list goes on

joined : (names : List (List ℕ)) (name : List ℕ) → list_text (names ++ name ∷ []) ≡ front_text names name ++ end
joined names name =
    flat_map-append (λ (n : List ℕ). n ++ end) names (name ∷ []) ∙ ap (λ (l : List ℕ). list_text names ++ l) (list_cons name [])
    ∙ sym (append_assoc (list_text names) name end)

letter : IsName (97 ∷ [])
letter = record {
  some = omega arith;
  few = omega arith;
  seen = All-cons IsSeen 97 [] (omega arith, omega arith) (All-nil IsSeen);
  no_dash = λ e. omega (arith, e);
}

front_goes : (names : List (List ℕ)) (name : List ℕ) → IsFront names name
    → GoesOn IsFileList list_text (front_text names name)
front_goes [] [] front =
    ((97 ∷ []) ∷ [], 97 ∷ 10 ∷ [], record { some = omega arith; few = omega arith; each = All-cons IsName (97 ∷ []) [] letter (All-nil IsName) }, refl)
front_goes (n ∷ names) [] front = (
  n ∷ names,
  [],
  record { some = omega arith; few = front.few; each = front.each },
  sym (append-nil (list_text (n ∷ names) ++ []) ∙ append-nil (list_text (n ∷ names))),
)
front_goes names (b ∷ name) front =
    let whole : IsName (b ∷ name) = record { some = omega arith; few = front.short; seen = front.seen; no_dash = front.no_dash } in
    let count = length-append names ((b ∷ name) ∷ []) in
    let room = front.room (omega arith) in (
      names ++ (b ∷ name) ∷ [],
      end,
      record {
        some = omega (arith, count);
        few = omega (arith, count, room);
        each = All-append IsName names ((b ∷ name) ∷ []) front.each (All-cons IsName (b ∷ name) [] whole (All-nil IsName));
      },
      joined names (b ∷ name),
    )

-- ---- breaks

same_head : (y back : List ℕ) (b : ℕ) → SameHead y (b ∷ back) → (z : List ℕ) × (y ≡ b ∷ z)
same_head [] back b h = absurd h
same_head (c ∷ y) back b h = (y, ap (λ (x : ℕ). x ∷ y) h)

-- the bytes break where the front before a byte is stuck with it
pub stuck_breaks : (bytes : List ℕ) (i : ℕ) (names : List (List ℕ)) (name : List ℕ) → i < length bytes
    → take i bytes ≡ front_text names name
    → IsFront names name → IsStuck names name (get_or bytes i 0) → BreaksAt IsFileList list_text bytes i
stuck_breaks bytes i names name lt is front stuck =
    let b = get_or bytes i 0 in
    let back = drop (suc i) bytes in
    let whole : bytes ≡ front_text names name ++ b ∷ back =
    sym (take-append-drop i bytes) ∙ ap (λ (l : List ℕ). l ++ drop i bytes) is ∙ ap (λ (l : List ℕ). front_text names name ++ l) (drop-cons bytes i 0 lt) in
    let long = length-drop (suc i) bytes in
    let at : length bytes - length (b ∷ back) ≡ i = omega (arith, long, lt) in
    subst (BreaksAt IsFileList list_text bytes) at
    (breaks_at IsFileList list_text bytes (front_text names name) (b ∷ back) (length (b ∷ back)) whole refl (front_goes names name front)
    (λ ns y list e same.
    let s = same_head y back b same in
    no_list names name s.0 b ns front stuck list (e ∙ ap (λ (l : List ℕ). front_text names name ++ l) s.1)))

no_more : (y : List ℕ) → SameHead y [] → y ≡ []
no_more [] h = refl
no_more (b ∷ y) h = absurd h

unended : (names : List (List ℕ)) (name : List ℕ) (ns ms : List (List ℕ)) → IsFront names name
    → ((names ≡ []) ⊎ (1 ≤ length name)) → IsFileList ns
    → ns ≡ names ++ ms → list_text ms ≡ name → ⊥
unended names name ns [] front unfinished list is e =
    ⊎_elim (λ none. omega (arith, list.some, ap length is, length-append names [], ap length none)) (λ some. omega (arith, some, ap length e)) unfinished
unended names name ns (n ∷ ms) front unfinished list is e =
    let s : IsSeen 10 = seen_in n (list_text ms) 10 (subst (All IsSeen) (sym (sym (list_cons n ms) ∙ e)) front.seen) in
    omega (arith, s.0)

-- the bytes break at their end where no name was read, or one isn't ended
pub end_breaks : (bytes : List ℕ) (names : List (List ℕ)) (name : List ℕ) → bytes ≡ front_text names name
    → IsFront names name
    → ((names ≡ []) ⊎ (1 ≤ length name)) → BreaksAt IsFileList list_text bytes (length bytes)
end_breaks bytes names name is front unfinished =
    let at : length bytes - 0 ≡ length bytes = omega arith in
    subst (BreaksAt IsFileList list_text bytes) at
    (breaks_at IsFileList list_text bytes (front_text names name) [] 0 (is ∙ sym (append-nil (front_text names name))) refl (front_goes names name front)
    (λ ns y list e same.
    let none = no_more y same in
    let whole : list_text ns ≡ list_text names ++ name =
    e ∙ ap (λ (l : List ℕ). front_text names name ++ l) none ∙ append-nil (front_text names name) in
    let c = list_cut names ns name front.each list.each whole in
    unended names name ns c.0 front unfinished list c.1 c.3))

-- ---- whole lists

-- where every name is ended, the bytes are the list
pub whole_list : (bytes : List ℕ) (names : List (List ℕ)) (name : List ℕ) → bytes ≡ front_text names name
    → IsFront names name
    → 1 ≤ length names → name ≡ [] → IsFileList names × (bytes ≡ list_text names)
whole_list bytes names name is front some none =
    (record { some = some; few = front.few; each = front.each }, is ∙ ap (λ (l : List ℕ). list_text names ++ l) none ∙ append-nil (list_text names))

empty_text : (ms : List (List ℕ)) → list_text ms ≡ [] → ms ≡ []
empty_text [] e = refl
empty_text (m ∷ ms) e = absurd (omega (arith, ap length (sym (list_cons m ms) ∙ e), length-append m (10 ∷ list_text ms)))

list_is_one : (names ns : List (List ℕ)) → IsFileList names → IsFileList ns → list_text ns ≡ list_text names
    → ns ≡ names
list_is_one names ns f g e =
    let c = list_cut names ns [] f.each g.each (e ∙ sym (append-nil (list_text names))) in
    c.1 ∙ ap (λ (l : List (List ℕ)). names ++ l) (empty_text c.0 c.3) ∙ append-nil names

-- a right answer about the text of a list is that list
pub only_one : (bytes : List ℕ) (r : ListRead) (names : List (List ℕ)) → IsListRead bytes r → IsFileList names
    → bytes ≡ list_text names → r ≡ Ready names
only_one bytes (Ready ns) names read list is = ap (λ (l : List (List ℕ)). Ready l) (list_is_one names ns list read.0 (sym read.1 ∙ is))
only_one bytes (Broken offset) names read list is = absurd (read.no_text names list is)

-- ---- one byte more

-- a name is text
pub name_utf8 : (name : List ℕ) → IsName name → IsUtf8 name
name_utf8 name is = IsUtf8-from_ascii name (IsAscii-from_all name (λ k d lt. omega (arith, (is.seen k d lt).1)))

pub no_front : IsFront [] []
no_front = record {
  each = All-nil IsName;
  few = omega arith;
  seen = All-nil IsSeen;
  short = omega arith;
  no_dash = tt;
  room = λ some. omega (arith, some);
}

-- a name that was begun is a name
pub begun_name : (names : List (List ℕ)) (name : List ℕ) → IsFront names name → 1 ≤ length name → IsName name
begun_name names name front some = record { some = some; few = front.short; seen = front.seen; no_dash = front.no_dash }

pub ended_front : (names : List (List ℕ)) (name : List ℕ) → IsFront names name → 1 ≤ length name
    → IsFront (names ++ name ∷ []) []
ended_front names name front some =
    let count = length-append names (name ∷ []) in
    record {
      each = All-append IsName names (name ∷ []) front.each (All-cons IsName name [] (begun_name names name front some) (All-nil IsName));
      few = omega (arith, count, front.room some);
      seen = All-nil IsSeen;
      short = omega arith;
      no_dash = tt;
      room = λ none. omega (arith, none);
    }

pub ended_text : (names : List (List ℕ)) (name : List ℕ)
    → front_text (names ++ name ∷ []) [] ≡ front_text names name ++ 10 ∷ []
ended_text names name = append-nil (list_text (names ++ name ∷ [])) ∙ joined names name

dash_free : (name : List ℕ) (b : ℕ) → HasNoDash name → (name ≡ [] → b ≡ 45 → ⊥) → HasNoDash (name ++ b ∷ [])
dash_free [] b f g = g refl
dash_free (c ∷ name) b f g = f

pub followed_front : (names : List (List ℕ)) (name : List ℕ) (b : ℕ) → IsFront names name → CanFollow names name b
    → IsFront names (name ++ b ∷ [])
followed_front names name b front can =
    let count = length-append name (b ∷ []) in
    record {
      each = front.each;
      few = front.few;
      seen = All-append IsSeen name (b ∷ []) front.seen (All-cons IsSeen b [] can.seen (All-nil IsSeen));
      short = omega (arith, count, can.short);
      no_dash = dash_free name b front.no_dash can.no_dash;
      room = λ some. can.room;
    }

pub followed_text : (names : List (List ℕ)) (name : List ℕ) (b : ℕ)
    → front_text names (name ++ b ∷ []) ≡ front_text names name ++ b ∷ []
followed_text names name b = sym (append_assoc (list_text names) name (b ∷ []))
