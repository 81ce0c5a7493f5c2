-- A timetable is read as it is written.
use Rattle.std.proofs.Common.{◌≡◌, ℕ, ◌+◌, ◌*◌, ◌-◌, List, [], ◌∷◌, ◌++◌, length, get_or, codes, decimal, Bool, true, false, cond, eqb, ⊎_elim, Option, Some}
use Rattle.std.proofs.Common.{None, Result, Ok, refl, sym, ap, subst, ◌∙◌, append_assoc, arith}
use Rattle.std.specs.Prelude.{MatchOption, ⊤}
use Rattle.std.proofs.lemmas.List.{get_or_past}
use Rattle.std.proofs.lemmas.Bool.{cases_lt, eqb-true, eqb-false}
use Rattle.hoist_base.specs.LineData.{LineData, last_stage, move_count}
use Rattle.hoist_base.specs.Valid.{IsLine}
use Rattle.hoist_base.specs.Routes.{IsRoute}
use Rattle.timetable.specs.TimetableData.{TimetableData, timetable_of, last_tick, IsTimetableOf}
use Rattle.text_writing.specs.Texts.{end}
use Rattle.answer_text.specs.Limits.{most_period}
use Rattle.answer_text.specs.Tables.{carrier_line, choice_line, move_line, path_line, each_below, table_text, timetable_text}
use Rattle.answer_text.specs.Answers.{HasSmallPath}
use Rattle.field_reading.specs.Reading.{◌>>=◌, word_at, number_at, begins, ended}
use Rattle.answer_read.specs.Tables.{carriers_at, choices_at, moves_at, paths_at, table_of, table_at, timetable_at}
use Rattle.field_reading.specs.Reads.{SameHead, IsRead, Reads, NoDigit, InRange, Any}
use Rattle.field_reading.proofs.Field.{then_reads, word_reads, made_reads, done_reads, narrow_reads}
use Rattle.field_reading.proofs.Numbers.{number_read, begins_number}
use Rattle.field_reading.proofs.Words.{worded_reads}
use Rattle.field_reading.proofs.Items.{length_nils}
use Rattle.answer_read.proofs.TableLines.{FitsTwo, carriers_text, carriers_read, choices_text, choice_text, choices_read, some_route, moves_text, move_text}
use Rattle.answer_read.proofs.TableLines.{moves_read, FitsPath, paths_text, paths_read, zeros, get_or_zeros}

-- a timetable that has a text for the line
abbrev pub IsTable : LineData → TimetableData → Type 0
IsTable l d = IsTimetableOf l d × HasSmallPath d

is_table : (l : LineData) (n : ℕ) (p : List ℕ × List ℕ) (tanks : List ℕ) (m : List ℕ × List ℕ) (xs : List ℕ) → IsLine l
    → InRange 1 most_period n
    → FitsTwo l.degree last_tick p → IsRoute l tanks → FitsTwo (move_count l) (l.hoists - 1) m → FitsPath l.hoists n xs
    → IsTable l (table_of l n p tanks m xs)
is_table l n p tanks m xs line period carriers route moves path = (
  record {
    fits =
        record {
          steps = refl;
          put_count = carriers.0;
          off_count = carriers.1;
          start_count = moves.0;
          hoist_count = moves.1;
          path_count = path.0;
          route = route;
        };
    period = period;
    put_ticks = carriers.2;
    off_ticks = carriers.3;
    start_ticks = moves.2;
    hoists = λ i lt. omega (arith, moves.3 i, line.limits.hoists.0);
  },
  path.1,
)

carriers_of : (l : LineData) (d : TimetableData) → IsTable l d → FitsTwo l.degree last_tick (d.put, d.off)
carriers_of l d f = (f.0.fits.put_count, f.0.fits.off_count, f.0.put_ticks, f.0.off_ticks)

moves_of : (l : LineData) (d : TimetableData) → IsTable l d → FitsTwo (move_count l) (l.hoists - 1) (d.start, d.hoist)
moves_of l d f = (
  f.0.fits.start_count,
  f.0.fits.hoist_count,
  f.0.start_ticks,
  λ i. ⊎_elim (λ lt. omega (arith, f.0.hoists i lt)) (λ le. omega (arith, get_or_past d.hoist i 0 le)) (cases_lt i (length d.hoist)),
)

path_of : (l : LineData) (d : TimetableData) → IsTable l d → FitsPath l.hoists d.period d.path
path_of l d f = (f.0.fits.path_count, f.1)

abbrev none : ℕ → List ℕ
none n = zeros 0 n

no_two : (n most : ℕ) → FitsTwo n most (none n, none n)
no_two n most = (length_nils (λ k. 0) 0 n, length_nils (λ k. 0) 0 n, λ i. omega (arith, get_or_zeros 0 n i), λ i. omega (arith, get_or_zeros 0 n i))

no_path : (hoists n : ℕ) → FitsPath hoists n (none (hoists * n))
no_path hoists n = (length_nils (λ k. 0) 0 (hoists * n), λ i. omega (arith, get_or_zeros 0 (hoists * n) i))

-- what is known of the timetable, part by part
abbrev F1 : LineData → ℕ → TimetableData → Type 0
F1 l n d = IsTable l d × (d.period ≡ n)

abbrev F2 : LineData → ℕ → List ℕ × List ℕ → TimetableData → Type 0
F2 l n p d = F1 l n d × ((d.put, d.off) ≡ p)

abbrev F3 : LineData → ℕ → List ℕ × List ℕ → List ℕ → TimetableData → Type 0
F3 l n p tanks d = F2 l n p d × (d.tank ≡ tanks)

abbrev F4 : LineData → ℕ → List ℕ × List ℕ → List ℕ → List ℕ × List ℕ → TimetableData → Type 0
F4 l n p tanks m d = F3 l n p tanks d × ((d.start, d.hoist) ≡ m)

-- and what is still to come
abbrev t4 : LineData → TimetableData → List ℕ
t4 l d = each_below l.hoists (path_line (timetable_of d))

abbrev t3 : LineData → TimetableData → List ℕ
t3 l d = each_below l.degree (λ c. each_below (last_stage l) (move_line (timetable_of d) c)) ++ t4 l d

abbrev t2 : LineData → TimetableData → List ℕ
t2 l d = each_below l.degree (λ c. each_below (length l.stages) (choice_line l (timetable_of d) c)) ++ t3 l d

abbrev t1 : LineData → TimetableData → List ℕ
t1 l d = each_below l.degree (carrier_line (timetable_of d)) ++ t2 l d

abbrev t0 : LineData → TimetableData → List ℕ
t0 l d = table_text l (timetable_of d)

same_parts : (l : LineData) (n : ℕ) (p : List ℕ × List ℕ) (tanks : List ℕ) (m : List ℕ × List ℕ) (d : TimetableData)
    → F4 l n p tanks m d
    → table_of l n p tanks m d.path ≡ d
same_parts l n p tanks m d f =
    let steps : last_stage l ≡ d.steps = sym f.0.0.0.0.0.fits.steps in
    let moves : table_of l n p tanks m d.path ≡ table_of l n p tanks (d.start, d.hoist) d.path =
    ap (λ (x : List ℕ × List ℕ). table_of l n p tanks x d.path) (sym f.1) in
    let route : table_of l n p tanks (d.start, d.hoist) d.path ≡ table_of l n p d.tank (d.start, d.hoist) d.path =
    ap (λ (x : List ℕ). table_of l n p x (d.start, d.hoist) d.path) (sym f.0.1) in
    let carriers : table_of l n p d.tank (d.start, d.hoist) d.path ≡ table_of l n (d.put, d.off) d.tank (d.start, d.hoist) d.path =
    ap (λ (x : List ℕ × List ℕ). table_of l n x d.tank (d.start, d.hoist) d.path) (sym f.0.0.1) in
    let period : table_of l n (d.put, d.off) d.tank (d.start, d.hoist) d.path ≡ table_of l d.period (d.put, d.off) d.tank (d.start, d.hoist) d.path =
    ap (λ (x : ℕ). table_of l x (d.put, d.off) d.tank (d.start, d.hoist) d.path) (sym f.0.0.0.1) in
    let all : table_of l d.period (d.put, d.off) d.tank (d.start, d.hoist) d.path ≡ d =
    ap (λ (x : ℕ). record { period = d.period; steps = x; put = d.put; off = d.off; start = d.start; hoist = d.hoist; path = d.path; tank = d.tank }) steps in
    moves ∙ route ∙ carriers ∙ period ∙ all

choices_same : (l : LineData) (d : TimetableData) → IsLine l → IsTable l d → t2 l d ≡ choices_text l d.tank ++ t3 l d
choices_same l d line f =
    let e : d.steps + 1 ≡ length l.stages = omega (arith, f.0.fits.steps, line.limits.stages.0) in
    ap (λ (s : ℕ). each_below l.degree (λ c. each_below (length l.stages) (λ k. choice_text l c k (get_or d.tank (c * s + k) 0))) ++ t3 l d) e

moves_same : (l : LineData) (d : TimetableData) → IsTable l d → t3 l d ≡ moves_text l (d.start, d.hoist) ++ t4 l d
moves_same l d f =
    ap (λ (s : ℕ). each_below l.degree (λ c. each_below (last_stage l) (λ k. move_text l c k (get_or d.start (c * s + k) 0, get_or d.hoist (c * s + k) 0)))
    ++ t4 l d) f.0.fits.steps

last_read : (l : LineData) (n : ℕ) (p : List ℕ × List ℕ) (tanks : List ℕ) (m : List ℕ × List ℕ) (bytes : List ℕ)
    → IsLine l → InRange 1 most_period n
    → FitsTwo l.degree last_tick p → IsRoute l tanks → FitsTwo (move_count l) (l.hoists - 1) m
    → Reads (F4 l n p tanks m) (t4 l) Any bytes (paths_at l.hoists n bytes >>= λ x. Ok (table_of l n p tanks m x.0, x.1))
last_read l n p tanks m bytes line period carriers route moves =
    made_reads (FitsPath l.hoists n) (paths_text l.hoists n) (F4 l n p tanks m) (t4 l) Any (λ xs. table_of l n p tanks m xs) bytes (paths_at l.hoists n bytes)
    (λ xs f. (((((is_table l n p tanks m xs line period carriers route moves f, refl), refl), refl), refl), refl))
    (λ d t f s h. (d.path, subst (λ (k : ℕ). FitsPath l.hoists k d.path) f.0.0.0.1 (path_of l d f.0.0.0.0), same_parts l n p tanks m d f))
    (paths_read l.hoists n bytes)

pub table_read : (l : LineData) (bytes : List ℕ) → IsLine l → Reads (IsTable l) (t0 l) Any bytes (table_at l bytes)
unfolding table_at
table_read l bytes line =
    let route = some_route l line in
    let no_carriers = no_two l.degree last_tick in
    let no_moves = no_two (move_count l) (l.hoists - 1) in
    then_reads (InRange 1 most_period) (λ n. decimal n ++ end) Any (IsTable l) (t0 l) Any (λ d. d.period) (t1 l)
    (record {
      parts = λ d f. f.0.period;
      text = λ d f. sym (append_assoc (decimal d.period) end (t1 l d));
      stops = λ d t f s. tt;
      completes = λ n f. (
        table_of l n (none l.degree, none l.degree) route.0 (none (move_count l), none (move_count l)) (none (l.hoists * n)),
        is_table l n (none l.degree, none l.degree) route.0 (none (move_count l), none (move_count l)) (none (l.hoists * n)) line f no_carriers route.1 no_moves
            (no_path l.hoists n),
        refl,
      );
    })
    bytes (ended (number_at 1 most_period bytes)) _
    (worded_reads (InRange 1 most_period) decimal NoDigit end (λ t. refl) bytes (number_at 1 most_period bytes)
    (number_read 1 most_period bytes (omega arith) (omega arith) (omega arith)))
    (λ n a f e.
    then_reads (FitsTwo l.degree last_tick) (carriers_text l.degree) Any (F1 l n) (t1 l) Any (λ d. (d.put, d.off)) (t2 l)
    (record {
      parts = λ d g. carriers_of l d g.0;
      text = λ d g. refl;
      stops = λ d t g s. tt;
      completes =
          λ p g. (
            table_of l n p route.0 (none (move_count l), none (move_count l))
                (none (l.hoists * n)),
            (
              is_table l n p route.0 (none (move_count l), none (move_count l)) (none (l.hoists * n)) line f g route.1 no_moves
                  (no_path l.hoists n),
              refl,
            ),
            refl,
          );
    })
    a (carriers_at l.degree a) _ (carriers_read l.degree a)
    (λ p b g e1.
    then_reads (IsRoute l) (choices_text l) Any (F2 l n p) (t2 l) Any (λ d. d.tank) (t3 l)
    (record {
      parts = λ d k. k.0.0.0.fits.route;
      text = λ d k. choices_same l d line k.0.0;
      stops = λ d t k s. tt;
      completes =
          λ tanks k. (
            table_of l n p tanks (none (move_count l), none (move_count l))
                (none (l.hoists * n)),
            (
              (
                is_table l n p tanks (none (move_count l), none (move_count l)) (none (l.hoists * n)) line f g k no_moves
                    (no_path l.hoists n),
                refl,
              ),
              refl,
            ),
            refl,
          );
    })
    b (choices_at l b) _ (choices_read l b line)
    (λ tanks c k e2.
    then_reads (FitsTwo (move_count l) (l.hoists - 1)) (moves_text l) Any (F3 l n p tanks) (t3 l) Any (λ d. (d.start, d.hoist)) (t4 l)
    (record {
      parts = λ d j. moves_of l d j.0.0.0;
      text = λ d j. moves_same l d j.0.0.0;
      stops = λ d t j s. tt;
      completes =
          λ m j. (
            table_of l n p tanks m (none (l.hoists * n)),
            (((is_table l n p tanks m (none (l.hoists * n)) line f g k j (no_path l.hoists n), refl), refl), refl),
            refl,
          );
    })
    c (moves_at l c) _ (moves_read l c line)
    (λ m d j e3. last_read l n p tanks m d line f g k j))))

-- ---- none, or a timetable: the first byte decides

abbrev pub IsTableOr : LineData → Option TimetableData → Type 0
IsTableOr l o = MatchOption o ⊤ (λ d. IsTimetableOf l d × HasSmallPath d)

not_n : (bytes t : List ℕ) → SameHead (codes "none\n" ++ t) bytes → begins 110 bytes ≡ false → ⊥
not_n [] t h d = absurd h
not_n (b ∷ bytes) t h d = eqb-false b 110 d (sym h)

none_or_table : (l : LineData) (bytes : List ℕ) → IsLine l → (d : Bool) → begins 110 bytes ≡ d
    → Reads (IsTableOr l) (timetable_text l) Any bytes
    (cond d (word_at (codes "none\n") bytes >>= λ rest. Ok (None, rest)) (table_at l bytes >>= λ x. Ok (Some x.0, x.1)))
none_or_table l bytes line true d =
    narrow_reads (λ o. o ≡ None) (IsTableOr l) (timetable_text l) Any bytes (word_at (codes "none\n") bytes >>= λ rest. Ok (None, rest))
    (λ o e. subst (IsTableOr l) (sym e) tt) from
    (word_reads (λ o. o ≡ None) (timetable_text l) (λ o. []) Any (codes "none\n") bytes (λ rest. Ok (None, rest)) None refl (λ o e. ap (timetable_text l) e)
    (λ rest e. done_reads (λ o. o ≡ None) Any rest None refl (λ o e. e)))
  where
    from : (o : Option TimetableData) (t : List ℕ) → IsTableOr l o → Any t → SameHead (timetable_text l o ++ t) bytes
        → o ≡ None
    from None t f s h = refl
    from (Some p) t f s h =
        let regrouped : t0 l p ++ t ≡ decimal p.period ++ ((end ++ t1 l p) ++ t) = append_assoc (decimal p.period) (end ++ t1 l p) t in
        let c =
        begins_number 1 most_period p.period ((end ++ t1 l p) ++ t) bytes (omega arith) (omega arith) f.0.period
        (subst (λ (x : List ℕ). SameHead x bytes) regrouped h) in
        let e : eqb c.0 110 ≡ true = ap (begins 110) (sym c.2) ∙ d in
        absurd (omega (arith, eqb-true c.0 110 e, c.4))
none_or_table l bytes line false d =
    made_reads (IsTable l) (t0 l) (IsTableOr l) (timetable_text l) Any (λ p. Some p) bytes (table_at l bytes) (λ p f. (f, refl)) from (table_read l bytes line)
  where
    from : (o : Option TimetableData) (t : List ℕ) → IsTableOr l o → Any t → SameHead (timetable_text l o ++ t) bytes
        → (p : TimetableData) × IsTable l p × (Some p ≡ o)
    from (Some p) t f s h = (p, f, refl)
    from None t f s h = absurd (not_n bytes t h d)

pub timetable_read : (l : LineData) (bytes : List ℕ) → IsLine l
    → Reads (IsTableOr l) (timetable_text l) Any bytes (timetable_at l bytes)
unfolding timetable_at
timetable_read l bytes line = none_or_table l bytes line (begins 110 bytes) refl

-- ---- what the code has read is a timetable of the line

pub table_ok : (l : LineData) (bytes a b c d e rest : List ℕ) (n : ℕ) (p : List ℕ × List ℕ) (tanks : List ℕ) (m : List ℕ × List ℕ) (xs : List ℕ)
    → number_at 1 most_period bytes ≡ Ok (n, a) → word_at end a ≡ Ok b → carriers_at l.degree b ≡ Ok (p, c)
    → choices_at l c ≡ Ok (tanks, d)
    → moves_at l d ≡ Ok (m, e) → paths_at l.hoists n e ≡ Ok (xs, rest)
    → table_at l bytes ≡ Ok (table_of l n p tanks m xs, rest)
unfolding table_at
table_ok l bytes a b c d e rest n p tanks m xs h1 h2 h3 h4 h5 h6 = rw (h1, h2, h3, h4, h5, h6) refl

pub table_fits : (l : LineData) (bytes rest : List ℕ) (d : TimetableData) → IsLine l → table_at l bytes ≡ Ok (d, rest)
    → IsTimetableOf l d
table_fits l bytes rest d line e =
    let h : IsRead (IsTable l) (t0 l) Any bytes d rest =
    subst (λ (r : Result (TimetableData × List ℕ) ℕ). Reads (IsTable l) (t0 l) Any bytes r) e (table_read l bytes line) in
    h.fits.0
