-- The lines of the timetable are read as they are written.
use Rattle.std.proofs.Common.{◌≡◌, ℕ, zero, suc, ◌+◌, ◌*◌, ◌-◌, ◌/◌, ◌%◌, ◌^◌, ◌<◌, ◌≤◌, List, [], ◌∷◌, ◌++◌, length, get_or, map, take, drop, codes, decimal}
use Rattle.std.proofs.Common.{Bool, true, false, cond, eqb, ltb, ⊎_elim, Result, Ok, refl, sym, ap, subst, ◌∙◌, append_assoc, arith, length-append}
use Rattle.std.proofs.Common.{length-drop}
use Rattle.std.specs.List.{flat_map, range_with_len, concat, Contains}
use Rattle.std.proofs.lemmas.List.{nil_from_length, get_or_default, get_or_past, get_or_append_left, get_or-append_right, take-append-drop, length-take-le}
use Rattle.std.proofs.lemmas.List.Elements.{Contains-get_or}
use Rattle.std.proofs.lemmas.List.Sums.{position_or_len_is}
use Rattle.std.proofs.lemmas.Bool.{cases_lt, ltb-false, ne_eqb, eq-eqb}
use Rattle.std.proofs.lemmas.Nat.{div-mul-add, mod-mul-add}
use Rattle.std.proofs.lemmas.Nat.{mod_below}
use Rattle.hoist_base.specs.declared.ids.MoveId.{MoveId}
use Rattle.hoist_base.specs.declared.ids.VisitId.{VisitId}
use Rattle.hoist_base.specs.LineData.{LineData, stage, last_stage, move_count, visit_number, visit_count, visit_at, IsStageOf, Serves}
use Rattle.hoist_base.specs.LineData as numbered
use Rattle.hoist_base.specs.Valid.{IsLine}
use Rattle.hoist_base.specs.Routes.{IsRoute}
use Rattle.hoist_base.proofs.NumberLemmas.{visit_there, visit_below, number_of_visit}
use Rattle.timetable.specs.TimetableData.{last_tick}
use Rattle.text_writing.specs.Texts.{end, pair_text}
use Rattle.answer_text.specs.Limits.{most_position}
use Rattle.answer_text.specs.Tables.{choice_number, each_below}
use Rattle.field_reading.specs.Reading.{number_at, both_at, ended, items_at}
use Rattle.answer_read.specs.Tables.{unzipped, carrier_at, carriers_at, chosen_at, choice_at, choices_at, move_at, moves_at, position_at, path_at, paths_at}
use Rattle.field_reading.specs.Reads.{Reads, NoDigit, InRange, Any}
use Rattle.field_reading.proofs.Field.{word_reads, made_reads, done_reads, retext}
use Rattle.field_reading.proofs.Numbers.{number_read}
use Rattle.field_reading.proofs.Words.{refit, known_pair_reads, worded_reads, both_reads, same_pair}
use Rattle.field_reading.proofs.Items.{IsItem, AllFrom, texts_from, nils, length_nils, all_nils, items_read, texts_are, all_at, all_from}
use Rattle.answer_read.proofs.Ranges.{lines_are, nested_lines}

-- ---- a tick and a number

abbrev pub Two : ℕ → ℕ × ℕ → Type 0
Two most p = InRange 0 last_tick p.0 × InRange 0 most p.1

abbrev two_text : List ℕ → ℕ × ℕ → List ℕ
two_text between p = decimal p.0 ++ (between ++ (decimal p.1 ++ end))

two_read : (between : List ℕ) (most : ℕ) (bytes : List ℕ) → ((t : List ℕ) → NoDigit (between ++ t)) → most < 2 ^ 64
    → Reads (Two most) (two_text between) Any bytes (ended (both_at (number_at 0 last_tick) between (number_at 0 most) bytes))
two_read between most bytes stops small =
    retext (Two most) (λ p. (decimal p.0 ++ (between ++ decimal p.1)) ++ end) (two_text between) Any bytes
    (ended (both_at (number_at 0 last_tick) between (number_at 0 most) bytes))
    (λ p f. simp append_assoc)
    (worded_reads (Two most) (λ p. decimal p.0 ++ (between ++ decimal p.1)) NoDigit end (λ t. refl) bytes
    (both_at (number_at 0 last_tick) between (number_at 0 most) bytes)
    (both_reads (InRange 0 last_tick) decimal NoDigit (number_at 0 last_tick) between (InRange 0 most) decimal NoDigit (number_at 0 most) 0
    (omega arith, omega arith) (λ n t f s. stops (decimal n ++ t))
    (λ b. number_read 0 last_tick b (omega arith) (omega arith) (omega arith)) (λ b. number_read 0 most b (omega arith) (omega arith) small) bytes))

no_two : (most : ℕ) → Two most (0, 0)
no_two most = ((omega arith, omega arith), (omega arith, omega arith))

-- items of two numbers, as two lists
abbrev pub FitsTwo : ℕ → ℕ → List ℕ × List ℕ → Type 0
FitsTwo n most p = (length p.0 ≡ n) × (length p.1 ≡ n) × ((i : ℕ) → get_or p.0 i 0 ≤ last_tick) × ((i : ℕ) → get_or p.1 i 0 ≤ most)

abbrev firsts : List (ℕ × ℕ) → List ℕ
firsts xs = map (λ (p : ℕ × ℕ). p.0) xs

abbrev seconds : List (ℕ × ℕ) → List ℕ
seconds xs = map (λ (p : ℕ × ℕ). p.1) xs

length_firsts : (xs : List (ℕ × ℕ)) → length (firsts xs) ≡ length xs
length_firsts [] = refl
length_firsts (x ∷ xs) = ap suc (length_firsts xs)

length_seconds : (xs : List (ℕ × ℕ)) → length (seconds xs) ≡ length xs
length_seconds [] = refl
length_seconds (x ∷ xs) = ap suc (length_seconds xs)

first_at : (xs : List (ℕ × ℕ)) (i : ℕ) → get_or (firsts xs) i 0 ≡ (get_or xs i (0, 0)).0
first_at [] i = refl
first_at (x ∷ xs) zero = refl
first_at (x ∷ xs) (suc i) = first_at xs i

second_at : (xs : List (ℕ × ℕ)) (i : ℕ) → get_or (seconds xs) i 0 ≡ (get_or xs i (0, 0)).1
second_at [] i = refl
second_at (x ∷ xs) zero = refl
second_at (x ∷ xs) (suc i) = second_at xs i

-- what holds of each item, and of what stands for those past the end
pair_at_all : (most : ℕ) (xs : List (ℕ × ℕ)) → AllFrom (λ i. Two most) 0 xs → (i : ℕ) → Two most (get_or xs i (0, 0))
pair_at_all most xs f i =
    ⊎_elim
    (λ lt. all_at (λ j. Two most) (0, 0) 0 xs f i lt)
    (λ le. subst (Two most) (sym (get_or_past xs i (0, 0) le)) (no_two most))
    (cases_lt i (length xs))

unzip_fits : (n most : ℕ) (xs : List (ℕ × ℕ)) → length xs ≡ n → AllFrom (λ i. Two most) 0 xs
    → FitsTwo n most (firsts xs, seconds xs)
unzip_fits n most xs e f = (
  length_firsts xs ∙ e,
  length_seconds xs ∙ e,
  λ i. omega (arith, first_at xs i, (pair_at_all most xs f i).0.1),
  λ i. omega (arith, second_at xs i, (pair_at_all most xs f i).1.1),
)

abbrev zipped : List ℕ → List ℕ → List (ℕ × ℕ)
zipped [] qs = []
zipped (a ∷ ps) [] = []
zipped (a ∷ ps) (b ∷ qs) = (a, b) ∷ zipped ps qs

zip_is : (ps qs : List ℕ) → length ps ≡ length qs → (firsts (zipped ps qs) ≡ ps) × (seconds (zipped ps qs) ≡ qs)
zip_is [] [] e = (refl, refl)
zip_is [] (b ∷ qs) e = absurd (omega (arith, e))
zip_is (a ∷ ps) [] e = absurd (omega (arith, e))
zip_is (a ∷ ps) (b ∷ qs) e =
    let r = zip_is ps qs (omega (arith, e)) in
    (ap (λ (xs : List ℕ). a ∷ xs) r.0, ap (λ (xs : List ℕ). b ∷ xs) r.1)

unzipped_from : (n most : ℕ) (p : List ℕ × List ℕ) → FitsTwo n most p
    → (xs : List (ℕ × ℕ)) × ((length xs ≡ n) × AllFrom (λ i. Two most) 0 xs) × ((firsts xs, seconds xs) ≡ p)
unzipped_from n most p f =
    let xs = zipped p.0 p.1 in
    let z = zip_is p.0 p.1 (f.0 ∙ sym f.1) in
    let count : length xs ≡ n = sym (length_firsts xs) ∙ ap length z.0 ∙ f.0 in
    let all : AllFrom (λ i. Two most) 0 xs = all_from (λ i. Two most) (0, 0) 0 xs
    (λ j lt.
    let a : (get_or xs j (0, 0)).0 ≡ get_or p.0 j 0 = sym (first_at xs j) ∙ ap (λ (ys : List ℕ). get_or ys j 0) z.0 in
    let b : (get_or xs j (0, 0)).1 ≡ get_or p.1 j 0 = sym (second_at xs j) ∙ ap (λ (ys : List ℕ). get_or ys j 0) z.1 in
    ((omega arith, omega (arith, a, f.2 j)), (omega arith, omega (arith, b, f.3 j)))) in
    (xs, (count, all), sym (same_pair p (firsts xs) (seconds xs) (sym z.0) (sym z.1)))

pairs_read : (text : ℕ → ℕ × ℕ → List ℕ) (item : ℕ → List ℕ → Result ((ℕ × ℕ) × List ℕ) ℕ) (n most : ℕ) (u : List ℕ × List ℕ → List ℕ) (bytes : List ℕ)
    → ((i : ℕ) (b : List ℕ) → Reads (Two most) (text i) Any b (item i b))
    → ((xs : List (ℕ × ℕ)) → length xs ≡ n → u (firsts xs, seconds xs) ≡ texts_from text 0 xs)
    → Reads (FitsTwo n most) u Any bytes (unzipped (items_at item 0 n bytes))
pairs_read text item n most u bytes reads same =
    made_reads (λ xs. (length xs ≡ n) × AllFrom (λ i. Two most) 0 xs) (λ xs. texts_from text 0 xs) (FitsTwo n most) u Any (λ xs. (firsts xs, seconds xs)) bytes
    (items_at item 0 n bytes)
    (λ xs f. (unzip_fits n most xs f.0 f.1, same xs f.0))
    (λ p t f s h. unzipped_from n most p f)
    (items_read (λ i. Two most) text Any item (λ i. (0, 0)) (record { reads = reads; stops = λ i a t f s. tt; nil_fits = λ i. no_two most }) 0 n bytes)

-- ---- carriers

abbrev carrier_text : ℕ → ℕ × ℕ → List ℕ
carrier_text c p = codes "carrier " ++ (decimal c ++ (codes " put " ++ two_text (codes " off ") p))

carrier_read : (c : ℕ) (bytes : List ℕ) → Reads (Two last_tick) (carrier_text c) Any bytes (carrier_at c bytes)
unfolding carrier_at
carrier_read c bytes =
    word_reads (Two last_tick) (carrier_text c) (λ p. decimal c ++ (codes " put " ++ two_text (codes " off ") p)) Any (codes "carrier ") bytes _ (0, 0)
    (no_two last_tick) (λ p f. refl)
    (λ a e.
    word_reads (Two last_tick) (λ p. decimal c ++ (codes " put " ++ two_text (codes " off ") p)) (λ p. codes " put " ++ two_text (codes " off ") p) Any
    (decimal c) a _ (0, 0) (no_two last_tick) (λ p f. refl)
    (λ b e'.
    word_reads (Two last_tick) (λ p. codes " put " ++ two_text (codes " off ") p) (two_text (codes " off ")) Any (codes " put ") b _ (0, 0) (no_two last_tick)
    (λ p f. refl)
    (λ d e''. two_read (codes " off ") last_tick d (λ t. refl) (omega arith))))

abbrev pub carriers_text : ℕ → List ℕ × List ℕ → List ℕ
carriers_text n p = each_below n (λ c. carrier_text c (get_or p.0 c 0, get_or p.1 c 0))

pub carriers_read : (n : ℕ) (bytes : List ℕ)
    → Reads (FitsTwo n last_tick) (carriers_text n) Any bytes (carriers_at n bytes)
unfolding carriers_at
carriers_read n bytes =
    pairs_read carrier_text carrier_at n last_tick (carriers_text n) bytes carrier_read
    (λ xs e. lines_are (λ c. carrier_text c (get_or (firsts xs) c 0, get_or (seconds xs) c 0)) carrier_text (0, 0) 0 n xs e
    (λ j lt.
    let z : 0 + j ≡ j = omega arith in
    ap (λ (k : ℕ). carrier_text (0 + j) (get_or (firsts xs) k 0, get_or (seconds xs) k 0)) z
    ∙ ap (λ (a : ℕ). carrier_text (0 + j) (a, get_or (seconds xs) j 0)) (first_at xs j)
    ∙ ap (λ (b : ℕ). carrier_text (0 + j) ((get_or xs j (0, 0)).0, b)) (second_at xs j)))

-- ---- moves

abbrev pub move_text : LineData → ℕ → ℕ → ℕ × ℕ → List ℕ
move_text l c k p = codes "move " ++ (pair_text c k ++ (codes " start " ++ two_text (codes " hoist ") p))

abbrev move_of : LineData → ℕ → MoveId
move_of l n = numbered.move_at l n

abbrev numbered_move : LineData → ℕ → ℕ × ℕ → List ℕ
numbered_move l n p = move_text l (move_of l n).carrier (move_of l n).step p

move_read : (l : LineData) (v : ℕ) (bytes : List ℕ) → IsLine l
    → Reads (Two (l.hoists - 1)) (numbered_move l v) Any bytes (move_at l v bytes)
unfolding move_at
move_read l v bytes line =
    let F = Two (l.hoists - 1) in
    let c = (move_of l v).carrier in
    let k = (move_of l v).step in
    let some = no_two (l.hoists - 1) in
    word_reads F (numbered_move l v) (λ p. pair_text c k ++ (codes " start " ++ two_text (codes " hoist ") p)) Any (codes "move ") bytes _ (0, 0) some
    (λ p f. refl)
    (λ a e.
    known_pair_reads F (λ p. pair_text c k ++ (codes " start " ++ two_text (codes " hoist ") p))
    (λ p. codes " start " ++ two_text (codes " hoist ") p) Any c k a _ (0, 0) some (λ p f. refl)
    (λ b e'.
    word_reads F (λ p. codes " start " ++ two_text (codes " hoist ") p) (two_text (codes " hoist ")) Any (codes " start ") b _ (0, 0) some (λ p f. refl)
    (λ d e''. two_read (codes " hoist ") (l.hoists - 1) d (λ t. refl) (omega (arith, line.limits.hoists.1)))))

abbrev pub moves_text : LineData → List ℕ × List ℕ → List ℕ
moves_text l p =
    each_below l.degree (λ c. each_below (last_stage l) (λ k. move_text l c k (get_or p.0 (c * last_stage l + k) 0, get_or p.1 (c * last_stage l + k) 0)))

pub moves_read : (l : LineData) (bytes : List ℕ) → IsLine l
    → Reads (FitsTwo (move_count l) (l.hoists - 1)) (moves_text l) Any bytes (moves_at l bytes)
unfolding moves_at
moves_read l bytes line =
    let n = last_stage l in
    pairs_read (numbered_move l) (move_at l) (move_count l) (l.hoists - 1) (moves_text l) bytes (λ v b. move_read l v b line)
    (λ xs e. nested_lines (λ c k. move_text l c k (get_or (firsts xs) (c * n + k) 0, get_or (seconds xs) (c * n + k) 0)) (numbered_move l)
    (0, 0) l.degree n xs e
    (λ c k lt lt'.
    ap (λ (a : ℕ). move_text l c k (a, get_or (seconds xs) (c * n + k) 0)) (first_at xs (c * n + k))
    ∙ ap (λ (b : ℕ). move_text l c k ((get_or xs (c * n + k) (0, 0)).0, b)) (second_at xs (c * n + k))
    ∙ ap (λ (i : ℕ). move_text l i k (get_or xs (c * n + k) (0, 0))) (sym (div-mul-add c n k lt'))
    ∙ ap (λ (i : ℕ). move_text l ((c * n + k) / n) i (get_or xs (c * n + k) (0, 0))) (sym (mod-mul-add c n k lt'))))

-- ---- choices

abbrev chosen_text : LineData → ℕ → ℕ → ℕ → List ℕ
chosen_text l c k i = codes "choice " ++ (pair_text c k ++ (codes " " ++ (decimal (choice_number l k i) ++ end)))

-- no tank stands twice in a stage
number_is : (l : LineData) (k j : ℕ) → IsLine l → j < length (stage l k).tanks
    → choice_number l k (get_or (stage l k).tanks j 0) ≡ j
number_is l k j line lt =
    let tanks = (stage l k).tanks in
    position_or_len_is (λ m. eqb m (get_or tanks j 0)) tanks j 0 (omega (arith, lt))
    (λ i before. ne_eqb (get_or tanks i 0) (get_or tanks j 0) (line.stages.once k i j before lt))
    (λ there. eq-eqb (get_or tanks j 0) (get_or tanks j 0) refl)

-- a tank of a list stands at some place
place_in : (tanks : List ℕ) (i : ℕ) → Contains tanks i → (j : ℕ) × (j < length tanks) × (get_or tanks j 0 ≡ i)
place_in tanks i (j, lt, e) = (j, lt, get_or_default tanks j 0 i lt ∙ e)

several : (l : LineData) (k : ℕ) → IsLine l → IsStageOf l k
    → (1 ≤ length (stage l k).tanks) × (length (stage l k).tanks ≤ 4)
several l k line there = line.stages.count k there

a_tank : (l : LineData) (k : ℕ) → IsLine l → IsStageOf l k → Serves l (get_or (stage l k).tanks 0 0) k
a_tank l k line there = Contains-get_or (stage l k).tanks 0 0 (omega (arith, (several l k line there).0))

chosen_read : (l : LineData) (v : VisitId) (bytes : List ℕ) → IsLine l → IsStageOf l v.stage
    → Reads (λ i. Serves l i v.stage) (chosen_text l v.carrier v.stage) Any bytes (chosen_at l v bytes)
unfolding chosen_at
chosen_read l v bytes line there =
    let k = v.stage in
    let tanks = (stage l k).tanks in
    let n = length tanks in
    let count = several l k line there in
    let F : ℕ → Type 0 = λ i. Serves l i k in
    let third : ℕ → List ℕ = λ i. decimal (choice_number l k i) ++ end in
    let second : ℕ → List ℕ = λ i. codes " " ++ third i in
    let first : ℕ → List ℕ = λ i. pair_text v.carrier k ++ second i in
    let nil = get_or tanks 0 0 in
    let some = a_tank l k line there in
    word_reads F (chosen_text l v.carrier k) first Any (codes "choice ") bytes _ nil some (λ i f. refl)
    (λ a e.
    known_pair_reads F first second Any v.carrier k a _ nil some (λ i f. refl)
    (λ b e'.
    word_reads F second third Any (codes " ") b _ nil some (λ i f. refl)
    (λ d e''.
    made_reads (InRange 0 (n - 1)) (λ j. decimal j ++ end) F third Any (λ j. get_or tanks j 0) d (ended (number_at 0 (n - 1) d))
    (λ j f.
    let lt : j < n = omega (arith, f.1, count.0) in
    (Contains-get_or tanks j 0 lt, ap (λ (m : ℕ). decimal m ++ end) (number_is l k j line lt)))
    (λ i t f s h. let p = place_in tanks i f in (p.0, (omega arith, omega (arith, p.1)), p.2))
    (worded_reads (InRange 0 (n - 1)) decimal NoDigit end (λ t. refl) d (number_at 0 (n - 1) d)
    (number_read 0 (n - 1) d (omega arith) (omega arith) (omega (arith, count.1)))))))

abbrev pub choice_text : LineData → ℕ → ℕ → ℕ → List ℕ
choice_text l c k i = cond (ltb 1 (length (stage l k).tanks)) (chosen_text l c k i) []

choice_by : (l : LineData) (v : VisitId) (bytes : List ℕ) → IsLine l → IsStageOf l v.stage → (d : Bool)
    → ltb 1 (length (stage l v.stage).tanks) ≡ d
    → Reads (λ i. Serves l i v.stage) (λ i. cond d (chosen_text l v.carrier v.stage i) []) Any bytes
    (cond d (chosen_at l v bytes) (Ok (get_or (stage l v.stage).tanks 0 0, bytes)))
choice_by l v bytes line there true d = chosen_read l v bytes line there
choice_by l v bytes line there false d =
    let tanks = (stage l v.stage).tanks in
    let one : length tanks ≤ 1 = ltb-false 1 (length tanks) d in
    done_reads (λ i. Serves l i v.stage) Any bytes (get_or tanks 0 0) (a_tank l v.stage line there)
    (λ i f.
    let p = place_in tanks i f in
    let z : p.0 ≡ 0 = omega (arith, p.1, one) in
    sym p.2 ∙ ap (λ (j : ℕ). get_or tanks j 0) z)

abbrev visit_text : LineData → ℕ → ℕ → List ℕ
visit_text l n i = choice_text l (visit_at l n).carrier (visit_at l n).stage i

abbrev IsOfVisit : LineData → ℕ → ℕ → Type 0
IsOfVisit l n i = Serves l i (visit_at l n).stage

-- whatever the number is
stage_there : (l : LineData) (n : ℕ) → IsLine l → IsStageOf l (visit_at l n).stage
stage_there l n line = mod_below n (length l.stages) (omega (arith, line.limits.stages.0))

choice_read : (l : LineData) (n : ℕ) (bytes : List ℕ) → IsLine l
    → Reads (IsOfVisit l n) (visit_text l n) Any bytes (choice_at l n bytes)
unfolding choice_at
choice_read l n bytes line =
    choice_by l (visit_at l n) bytes line (stage_there l n line) (ltb 1 (length (stage l (visit_at l n).stage).tanks)) refl

route_into : (l : LineData) (xs : List ℕ) → length xs ≡ visit_count l → AllFrom (IsOfVisit l) 0 xs → IsRoute l xs
route_into l xs e f = record {
  count = e;
  serves = λ c k visit.
      let n = visit_number l c k in
      let z : 0 + n ≡ n = omega arith in
      let here : IsOfVisit l (0 + n) (get_or xs n 0) =
      all_at (IsOfVisit l) 0 0 xs f n (omega (arith, e, visit_below l c k visit)) in
      subst (λ (m : ℕ). Serves l (get_or xs n 0) m) (ap (λ (m : ℕ). m % length l.stages) z ∙ mod-mul-add c (length l.stages) k visit.1) here;
}

route_from : (l : LineData) (xs : List ℕ) → IsLine l → IsRoute l xs
    → (length xs ≡ visit_count l) × AllFrom (IsOfVisit l) 0 xs
route_from l xs line r = (r.count, all_from (IsOfVisit l) 0 0 xs at)
  where
    at : (n : ℕ) → n < length xs → IsOfVisit l (0 + n) (get_or xs n 0)
    at n lt =
        let v = visit_at l n in
        let z : n ≡ 0 + n = omega arith in
        let here : Serves l (get_or xs (visit_number l v.carrier v.stage) 0) v.stage =
        r.serves v.carrier v.stage (visit_there l n line (omega (arith, lt, r.count))) in
        subst (λ (m : ℕ). IsOfVisit l m (get_or xs n 0)) z
        (subst (λ (m : ℕ). Serves l (get_or xs m 0) v.stage) (number_of_visit l n) here)

abbrev pub choices_text : LineData → List ℕ → List ℕ
choices_text l xs = each_below l.degree (λ c. each_below (length l.stages) (λ k. choice_text l c k (get_or xs (c * length l.stages + k) 0)))

-- the first tank of a visit's stage
abbrev first_tank : LineData → ℕ → ℕ
first_tank l n = get_or (stage l (visit_at l n).stage).tanks 0 0

nil_serves : (l : LineData) → IsLine l → (n : ℕ) → IsOfVisit l n (first_tank l n)
nil_serves l line n = a_tank l (visit_at l n).stage line (stage_there l n line)

pub some_route : (l : LineData) → IsLine l → (tanks : List ℕ) × IsRoute l tanks
some_route l line =
    let nil : ℕ → ℕ = first_tank l in
    let n = visit_count l in
    (nils nil 0 n, route_into l (nils nil 0 n) (length_nils nil 0 n) (all_nils (IsOfVisit l) nil 0 n (nil_serves l line)))

choice_item : (l : LineData) → IsLine l → IsItem (IsOfVisit l) (visit_text l) Any (choice_at l) (first_tank l)
choice_item l line = record { reads = λ n b. choice_read l n b line; stops = λ n a t f s. tt; nil_fits = nil_serves l line }

pub choices_read : (l : LineData) (bytes : List ℕ) → IsLine l
    → Reads (IsRoute l) (choices_text l) Any bytes (choices_at l bytes)
unfolding choices_at
choices_read l bytes line =
    let n = length l.stages in
    let F : List ℕ → Type 0 = λ xs. (length xs ≡ visit_count l) × AllFrom (IsOfVisit l) 0 xs in
    let r = items_at (choice_at l) 0 (visit_count l) bytes in
    refit F (IsRoute l) (choices_text l) Any bytes r (λ xs f. route_into l xs f.0 f.1) (λ xs f. route_from l xs line f)
    (retext F (λ xs. texts_from (visit_text l) 0 xs) (choices_text l) Any bytes r
    (λ xs f. sym (nested_lines (λ c k. choice_text l c k (get_or xs (c * n + k) 0)) (visit_text l) 0 l.degree n xs f.0
    (λ c k lt lt'.
    ap (λ (i : ℕ). choice_text l i k (get_or xs (c * n + k) 0)) (sym (div-mul-add c n k lt'))
    ∙ ap (λ (i : ℕ). choice_text l ((c * n + k) / n) i (get_or xs (c * n + k) 0)) (sym (mod-mul-add c n k lt')))))
    (items_read (IsOfVisit l) (visit_text l) Any (choice_at l) (first_tank l) (choice_item l line) 0 (visit_count l) bytes))

-- ---- paths

abbrev AreSmall : List ℕ → Type 0
AreSmall xs = (i : ℕ) → get_or xs i 0 ≤ most_position

abbrev position_text : ℕ → List ℕ
position_text x = codes " " ++ decimal x

position_read : (bytes : List ℕ) → Reads (InRange 0 most_position) position_text NoDigit bytes (position_at bytes)
unfolding position_at
position_read bytes =
    word_reads (InRange 0 most_position) position_text decimal NoDigit (codes " ") bytes (λ a. number_at 0 most_position a) 0 (omega arith, omega arith)
    (λ x f. refl)
    (λ a e. number_read 0 most_position a (omega arith) (omega arith) (omega arith))

position_item : IsItem (λ i. InRange 0 most_position) (λ i. position_text) NoDigit (λ i. position_at) (λ i. 0)
position_item = record { reads = λ i. position_read; stops = λ i x t f s. refl; nil_fits = λ i. (omega arith, omega arith) }

abbrev IsPathRow : ℕ → List ℕ → Type 0
IsPathRow period xs = (length xs ≡ period) × AreSmall xs

abbrev row_path : ℕ → List ℕ → List ℕ
row_path h xs = codes "path " ++ (decimal h ++ (flat_map position_text xs ++ end))

small_into : (xs : List ℕ) → AllFrom (λ i. InRange 0 most_position) 0 xs → AreSmall xs
small_into xs f i = ⊎_elim (λ lt. (all_at (λ j. InRange 0 most_position) 0 0 xs f i lt).1) (λ le. omega (arith, get_or_past xs i 0 le)) (cases_lt i (length xs))

small_from : (xs : List ℕ) → AreSmall xs → AllFrom (λ i. InRange 0 most_position) 0 xs
small_from xs f = all_from (λ i. InRange 0 most_position) 0 0 xs (λ j lt. (omega arith, f j))

abbrev pub zeros : ℕ → ℕ → List ℕ
zeros j n = nils (λ k. 0) j n

pub get_or_zeros : (j n i : ℕ) → get_or (zeros j n) i 0 ≡ 0
get_or_zeros j zero i = refl
get_or_zeros j (suc n) zero = refl
get_or_zeros j (suc n) (suc i) = get_or_zeros (j + 1) n i

no_positions : (n : ℕ) → IsPathRow n (zeros 0 n)
no_positions n = (length_nils (λ k. 0) 0 n, λ i. omega (arith, get_or_zeros 0 n i))

path_read : (period h : ℕ) (bytes : List ℕ) → Reads (IsPathRow period) (row_path h) Any bytes (path_at period h bytes)
unfolding path_at
path_read period h bytes =
    let nil = zeros 0 period in
    let some = no_positions period in
    word_reads (IsPathRow period) (row_path h) (λ xs. decimal h ++ (flat_map position_text xs ++ end)) Any (codes "path ") bytes _ nil some (λ xs f. refl)
    (λ a e.
    word_reads (IsPathRow period) (λ xs. decimal h ++ (flat_map position_text xs ++ end)) (λ xs. flat_map position_text xs ++ end) Any (decimal h) a _ nil some
    (λ xs f. refl)
    (λ b e'.
    worded_reads (IsPathRow period) (λ xs. flat_map position_text xs) NoDigit end (λ t. refl) b (items_at (λ i. position_at) 0 period b)
    (refit (λ xs. (length xs ≡ period) × AllFrom (λ i. InRange 0 most_position) 0 xs) (IsPathRow period) (λ xs. flat_map position_text xs) NoDigit b
    (items_at (λ i. position_at) 0 period b)
    (λ xs f. (f.0, small_into xs f.1)) (λ xs f. (f.0, small_from xs f.1))
    (retext (λ xs. (length xs ≡ period) × AllFrom (λ i. InRange 0 most_position) 0 xs) (λ xs. texts_from (λ i. position_text) 0 xs)
    (λ xs. flat_map position_text xs) NoDigit b (items_at (λ i. position_at) 0 period b)
    (λ xs f. texts_are position_text 0 xs)
    (items_read (λ i. InRange 0 most_position) (λ i. position_text) NoDigit (λ i. position_at) (λ i. 0) position_item 0 period b)))))

abbrev pub FitsPath : ℕ → ℕ → List ℕ → Type 0
FitsPath hoists period xs = (length xs ≡ hoists * period) × AreSmall xs

abbrev pub paths_text : ℕ → ℕ → List ℕ → List ℕ
paths_text hoists period xs =
    each_below hoists (λ h. codes "path " ++ (decimal h ++ (flat_map (λ t. position_text (get_or xs (h * period + t) 0)) (range_with_len 0 period) ++ end)))

abbrev Rows : ℕ → List (List ℕ) → Type 0
Rows period rows = AllFrom (λ h. IsPathRow period) 0 rows

abbrev RowsFrom : ℕ → ℕ → List (List ℕ) → Type 0
RowsFrom period i rows = AllFrom (λ h. IsPathRow period) i rows

small_append : (xs ys : List ℕ) → AreSmall xs → AreSmall ys → AreSmall (xs ++ ys)
small_append xs ys f g i =
    ⊎_elim
    (λ lt. omega (arith, get_or_append_left xs ys 0 i lt, f i))
    (λ le. omega (arith, get_or-append_right xs ys (length xs) i 0 refl le, g (i - length xs)))
    (cases_lt i (length xs))

joined_fits : (period i : ℕ) (rows : List (List ℕ)) → RowsFrom period i rows
    → FitsPath (length rows) period (concat rows)
joined_fits period i [] f = (let z : 0 * period ≡ 0 = omega arith in sym z, λ j. omega arith)
joined_fits period i (x ∷ rows) f =
    let r = joined_fits period (i + 1) rows f.1 in
    (omega (arith, length-append x (concat rows), f.0.0, r.0), small_append x (concat rows) f.0.1 r.1)

joined_at : (period i : ℕ) (rows : List (List ℕ)) (h t : ℕ) → RowsFrom period i rows → h < length rows → t < period
    → get_or (concat rows) (h * period + t) 0 ≡ get_or (get_or rows h []) t 0
joined_at period i [] h t f lt lt' = absurd (omega arith)
joined_at period i (x ∷ rows) zero t f lt lt' =
    let z : zero * period + t ≡ t = omega arith in
    ap (λ (k : ℕ). get_or (x ++ concat rows) k 0) z ∙ get_or_append_left x (concat rows) 0 t (omega (arith, f.0.0))
joined_at period i (x ∷ rows) (suc h) t f lt lt' =
    let m : suc h * period + t ≡ period + (h * period + t) = omega arith in
    let n : period + (h * period + t) - period ≡ h * period + t = omega arith in
    ap (λ (k : ℕ). get_or (x ++ concat rows) k 0) m ∙ get_or-append_right x (concat rows) period (period + (h * period + t)) 0 f.0.0 (omega arith)
    ∙ ap (λ (k : ℕ). get_or (concat rows) k 0) n ∙ joined_at period (i + 1) rows h t f.1 (omega arith) lt'

row_length : (period : ℕ) (rows : List (List ℕ)) (h : ℕ) → Rows period rows → h < length rows
    → length (get_or rows h []) ≡ period
row_length period rows h f lt = (all_at (λ i. IsPathRow period) [] 0 rows f h lt).0

joined_text : (hoists period : ℕ) (rows : List (List ℕ)) → length rows ≡ hoists → Rows period rows
    → paths_text hoists period (concat rows) ≡ texts_from row_path 0 rows
joined_text hoists period rows e f =
    lines_are (λ h. codes "path " ++ (decimal h
    ++ (flat_map (λ t. position_text (get_or (concat rows) (h * period + t) 0)) (range_with_len 0 period) ++ end))) row_path [] 0 hoists rows e
    (λ h lt.
    let z : 0 + h ≡ h = omega arith in
    let inside : h < length rows = omega (arith, e) in
    let row : List ℕ = get_or rows h [] in
    let same : flat_map (λ t. position_text (get_or (concat rows) ((0 + h) * period + t) 0)) (range_with_len 0 period) ≡ flat_map position_text row =
    lines_are (λ t. position_text (get_or (concat rows) ((0 + h) * period + t) 0)) (λ j. position_text) 0 0 period row (row_length period rows h f inside)
    (λ t lt'.
    let m : (0 + h) * period + (0 + t) ≡ h * period + t = omega (arith, ap (λ (k : ℕ). k * period) z) in
    ap (λ (k : ℕ). position_text (get_or (concat rows) k 0)) m ∙ ap position_text (joined_at period 0 rows h t f inside lt'))
    ∙ texts_are position_text 0 row in
    ap (λ (x : List ℕ). codes "path " ++ (decimal (0 + h) ++ (x ++ end))) same)

abbrev cut : ℕ → ℕ → List ℕ → List (List ℕ)
cut zero period xs = []
cut (suc n) period xs = take period xs ∷ cut n period (drop period xs)

small_take : (n : ℕ) (xs : List ℕ) → n ≤ length xs → AreSmall xs → AreSmall (take n xs)
small_take n xs le f i =
    ⊎_elim
    (λ lt. omega (arith, get_or_append_left (take n xs) (drop n xs) 0 i lt, ap (λ (ys : List ℕ). get_or ys i 0) (take-append-drop n xs), f i))
    (λ past. omega (arith, get_or_past (take n xs) i 0 past))
    (cases_lt i (length (take n xs)))

small_drop : (n : ℕ) (xs : List ℕ) → n ≤ length xs → AreSmall xs → AreSmall (drop n xs)
small_drop n xs le f i =
    let e : n + i - n ≡ i = omega arith in
    let there : get_or (take n xs ++ drop n xs) (n + i) 0 ≡ get_or (drop n xs) (n + i - n) 0 =
    get_or-append_right (take n xs) (drop n xs) n (n + i) 0 (length-take-le n xs le) (omega arith) in
    omega (arith, there, ap (λ (k : ℕ). get_or (drop n xs) k 0) e, ap (λ (ys : List ℕ). get_or ys (n + i) 0) (take-append-drop n xs), f (n + i))

cut_is : (n period i : ℕ) (xs : List ℕ) → length xs ≡ n * period → AreSmall xs
    → (length (cut n period xs) ≡ n) × RowsFrom period i (cut n period xs) × (concat (cut n period xs) ≡ xs)
cut_is zero period i xs e f = let z : zero * period ≡ 0 = omega arith in (refl, tt, sym (nil_from_length xs (e ∙ z)))
cut_is (suc n) period i xs e f =
    let le : period ≤ length xs = omega (arith, e) in
    let rest : length (drop period xs) ≡ n * period = omega (arith, length-drop period xs, e) in
    let r = cut_is n period (i + 1) (drop period xs) rest (small_drop period xs le f) in
    (ap suc r.0, ((length-take-le period xs le, small_take period xs le f), r.1), ap (λ (ys : List ℕ). take period xs ++ ys) r.2 ∙ take-append-drop period xs)

pub paths_read : (hoists period : ℕ) (bytes : List ℕ)
    → Reads (FitsPath hoists period) (paths_text hoists period) Any bytes (paths_at hoists period bytes)
unfolding paths_at
paths_read hoists period bytes =
    made_reads (λ rows. (length rows ≡ hoists) × Rows period rows) (λ rows. texts_from row_path 0 rows) (FitsPath hoists period)
    (paths_text hoists period) Any concat bytes (items_at (path_at period) 0 hoists bytes)
    (λ rows f. (subst (λ (n : ℕ). FitsPath n period (concat rows)) f.0 (joined_fits period 0 rows f.1), joined_text hoists period rows f.0 f.1))
    (λ xs t f s h. let c = cut_is hoists period 0 xs f.0 f.1 in (cut hoists period xs, (c.0, c.1), c.2))
    (items_read (λ h. IsPathRow period) row_path Any (path_at period) (λ h. zeros 0 period)
    (record { reads = path_read period; stops = λ h a t f s. tt; nil_fits = λ h. no_positions period }) 0 hoists bytes)
