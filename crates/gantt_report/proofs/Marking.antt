-- Marks of the ticks at which hoists carry.
use Rattle.std.proofs.Common.{⊎_elim, ◌⊎◌, inl, inr, ◌≡◌, ◌≢◌, ℕ, suc, ◌+◌, ◌*◌, ◌%◌, ◌<◌, ◌≤◌, ◌==◌, ◌&&◌, ◌||◌, Bool, true, false, List, [], ◌∷◌, length, get_or, set, refl, sym, ap, ◌∙◌, arith}
use Rattle.std.specs.List.{range_with_len, list_any}
use Rattle.std.proofs.lemmas.Bool.{cases_eq, cases_lt}
use Rattle.std.proofs.lemmas.Bool.Decides.{nat_tests}
use Rattle.std.proofs.lemmas.List.{get_or-set_same, get_or-set_other, length-set}
use Rattle.std.proofs.lemmas.Nat.{mul-le, mod_below}
use Rattle.hoist_base.specs.LineData.{LineData, move_at, move_count}
use Rattle.line_model.specs.Motion.{duration}
use Rattle.line_model.specs.Timetable.{Timetable, motion}
use Rattle.gantt_report.specs.Chart.{carries_by, mark_place, is_marked_by, AreMarks}
use Rattle.gantt_report.proofs.Rows.{any_more}

pub same_number : (i j : ℕ) → i ≡ j → (i == j) ≡ true
same_number i j e = grind (arith, nat_tests)

pub other_number : (i j : ℕ) → i ≢ j → (i == j) ≡ false
other_number i j e = grind (arith, nat_tests)

or_true : (b : Bool) → true ≡ (b || true)
or_true true = refl
or_true false = refl

or_false : (b : Bool) → b ≡ (b || false)
or_false true = refl
or_false false = refl

or_assoc : (a b c : Bool) → ((a || b) || c) ≡ (a || (b || c))
or_assoc true b c = refl
or_assoc false b c = refl

-- one mark more is set
set_true : (xs : List Bool) (i j : ℕ) → i < length xs → get_or (set xs i true) j false ≡ (get_or xs j false || (i == j))
set_true xs i j lt =
    let b = get_or xs j false in
    ⊎_elim
    (λ same. ap (λ k. get_or (set xs i true) k false) same ∙ get_or-set_same xs i true false lt ∙ or_true b
    ∙ ap (λ x. b || x) (sym (same_number i j (sym same))))
    (λ other. get_or-set_other xs i j true false other ∙ or_false b ∙ ap (λ x. b || x) (sym (other_number i j (λ e. other (sym e)))))
    (cases_eq j i)

pub mark_more : (old marks : List Bool) (place : ℕ → ℕ) (u : ℕ) → place u < length marks
    → ((j : ℕ) → get_or marks j false ≡ (get_or old j false || list_any (λ v. place v == j) (range_with_len 0 u)))
    → (j : ℕ)
    → get_or (set marks (place u) true) j false ≡ (get_or old j false || list_any (λ v. place v == j) (range_with_len 0 (u + 1)))
mark_more old marks place u lt before j =
    let first = get_or old j false in
    let some = list_any (λ v. place v == j) (range_with_len 0 u) in
    set_true marks (place u) j lt ∙ ap (λ b. b || (place u == j)) (before j) ∙ or_assoc first some (place u == j)
    ∙ ap (λ b. first || b) (sym (any_more u (λ v. place v == j)))

pub moves_more : (old new : List Bool) (test : ℕ → ℕ → Bool) (n : ℕ)
    → ((j : ℕ) → get_or old j false ≡ list_any (test j) (range_with_len 0 n))
    → ((j : ℕ) → get_or new j false ≡ (get_or old j false || test j n))
    → (j : ℕ) → get_or new j false ≡ list_any (test j) (range_with_len 0 (n + 1))
moves_more old new test n before after j = after j ∙ ap (λ b. b || test j n) (before j) ∙ sym (any_more n (test j))

any_same : (f g : ℕ → Bool) (xs : List ℕ) → ((x : ℕ) → f x ≡ g x) → list_any f xs ≡ list_any g xs
any_same f g [] same = refl
any_same f g (x ∷ xs) same = ap (λ b. b || list_any f xs) (same x) ∙ ap (λ b. g x || b) (any_same f g xs same)

rows_apart : (a h x t row : ℕ) → x < row → a < h → a * row + x ≢ h * row + t
rows_apart a h x t row lt less e = omega (arith, lt, e, mul-le (suc a) row h row less (omega arith))

beside : (n x t : ℕ) → (n + x == n + t) ≡ (x == t)
beside n x t = grind (arith, nat_tests)

order : (a b : ℕ) → (a < b) ⊎ ((a ≡ b) ⊎ (b < a))
order a b = ⊎_elim (λ less. inl less) (λ ge. inr (⊎_elim (λ e. inl e) (λ ne. inr (omega (arith, ge, ne))) (cases_eq a b))) (cases_lt a b)

-- places in rows are the same where the row and the place in it are
place_test : (a h x t row : ℕ) → x < row → t < row → (a * row + x == h * row + t) ≡ ((a == h) && (x == t))
place_test a h x t row within there =
    ⊎_elim
    (λ less. other_number _ _ (rows_apart a h x t row within less) ∙ sym (ap (λ b. b && (x == t)) (other_number a h (λ e. omega (arith, less, e)))))
    (λ rest. ⊎_elim
    (λ same. ap (λ k. k * row + x == h * row + t) same ∙ beside (h * row) x t ∙ sym (ap (λ b. b && (x == t)) (same_number a h same)))
    (λ more. other_number _ _ (λ e. rows_apart h a t x row there more (sym e)) ∙ sym (ap (λ b. b && (x == t)) (other_number a h (λ e. omega (arith, more, e)))))
    rest)
    (order a h)

-- the marks of a move tell of a hoist and a tick whether it carries by it
by_move : (l : LineData) (p : Timetable) (h t c k : ℕ) → t < p.period
    → is_marked_by l p (h * p.period + t) c k ≡ carries_by l p h t c k
by_move l p h t c k there =
    any_same (λ u. mark_place p c k u == h * p.period + t) (λ u. (p.hoist c k == h) && ((p.start c k + u) % p.period == t))
    (range_with_len 0 (duration (motion l p c k)))
    (λ u. place_test (p.hoist c k) h ((p.start c k + u) % p.period) t p.period (mod_below (p.start c k + u) p.period (omega (arith, there))) there)

pub are_marks : (l : LineData) (p : Timetable) (marks : List Bool) → length marks ≡ l.hoists * p.period
    → ((j : ℕ) → get_or marks j false ≡ list_any (λ i. is_marked_by l p j (move_at l i).carrier (move_at l i).step) (range_with_len 0 (move_count l)))
    → AreMarks l p marks
are_marks l p marks count each = record {
  count = count;
  each = λ h t hoist there.
      each (h * p.period + t)
      ∙ any_same (λ i. is_marked_by l p (h * p.period + t) (move_at l i).carrier (move_at l i).step)
      (λ i. carries_by l p h t (move_at l i).carrier (move_at l i).step) (range_with_len 0 (move_count l))
      (λ i. by_move l p h t (move_at l i).carrier (move_at l i).step there);
}

pub place_is : (p : Timetable) (c k u h row start : ℕ) → h ≡ p.hoist c k → row ≡ p.period → start ≡ p.start c k
    → h * row + (start + u) % row ≡ mark_place p c k u
place_is p c k u h row start hoist period from = rw (hoist, period, from) refl

pub place_within : (h row x n : ℕ) → 0 < row → (h + 1) * row ≤ n → h * row + x % row < n
place_within h row x n some room = omega (arith, mod_below x row some, room)

-- one tick more of a move is marked
pub tick_marked : (old marks : List Bool) (place : ℕ → ℕ) (u at : ℕ) → at ≡ place u → at < length marks
    → (length marks ≡ length old) × ((j : ℕ) → get_or marks j false ≡ (get_or old j false || list_any (λ v. place v == j) (range_with_len 0 u)))
    → (length (set marks at true) ≡ length old)
    × ((j : ℕ) → get_or (set marks at true) j false ≡ (get_or old j false || list_any (λ v. place v == j) (range_with_len 0 (u + 1))))
tick_marked old marks place u at here within before = (
  length-set marks at true ∙ before.0,
  λ j. ap (λ i. get_or (set marks i true) j false) here ∙ mark_more old marks place u (omega (arith, here, within)) before.1 j,
)

pub room_is : (h row n hoist period count : ℕ) → h ≡ hoist → row ≡ period → n ≡ count → (hoist + 1) * period ≤ count
    → (h + 1) * row ≤ n
room_is h row n hoist period count a b c room = rw (a, b, c) room
