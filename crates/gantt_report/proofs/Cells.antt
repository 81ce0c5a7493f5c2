-- A row of cells, over which one hoist after another is drawn.
use Rattle.std.proofs.Common.{⊎_elim, ◌≡◌, ℕ, suc, ◌+◌, ◌<◌, ◌==◌, Bool, true, false, cond, Option, Some, List, length, get_or, set, map, refl, sym, ap, ◌∙◌, arith}
use Rattle.std.specs.List.{range_with_len}
use Rattle.std.proofs.lemmas.Bool.{cases_eq}
use Rattle.std.proofs.lemmas.List.{get_or-set_same, get_or-set_other, length-set}
use Rattle.std.proofs.lemmas.List.FromFn.{length-map-range_with_len, get_or-map-range_with_len, fill_by_all}
use Rattle.hoist_base.specs.LineData.{LineData}
use Rattle.line_model.specs.Timetable.{Timetable, position}
use Rattle.gantt_report.specs.Chart.{ground_cell, hoist_at, hoist_cell, drawn, cell, carries}
use Rattle.gantt_report.proofs.Marking.{same_number, other_number}

set_cell : (row : List ℕ) (i x b : ℕ) → i < length row → get_or (set row i b) x 0 ≡ cond (i == x) b (get_or row x 0)
set_cell row i x b lt =
    ⊎_elim
    (λ same. ap (λ k. get_or (set row i b) k 0) (sym same) ∙ get_or-set_same row i b 0 lt
    ∙ sym (ap (λ c. cond c b (get_or row x 0)) (same_number i x same)))
    (λ other. get_or-set_other row i x b 0 (λ e. other (sym e)) ∙ sym (ap (λ c. cond c b (get_or row x 0)) (other_number i x other)))
    (cases_eq i x)

drawn_if : (l : LineData) (p : Timetable) (t x h : ℕ) (here : Bool) (other : Option ℕ)
    → drawn l p t x (cond here (Some h) other) ≡ cond here (hoist_cell h (carries l p h t)) (drawn l p t x other)
drawn_if l p t x h true other = refl
drawn_if l p t x h false other = refl

-- the cells with the hoists below h drawn
abbrev pub AreDrawn : LineData → Timetable → ℕ → ℕ → List ℕ → Type 0
AreDrawn l p t h row =
    (length row ≡ l.track + 1)
    × ((x : ℕ) → x < l.track + 1 → get_or row x 0 ≡ drawn l p t x (hoist_at h (λ i. position p i t) x))

pub none_drawn : (l : LineData) (p : Timetable) (t : ℕ) (row : List ℕ)
    → row ≡ map (ground_cell l) (range_with_len 0 (l.track + 1))
    → AreDrawn l p t 0 row
none_drawn l p t row ground = (
  ap length ground ∙ length-map-range_with_len (ground_cell l) 0 (l.track + 1),
  λ x lt. ap (λ xs. get_or xs x 0) ground ∙ get_or-map-range_with_len (ground_cell l) 0 (l.track + 1) x x 0 lt (omega arith),
)

pub one_drawn : (l : LineData) (p : Timetable) (t h at mark : ℕ) (row new : List ℕ) → AreDrawn l p t h row
    → at ≡ position p h t
    → at < length row → mark ≡ hoist_cell h (carries l p h t) → new ≡ set row at mark → AreDrawn l p t (h + 1) new
one_drawn l p t h at mark row new before place lt is after =
    let one : suc h ≡ h + 1 = omega arith in
    let others = λ (x : ℕ). hoist_at h (λ i. position p i t) x in (
      ap length after ∙ length-set row at mark ∙ before.0,
      λ x within. ap (λ xs. get_or xs x 0) after ∙ set_cell row at x mark lt ∙ ap (λ b. cond (at == x) b (get_or row x 0)) is
          ∙ ap (λ y. cond (y == x) (hoist_cell h (carries l p h t)) (get_or row x 0)) place
          ∙ ap (λ y. cond (position p h t == x) (hoist_cell h (carries l p h t)) y) (before.1 x within)
          ∙ sym (drawn_if l p t x h (position p h t == x) (others x))
          ∙ ap (λ n. drawn l p t x (hoist_at n (λ i. position p i t) x)) one,
    )

pub all_drawn : (l : LineData) (p : Timetable) (t h : ℕ) (row : List ℕ) → AreDrawn l p t h row → h ≡ l.hoists
    → row ≡ map (cell l p t) (range_with_len 0 (l.track + 1))
all_drawn l p t h row cells all =
    fill_by_all (cell l p t) row (l.track + 1) 0 cells.0
    (λ x lt. cells.1 x lt ∙ ap (λ n. drawn l p t x (hoist_at n (λ i. position p i t) x)) all)
