-- Moves and visits by number: each number below the count names one that is there, and the order of numbers is that of
-- names.
use Rattle.std.proofs.Common.{⊎_elim, ◌≡◌, ℕ, suc, ◌+◌, ◌*◌, ◌/◌, ◌%◌, ◌<◌, length, ap, sym, ◌∙◌, mod-eq_of_lt, arith}
use Rattle.std.proofs.Math.Nat.{div-eq_of_lt}
use Rattle.std.proofs.lemmas.Bool.{cases_lt}
use Rattle.std.proofs.lemmas.Nat.{mul-le, div-mul-add, mod-mul-add, div-add-mod', mod_below}
use Rattle.hoist_base.specs.declared.ids.MoveId.{MoveId}
use Rattle.hoist_base.specs.declared.ids.VisitId.{VisitId}
use Rattle.hoist_base.specs.LineData.{LineData, last_stage, IsMove, IsVisit, move_number, move_count, move_at, visit_number, visit_count, visit_at}
use Rattle.hoist_base.specs.Valid.{IsLine}

-- a number below d rows of m stands in one of these rows
pub row_below : (i d m : ℕ) → 0 < m → i < d * m → i / m < d
row_below i d m some lt =
    ⊎_elim (λ less. less)
    (λ le. absurd (omega (arith, lt, div-add-mod' i m, mul-le d m (i / m) m le (omega arith))))
    (cases_lt (i / m) d)

-- and a place in such a row is below all of them
pub place_below : (c k d m : ℕ) → c < d → k < m → c * m + k < d * m
place_below c k d m row place = omega (arith, place, mul-le (suc c) m d m row (omega arith))

pub move_there : (l : LineData) (i : ℕ) → IsLine l → i < move_count l
    → IsMove l (move_at l i).carrier (move_at l i).step
move_there l i line lt =
    let some : 0 < last_stage l = omega (arith, line.limits.stages.0) in
    (row_below i l.degree (last_stage l) some lt, omega (arith, mod_below i (last_stage l) some))

pub visit_there : (l : LineData) (i : ℕ) → IsLine l → i < visit_count l
    → IsVisit l (visit_at l i).carrier (visit_at l i).stage
visit_there l i line lt =
    let some : 0 < length l.stages = omega (arith, line.limits.stages.0) in
    (row_below i l.degree (length l.stages) some lt, mod_below i (length l.stages) some)

pub number_of_move : (l : LineData) (i : ℕ) → move_number l (move_at l i).carrier (move_at l i).step ≡ i
number_of_move l i = div-add-mod' i (last_stage l)

pub number_of_visit : (l : LineData) (i : ℕ) → visit_number l (visit_at l i).carrier (visit_at l i).stage ≡ i
number_of_visit l i = div-add-mod' i (length l.stages)

-- and what stands at the number of a name is what has that name
pub visit_named : (l : LineData) (v : VisitId) → IsVisit l v.carrier v.stage
    → visit_at l (visit_number l v.carrier v.stage) ≡ v
visit_named l v there =
    let m = length l.stages in
    let with_carrier : ℕ → VisitId = λ x. record { carrier = x; stage = (v.carrier * m + v.stage) % m } in
    let with_stage : ℕ → VisitId = λ x. record { carrier = v.carrier; stage = x } in
    ap with_carrier (div-mul-add v.carrier m v.stage there.1) ∙ ap with_stage (mod-mul-add v.carrier m v.stage there.1)

pub move_named : (l : LineData) (m : MoveId) → IsMove l m.carrier m.step
    → move_at l (move_number l m.carrier m.step) ≡ m
move_named l m there =
    let n = last_stage l in
    let below : m.step < n = omega (arith, there.1) in
    let with_carrier : ℕ → MoveId = λ x. record { carrier = x; step = (m.carrier * n + m.step) % n } in
    let with_step : ℕ → MoveId = λ x. record { carrier = m.carrier; step = x } in
    ap with_carrier (div-mul-add m.carrier n m.step below) ∙ ap with_step (mod-mul-add m.carrier n m.step below)

pub move_below : (l : LineData) (c k : ℕ) → IsMove l c k → move_number l c k < move_count l
move_below l c k move = place_below c k l.degree (last_stage l) move.0 (omega (arith, move.1))

pub visit_below : (l : LineData) (c k : ℕ) → IsVisit l c k → visit_number l c k < visit_count l
visit_below l c k visit = place_below c k l.degree (length l.stages) visit.0 visit.1

-- the first of them are those of the first carrier
pub first_moves : (l : LineData) (i : ℕ) → i < last_stage l → record { carrier = 0; step = i } ≡ move_at l i
first_moves l i lt =
    let with_carrier = λ (x : ℕ). let move : MoveId = record { carrier = x; step = i % last_stage l } in move in
    let with_step = λ (x : ℕ). let move : MoveId = record { carrier = 0; step = x } in move in
    sym (ap with_carrier (div-eq_of_lt lt) ∙ ap with_step (mod-eq_of_lt lt))
