-- The lists of what pairs of visits and of moves meet.
use Rattle.std.proofs.Common.{to_z, of_z, w64, ◌≡◌, ℕ, suc, ◌+◌, ◌≤◌, arith, List, [], ◌∷◌, ◌++◌, sym, ◌∙◌, ap, ℤ, pos, Bool, cond, eq-eqb, Some}
use Rattle.std.specs.Prelude.{◌-ℤ◌, neg_ℤ, Option, nat_lt, if◌then◌else◌}
use Rattle.std.proofs.lemmas.List.{append_assoc, append-nil}
use Rattle.std.proofs.lemmas.Bool.{ne_eqb, le-ltb}
use Rattle.hoist_base.specs.LineData.{LineData}
use Rattle.hoist_base.specs.declared.ids.MoveId.{MoveId}
use Rattle.hoist_base.specs.declared.ids.VisitId.{VisitId}
use Rattle.line_model.specs.Timetable.{Timetable}
use Rattle.longest_path.specs.declared.systems.Arc.{Arc}
use Rattle.collision_pairs.specs.declared.span.Span.{Span}
use Rattle.path_constraints.specs.declared.holds.Moment.{Moment}
use Rattle.path_constraints.specs.Holds.{begin_of, end_of}
use Rattle.path_constraints.specs.Constraints.{moment_arc, span_arc}
use Rattle.path_constraints.specs.Meets.{durations_of}
use Rattle.window_margin.specs.Orders.{own_clash, visit_order, move_order}
use Rattle.window_margin.specs.Arcs.{at_period, rows_below, ordered_visits, visit_pair, ordered_moves, spanned_moves, move_pair}

rows_more : (row : ℕ → List Arc) (n : ℕ) → rows_below row (n + 1) ≡ rows_below row n ++ row n
rows_more row n = let e : n + 1 ≡ suc n = omega arith in ap (λ (k : ℕ). rows_below row k) e

pub rows_step : (row : ℕ → List Arc) (n : ℕ) (xs ys zs : List Arc) → ys ≡ xs ++ rows_below row n → zs ≡ ys ++ row n
    → zs ≡ xs ++ rows_below row (n + 1)
rows_step row n xs ys zs e f = f ∙ ap (λ ws. ws ++ row n) e ∙ append_assoc xs (rows_below row n) (row n)
    ∙ ap (λ ws. xs ++ ws) (sym (rows_more row n))

pub rows_done : (row : ℕ → List Arc) (m n : ℕ) (xs ys : List Arc) → m ≡ n → ys ≡ xs ++ rows_below row m
    → ys ≡ xs ++ rows_below row n
rows_done row m n xs ys e f = f ∙ ap (λ (k : ℕ). xs ++ rows_below row k) e

two_more : (xs ys zs : List Arc) (a b : Arc) → ys ≡ xs ++ a ∷ [] → zs ≡ ys ++ b ∷ [] → zs ≡ xs ++ (a ∷ b ∷ [])
two_more xs ys zs a b e f = f ∙ ap (λ ws. ws ++ b ∷ []) e ∙ append_assoc xs (a ∷ []) (b ∷ [])

-- ---- visits

abbrev moments : LineData → Moment → Moment → ℤ → ℕ → Arc
moments l x y q n = at_period n (pos 0) (moment_arc l x y q)

same_moments : (l : LineData) (x x' y y' : Moment) (q q' : ℤ) (n n' : ℕ) → x ≡ x' → y ≡ y' → q ≡ q' → n ≡ n'
    → moments l x y q n ≡ moments l x' y' q' n'
same_moments l x x' y y' q q' n n' e f g h =
    ap (λ (m : Moment). moments l m y q n) e ∙ ap (λ (m : Moment). moments l x' m q n) f ∙ ap (λ (z : ℤ). moments l x' y' z n) g
    ∙ ap (λ (k : ℕ). moments l x' y' q' k) h

pub visits_more : (l : LineData) (p : Timetable) (a b : VisitId) (x y x' y' : Moment) (q r : ℤ) (n : ℕ) (u v : Arc) (xs ys zs : List Arc)
    → p.tank a.carrier a.stage ≡ p.tank b.carrier b.stage → x ≡ end_of l (durations_of l p) a.carrier a.stage
    → y ≡ begin_of l (durations_of l p) b.carrier b.stage
    → x' ≡ end_of l (durations_of l p) b.carrier b.stage → y' ≡ begin_of l (durations_of l p) a.carrier a.stage
    → q ≡ visit_order l p a b
    → r ≡ neg_ℤ (q -ℤ pos 1) → n ≡ p.period → u ≡ at_period n (pos 0) (moment_arc l x y q)
    → v ≡ at_period n (pos 0) (moment_arc l x' y' r)
    → ys ≡ xs ++ u ∷ [] → zs ≡ ys ++ v ∷ [] → zs ≡ xs ++ visit_pair l p a b
visits_more l p a b x y x' y' q r n u v xs ys zs same ex ey ex' ey' eq er en eu ev e f =
    let d = durations_of l p in
    let o = visit_order l p a b in
    let L : List Arc = ordered_visits l p a b o in
    let first = eu ∙ same_moments l x (end_of l d a.carrier a.stage) y (begin_of l d b.carrier b.stage) q o n p.period ex ey eq en in
    let back = er ∙ ap (λ (z : ℤ). neg_ℤ (z -ℤ pos 1)) eq in
    let second = ev ∙ same_moments l x' (end_of l d b.carrier b.stage) y' (begin_of l d a.carrier a.stage) r (neg_ℤ (o -ℤ pos 1)) n p.period ex' ey' back en in
    let pair : u ∷ v ∷ [] ≡ L = ap (λ (w : Arc). w ∷ v ∷ []) first
    ∙ ap (λ (w : Arc). moments l (end_of l d a.carrier a.stage)
    (begin_of l d b.carrier b.stage) o p.period ∷ w ∷ []) second in
    let taken : visit_pair l p a b ≡ L = ap (λ (t : Bool). cond t L []) (eq-eqb (p.tank a.carrier a.stage) (p.tank b.carrier b.stage) same) in
    two_more xs ys zs u v e f ∙ ap (λ (ws : List Arc). xs ++ ws) (pair ∙ sym taken)

pub no_visits : (l : LineData) (p : Timetable) (a b : VisitId) (xs : List Arc)
    → (p.tank a.carrier a.stage ≡ p.tank b.carrier b.stage → ⊥)
    → xs ≡ xs ++ visit_pair l p a b
no_visits l p a b xs differ =
    let left : visit_pair l p a b ≡ [] = ap (λ (t : Bool). cond t (ordered_visits l p a b (visit_order l p a b)) [])
    (ne_eqb (p.tank a.carrier a.stage) (p.tank b.carrier b.stage) differ) in
    sym (append-nil xs) ∙ ap (λ (ws : List Arc). xs ++ ws) (sym left)

pub no_row : (i j : ℕ) (pair xs : List Arc) → j ≤ i → xs ≡ xs ++ (if nat_lt i j then pair else [])
no_row i j pair xs le = sym (append-nil xs) ∙ ap (λ (t : Bool). xs ++ cond t pair []) (sym (le-ltb i j le))

-- ---- moves

pub moves_more : (l : LineData) (p : Timetable) (a b : MoveId) (span : Span) (q : ℤ) (n : ℕ) (u v : Arc) (xs ys zs : List Arc)
    → own_clash l p a b ≡ Some span → q ≡ move_order l p a b span → n ≡ p.period
    → u ≡ at_period n (pos 0) (span_arc l a b q 0 (Some span))
    → v ≡ at_period n (pos 0) (span_arc l a b (q -ℤ pos 1) 1 (Some span))
    → ys ≡ xs ++ u ∷ [] → zs ≡ ys ++ v ∷ [] → zs ≡ xs ++ move_pair l p a b
moves_more l p a b span q n u v xs ys zs clash eq en eu ev e f =
    let o = move_order l p a b span in
    let F : ℤ → ℕ → Arc = λ z k. at_period k (pos 0) (span_arc l a b z 0 (Some span)) in
    let G : ℤ → ℕ → Arc = λ z k. at_period k (pos 0) (span_arc l a b (z -ℤ pos 1) 1 (Some span)) in
    let first : u ≡ F o p.period = eu ∙ ap (λ (z : ℤ). F z n) eq ∙ ap (λ (k : ℕ). F o k) en in
    let second : v ≡ G o p.period = ev ∙ ap (λ (z : ℤ). G z n) eq ∙ ap (λ (k : ℕ). G o k) en in
    let pair : u ∷ v ∷ [] ≡ ordered_moves l p a b o (Some span) = ap (λ (w : Arc). w ∷ v ∷ []) first ∙ ap (λ (w : Arc). F o p.period ∷ w ∷ []) second in
    let taken : move_pair l p a b ≡ ordered_moves l p a b o (Some span) = ap (λ (s : Option Span). spanned_moves l p a b s) clash in
    two_more xs ys zs u v e f ∙ ap (λ (ws : List Arc). xs ++ ws) (pair ∙ sym taken)

-- a number as the code holds it
abbrev pub held : ℤ → ℤ
held z = to_z w64 (of_z w64 z)
