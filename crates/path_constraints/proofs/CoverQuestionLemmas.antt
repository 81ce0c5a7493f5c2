-- At each question that fits below its path a legal timetable meets a child.
use Rattle.std.proofs.Common.{⊎_elim, ◌≡◌, ℕ, zero, suc, ◌+◌, ◌*◌, ◌<◌, List, length, sym, ◌∙◌, ap, subst, ℤ, pos, ◌+ℤ◌, ◌-ℤ◌, ◌*ℤ◌, neg_ℤ, arith, Some}
use Rattle.std.specs.Prelude.{Option, IsSomeAnd}
use Rattle.std.proofs.lemmas.Int.{ints, by_lt_z}
use Rattle.hoist_base.specs.LineData.{LineData, stage, move_number, IsMove}
use Rattle.hoist_base.specs.Valid.{IsLine}
use Rattle.hoist_base.specs.declared.ids.MoveId.{MoveId}
use Rattle.hoist_base.specs.declared.ids.VisitId.{VisitId}
use Rattle.line_model.specs.declared.motion.Motion.{Motion}
use Rattle.line_model.specs.Motion.{IsMotion}
use Rattle.line_model.specs.Timetable.{Timetable, later, motion}
use Rattle.line_model.specs.Legal.{IsLegal}
use Rattle.collision_pairs.specs.declared.span.Span.{Span}
use Rattle.collision_pairs.specs.Forbidden.{IsForbidden, IsWithin, IsSpanOf}
use Rattle.collision_pairs.proofs.ClashLemmas.{has_no_holes}
use Rattle.choice_tree.specs.declared.question.Question.{Question}
use Rattle.choice_tree.specs.declared.question.Question.TheVariants.{Assign, TankOrder, HoistOrder, Choose}
use Rattle.choice_tree.specs.declared.question.Decision.{Decision}
use Rattle.path_constraints.specs.Tanks.{motion_below}
use Rattle.path_constraints.specs.Hoists.{hoists_by, hoists_reaching, clash_between, clash_below}
use Rattle.path_constraints.specs.Questions.{IsBefore, IsOpenVisit, IsOpenMove, ShareTank, MayClash, Stands, child_count, offset_of}
use Rattle.path_constraints.specs.Meets.{ticks_of, ride_of, MeetsSpan, Meets, MeetsPath}
use Rattle.list_facts.proofs.Elements.{place_of}
use Rattle.path_constraints.proofs.CoverTankLemmas.{tank_settled, motion_settled, visit_before, visit_after}
use Rattle.path_constraints.proofs.CoverTrackLemmas.{shifts, none_forbidden}
use Rattle.path_constraints.proofs.CoverRideLemmas.{hoist_open, clash_settled}
use Rattle.path_constraints.proofs.CoverHoldLemmas.{tick_is, ticks_apart}
use Rattle.path_constraints.proofs.CoverDecidedLemmas.{some_is}

-- a child of the question that the timetable meets
abbrev pub MeetsChild : LineData → List Decision → Timetable → Question → Type 0
MeetsChild l path p question = (child : ℕ) × (child < child_count l path question) × Meets l p question child

-- ---- choices

meets_choose : (l : LineData) (path : List Decision) (p : Timetable) (v : VisitId) → IsLegal l p → IsOpenVisit l path v
    → MeetsChild l path p (Choose v)
meets_choose l path p v legal open_visit = place_of (stage l v.stage).tanks (p.tank v.carrier v.stage) (legal.routed v.carrier v.stage open_visit.visit)

meets_assign : (l : LineData) (path : List Decision) (p : Timetable) (m : MoveId) → IsLegal l p → MeetsPath l p path
    → IsOpenMove l path m
    → MeetsChild l path p (Assign m)
meets_assign l path p m legal meets open_move =
    let c = m.carrier in
    let k = m.step in
    let s = some_is (motion_below l path c k) open_move.motion in
    let e : motion_below l path c k ≡ Some (motion l p c k) = s.1 ∙ ap (λ (x : Motion). Some x)
    (motion_settled l path p c k s.0 legal meets open_move.move s.1) in
    let r = place_of (hoists_reaching l (motion l p c k)) (p.hoist c k) (hoist_open l p c k legal open_move.move) in
    let P : Option Motion → Type 0 = λ o. r.0 < length (hoists_by l o) in
    (r.0, subst P (sym e) r.1, r.2)

-- ---- orders of visits

never_same : (c k c' k' : ℕ) → IsBefore c k c' k' → c ≡ c' → k ≡ k' → ⊥
never_same c k c' k' before e f = ⊎_elim (λ lt. omega (arith, lt, e)) (λ s. omega (arith, s.1, f)) before

meets_tank_order : (l : LineData) (path : List Decision) (p : Timetable) (a b : VisitId) (q : ℤ) → IsLine l
    → IsLegal l p → MeetsPath l p path
    → ShareTank l path a b → MeetsChild l path p (TankOrder a b q)
meets_tank_order l path p a b q line legal meets s =
    let same : p.tank a.carrier a.stage ≡ p.tank b.carrier b.stage =
    sym (tank_settled l path p a.carrier a.stage s.tank legal meets s.first s.first_tank) ∙ tank_settled l path p b.carrier b.stage s.tank legal meets s.second
    s.second_tank in
    ⊎_elim (λ le. (zero, omega arith, le)) (λ le. (suc zero, omega arith, le))
    (ticks_apart l p a.carrier a.stage b.carrier b.stage q line legal s.first s.second same
    (λ d. never_same a.carrier a.stage b.carrier b.stage s.before d.0 d.1))

-- ---- orders of moves

-- the motion of a move is one that clashes speak of
pub is_motion : (l : LineData) (p : Timetable) (c k : ℕ) → IsLine l → IsLegal l p → IsMove l c k
    → IsMotion (motion l p c k)
is_motion l p c k line legal move =
    let from = line.tanks.on_track (p.tank c k) (line.stages.there k (p.tank c k) (legal.routed c k (visit_before l c k move))) in
    let to = line.tanks.on_track (p.tank c (k + 1)) (line.stages.there (k + 1) (p.tank c (k + 1)) (legal.routed c (k + 1) (visit_after l c k move))) in
    let short = line.limits.track.1 in
    record { from = omega (arith, from, short); to = omega (arith, to, short); lift = line.times.lift k move.1; lower = line.times.lower k move.1 }

-- the offset of two moves is not forbidden
offset_allowed : (l : LineData) (p : Timetable) (a b : MoveId) (q : ℤ) → IsLine l → IsLegal l p
    → IsMove l a.carrier a.step → IsMove l b.carrier b.step
    → IsBefore a.carrier a.step b.carrier b.step
    → IsForbidden l (motion l p a.carrier a.step) (p.hoist a.carrier a.step) (motion l p b.carrier b.step)
    (p.hoist b.carrier b.step) (offset_of l (ticks_of l p) p.period a b q)
    → ⊥
offset_allowed l p a b q line legal move move' before bad =
    let s = shifts q p.period in
    let start : ℕ = p.start a.carrier a.step in
    let start' : ℕ = p.start b.carrier b.step in
    let e : offset_of l (ticks_of l p) p.period a b q ≡ pos (later p s.second start') -ℤ pos (later p s.first start) =
    same (ticks_of l p (move_number l a.carrier a.step)) (ticks_of l p (move_number l b.carrier b.step)) (q *ℤ pos p.period) start start' (s.first * p.period)
    (s.second * p.period)
    (tick_is l p a.carrier a.step (omega (arith, move.1))) (tick_is l p b.carrier b.step (omega (arith, move'.1))) s.is in
    let P : ℤ → Type 0 = λ o. IsForbidden l (motion l p a.carrier a.step) (p.hoist a.carrier a.step) (motion l p b.carrier b.step) (p.hoist b.carrier b.step)
    o in
    none_forbidden l p a.carrier a.step s.first b.carrier b.step s.second legal move move'
    (λ d. never_same a.carrier a.step b.carrier b.step before d.0 d.1) (subst P e bad)
  where
    same : (t t' ahead : ℤ) (s s' turns turns' : ℕ) → t ≡ pos s → t' ≡ pos s' → ahead +ℤ pos turns ≡ pos turns'
        → (t' +ℤ ahead) -ℤ t ≡ pos (s' + turns') -ℤ pos (s + turns)
    same t t' ahead s s' turns turns' e f g = omega (arith, ints)

-- outside a span one of the two is late enough
meets_span : (span : Span) (o : ℤ) → (IsWithin span o → ⊥) → (child : ℕ) × (child < 2) × MeetsSpan span o child
meets_span span o outside =
    by_lt_z (neg_ℤ span.before) o
    (λ above. by_lt_z o span.after (λ below. absurd (outside (above, below))) (λ past. (zero, omega arith, past)))
    (λ early. (suc zero, omega arith, omega (arith, ints)))

meets_hoist_order : (l : LineData) (path : List Decision) (p : Timetable) (a b : MoveId) (q : ℤ) → IsLine l
    → IsLegal l p → MeetsPath l p path
    → MayClash l path a b → MeetsChild l path p (HoistOrder a b q)
meets_hoist_order l path p a b q line legal meets s =
    let c = some_is (clash_below l path a b) s.clash in
    let e : clash_between l (ride_of l p a.carrier a.step) (ride_of l p b.carrier b.step) ≡ Some c.0 = clash_settled l path p a b c.0 legal meets s.first
    s.second c.1 in
    let o : ℤ = offset_of l (ticks_of l p) p.period a b q in
    let F : ℤ → Type 0 = IsForbidden l (motion l p a.carrier a.step) (p.hoist a.carrier a.step) (motion l p b.carrier b.step) (p.hoist b.carrier b.step) in
    let S : Option Span → Type 0 = λ x. IsSpanOf x F in
    let exact : IsSpanOf (Some c.0) F =
    subst S e (has_no_holes l (motion l p a.carrier a.step) (p.hoist a.carrier a.step) (motion l p b.carrier b.step) (p.hoist b.carrier b.step)
    (is_motion l p a.carrier a.step line legal s.first) (is_motion l p b.carrier b.step line legal s.second)) in
    let r = meets_span c.0 o (λ w. offset_allowed l p a b q line legal s.first s.second s.before ((exact o).1 w)) in
    let M : Option Span → Type 0 = λ x. IsSomeAnd x (λ y. MeetsSpan y o r.0) in
    (r.0, r.1, subst M (sym e) r.2)

-- ---- all

pub meets_child : (l : LineData) (path : List Decision) (p : Timetable) (question : Question) → IsLine l → IsLegal l p
    → MeetsPath l p path
    → Stands l path question → MeetsChild l path p question
meets_child l path p (Assign m) line legal meets s = meets_assign l path p m legal meets s
meets_child l path p (TankOrder a b q) line legal meets s = meets_tank_order l path p a b q line legal meets s
meets_child l path p (HoistOrder a b q) line legal meets s = meets_hoist_order l path p a b q line legal meets s
meets_child l path p (Choose v) line legal meets s = meets_choose l path p v legal s
