-- The hoists, rides and clashes that a path settles are those of each legal timetable that meets its decisions.
use Rattle.std.proofs.Common.{◌≡◌, ℕ, ◌+◌, ◌-◌, ◌*◌, ◌<◌, List, [], ◌∷◌, get_or, Bool, true, false, refl, sym, ◌∙◌, ap, subst, arith, Some, None, ◌&&◌}
use Rattle.std.specs.Prelude.{Option, Contains, slice_get, nat_le}
use Rattle.std.proofs.lemmas.Bool.{le-leb}
use Rattle.hoist_base.specs.LineData.{LineData, IsMove}
use Rattle.hoist_base.specs.declared.ids.MoveId.{MoveId}
use Rattle.line_model.specs.declared.motion.Motion.{Motion}
use Rattle.line_model.specs.Motion.{Reaches}
use Rattle.line_model.specs.Timetable.{Timetable, motion}
use Rattle.line_model.specs.Legal.{IsLegal}
use Rattle.collision_pairs.specs.declared.span.Span.{Span}
use Rattle.choice_tree.specs.declared.question.Question.{Question}
use Rattle.choice_tree.specs.declared.question.Decision.{Decision}
use Rattle.choice_tree.specs.Nodes.{numbers_from}
use Rattle.choice_tree.proofs.NodeLemmas.{length-numbers_from, get_or-numbers_from}
use Rattle.path_constraints.specs.Tanks.{decision_at}
use Rattle.path_constraints.specs.Hoists.{Ride, reaches, reaches_motion, hoists_reaching, assigned_of, hoist_by, ride_below, clash_between, clash_below}
use Rattle.path_constraints.specs.Meets.{ride_of, Meets, MeetsPath}
use Rattle.path_constraints.proofs.Choices.{assigned}
use Rattle.path_constraints.proofs.Settled.{settled_ride, settled_clash}
use Rattle.list_facts.proofs.Elements.{contains_only, contains_filter}
use Rattle.path_constraints.proofs.CoverTankLemmas.{motion_settled}
use Rattle.path_constraints.proofs.CoverTrackLemmas.{reaches_moves}

contains_numbers : (count h : ℕ) → h < count → Contains (numbers_from 0 count) h
contains_numbers count h lt =
    let e : get_or (numbers_from 0 count) h h ≡ h = omega (arith, get_or-numbers_from 0 count h h lt) in
    (h, omega (arith, lt, length-numbers_from 0 count), e)

both : (a b : Bool) → a ≡ true → b ≡ true → (a && b) ≡ true
both true b e f = f
both false b e f = cc

reaches_true : (l : LineData) (h at : ℕ) → Reaches l h at → reaches l h at ≡ true
reaches_true l h at r =
    both (nat_le (h * l.gap) at) (nat_le (at + (l.hoists - 1 - h) * l.gap) l.track)
    (le-leb (h * l.gap) at r.0) (le-leb (at + (l.hoists - 1 - h) * l.gap) l.track r.1)

-- the hoist of a move is one of those that reach its motion
pub hoist_open : (l : LineData) (p : Timetable) (c k : ℕ) → IsLegal l p → IsMove l c k
    → Contains (hoists_reaching l (motion l p c k)) (p.hoist c k)
hoist_open l p c k legal move =
    let m = motion l p c k in
    let h = p.hoist c k in
    let r = reaches_moves l p c k legal move in
    contains_filter (λ g. reaches_motion l g m) (numbers_from 0 l.hoists) h (contains_numbers l.hoists h (legal.carried.hoist c k move))
    (both (reaches l h m.from) (reaches l h m.to) (reaches_true l h m.from r.0) (reaches_true l h m.to r.1))

-- a hoist that the path assigns is the timetable's
assigned_hoist : (l : LineData) (path : List Decision) (p : Timetable) (c k n : ℕ) → MeetsPath l p path
    → assigned_of path c k ≡ Some n
    → slice_get (hoists_reaching l (motion l p c k)) n ≡ Some (p.hoist c k)
assigned_hoist l path p c k n meets e =
    let r = assigned path c k n e in
    let Q : Question → Type 0 = λ q. Meets l p q (decision_at path r.place).child in
    let A : ℕ → Type 0 = λ j. slice_get (hoists_reaching l (motion l p r.move.carrier r.move.step)) j ≡ Some (p.hoist r.move.carrier r.move.step) in
    let B : ℕ → Type 0 = λ j. slice_get (hoists_reaching l (motion l p r.move.carrier j)) n ≡ Some (p.hoist r.move.carrier j) in
    let C : ℕ → Type 0 = λ j. slice_get (hoists_reaching l (motion l p j k)) n ≡ Some (p.hoist j k) in
    subst C r.carrier (subst B r.step (subst A r.child (subst Q r.question (meets r.place r.there))))

hoist_by_is : (hs : List ℕ) (o : Option ℕ) (h x : ℕ) → hoist_by hs o ≡ Some h → Contains hs x
    → ((n : ℕ) → o ≡ Some n → slice_get hs n ≡ Some x) → x ≡ h
hoist_by_is [] o h x e c a = cc
hoist_by_is (y ∷ []) o h x e c a = let s : y ≡ x = contains_only y x c in cc
hoist_by_is (y ∷ z ∷ zs) None h x e c a = cc
hoist_by_is (y ∷ z ∷ zs) (Some n) h x e c a = let s : slice_get (y ∷ z ∷ zs) n ≡ Some x = a n refl in cc

-- a ride that the path settles is the timetable's
pub ride_settled : (l : LineData) (path : List Decision) (p : Timetable) (c k : ℕ) (r : Ride) → IsLegal l p
    → MeetsPath l p path → IsMove l c k
    → ride_below l path c k ≡ Some r → r ≡ ride_of l p c k
ride_settled l path p c k r legal meets move e =
    let s = settled_ride l path c k r e in
    let m : r.motion ≡ motion l p c k = motion_settled l path p c k r.motion legal meets move s.motion in
    let P : Motion → Type 0 = λ x. hoist_by (hoists_reaching l x) (assigned_of path c k) ≡ Some r.hoist in
    let h : p.hoist c k ≡ r.hoist = hoist_by_is (hoists_reaching l (motion l p c k)) (assigned_of path c k) r.hoist (p.hoist c k) (subst P m s.hoist)
    (hoist_open l p c k legal move) (λ n g. assigned_hoist l path p c k n meets g) in
    let ride : Motion → ℕ → Ride = λ x y. record { motion = x; hoist = y } in
    ap (λ (x : Motion). ride x r.hoist) m ∙ ap (λ (y : ℕ). ride (motion l p c k) y) (sym h)

-- and so is a clash
pub clash_settled : (l : LineData) (path : List Decision) (p : Timetable) (a b : MoveId) (span : Span) → IsLegal l p
    → MeetsPath l p path
    → IsMove l a.carrier a.step → IsMove l b.carrier b.step
    → clash_below l path a b ≡ Some span
    → clash_between l (ride_of l p a.carrier a.step) (ride_of l p b.carrier b.step) ≡ Some span
clash_settled l path p a b span legal meets move move' e =
    let s = settled_clash l path a b span e in
    let first : s.first ≡ ride_of l p a.carrier a.step = ride_settled l path p a.carrier a.step s.first legal meets move s.is_first in
    let second : s.second ≡ ride_of l p b.carrier b.step = ride_settled l path p b.carrier b.step s.second legal meets move' s.is_second in
    sym (ap (λ (x : Ride). clash_between l x s.second) first ∙ ap (λ (y : Ride). clash_between l (ride_of l p a.carrier a.step) y) second) ∙ s.clash
