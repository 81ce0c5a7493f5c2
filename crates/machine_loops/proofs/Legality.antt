-- A timetable that the frames of a loop show is legal.
use Rattle.std.proofs.Common.{◌≡◌, ℕ, zero, suc, ◌+◌, ◌-◌, ◌*◌, ◌/◌, ◌%◌, ◌≤◌, ◌<◌, Bool, Option, Some, None, IfSome, List, get_or, ⊎_elim, sym, refl, ap, subst, ◌∙◌, one-mul, arith}
use Rattle.std.specs.Prelude.{true, ◌==◌, if◌then◌else◌}
use Rattle.std.specs.Option.{option_map}
use Rattle.std.specs.List.{list_any, Contains}
use Rattle.std.proofs.lemmas.Bool.{cases_eq, cases_lt, cases_order, eq-eqb, ne_eqb, eqb-true, cond-true, cond-false}
use Rattle.std.proofs.lemmas.List.Folds.{Any-from_list_any}
use Rattle.std.proofs.lemmas.Nat.{mul-le, div-add-mod', mod_below}
use Rattle.hoist_base.specs.LineData.{LineData, stage, last_stage, last_step, IsVisit, Serves}
use Rattle.line_model.specs.Motion.{duration, place}
use Rattle.line_model.specs.Timetable.{Timetable, position, motion}
use Rattle.line_model.specs.Legal.{IsTrack, CarriesAt, IsCarried, hold_begin, hold_end, HoldsAt, HasWindows, AreNumbered, IsLegal}
use Rattle.tick_machine.specs.declared.frame.Carry.{Carry}
use Rattle.tick_machine.specs.declared.frame.Hold.{Hold}
use Rattle.tick_machine.specs.declared.frame.Rest.{Rest}
use Rattle.tick_machine.specs.declared.frame.Rest.TheVariants.{Lowering, Resting, Lifting}
use Rattle.tick_machine.specs.Layout.{Layout, layout_of, least_age, move_ticks, move_place}
use Rattle.tick_machine.specs.Scene.{Scene, hold_of}
use Rattle.tick_machine.proofs.Ticks.{ticks_long}
use Rattle.machine_loops.specs.Loops.{raised_carry, raised_hold, raised}
use Rattle.machine_loops.proofs.StepBack.{Rests, some_same}
use Rattle.machine_loops.proofs.Unrolled.{ring_one}
use Rattle.machine_loops.proofs.History.{rises}
use Rattle.machine_loops.proofs.Shown.{IsShown, carry_of, ticks, carries, Rested, put_before, rested_first, rested_next, rested_last}

-- the machine's motions are those of the timetable
pub ticks_are : (l : LineData) (frames : ℕ → Scene) (p : Timetable) (c k : ℕ)
    → ticks l frames p c k ≡ duration (motion l p c k)
unfolding move_ticks
ticks_are l frames p c k = refl

places_are : (l : LineData) (p : Timetable) (c k u : ℕ)
    → move_place (layout_of l) k (p.tank c k) (p.tank c (k + 1)) u ≡ place (motion l p c k) u
unfolding move_place
places_are l p c k u = refl

-- where a visit's hold begins and ends
pub begin_next : (l : LineData) (p : Timetable) (c k : ℕ)
    → hold_begin l p c (k + 1) ≡ p.start c k + duration (motion l p c k) - (stage l (k + 1)).lower
begin_next l p c k =
    let e : k + 1 - 1 ≡ k = omega arith in
    ap (λ (b : Bool). if b then p.put c else p.start c (k + 1 - 1) + duration
    (motion l p c (k + 1 - 1)) - (stage l (k + 1)).lower) (ne_eqb (k + 1) 0 (λ z. omega arith))
    ∙ ap (λ (j : ℕ). p.start c j + duration (motion l p c j) - (stage l (k + 1)).lower) e

end_other : (l : LineData) (p : Timetable) (c k : ℕ) → k < last_stage l
    → hold_end l p c k ≡ p.start c k + (stage l k).lift
end_other l p c k lt = ap (λ (b : Bool). if b then p.off c else p.start c k + (stage l k).lift) (ne_eqb k (last_stage l) (λ e. omega arith))

pub end_last : (l : LineData) (p : Timetable) (c : ℕ) → hold_end l p c (last_stage l) ≡ p.off c
end_last l p c = ap (λ (b : Bool). if b then p.off c else p.start c (last_stage l) + (stage l (last_stage l)).lift) (eq-eqb (last_stage l) (last_stage l) refl)

-- the least ages
least_last : (l : LineData) → 0 < last_stage l → least_age l (last_stage l) ≡ l.unload
least_last l some = cond-false (last_stage l == 0) _ _ (ne_eqb (last_stage l) 0 (λ e. omega arith))
    ∙ cond-true (last_stage l == last_stage l) _ _ (eq-eqb (last_stage l) (last_stage l) refl)

least_inner : (l : LineData) (k : ℕ) → k + 1 < last_stage l → least_age l (k + 1) ≡ (stage l (k + 1)).min
least_inner l k lt = cond-false (k + 1 == 0) _ _ (ne_eqb (k + 1) 0 (λ e. omega arith))
    ∙ cond-false (k + 1 == last_stage l) _ _ (ne_eqb (k + 1) (last_stage l) (λ e. omega arith))

-- tick t, some periods later
later_frame : (l : LineData) (period : ℕ) (frames : ℕ → Scene) (p : Timetable) (z t : ℕ) → IsShown l period frames p
    → z * p.period ≤ t → frames t ≡ raised (z * l.degree) (frames (t - z * period))
later_frame l period frames p z t shown le =
    let e : z * p.period ≡ z * period = ap (λ (n : ℕ). z * n) shown.shows.period in
    let sum : t - z * period + z * period ≡ t = omega arith in
    ap frames (sym sum) ∙ shown.run.again z (t - z * period)

-- the hoist of a move carries that carrier
record CarriedBy (l : LineData) (frames : ℕ → Scene) (h c k z t : ℕ) : Type 0 where
  y : Carry
  is : (frames t).carry h ≡ Some y
  carrier : y.carrier ≡ (frames 0).next + c + z * l.degree
  step : y.step ≡ k

carried_by : (l : LineData) (period : ℕ) (frames : ℕ → Scene) (p : Timetable) (h c k z t : ℕ)
    → IsShown l period frames p
    → CarriesAt l p h c k z t → CarriedBy l frames h c k z t
carried_by l period frames p h c k z t shown at =
    let d = z * l.degree in
    let y : Carry = record (carry_of frames p c k) { elapsed = t - z * period - p.start c k } in
    let e : z * p.period ≡ z * period = ap (λ (n : ℕ). z * n) shown.shows.period in
    let long = ticks_are l frames p c k in
    let from = at.from in
    let before = at.before in
    let step = at.move.1 in
    let now = carries l period frames p c k (t - z * period - p.start c k) shown at.move.0 (omega arith) (omega arith) in
    let sum : p.start c k + (t - z * period - p.start c k) ≡ t - z * period = omega arith in
    let here : (frames (t - z * period)).carry h ≡ Some y = ap (frames (t - z * period)).carry (sym at.hoist)
    ∙ ap (λ (n : ℕ). (frames n).carry (p.hoist c k)) (sym sum) ∙ now in
    record {
      y = raised_carry d y;
      is = ap (λ (f : Scene). f.carry h) (later_frame l period frames p z t shown (omega arith)) ∙ ap (option_map (raised_carry d)) here;
      carrier = refl;
      step = refl;
    }

-- two copies of carriers with one number are one
pub same_copy : (n r c c' z z' : ℕ) → c < r → c' < r → n + c + z * r ≡ n + c' + z' * r → (c ≡ c') × (z ≡ z')
same_copy n r c c' z z' lt lt' e =
    ⊎_elim
    (λ same. let m : z * r ≡ z' * r = ap (λ (q : ℕ). q * r) same in (omega arith, same))
    (λ other. ⊎_elim
    (λ less. absurd (let m : (z + 1) * r ≤ z' * r = mul-le (z + 1) r z' r (omega arith)
    (omega arith) in let s : (z + 1) * r ≡ z * r + r = ring_one z r in omega arith))
    (λ more. absurd (let m : (z' + 1) * r ≤ z * r = mul-le (z' + 1) r z r (omega arith)
    (omega arith) in let s : (z' + 1) * r ≡ z' * r + r = ring_one z' r in omega arith))
    other)
    (cases_order z z')

-- positions
position_is : (l : LineData) (period : ℕ) (frames : ℕ → Scene) (p : Timetable) (h t : ℕ) → IsShown l period frames p
    → h < l.hoists → position p h t ≡ (frames t).at h
position_is l period frames p h t shown there =
    let some = shown.run.some in
    let again = shown.run.again (t / period) (t % period) in
    let sum : t % period + t / period * period ≡ t = let e = div-add-mod' t period in omega arith in
    ap (λ (n : ℕ). p.path h (t % n)) shown.shows.period ∙ shown.shows.path h (t % period) there (mod_below t period some)
    ∙ sym (ap (λ (f : Scene). f.at h) again) ∙ ap (λ (n : ℕ). (frames n).at h) sum

track : (l : LineData) (period : ℕ) (frames : ℕ → Scene) (p : Timetable) → IsShown l period frames p → IsTrack l p
track l period frames p shown = record {
  spaced = λ t. record {
    within = λ h lt. let e = position_is l period frames p h t shown lt in let le = (shown.run.sound t).apart.within h lt in omega arith;
    apart = λ h lt.
        let e = position_is l period frames p h t shown (omega arith) in
        let e' = position_is l period frames p (h + 1) t shown lt in
        let le = (shown.run.sound t).apart.gap h lt in
        omega arith;
  };
  up = λ h t lt.
      let e = position_is l period frames p h t shown lt in
      let e' = position_is l period frames p h (t + 1) shown lt in
      let next : (frames (t + 1)).at h ≡ (frames (suc t)).at h = ap (λ (n : ℕ). (frames n).at h) (omega arith) in
      let near = ((shown.run.passes t).near h).0 in
      omega arith;
  down = λ h t lt.
      let e = position_is l period frames p h t shown lt in
      let e' = position_is l period frames p h (t + 1) shown lt in
      let next : (frames (t + 1)).at h ≡ (frames (suc t)).at h = ap (λ (n : ℕ). (frames n).at h) (omega arith) in
      let near = ((shown.run.passes t).near h).1 in
      omega arith;
}

-- a hoist follows its move to the last tick
follows : (l : LineData) (period : ℕ) (frames : ℕ → Scene) (p : Timetable) (c k u : ℕ) → IsShown l period frames p
    → c < l.degree
    → k < last_stage l → u ≤ ticks l frames p c k
    → (frames (p.start c k + u)).at (p.hoist c k) ≡ move_place (layout_of l) k (p.tank c k) (p.tank c (k + 1)) u
follows l period frames p c k zero shown there step le =
    let lift = (shown.run.layout.lift k step).0 in
    let long = ticks_long (layout_of l) k (p.tank c k) (p.tank c (k + 1)) in
    ((shown.run.sound (p.start c k + 0)).carries (p.hoist c k) _ (carries l period frames p c k 0 shown there step (omega arith))).at
follows l period frames p c k (suc u) shown there step le =
    let e : p.start c k + suc u ≡ suc (p.start c k + u) = omega arith in
    let more : u + 1 ≡ suc u = omega arith in
    ap (λ (n : ℕ). (frames n).at (p.hoist c k)) e
    ∙ (shown.run.passes (p.start c k + u)).along (p.hoist c k) (record (carry_of frames p c k) { elapsed = u })
    (carries l period frames p c k u shown there step (omega arith))
    ∙ ap (move_place (layout_of l) k (p.tank c k) (p.tank c (k + 1))) more

-- the move is one of the line
pub record OnLine (l : LineData) (p : Timetable) (c k : ℕ) : Type 0 where
  pub hoist : p.hoist c k < l.hoists
  pub from : (layout_of l).serves (p.tank c k) k ≡ true
  pub to : (layout_of l).serves (p.tank c (k + 1)) (k + 1) ≡ true

pub on_line : (l : LineData) (period : ℕ) (frames : ℕ → Scene) (p : Timetable) (c k : ℕ) → IsShown l period frames p
    → c < l.degree → k < last_stage l → OnLine l p c k
on_line l period frames p c k shown there step =
    let r = (shown.run.sound (p.start c k)).carries (p.hoist c k) (carry_of frames p c k) (shown.shows.begin c k there step) in
    record { hoist = r.there; from = r.from; to = r.to }

carried : (l : LineData) (period : ℕ) (frames : ℕ → Scene) (p : Timetable) → IsShown l period frames p → IsCarried l p
carried l period frames p shown = record {
  hoist = λ c k v. let lt = v.1 in (on_line l period frames p c k shown v.0 (omega arith)).hoist;
  along = λ c k u v le.
      let lt = v.1 in
      let long = ticks_are l frames p c k in
      position_is l period frames p (p.hoist c k) (p.start c k + u) shown (on_line l period frames p c k shown v.0 (omega arith)).hoist
      ∙ follows l period frames p c k u shown v.0 (omega arith) (omega arith) ∙ places_are l p c k u;
  alone = λ h t c k z c' k' z' at at'.
      let a = carried_by l period frames p h c k z t shown at in
      let b = carried_by l period frames p h c' k' z' t shown at' in
      let one : a.y ≡ b.y = some_same a.y b.y (sym a.is ∙ b.is) in
      let carrier : (frames 0).next + c + z * l.degree ≡ (frames 0).next + c' + z' * l.degree = sym a.carrier ∙ ap (λ (w : Carry). w.carrier) one ∙ b.carrier in
      let copy = same_copy (frames 0).next l.degree c c' z z' at.move.0 at'.move.0 carrier in
      (copy.0, sym a.step ∙ ap (λ (w : Carry). w.step) one ∙ b.step, copy.1);
}

-- the tank of a visit is held by that carrier
pub record HeldBy (frames : ℕ → Scene) (i c k t : ℕ) : Type 0 where
  pub r : Rest
  pub is : (frames t).hold i ≡ Some (hold_of c k r)

lowering : (l : LineData) (period : ℕ) (frames : ℕ → Scene) (p : Timetable) (c k t : ℕ) → IsShown l period frames p
    → c < l.degree → k < last_stage l
    → p.start c k + ticks l frames p c k ≤ t + (stage l (k + 1)).lower → t < p.start c k + ticks l frames p c k
    → HeldBy frames (p.tank c (k + 1)) ((frames 0).next + c) (k + 1) t
lowering l period frames p c k t shown there step from before =
    let u = t - p.start c k in
    let long = ticks_long (layout_of l) k (p.tank c k) (p.tank c (k + 1)) in
    let e : p.start c k + u ≡ t = omega arith in
    let is : (frames t).carry (p.hoist c k) ≡ Some (record (carry_of frames p c k) { elapsed = u }) = ap
    (λ (n : ℕ). (frames n).carry (p.hoist c k)) (sym e) ∙ carries l period frames p c k u shown there step
    (omega arith) in
    record { r = Lowering; is = ((shown.run.sound t).carries (p.hoist c k) _ is).lowering (omega arith) }

lifting : (l : LineData) (period : ℕ) (frames : ℕ → Scene) (p : Timetable) (c k t : ℕ) → IsShown l period frames p
    → c < l.degree → k < last_stage l
    → p.start c k ≤ t → t < p.start c k + (stage l k).lift → HeldBy frames (p.tank c k) ((frames 0).next + c) k t
lifting l period frames p c k t shown there step from before =
    let u = t - p.start c k in
    let long = ticks_long (layout_of l) k (p.tank c k) (p.tank c (k + 1)) in
    let e : p.start c k + u ≡ t = omega arith in
    let is : (frames t).carry (p.hoist c k) ≡ Some (record (carry_of frames p c k) { elapsed = u }) = ap
    (λ (n : ℕ). (frames n).carry (p.hoist c k)) (sym e) ∙ carries l period frames p c k u shown there step
    (omega arith) in
    record { r = Lifting; is = ((shown.run.sound t).carries (p.hoist c k) _ is).lifting (omega arith) }

resting : (l : Layout) (frames : ℕ → Scene) (i c k a b t : ℕ) → Rested l frames i c k a b → a ≤ t → t < b
    → HeldBy frames i c k t
resting l frames i c k a b t rested from before =
    let until = rested.until in
    let e : a + (t - a) ≡ t = omega arith in
    record { r = Resting (t - a); is = subst (λ (n : ℕ). Rests (frames n) i c k (t - a)) e (rested.rests (t - a) (omega arith)) }

held_first : (l : LineData) (period : ℕ) (frames : ℕ → Scene) (p : Timetable) (c t : ℕ) → IsShown l period frames p
    → c < l.degree
    → hold_begin l p c 0 ≤ t → t < hold_end l p c 0 → HeldBy frames (p.tank c 0) ((frames 0).next + c) 0 t
held_first l period frames p c t shown there from before =
    let some = shown.run.layout.last.0 in
    let end = end_other l p c 0 (omega arith) in
    ⊎_elim
    (λ lt. resting (layout_of l) frames (p.tank c 0) ((frames 0).next + c) 0 (p.put c) (p.start c 0) t
    (rested_first l period frames p c shown there (omega arith)) from lt)
    (λ le. lifting l period frames p c 0 t shown there (omega arith) le (omega arith))
    (cases_lt t (p.start c 0))

held_next : (l : LineData) (period : ℕ) (frames : ℕ → Scene) (p : Timetable) (c k t : ℕ) → IsShown l period frames p
    → c < l.degree → k + 1 < last_stage l
    → hold_begin l p c (k + 1) ≤ t → t < hold_end l p c (k + 1)
    → HeldBy frames (p.tank c (k + 1)) ((frames 0).next + c) (k + 1) t
held_next l period frames p c k t shown there step from before =
    let begin = begin_next l p c k in
    let end = end_other l p c (k + 1) step in
    let long = ticks_are l frames p c k in
    ⊎_elim
    (λ lt. lowering l period frames p c k t shown there (omega arith) (omega arith) lt)
    (λ le. ⊎_elim
    (λ lt. resting (layout_of l) frames (p.tank c (k + 1)) ((frames 0).next + c) (k + 1)
    (p.start c k + ticks l frames p c k) (p.start c (k + 1)) t
    (rested_next l period frames p c k shown there step).rested le lt)
    (λ past. lifting l period frames p c (k + 1) t shown there step past (omega arith))
    (cases_lt t (p.start c (k + 1))))
    (cases_lt t (p.start c k + ticks l frames p c k))

held_last : (l : LineData) (period : ℕ) (frames : ℕ → Scene) (p : Timetable) (c k t : ℕ) → IsShown l period frames p
    → c < l.degree → k + 1 ≡ last_stage l
    → hold_begin l p c (k + 1) ≤ t → t < p.off c → HeldBy frames (p.tank c (k + 1)) ((frames 0).next + c) (k + 1) t
held_last l period frames p c k t shown there last from before =
    let begin = begin_next l p c k in
    let long = ticks_are l frames p c k in
    ⊎_elim
    (λ lt. lowering l period frames p c k t shown there (omega arith) (omega arith) lt)
    (λ le. subst (λ (j : ℕ). HeldBy frames (p.tank c j) ((frames 0).next + c) j t) (sym last)
    (resting (layout_of l) frames (p.tank c (last_stage l)) ((frames 0).next + c) (last_stage l)
    (p.start c k + ticks l frames p c k) (p.off c) t (rested_last l period frames p c k shown there last) le
    before))
    (cases_lt t (p.start c k + ticks l frames p c k))

pub held : (l : LineData) (period : ℕ) (frames : ℕ → Scene) (p : Timetable) (c k t : ℕ) → IsShown l period frames p
    → c < l.degree → k ≤ last_stage l
    → hold_begin l p c k ≤ t → t < hold_end l p c k → HeldBy frames (p.tank c k) ((frames 0).next + c) k t
held l period frames p c k t shown there le =
    ⊎_elim
    (λ first. subst (λ (j : ℕ). hold_begin l p c j ≤ t → t < hold_end l p c j
    → HeldBy frames (p.tank c j) ((frames 0).next + c) j t) (sym first)
    (held_first l period frames p c t shown there))
    (λ above.
    let e : k - 1 + 1 ≡ k = omega arith in
    ⊎_elim
    (λ last from before. subst (λ (j : ℕ). HeldBy frames (p.tank c j) ((frames 0).next + c) j t) e
    (held_last l period frames p c (k - 1) t shown there (e ∙ last) (subst (λ (j : ℕ). hold_begin l p c j ≤ t) (sym e) from)
    (subst (λ (n : ℕ). t < n) (ap (hold_end l p c) last ∙ end_last l p c) before)))
    (λ below. subst (λ (j : ℕ). hold_begin l p c j ≤ t → t < hold_end l p c j → HeldBy frames (p.tank c j) ((frames 0).next + c) j t) e
    (held_next l period frames p c (k - 1) t shown there (omega arith)))
    (cases_eq k (last_stage l)))
    (cases_eq k 0)

-- and so it is some periods later
record HeldLater (l : LineData) (frames : ℕ → Scene) (i c k z t : ℕ) : Type 0 where
  x : Hold
  is : (frames t).hold i ≡ Some x
  carrier : x.carrier ≡ (frames 0).next + c + z * l.degree
  stage : x.stage ≡ k

held_later : (l : LineData) (period : ℕ) (frames : ℕ → Scene) (p : Timetable) (i c k z t : ℕ)
    → IsShown l period frames p
    → HoldsAt l p i c k z t → HeldLater l frames i c k z t
held_later l period frames p i c k z t shown at =
    let d = z * l.degree in
    let e : z * p.period ≡ z * period = ap (λ (n : ℕ). z * n) shown.shows.period in
    let from = at.from in
    let before = at.before in
    let stage = at.visit.1 in
    let h = held l period frames p c k (t - z * period) shown at.visit.0 (omega arith) (omega arith) (omega arith) in
    let is : (frames (t - z * period)).hold i ≡ Some (hold_of ((frames 0).next + c) k h.r) = ap (frames (t - z * period)).hold (sym at.tank) ∙ h.is in
    record {
      x = hold_of ((frames 0).next + c + d) k h.r;
      is = ap (λ (f : Scene). f.hold i) (later_frame l period frames p z t shown (omega arith)) ∙ ap (option_map (raised_hold d)) is;
      carrier = refl;
      stage = refl;
    }

-- a tank that serves a stage is one of its tanks
contains_from : (i : ℕ) (xs : List ℕ) → list_any (λ j. j == i) xs ≡ true → Contains xs i
contains_from i xs e =
    let (k, x, lt, at, hit) = Any-from_list_any (λ j. j == i) xs e in
    let same : x ≡ i = eqb-true x i hit in
    (k, lt, subst (λ (y : ℕ). get_or xs k y ≡ y) same at)

routed : (l : LineData) (period : ℕ) (frames : ℕ → Scene) (p : Timetable) (c k : ℕ) → IsShown l period frames p
    → IsVisit l c k
    → Serves l (p.tank c k) k
routed l period frames p c k shown v =
    let lt = v.1 in
    let some = shown.run.layout.last.0 in
    ⊎_elim
    (λ below. contains_from (p.tank c k) (stage l k).tanks (on_line l period frames p c k shown v.0 below).from)
    (λ last.
    let e : k - 1 + 1 ≡ k = omega arith in
    subst (λ (j : ℕ). Serves l (p.tank c j) j) e (contains_from (p.tank c (k - 1 + 1)) (stage l (k - 1 + 1)).tanks
    (on_line l period frames p c (k - 1) shown v.0 (omega arith)).to))
    (cases_lt k (last_stage l))

some_same_bound : (o : Option ℕ) (a b b' : ℕ) → b ≡ b' → IfSome o (λ m. a ≤ b + m) → IfSome o (λ m. a ≤ b' + m)
some_same_bound None a b b' e some = tt
some_same_bound (Some m) a b b' e some = omega arith

windows : (l : LineData) (period : ℕ) (frames : ℕ → Scene) (p : Timetable) → IsShown l period frames p → HasWindows l p
windows l period frames p shown =
    let some = shown.run.layout.last.0 in
    record {
      least = λ c k v.
          let lt = v.1 in
          let rested = (rested_next l period frames p c k shown v.0 (omega arith)).rested in
          let until = rested.until in
          let old = rested.old_enough in
          let least = least_inner l k (omega arith) in
          let long = ticks_are l frames p c k in
          omega arith;
      greatest = λ c k v.
          let lt = v.1 in
          let young = (rested_next l period frames p c k shown v.0 (omega arith)).young_enough in
          some_same_bound (stage l (k + 1)).max (p.start c (k + 1)) (p.start c k + ticks l frames p c k)
          (p.start c k + duration (motion l p c k)) (ap (λ (d : ℕ). p.start c k + d)
          (ticks_are l frames p c k)) young;
      load = λ c lt.
          let rested = rested_first l period frames p c shown lt (omega arith) in
          let until = rested.until in
          let old : l.load ≤ rested.age = rested.old_enough in
          omega arith;
      unload = λ c lt.
          let k = last_step l in
          let rested = rested_last l period frames p c k shown lt (omega arith) in
          let until = rested.until in
          let old = rested.old_enough in
          let least = least_last l (omega arith) in
          let long = ticks_are l frames p c k in
          omega arith;
    }

numbered : (l : LineData) (period : ℕ) (frames : ℕ → Scene) (p : Timetable) → IsShown l period frames p
    → AreNumbered l p
numbered l period frames p shown =
    let n = (frames 0).next in
    let some = shown.run.degree in
    record {
      rising = λ c lt.
          let a = put_before frames (n + c) (p.put c) (shown.shows.put c (omega arith)) in
          let b = put_before frames (n + (c + 1)) (p.put (c + 1)) (shown.shows.put (c + 1) lt) in
          let after = a.after in
          let before = b.after in
          ⊎_elim (λ less. less) (λ le. absurd (let up = rises l period frames (p.put (c + 1))
          (p.put c) shown.run le in omega arith)) (cases_lt (p.put c) (p.put (c + 1)));
      around =
          let c = l.degree - 1 in
          let a = put_before frames (n + c) (p.put c) (shown.shows.put c (omega arith)) in
          let b = put_before frames (n + 0) (p.put 0) (shown.shows.put 0 (omega arith)) in
          let last = a.after in
          let first = b.after in
          let e = shown.shows.period in
          let again : (frames (p.put 0 + 1 * period)).next ≡ (frames (p.put 0)).next + 1 * l.degree = ap
          (λ (f : Scene). f.next) (shown.run.again 1 (p.put 0)) in
          let one : 1 * period ≡ period = one-mul period in
          let one' : 1 * l.degree ≡ l.degree = one-mul l.degree in
          ⊎_elim (λ less. less)
          (λ le. absurd (let up = rises l period frames (p.put 0 + 1 * period) (p.put c) shown.run (omega arith) in omega arith))
          (cases_lt (p.put c) (p.put 0 + p.period));
    }

pub legal : (l : LineData) (period : ℕ) (frames : ℕ → Scene) (p : Timetable) → IsShown l period frames p → IsLegal l p
legal l period frames p shown = record {
  period = let e = shown.shows.period in let some = shown.run.some in omega arith;
  routed = λ c k v. routed l period frames p c k shown v;
  track = track l period frames p shown;
  carried = carried l period frames p shown;
  held = λ i t c k z c' k' z' at at'.
      let a = held_later l period frames p i c k z t shown at in
      let b = held_later l period frames p i c' k' z' t shown at' in
      let one : a.x ≡ b.x = some_same a.x b.x (sym a.is ∙ b.is) in
      let carrier : (frames 0).next + c + z * l.degree ≡ (frames 0).next + c' + z' * l.degree = sym a.carrier ∙ ap (λ (w : Hold). w.carrier) one ∙ b.carrier in
      let copy = same_copy (frames 0).next l.degree c c' z z' at.visit.0 at'.visit.0 carrier in
      (copy.0, sym a.stage ∙ ap (λ (w : Hold). w.stage) one ∙ b.stage, copy.1);
  windows = windows l period frames p shown;
  numbered = numbered l period frames p shown;
}
