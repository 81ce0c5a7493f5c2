-- What is asked below a path, from the tanks and the hoists that it settles.
use Rattle.std.proofs.Common.{⊎_elim, ◌≡◌, ◌≢◌, ℕ, ◌+◌, ◌-◌, ◌*◌, ◌/◌, ◌%◌, ◌<◌, ◌≤◌, List, [], ◌∷◌, length, get_or, refl, sym, ◌∙◌, ap, subst, arith, ℤ, Some, None}
use Rattle.std.specs.Prelude.{Option, IsSome, IsSomeAnd, unwrap_or, option_and_then, option_map, ◌<ℤ◌, neg_ℤ}
use Rattle.std.proofs.lemmas.Bool.{cases_lt}
use Rattle.std.proofs.lemmas.Int.{ints}
use Rattle.std.proofs.lemmas.Nat.{div-add-mod', div-mul-add, mod-mul-add}
use Rattle.hoist_base.specs.LineData.{LineData, stage, last_stage, last_step, move_number, move_count, IsMove, IsVisit, visit_count, visit_at, move_at}
use Rattle.hoist_base.specs.Valid.{IsLine}
use Rattle.hoist_base.proofs.NumberLemmas.{move_there, visit_there, visit_below}
use Rattle.hoist_base.specs.declared.ids.VisitId.{VisitId}
use Rattle.line_model.specs.declared.motion.Motion.{Motion}
use Rattle.longest_path.specs.System.{Solves}
use Rattle.choice_tree.specs.declared.question.Decision.{Decision}
use Rattle.path_constraints.specs.Tanks.{choice_of, tanks_by, tank_below, motion_below, low, one_of}
use Rattle.collision_pairs.specs.declared.span.Span.{Span}
use Rattle.path_constraints.specs.declared.rides.Ride.{Ride}
use Rattle.path_constraints.specs.Hoists.{assigned_of, hoist_by, hoists_by, hoists_reaching, ride_below, clash_below}
use Rattle.path_constraints.specs.Questions.{FitsPath, offset_of}
use Rattle.path_constraints.specs.Places.{system_below}
use Rattle.path_constraints.proofs.TankLemmas.{one_by}
use Rattle.period_constraints.specs.Pairs.{Pair, IsFirstPair, IsOpenVisitAt, IsOpenMoveAt, IsFirstNumber, IsAskedTank, IsAskedHoist}
use Rattle.period_constraints.specs.Marks.{AreChoices, AreAssigned, IsOpenByChoices, place_by, HaveTanks, AreChosen}
use Rattle.path_constraints.specs.declared.holds.Moment.{Moment}
use Rattle.path_constraints.specs.Holds.{begin_of, end_of, tick_of}
use Rattle.period_constraints.specs.Stays.{AreRouted, AreNear, motion_by, lasting}
use Rattle.period_constraints.specs.Starts.{clash_rides, ride_by}
use Rattle.period_constraints.specs.Routed.{HoldOneTank, ClashByRides, IsUnassigned}
use Rattle.period_constraints.proofs.PairLemmas.{numbers_before}
use Rattle.period_constraints.proofs.StayLemmas.{pair_same, number_same}
use Rattle.path_constraints.proofs.HoldLemmas.{begin_same, end_same}
use Rattle.path_constraints.proofs.Settled.{motion_is, low_is}
use Rattle.path_constraints.proofs.SpreadLemmas.{keeps_all, spread}
use Rattle.path_constraints.proofs.TankLemmas.{choice_there, tank_there}

-- ---- ticks

pub all_near : (l : LineData) (path : List Decision) (s : ℕ → ℤ) (period : ℕ) → IsLine l
    → Solves (system_below l path) period s → period ≤ 20001 → AreNear l s
all_near l path s period line solves few i lt =
    let keeps = keeps_all l path s period line solves in
    let here = move_there l i line lt in
    let first : IsMove l 0 0 = (omega (arith, here.0), omega (arith, line.limits.stages.0)) in
    let up = spread l path s period (i / last_stage l) (i % last_stage l) 0 0 line keeps here first in
    let down = spread l path s period 0 0 (i / last_stage l) (i % last_stage l) line keeps first here in
    let at : s (move_number l (i / last_stage l) (i % last_stage l)) ≡ s i = ap s (div-add-mod' i (last_stage l)) in
    let start : s (move_number l 0 0) ≡ s 0 = ap s (omega arith) in
    omega (arith, ints, up, down, at, start, few)

-- ---- tanks

-- the number of a choice is one of its stage's
place_there : (l : LineData) (path : List Decision) (c k : ℕ) (o : Option ℕ) → IsLine l → FitsPath l path
    → IsVisit l c k → o ≡ choice_of path c k
    → unwrap_or o 0 < length (stage l k).tanks
place_there l path c k None line fits visit is = omega (arith, (line.stages.count k visit.1).0)
place_there l path c k (Some n) line fits visit is = choice_there l path c k n fits (sym is)

pub have_tanks : (l : LineData) (path : List Decision) (choices : List (Option ℕ)) → IsLine l → FitsPath l path
    → AreChoices l path choices
    → HaveTanks l choices
have_tanks l path choices line fits h = record {
  room = h.0;
  there = λ i lt. place_there l path (visit_at l i).carrier (visit_at l i).stage (get_or choices i None) line fits (visit_there l i line lt) (h.1 i lt);
}

pub routed : (l : LineData) (choices : List (Option ℕ)) (tanks : List ℕ) → IsLine l → HaveTanks l choices
    → AreChosen l choices tanks → AreRouted l tanks
routed l choices tanks line have h = record {
  room = h.room;
  there = λ i lt. omega (arith, h.each i lt, tank_there l (visit_at l i).stage (place_by choices i) line (have.there i lt));
}

open_by : (l : LineData) (path : List Decision) (choices : List (Option ℕ)) → IsLine l → AreChoices l path choices
    → (i : ℕ) → IsOpenByChoices l choices i
    → IsOpenVisitAt l path i
open_by l path choices line h i open_at = (
  open_at.0,
  record {
    visit = visit_there l i line open_at.0;
    several = open_at.1;
    open_yet = sym (h.1 i open_at.0) ∙
        open_at.2;
  },
)

open_at : (l : LineData) (path : List Decision) (choices : List (Option ℕ)) → AreChoices l path choices → (i : ℕ)
    → IsOpenVisitAt l path i
    → IsOpenByChoices l choices i
open_at l path choices h i x = (x.0, x.1.several, h.1 i x.0 ∙ x.1.open_yet)

-- each visit has one tank below the path
pub record AreSettled (l : LineData) (path : List Decision) (tanks : List ℕ) : Type 0 where
  pub only : (c k : ℕ) → IsVisit l c k → tank_below l path c k ≡ Some (get_or tanks (c * length l.stages + k) 0)

settled_at : (l : LineData) (path : List Decision) (choices : List (Option ℕ)) (tanks : List ℕ) (i : ℕ) → IsLine l
    → AreChoices l path choices
    → AreChosen l choices tanks
    → IsFirstNumber (IsOpenByChoices l choices) None → i < visit_count l
    → tank_below l path (visit_at l i).carrier (visit_at l i).stage ≡ Some (get_or tanks i 0)
settled_at l path choices tanks i line marks chosen none lt =
    let v = visit_at l i in
    let visit = visit_there l i line lt in
    let ts = (stage l v.stage).tanks in
    let is = marks.1 i lt in
    ap (λ (o : Option ℕ). one_of (tanks_by ts o)) (sym is)
    ∙ one_by ts (get_or choices i None) (omega (arith, (line.stages.count v.stage visit.1).0))
    (λ e. ⊎_elim (λ few. few) (λ many. absurd (none i (lt, many, e))) (cases_lt (length ts) 2))
    ∙ ap (λ (n : ℕ). Some n) (sym (chosen.each i lt))

pub settled : (l : LineData) (path : List Decision) (choices : List (Option ℕ)) (tanks : List ℕ) → IsLine l
    → AreChoices l path choices
    → AreChosen l choices tanks
    → IsFirstNumber (IsOpenByChoices l choices) None → AreSettled l path tanks
settled l path choices tanks line marks chosen none = record {
  only = λ c k there.
      let m = length l.stages in
      let i = c * m + k in
      let e : i / m ≡ c = div-mul-add c m k there.1 in
      let f : i % m ≡ k = mod-mul-add c m k there.1 in
      sym (ap (λ (x : ℕ). tank_below l path x (i % m)) e ∙ ap (λ (y : ℕ). tank_below l path c y) f)
      ∙ settled_at l path choices tanks i line marks chosen none (visit_below l c k there);
}

-- ---- durations and motions

pub motion_settled : (l : LineData) (path : List Decision) (tanks : List ℕ) (c k : ℕ) → AreSettled l path tanks
    → IsMove l c k
    → motion_below l path c k ≡ Some (motion_by l tanks c k)
motion_settled l path tanks c k h move =
    motion_is l path c k (get_or tanks (c * length l.stages + k) 0) (get_or tanks (c * length l.stages + (k + 1)) 0)
    (h.only c k (move.0, omega (arith, move.1))) (h.only c (k + 1) move)

pub low_settled : (l : LineData) (path : List Decision) (tanks : List ℕ) (c k : ℕ) → AreSettled l path tanks
    → IsMove l c k
    → low l path c k ≡ lasting l tanks c k
low_settled l path tanks c k h move =
    low_is l path c k (get_or tanks (c * length l.stages + k) 0) (get_or tanks (c * length l.stages + (k + 1)) 0)
    (h.only c k (move.0, omega (arith, move.1))) (h.only c (k + 1) move)

pub begin_settled : (l : LineData) (path : List Decision) (tanks : List ℕ) (v : VisitId) → AreSettled l path tanks
    → IsVisit l v.carrier v.stage
    → begin_of l (low l path) v.carrier v.stage ≡ begin_of l (lasting l tanks) v.carrier v.stage
begin_settled l path tanks v h visit =
    begin_same l (low l path) (lasting l tanks) v.carrier v.stage
    (λ some. low_settled l path tanks v.carrier (v.stage - 1) h (visit.0, omega (arith, visit.1, some)))

pub end_settled : (l : LineData) (path : List Decision) (tanks : List ℕ) (v : VisitId) → IsLine l
    → AreSettled l path tanks → IsVisit l v.carrier v.stage
    → end_of l (low l path) v.carrier v.stage ≡ end_of l (lasting l tanks) v.carrier v.stage
end_settled l path tanks v line h visit =
    end_same l (low l path) (lasting l tanks) v.carrier v.stage
    (low_settled l path tanks v.carrier (last_step l) h (visit.0, omega (arith, line.limits.stages.0)))

-- ---- what is asked

-- hold and ask in the two ways of reckoning
to_asked_tank : (l : LineData) (path : List Decision) (tanks : List ℕ) (s : ℕ → ℤ) (period i j : ℕ) (q : ℤ) → IsLine l
    → AreSettled l path tanks
    → HoldOneTank l tanks s period i j q → IsAskedTank l path s period i j q
to_asked_tank l path tanks s period i j q line h hold =
    let m = length l.stages in
    let a = visit_at l i in
    let b = visit_at l j in
    let visit_a = visit_there l i line (omega (arith, hold.before, hold.there)) in
    let visit_b = visit_there l j line hold.there in
    let at_a : a.carrier * m + a.stage ≡ i = div-add-mod' i m in
    let at_b : b.carrier * m + b.stage ≡ j = div-add-mod' j m in
    let tank_a : tank_below l path a.carrier a.stage ≡ Some (get_or tanks i 0) = h.only a.carrier a.stage visit_a ∙ ap (λ (n : ℕ). Some (get_or tanks n 0))
    at_a in
    let tank_b : tank_below l path b.carrier b.stage ≡ Some (get_or tanks i 0) =
    h.only b.carrier b.stage visit_b ∙ ap (λ (n : ℕ). Some (get_or tanks n 0)) at_b ∙ ap (λ (n : ℕ). Some n) (sym hold.tank) in
    let tick = λ (x : Moment). tick_of l s x in
    let ba = ap tick (begin_settled l path tanks a h visit_a) in
    let ea = ap tick (end_settled l path tanks a line h visit_a) in
    let bb = ap tick (begin_settled l path tanks b h visit_b) in
    let eb = ap tick (end_settled l path tanks b line h visit_b) in
    record {
      before = hold.before;
      there = hold.there;
      asked = record {
        stands = record {
          first = visit_a;
          second = visit_b;
          before = numbers_before i j m (omega (arith, line.limits.stages.0)) hold.before;
          tank = get_or tanks i 0;
          first_tank = tank_a;
          second_tank = tank_b;
          first_begin = λ some. has_tank l path tanks a.carrier (a.stage - 1) h (visit_a.0, omega (arith, visit_a.1));
          second_begin = λ some. has_tank l path tanks b.carrier (b.stage - 1) h (visit_b.0, omega (arith, visit_b.1));
        };
        fails = (omega (arith, ints, hold.together.0, bb, ea), omega (arith, ints, hold.together.1, ba, eb));
      };
    }
  where
    has_tank : (l : LineData) (path : List Decision) (tanks : List ℕ) (c k : ℕ) → AreSettled l path tanks
        → IsVisit l c k → IsSome (tank_below l path c k)
    has_tank l path tanks c k h there = rw (h.only c k there) refl

from_asked_tank : (l : LineData) (path : List Decision) (tanks : List ℕ) (s : ℕ → ℤ) (period i j : ℕ) (q : ℤ) → IsLine l
    → AreSettled l path tanks
    → IsAskedTank l path s period i j q → HoldOneTank l tanks s period i j q
from_asked_tank l path tanks s period i j q line h x =
    let m = length l.stages in
    let a = visit_at l i in
    let b = visit_at l j in
    let share = x.asked.stands in
    let visit_a = share.first in
    let visit_b = share.second in
    let at_a : a.carrier * m + a.stage ≡ i = div-add-mod' i m in
    let at_b : b.carrier * m + b.stage ≡ j = div-add-mod' j m in
    let tank_a : tank_below l path a.carrier a.stage ≡ Some (get_or tanks i 0) = h.only a.carrier a.stage visit_a ∙ ap (λ (n : ℕ). Some (get_or tanks n 0))
    at_a in
    let tank_b : tank_below l path b.carrier b.stage ≡ Some (get_or tanks j 0) = h.only b.carrier b.stage visit_b ∙ ap (λ (n : ℕ). Some (get_or tanks n 0))
    at_b in
    let same : Some (get_or tanks i 0) ≡ Some (get_or tanks j 0) = sym tank_a ∙ share.first_tank ∙ sym share.second_tank ∙ tank_b in
    let tick = λ (y : Moment). tick_of l s y in
    let ba = ap tick (begin_settled l path tanks a h visit_a) in
    let ea = ap tick (end_settled l path tanks a line h visit_a) in
    let bb = ap tick (begin_settled l path tanks b h visit_b) in
    let eb = ap tick (end_settled l path tanks b line h visit_b) in
    record {
      before = x.before;
      there = x.there;
      tank = cc;
      together = (omega (arith, ints, x.asked.fails.0, bb, ea), omega (arith, ints, x.asked.fails.1, ba, eb));
    }

pub tanks_asked : (l : LineData) (path : List Decision) (tanks : List ℕ) (s : ℕ → ℤ) (period : ℕ) (o : Option Pair)
    → IsLine l → AreSettled l path tanks
    → IsFirstPair (HoldOneTank l tanks s period) o → IsFirstPair (IsAskedTank l path s period) o
tanks_asked l path tanks s period o line h first =
    pair_same (HoldOneTank l tanks s period) (IsAskedTank l path s period) o (λ i j q x. to_asked_tank l path tanks s period i j q line h x)
    (λ i j q x. from_asked_tank l path tanks s period i j q line h x) first

-- ---- rides

ride_settled : (l : LineData) (path : List Decision) (tanks : List ℕ) (assigned : List (Option ℕ)) (i : ℕ) → IsLine l
    → AreSettled l path tanks
    → AreAssigned l path assigned → i < move_count l
    → ride_by l tanks (get_or assigned i None) (move_at l i).carrier (move_at l i).step ≡ ride_below l path (move_at l i).carrier (move_at l i).step
ride_settled l path tanks assigned i line h marks lt =
    let c = (move_at l i).carrier in
    let k = (move_at l i).step in
    let the_ride = λ (a : Option ℕ) (m : Motion). option_map (λ (n : ℕ). the_ride_of m n) (hoist_by (hoists_reaching l m) a) in
    ap (λ (a : Option ℕ). the_ride a (motion_by l tanks c k)) (marks.1 i lt)
    ∙ sym (ap (λ (o : Option Motion). option_and_then (λ (m : Motion). the_ride (assigned_of path c k) m) o)
    (motion_settled l path tanks c k h (move_there l i line lt)))
  where
    the_ride_of : Motion → ℕ → Ride
    the_ride_of m n = record { motion = m; hoist = n }

to_asked_hoist : (l : LineData) (path : List Decision) (tanks : List ℕ) (assigned : List (Option ℕ)) (s : ℕ → ℤ) (period i j : ℕ) (q : ℤ)
    → IsLine l
    → AreSettled l path tanks → AreAssigned l path assigned
    → ClashByRides l tanks assigned s period i j q → IsAskedHoist l path s period i j q
to_asked_hoist l path tanks assigned s period i j q line h marks x =
    let a = move_at l i in
    let b = move_at l j in
    let o = offset_of l s period a b q in
    let ride_a = ride_settled l path tanks assigned i line h marks (omega (arith, x.before, x.there)) in
    let ride_b = ride_settled l path tanks assigned j line h marks x.there in
    let P : Option Ride → Type 0 = λ r. IsSomeAnd (clash_rides l r (ride_by l tanks (get_or assigned j None) b.carrier b.step))
    (λ span. (neg_ℤ span.before <ℤ o) × (o <ℤ span.after)) in
    let Q : Option Ride → Type 0 = λ r. IsSomeAnd (clash_rides l (ride_below l path a.carrier a.step) r)
    (λ span. (neg_ℤ span.before <ℤ o) × (o <ℤ span.after)) in
    let fails : Q (ride_below l path b.carrier b.step) = subst Q ride_b (subst P ride_a x.clash) in
    record {
      before = x.before;
      there = x.there;
      asked = record {
        stands = record {
          first = move_there l i line (omega (arith, x.before, x.there));
          second = move_there l j line x.there;
          before = numbers_before i j (last_stage l) (omega (arith, line.limits.stages.0)) x.before;
          clash = some_if (clash_below l path a b) (λ span. (neg_ℤ span.before <ℤ o) × (o <ℤ span.after)) fails;
        };
        fails = fails;
      };
    }
  where
    some_if : (y : Option Span) (R : Span → Type 0) → IsSomeAnd y R → IsSome y
    some_if None R r = absurd r
    some_if (Some z) R r = refl

from_asked_hoist : (l : LineData) (path : List Decision) (tanks : List ℕ) (assigned : List (Option ℕ)) (s : ℕ → ℤ) (period i j : ℕ) (q : ℤ)
    → IsLine l
    → AreSettled l path tanks → AreAssigned l path assigned
    → IsAskedHoist l path s period i j q → ClashByRides l tanks assigned s period i j q
from_asked_hoist l path tanks assigned s period i j q line h marks x =
    let a = move_at l i in
    let b = move_at l j in
    let o = offset_of l s period a b q in
    let ride_a = ride_settled l path tanks assigned i line h marks (omega (arith, x.before, x.there)) in
    let ride_b = ride_settled l path tanks assigned j line h marks x.there in
    let P : Option Ride → Type 0 = λ r. IsSomeAnd (clash_rides l r (ride_by l tanks (get_or assigned j None) b.carrier b.step))
    (λ span. (neg_ℤ span.before <ℤ o) × (o <ℤ span.after)) in
    let Q : Option Ride → Type 0 = λ r. IsSomeAnd (clash_rides l (ride_below l path a.carrier a.step) r)
    (λ span. (neg_ℤ span.before <ℤ o) × (o <ℤ span.after)) in
    let fails : Q (ride_below l path b.carrier b.step) = x.asked.fails in
    record { before = x.before; there = x.there; clash = subst P (sym ride_a) (subst Q (sym ride_b) fails) }

pub hoists_asked : (l : LineData) (path : List Decision) (tanks : List ℕ) (assigned : List (Option ℕ)) (s : ℕ → ℤ) (period : ℕ) (o : Option Pair)
    → IsLine l
    → AreSettled l path tanks → AreAssigned l path assigned
    → IsFirstPair (ClashByRides l tanks assigned s period) o → IsFirstPair (IsAskedHoist l path s period) o
hoists_asked l path tanks assigned s period o line h marks first =
    pair_same (ClashByRides l tanks assigned s period) (IsAskedHoist l path s period) o
    (λ i j q x. to_asked_hoist l path tanks assigned s period i j q line h marks x)
    (λ i j q x. from_asked_hoist l path tanks assigned s period i j q line h marks x) first

-- ---- moves without a hoist

pub moves_asked : (l : LineData) (path : List Decision) (tanks : List ℕ) (assigned : List (Option ℕ)) (o : Option ℕ)
    → IsLine l → AreSettled l path tanks
    → AreAssigned l path assigned
    → IsFirstNumber (IsUnassigned l tanks assigned) o → IsFirstNumber (IsOpenMoveAt l path) o
moves_asked l path tanks assigned o line h marks first =
    number_same (IsUnassigned l tanks assigned) (IsOpenMoveAt l path) o
    (λ i x.
    let m = move_at l i in
    let is = motion_settled l path tanks m.carrier m.step h (move_there l i line x.there) in
    let P : Option Motion → Type 0 = λ y. length (hoists_by l y) ≢ 1 in (
      x.there,
      record {
        move = move_there l i line x.there;
        motion = rw is refl;
        open_yet = sym (marks.1 i x.there) ∙ x.none;
        several = subst P (sym is)
            x.several;
      },
    ))
    (λ i x.
    let m = move_at l i in
    let is = motion_settled l path tanks m.carrier m.step h (move_there l i line x.0) in
    let P : Option Motion → Type 0 = λ y. length (hoists_by l y) ≢ 1 in
    record { there = x.0; none = marks.1 i x.0 ∙ x.1.open_yet; several = subst P is x.1.several })
    first

pub visits_asked : (l : LineData) (path : List Decision) (choices : List (Option ℕ)) (o : Option ℕ) → IsLine l
    → AreChoices l path choices
    → IsFirstNumber (IsOpenByChoices l choices) o → IsFirstNumber (IsOpenVisitAt l path) o
visits_asked l path choices o line marks first =
    number_same (IsOpenByChoices l choices) (IsOpenVisitAt l path) o (open_by l path choices line marks) (open_at l path choices marks) first
