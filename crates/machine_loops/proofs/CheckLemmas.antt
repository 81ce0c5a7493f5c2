-- When a frame is another one with later carriers.
use Rattle.std.proofs.Common.{◌≡◌, ℕ, ◌+◌, ◌^◌, ◌<◌, ◌≤◌, Option, Ok, IfSome, None, Some, List, length, get_or, ⊎_elim, sym, refl, ap, subst, ◌∙◌, arith}
use Rattle.std.specs.Prelude.{◌==◌}
use Rattle.std.specs.Option.{option_map}
use Rattle.std.proofs.lemmas.Bool.{cases_lt, ne_eqb, cond-false}
use Rattle.std.proofs.lemmas.List.{get_or_past, ext_get_or}
use Rattle.hoist_base.specs.LineData.{LineData}
use Rattle.tick_machine.specs.declared.frame.Carry.{Carry}
use Rattle.tick_machine.specs.declared.frame.Hold.{Hold}
use Rattle.tick_machine.specs.declared.frame.Frame.{Frame}
use Rattle.tick_machine.specs.Scene.{Scene, scene_of, IsSized}
use Rattle.hoist_base.specs.Valid.{IsLine}
use Rattle.tick_machine.specs.declared.frame.Rest.{Rest}
use Rattle.tick_machine.specs.declared.frame.Rest.TheVariants.{Lowering, Resting, Lifting}
use Rattle.tick_machine.specs.Layout.{layout_of}
use Rattle.tick_machine.specs.Scene.{Command}
use Rattle.tick_machine.specs.Step.{step}
use Rattle.tick_machine.specs.Rules.{RestBelow, IsBelow, KeepsRules}
use Rattle.tick_machine.proofs.Lines.{layout_is}
use Rattle.tick_machine.proofs.PartwayStep.{step_keeps}
use Rattle.tick_machine.proofs.Bounds.{step_below}
use Rattle.tick_machine.proofs.Scenes.{scene_same}
use Rattle.list_facts.proofs.Elements.{up_to_more}
use Rattle.machine_loops.specs.Loops.{raised_carry, raised_hold, raised, frame_after, LeadsOn, GoesOn}
use Rattle.machine_loops.specs.RuleTests.{CarryIsLater, HoldIsLater}

-- part by part
pub record LaterEach (later : ℕ) (new old : Frame) : Type 0 where
  pub next : new.next ≡ old.next + later
  pub at : new.at.items ≡ old.at.items
  pub carry : (h : ℕ) → h < length new.carry.items → CarryIsLater later (scene_of new) (scene_of old) h
  pub hold : (i : ℕ) → i < length new.hold.items → HoldIsLater later (scene_of new) (scene_of old) i

pub later_from : (l : LineData) (later : ℕ) (new old : Frame) → IsSized l new → IsSized l old → LaterEach later new old
    → scene_of new ≡ raised later (scene_of old)
later_from l later new old is was each =
    scene_same (scene_of new) (raised later (scene_of old))
    (λ h. ap (λ (xs : List ℕ). get_or xs h 0) each.at)
    (λ h. ⊎_elim (λ lt. (each.carry h lt).is)
    (λ past.
    let a = is.carry in
    let b = was.carry in
    get_or_past new.carry.items h None past ∙ sym (ap (option_map (raised_carry later)) (get_or_past old.carry.items h None (omega arith))))
    (cases_lt h (length new.carry.items)))
    (λ i. ⊎_elim (λ lt. (each.hold i lt).is)
    (λ past.
    let a = is.hold in
    let b = was.hold in
    get_or_past new.hold.items i None past ∙ sym (ap (option_map (raised_hold later)) (get_or_past old.hold.items i None (omega arith))))
    (cases_lt i (length new.hold.items)))
    each.next

pub later_to : (l : LineData) (later : ℕ) (new old : Frame) → IsSized l new → IsSized l old
    → scene_of new ≡ raised later (scene_of old) → LaterEach later new old
later_to l later new old is was same = record {
  next = ap (λ (f : Scene). f.next) same;
  at = let a = is.at in let b = was.at in ext_get_or 0 new.at.items old.at.items (omega arith) (λ h lt. ap (λ (f : Scene). f.at h) same);
  carry = λ h lt. record { is = ap (λ (f : Scene). f.carry h) same };
  hold = λ i lt. record { is = ap (λ (f : Scene). f.hold i) same };
}

-- carriers that are not later are the same
carry_same : (o : Option Carry) → option_map (raised_carry 0) o ≡ o
carry_same None = refl
carry_same (Some y) = let e : y.carrier + 0 ≡ y.carrier = omega arith in ap (λ (n : ℕ). Some (record y { carrier = n })) e

hold_same : (o : Option Hold) → option_map (raised_hold 0) o ≡ o
hold_same None = refl
hold_same (Some x) = let e : x.carrier + 0 ≡ x.carrier = omega arith in ap (λ (n : ℕ). Some (record x { carrier = n })) e

pub raised_none : (f : Scene) → raised 0 f ≡ f
raised_none f = scene_same (raised 0 f) f (λ h. refl) (λ h. carry_same (f.carry h)) (λ i. hold_same (f.hold i)) (omega arith)

-- a frame that is not the last is followed by the next one
pub frame_next : (l : LineData) (period : ℕ) (frames : ℕ → Scene) (i : ℕ) → (i + 1 ≡ period → ⊥)
    → frame_after l period frames i ≡ frames (i + 1)
frame_next l period frames i other = cond-false (i + 1 == period) (raised l.degree (frames 0)) (frames (i + 1)) (ne_eqb (i + 1) period other)

-- up to frame i the frames go on, and it keeps the frame rules
pub record Going (l : LineData) (period : ℕ) (frames : ℕ → Scene) (orders : ℕ → Command) (i : ℕ) : Type 0 where
  pub before : (j : ℕ) → j < i → GoesOn l period frames orders j
  pub keeps : i < period → KeepsRules (layout_of l) (frames i)
  pub below : i < period → IsBelow (2 ^ 61 + i) (frames i)

pub going_first : (l : LineData) (period : ℕ) (frames : ℕ → Scene) (orders : ℕ → Command)
    → KeepsRules (layout_of l) (frames 0)
    → IsBelow (2 ^ 61) (frames 0) → Going l period frames orders 0
going_first l period frames orders keeps below = record { before = λ j lt. absurd (omega arith); keeps = λ lt. keeps; below = λ lt. below }

pub going_on : (l : LineData) (period : ℕ) (frames : ℕ → Scene) (orders : ℕ → Command) (i : ℕ) → IsLine l → i < period
    → Going l period frames orders i → LeadsOn l period frames i (orders i) → Going l period frames orders (i + 1)
going_on l period frames orders i line lt going leads =
    let next : i + 1 < period → step (layout_of l) (orders i) (frames i) ≡ Ok (frames (i + 1)) =
    λ more. leads ∙ ap (λ (f : Scene). Ok f) (frame_next l period frames i (λ e. omega arith)) in
    let one : 2 ^ 61 + i + 1 ≡ 2 ^ 61 + (i + 1) = omega arith in
    record {
      before = up_to_more (GoesOn l period frames orders) i going.before (record { keeps = going.keeps lt; leads = leads });
      keeps = λ more. step_keeps (layout_of l) (orders i) (frames i) (frames (i + 1)) (layout_is l line) (going.keeps lt) (next more);
      below = λ more. subst (λ (b : ℕ). IsBelow b (frames (i + 1))) one
          (step_below (layout_of l) (orders i) (2 ^ 61 + i) (frames i) (frames (i + 1)) (going.below lt) (next more));
    }

rest_below : (a b : ℕ) (r : Rest) → a ≤ b → RestBelow a r → RestBelow b r
rest_below a b Lowering le below = tt
rest_below a b (Resting age) le below = omega arith
rest_below a b Lifting le below = tt

hold_below : (a b : ℕ) (o : Option Hold) → a ≤ b → IfSome o (λ x. RestBelow a x.rest)
    → IfSome o (λ x. RestBelow b x.rest)
hold_below a b None le below = tt
hold_below a b (Some x) le below = rest_below a b x.rest le below

pub below_more : (a b : ℕ) (f : Scene) → a ≤ b → IsBelow a f → IsBelow b f
below_more a b f le below = record { next = let lt = below.next in omega arith; ages = λ i. hold_below a b (f.hold i) le (below.ages i) }
