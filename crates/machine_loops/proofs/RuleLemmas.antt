-- What the tests of the frame rules rest on.
use Rattle.std.proofs.Common.{◌≡◌, ℕ, ◌≤◌, ◌<◌, Some, None, length, get_or, ⊎_elim, arith}
use Rattle.std.specs.Prelude.{true}
use Rattle.std.proofs.lemmas.Bool.{cases_lt}
use Rattle.std.proofs.lemmas.List.{get_or_past}
use Rattle.hoist_base.specs.LineData.{LineData, last_stage}
use Rattle.hoist_base.specs.Valid.{IsLine}
use Rattle.tick_machine.specs.declared.frame.Carry.{Carry}
use Rattle.tick_machine.specs.declared.frame.Hold.{Hold}
use Rattle.tick_machine.specs.declared.frame.Frame.{Frame}
use Rattle.tick_machine.specs.declared.frame.Rest.TheVariants.{Resting}
use Rattle.tick_machine.specs.Layout.{layout_of}
use Rattle.tick_machine.specs.Scene.{scene_of, IsSized, hold_of}
use Rattle.tick_machine.specs.Rules.{AreApart, LeavesBy, ComesBy, IsFrame}
use Rattle.tick_machine.proofs.Lines.{layout_is}
use Rattle.machine_loops.specs.RuleTests.{CarryKeeps, HoldKeeps, Leaves, Comes, CarriesAlone, RestsAlone}

-- a tank that serves a stage is there, and so is the stage
pub served_there : (l : LineData) (i k : ℕ) → IsLine l → (layout_of l).serves i k ≡ true → i < length l.tanks
served_there l i k line e = (layout_is l line).there i k e

pub served_stage : (l : LineData) (i k : ℕ) → IsLine l → (layout_of l).serves i k ≡ true → k ≤ last_stage l
served_stage l i k line e = (layout_is l line).stage i k e

-- only hoists that are there carry
pub carry_there : (f : Frame) (h : ℕ) (y : Carry) → get_or f.carry.items h None ≡ Some y → h < length f.carry.items
carry_there f h y e =
    ⊎_elim (λ lt. lt)
    (λ past. absurd (let none = get_or_past f.carry.items h None past in let g = e in cc))
    (cases_lt h (length f.carry.items))

pub hold_there : (f : Frame) (i : ℕ) (x : Hold) → get_or f.hold.items i None ≡ Some x → i < length f.hold.items
hold_there f i x e =
    ⊎_elim (λ lt. lt)
    (λ past. absurd (let none = get_or_past f.hold.items i None past in let g = e in cc))
    (cases_lt i (length f.hold.items))

pub leaves_from : (f : Frame) (i c k : ℕ) → ((h : ℕ) × (h < length f.carry.items) × Leaves (scene_of f) i c k h)
    → (h : ℕ) × (y : Carry) × LeavesBy (scene_of f) i c k h y
leaves_from f i c k (h, lt, leaves) = (h, leaves.y, leaves.by)

pub leaves_to : (f : Frame) (i c k : ℕ) → ((h : ℕ) × (y : Carry) × LeavesBy (scene_of f) i c k h y)
    → (h : ℕ) × (h < length f.carry.items) × Leaves (scene_of f) i c k h
leaves_to f i c k (h, y, by) = (h, carry_there f h y by.is, record { y = y; by = by })

pub comes_from : (f : Frame) (i c k : ℕ) → ((h : ℕ) × (h < length f.carry.items) × Comes (scene_of f) i c k h)
    → (h : ℕ) × (y : Carry) × ComesBy (scene_of f) i c k h y
comes_from f i c k (h, lt, comes) = (h, comes.y, comes.by)

pub comes_to : (f : Frame) (i c k : ℕ) → ((h : ℕ) × (y : Carry) × ComesBy (scene_of f) i c k h y)
    → (h : ℕ) × (h < length f.carry.items) × Comes (scene_of f) i c k h
comes_to f i c k (h, y, by) = (h, carry_there f h y by.is, record { y = y; by = by })

-- the rules hoist by hoist and tank by tank are the frame rules
pub record KeepsEach (l : LineData) (f : Frame) : Type 0 where
  pub apart : AreApart (layout_of l) (λ h. get_or f.at.items h 0)
  pub carries : (h : ℕ) → h < l.hoists → CarryKeeps (layout_of l) (scene_of f) h
  pub holds : (i : ℕ) → i < length l.tanks → HoldKeeps (layout_of l) (scene_of f) i
  pub carry_alone : (h : ℕ) → h < length f.carry.items → CarriesAlone (scene_of f) (length f.carry.items) h
  pub rest_alone : (i : ℕ) → i < length f.hold.items
      → RestsAlone (scene_of f) (length f.carry.items) (length f.hold.items) i

pub frame_from : (l : LineData) (f : Frame) → IsSized l f → KeepsEach l f → IsFrame l f
frame_from l f sized each = record {
  sized = sized;
  rules = record {
    apart = each.apart;
    carries = λ h y e. let lt = carry_there f h y e in let n = sized.carry in (each.carries h (omega arith)).keeps y e;
    holds = λ i x e. let lt = hold_there f i x e in let n = sized.hold in (each.holds i (omega arith)).keeps x e;
    one_hoist = λ h h' y y' e e' same. ((each.carry_alone h' (carry_there f h' y' e')).alone y' e' h (carry_there f h y e)).at y e same;
    one_rest = λ c i i' (k, age, e) (k', age', e').
        ((each.rest_alone i' (hold_there f i' (hold_of c k' (Resting age')) e')).alone c k' age' e' i
        (hold_there f i (hold_of c k (Resting age)) e)).at k age e;
    not_both = λ c i h y (k, age, e) has same.
        ((each.rest_alone i (hold_there f i (hold_of c k (Resting age)) e)).not_carried c k age e h (carry_there f h y has)).not y has same;
  };
}

pub frame_to : (l : LineData) (f : Frame) → IsFrame l f → KeepsEach l f
frame_to l f frame = record {
  apart = frame.rules.apart;
  carries = λ h lt. record { keeps = λ y e. frame.rules.carries h y e };
  holds = λ i lt. record { keeps = λ x e. frame.rules.holds i x e };
  carry_alone = λ h lt. record { alone = λ y e j lt'. record { at = λ z e' same. frame.rules.one_hoist j h z y e' e same } };
  rest_alone = λ i lt. record {
    alone = λ c k age e j lt'. record { at = λ k' age' e'. frame.rules.one_rest c j i (k', age', e') (k, age, e) };
    not_carried = λ c k age e j lt'. record { not = λ y has same. frame.rules.not_both c i j y (k, age, e) has same };
  };
}
