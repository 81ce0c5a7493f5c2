-- When two scenes are the same, and the scene of a frame that is one tick older.
use Rattle.std.proofs.Common.{◌≡◌, ℕ, ◌<◌, ◌≤◌, Option, None, length, get_or, ⊎_elim, sym, ap, ◌∙◌, arith}
use Rattle.std.specs.Option.{option_map}
use Rattle.std.proofs.lemmas.Bool.{cases_lt}
use Rattle.std.proofs.lemmas.List.{get_or_past}
use Rattle.hoist_base.specs.LineData.{LineData}
use Rattle.tick_machine.specs.declared.frame.Carry.{Carry}
use Rattle.tick_machine.specs.declared.frame.Frame.{Frame}
use Rattle.tick_machine.specs.declared.order.Go.{Go}
use Rattle.tick_machine.specs.declared.order.Go.TheVariants.{Stay}
use Rattle.tick_machine.specs.declared.order.Order.{Order}
use Rattle.tick_machine.specs.Layout.{Layout, layout_of}
use Rattle.tick_machine.specs.Scene.{Scene, scene_of, command_of, IsSized, IsSizedOrder}
use Rattle.tick_machine.specs.Points.{moved_to, grown, aged_hold}
use Rattle.tick_machine.specs.Step.{after_tick}

pub scene_same : (f g : Scene) → ((h : ℕ) → f.at h ≡ g.at h) → ((h : ℕ) → f.carry h ≡ g.carry h)
    → ((i : ℕ) → f.hold i ≡ g.hold i) → f.next ≡ g.next → f ≡ g
scene_same f g at carry hold next = λ p. record { at = λ h. at h p; carry = λ h. carry h p; hold = λ i. hold i p; next = next p }

-- a hoist that isn't there goes nowhere
moved_past : (l : Layout) (c : Option Carry) (go : Go) (at : ℕ) → c ≡ None → go ≡ Stay → at ≡ 0 → moved_to l c go at ≡ 0
moved_past l c go at a b d = ap (λ (x : Option Carry). moved_to l x go at) a ∙ ap (λ (x : Go). moved_to l None x at) b ∙ d

pub tick_is : (l : LineData) (o : Order) (old new : Frame) → IsSizedOrder l.hoists o → IsSized l old → IsSized l new
    → ((h : ℕ) → h < l.hoists → get_or new.at.items h 0 ≡ moved_to (layout_of l) (get_or old.carry.items h None)
    (get_or o.go.items h Stay) (get_or old.at.items h 0))
    → ((h : ℕ) → h < l.hoists → get_or new.carry.items h None ≡ option_map grown (get_or old.carry.items h None))
    → ((i : ℕ) → i < length l.tanks → get_or new.hold.items i None ≡ option_map aged_hold (get_or old.hold.items i None))
    → new.next ≡ old.next → scene_of new ≡ after_tick (layout_of l) (command_of o) (scene_of old)
tick_is l o old new order was is at carry hold next =
    scene_same (scene_of new) (after_tick (layout_of l) (command_of o) (scene_of old))
    (λ h. ⊎_elim (λ lt. at h lt)
    (λ past.
    let a : length new.at.items ≤ h = omega (arith, is.at) in
    let b : length old.carry.items ≤ h = omega (arith, was.carry) in
    let d : length o.go.items ≤ h = omega (arith, order.go) in
    let e : length old.at.items ≤ h = omega (arith, was.at) in
    get_or_past new.at.items h 0 a ∙ sym (moved_past (layout_of l) _ _ _ (get_or_past old.carry.items h None b)
    (get_or_past o.go.items h Stay d) (get_or_past old.at.items h 0 e)))
    (cases_lt h l.hoists))
    (λ h. ⊎_elim (λ lt. carry h lt)
    (λ past.
    let a : length new.carry.items ≤ h = omega (arith, is.carry) in
    let b : length old.carry.items ≤ h = omega (arith, was.carry) in
    get_or_past new.carry.items h None a ∙ sym (ap (option_map grown) (get_or_past old.carry.items h None b)))
    (cases_lt h l.hoists))
    (λ i. ⊎_elim (λ lt. hold i lt)
    (λ past.
    let a : length new.hold.items ≤ i = omega (arith, is.hold) in
    let b : length old.hold.items ≤ i = omega (arith, was.hold) in
    get_or_past new.hold.items i None a ∙ sym (ap (option_map aged_hold) (get_or_past old.hold.items i None b)))
    (cases_lt i (length l.tanks)))
    next
