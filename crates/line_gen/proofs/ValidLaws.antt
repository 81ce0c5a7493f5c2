-- The line of any choices is a valid one, and every stage has one tank.
use Rattle.std.proofs.Common.{⊎_elim, ◌⊎◌, inl, inr, ◌≡◌, ◌≢◌, ℕ, ◌+◌, ◌*◌, ◌/◌, ◌%◌, ◌<◌, ◌≤◌, ◌==◌, ◌-◌, Bool, true, false, nat_lt, if◌then◌else◌, Option, None, Some, IfSome, List, [], ◌∷◌, length, get_or, map, refl, ap, sym, ◌∙◌, arith}
use Rattle.std.proofs.lemmas.Bool.Decides.{nat_tests}
use Rattle.std.specs.List.{Contains, range_with_len}
use Rattle.std.proofs.lemmas.Bool.{cases_lt, cases_eq}
use Rattle.std.proofs.lemmas.Nat.{mod_below, div-add-mod'}
use Rattle.std.proofs.lemmas.List.FromFn.{length-map-range_with_len, get_or-map-range_with_len}
use Rattle.std.proofs.lemmas.List.{get_or_past}
use Rattle.list_facts.proofs.Elements.{contains_only}
use Rattle.hoist_base.specs.declared.tank.Tank.{Tank}
use Rattle.hoist_base.specs.declared.stage.Stage.{Stage}
use Rattle.hoist_base.specs.LineData.{LineData, stage, tank, no_stage, no_tank, last_stage, position_of, IsStageOf, IsStep, Serves, IsSingle}
use Rattle.hoist_base.specs.Valid.{IsName, IsWithinLimits, HasTanks, HasStages, HasTimes, IsEnd, IsLine}
use Rattle.line_gen.specs.Generated.{ChoiceData, AreChoices, is_bath, tank_name, tank_of, tank_at, z_of, least, greatest, stage_of, line_with, choices, generated}
use Rattle.line_gen.proofs.Drawn.{are_choices}
use Rattle.line_gen.proofs.Parts.{bath_inside, bath_last, named, names_differ, tanks_apart, tank_there}

tank_count : (c : ChoiceData) → length (line_with c).tanks ≡ c.baths + 2
tank_count c = length-map-range_with_len (tank_of c.baths) 0 (c.baths + 2)

stage_count : (c : ChoiceData) → length (line_with c).stages ≡ c.baths + 2
stage_count c = length-map-range_with_len (stage_of c) 0 (c.baths + 2)

tank_is : (c : ChoiceData) (i : ℕ) → i < length (line_with c).tanks → tank (line_with c) i ≡ tank_of c.baths i
tank_is c i lt = get_or-map-range_with_len (tank_of c.baths) 0 (c.baths + 2) i i no_tank (omega (arith, lt, tank_count c)) (omega arith)

stage_is : (c : ChoiceData) (k : ℕ) → IsStageOf (line_with c) k → stage (line_with c) k ≡ stage_of c k
stage_is c k lt = get_or-map-range_with_len (stage_of c) 0 (c.baths + 2) k k no_stage (omega (arith, lt, stage_count c)) (omega arith)

limits : (c : ChoiceData) → AreChoices c → IsWithinLimits (line_with c)
limits c h = record {
  track = (omega (arith, h.baths.0), omega (arith, h.baths.1));
  gap = (omega arith, omega arith);
  hoists = (h.hoists.0, omega (arith, h.hoists.1));
  degree = (omega arith, omega arith);
  max_period = (omega arith, omega arith);
  load = omega arith;
  unload = omega arith;
  tanks = (omega (arith, tank_count c), omega (arith, tank_count c, h.baths.1));
  stages = (omega (arith, stage_count c), omega (arith, stage_count c, h.baths.1));
}

has_tanks : (c : ChoiceData) → AreChoices c → HasTanks (line_with c)
has_tanks c h = record {
  names = λ i lt. rw (tank_is c i lt) (named c.baths i h.baths.1 (omega (arith, lt, tank_count c)));
  names_differ = λ i j less lt e.
      names_differ c.baths i j h.baths.1 less (omega (arith, lt, tank_count c))
      (sym (ap (λ (x : Tank). x.name) (tank_is c i (omega (arith, less, lt)))) ∙ e ∙ ap (λ (x : Tank). x.name) (tank_is c j lt));
  on_track = λ i lt. omega (arith, lt, tank_count c, ap (λ (x : Tank). x.at) (tank_is c i lt));
  places_differ = λ i j less lt e.
      omega (arith, less, lt, e, ap (λ (x : Tank). x.at) (tank_is c i (omega (arith, less, lt))), ap (λ (x : Tank). x.at) (tank_is c j lt));
}

-- the tanks of a stage
tanks_is : (c : ChoiceData) (k : ℕ) → IsStageOf (line_with c) k
    → (stage (line_with c) k).tanks ≡ tank_at c.baths c.again k ∷ []
tanks_is c k lt = ap (λ (s : Stage). s.tanks) (stage_is c k lt)

one_tank : (c : ChoiceData) (k : ℕ) → IsStageOf (line_with c) k → length (stage (line_with c) k).tanks ≡ 1
one_tank c k lt = ap length (tanks_is c k lt)

among : (xs ys : List ℕ) (i : ℕ) → xs ≡ ys → Contains xs i → Contains ys i
among xs ys i same has = rw (sym same) has

-- a tank that serves a stage is that tank
serves_is : (c : ChoiceData) (i k : ℕ) → IsStageOf (line_with c) k → Serves (line_with c) i k
    → tank_at c.baths c.again k ≡ i
serves_is c i k lt serves =
    contains_only (tank_at c.baths c.again k) i (among (stage (line_with c) k).tanks (tank_at c.baths c.again k ∷ []) i (tanks_is c k lt) serves)

-- only a stage that is there is served
serves_there : (c : ChoiceData) (i k : ℕ) → Serves (line_with c) i k → IsStageOf (line_with c) k
serves_there c i k (at, lt, found) =
    ⊎_elim (λ there. there)
    (λ past. absurd (omega (arith, lt, ap (λ (s : Stage). length s.tanks) (get_or_past (line_with c).stages k no_stage past))))
    (cases_lt k (length (line_with c).stages))

-- no stage has a second tank
no_second : (c : ChoiceData) (k b : ℕ) → 0 < b → b < length (stage (line_with c) k).tanks → ⊥
no_second c k b some lt =
    ⊎_elim (λ there. omega (arith, some, lt, one_tank c k there))
    (λ past. omega (arith, lt, ap (λ (s : Stage). length s.tanks) (get_or_past (line_with c).stages k no_stage past)))
    (cases_lt k (length (line_with c).stages))

has_stages : (c : ChoiceData) → AreChoices c → HasStages (line_with c)
has_stages c h = record {
  count = λ k lt. (omega (arith, one_tank c k lt), omega (arith, one_tank c k lt));
  there = λ k i serves.
      let lt = serves_there c i k serves in
      omega (arith, serves_is c i k lt serves, tank_there c.baths k c.again h.baths.0 (omega (arith, lt, stage_count c)), tank_count c);
  once = λ k a b less lt e. no_second c k b (omega (arith, less)) lt;
  moves_away = λ k i j step here next e.
      tanks_apart c.baths k c.again h.baths.0 (omega (arith, step, stage_count c))
      (serves_is c i k (omega (arith, step)) here ∙ e ∙ sym (serves_is c j (k + 1) step next));
}

-- what a stage has, read off the stage of its number
has : (c : ChoiceData) {X : Type 0} (part : Stage → X) (k : ℕ) → IsStageOf (line_with c) k
    → part (stage (line_with c) k) ≡ part (stage_of c k)
has c part k lt = ap part (stage_is c k lt)

end_first : (c : ChoiceData) → IsEnd (stage_of c 0)
end_first c = record { one_tank = refl; no_least = refl; no_greatest = refl }

end_last : (c : ChoiceData) → IsEnd (stage_of c (c.baths + 1))
end_last c = record {
  one_tank = refl;
  no_least = ap (λ b. if b then least (z_of c (c.baths + 1)) else 0) (bath_last c.baths);
  no_greatest = ap (λ b. if b then greatest (z_of c (c.baths + 1)) else None) (bath_last c.baths);
}

-- the last stage is that of the unload
last_is : (c : ChoiceData) → stage (line_with c) (last_stage (line_with c)) ≡ stage_of c (c.baths + 1)
last_is c =
    let number : last_stage (line_with c) ≡ c.baths + 1 = omega (arith, stage_count c) in
    stage_is c (last_stage (line_with c)) (omega (arith, stage_count c)) ∙ ap (stage_of c) number

lift_last : (c : ChoiceData) → (stage_of c (c.baths + 1)).lift ≡ 0
lift_last c = grind (arith, nat_tests)

lift_before : (c : ChoiceData) (k : ℕ) → k < c.baths + 1 → (stage_of c k).lift ≡ 2
lift_before c k lt = grind (arith, nat_tests)

lower_after : (c : ChoiceData) (k : ℕ) → (stage_of c (k + 1)).lower ≡ 2
lower_after c k = grind (arith, nat_tests)

-- the window of a bath
min_of : (c : ChoiceData) (k : ℕ) → 0 < k → k < c.baths + 1 → (stage_of c k).min ≡ least (z_of c k)
min_of c k some lt = ap (λ b. if b then least (z_of c k) else 0) (bath_inside c.baths k some lt)

max_of : (c : ChoiceData) (k : ℕ) → 0 < k → k < c.baths + 1 → (stage_of c k).max ≡ greatest (z_of c k)
max_of c k some lt = ap (λ b. if b then greatest (z_of c k) else None) (bath_inside c.baths k some lt)

least_small : (z : ℕ) → (5 ≤ least z) × (least z ≤ 24)
least_small z = let small = mod_below z 20 (omega arith) in (omega arith, omega (arith, small))

-- the window, whether it has a greatest dwell or none
fits_by : (none : Bool) (low width : ℕ) → low ≤ 24 → width < 4
    → IfSome (if none then None else Some (low + 10 * width)) (λ m. (low ≤ m) × (m ≤ 20000))
fits_by true low width few narrow = tt
fits_by false low width few narrow = (omega arith, omega (arith, few, narrow))

greatest_fits : (z : ℕ) → z < 80 → IfSome (greatest z) (λ m. (least z ≤ m) × (m ≤ 20000))
greatest_fits z small = fits_by (z / 20 == 0) (least z) (z / 20) (least_small z).1 (omega (arith, div-add-mod' z 20, small))

window_fits : (s : Stage) (z : ℕ) → s.min ≡ least z → s.max ≡ greatest z → z < 80
    → IfSome s.max (λ m. (s.min ≤ m) × (m ≤ 20000))
window_fits s z least_is greatest_is small = rw (least_is, greatest_is) (greatest_fits z small)

has_times : (c : ChoiceData) → AreChoices c → HasTimes (line_with c)
has_times c h =
    let n = stage_count c in
    record {
      first = rw (stage_is c 0 (omega (arith, n))) (end_first c);
      last = rw (last_is c) (end_last c);
      no_lower = ap (λ (s : Stage). s.lower) (stage_is c 0 (omega (arith, n)));
      no_lift = ap (λ (s : Stage). s.lift) (last_is c) ∙ lift_last c;
      lift = λ k step.
          let e = has c (λ (s : Stage). s.lift) k (omega (arith, step)) ∙ lift_before c k (omega (arith, step, n)) in
          (omega (arith, e), omega (arith, e));
      lower = λ k step.
          let e = has c (λ (s : Stage). s.lower) (k + 1) step ∙ lower_after c k in
          (omega (arith, e), omega (arith, e));
      least = λ k step.
          let e = has c (λ (s : Stage). s.min) (k + 1) (omega (arith, step)) ∙ min_of c (k + 1) (omega arith) (omega (arith, step, n)) in
          let b = least_small (z_of c (k + 1)) in
          (omega (arith, e, b.0), omega (arith, e, b.1));
      greatest = λ k step.
          let there : k + 1 < c.baths + 1 = omega (arith, step, n) in
          window_fits (stage (line_with c) (k + 1)) (z_of c (k + 1))
          (has c (λ (s : Stage). s.min) (k + 1) (omega (arith, step)) ∙ min_of c (k + 1) (omega arith) there)
          (has c (λ (s : Stage). s.max) (k + 1) (omega (arith, step)) ∙ max_of c (k + 1) (omega arith) there)
          (h.small (k + 1 - 1));
    }

is_single : (c : ChoiceData) → IsSingle (line_with c)
is_single c k lt = one_tank c k lt

is_line : (c : ChoiceData) → AreChoices c → IsLine (line_with c)
is_line c h = record {
  limits = limits c h;
  tanks = has_tanks c h;
  stages = has_stages c h;
  times = has_times c h;
  room = omega (arith, h.hoists.1, h.baths.0);
}

pub generated_line : (seed : ℕ) → IsLine (generated seed)
generated_line seed = is_line (choices seed) (are_choices seed)

pub generated_single : (seed : ℕ) → IsSingle (generated seed)
generated_single seed = is_single (choices seed)
