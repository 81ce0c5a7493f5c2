-- The layout of a valid line.
use Rattle.std.proofs.Common.{◌≡◌, ℕ, ◌+◌, ◌-◌, ◌≤◌, ◌<◌, Bool, List, length, get_or, ⊎_elim, sym, refl, ap, subst, ◌∙◌, arith}
use Rattle.std.specs.Prelude.{true, cond, ◌==◌}
use Rattle.std.specs.List.{list_any, Contains}
use Rattle.std.proofs.lemmas.Bool.{cases_eq, cases_lt, cases_order, eq-eqb, ne_eqb, eqb-true, false≢true}
use Rattle.std.proofs.lemmas.List.{get_or_past, get_or_default}
use Rattle.std.proofs.lemmas.List.Folds.{Any-from_list_any, list_any_at}
use Rattle.hoist_base.specs.declared.stage.Stage.{Stage}
use Rattle.hoist_base.specs.LineData.{LineData, stage, no_stage, last_stage, position_of}
use Rattle.hoist_base.specs.Valid.{IsLine}
use Rattle.tick_machine.specs.Layout.{layout_of, IsLayout, only_tank, least_age}

-- whether a number is in a list
abbrev pub among : ℕ → List ℕ → Bool
among i xs = list_any (λ j. j == i) xs

contains_from : (i : ℕ) (xs : List ℕ) → among i xs ≡ true → Contains xs i
contains_from i xs e =
    let (k, x, lt, at, hit) = Any-from_list_any (λ j. j == i) xs e in
    let same : x ≡ i = eqb-true x i hit in
    (k, lt, subst (λ (y : ℕ). get_or xs k y ≡ y) same at)

-- a list of one
one_among : (xs : List ℕ) → length xs ≡ 1 → among (get_or xs 0 0) xs ≡ true
one_among xs one = list_any_at (λ j. j == get_or xs 0 0) xs 0 0 (omega arith) (eq-eqb (get_or xs 0 0) (get_or xs 0 0) refl)

one_only : (xs : List ℕ) (i : ℕ) → length xs ≡ 1 → among i xs ≡ true → i ≡ get_or xs 0 0
one_only xs i one e =
    let (k, lt, at) = contains_from i xs e in
    let first : k ≡ 0 = omega arith in
    sym at ∙ ap (λ (n : ℕ). get_or xs n i) first ∙ get_or_default xs 0 i 0 (omega arith)

-- the stage that a tank serves is there
stage_there : (l : LineData) (i k : ℕ) → among i (stage l k).tanks ≡ true → k < length l.stages
stage_there l i k e =
    ⊎_elim (λ lt. lt)
    (λ past.
    let none : stage l k ≡ no_stage = get_or_past l.stages k no_stage past in
    absurd (false≢true (sym (ap (λ (s : Stage). among i s.tanks) none) ∙ e)))
    (cases_lt k (length l.stages))

inner_small : (l : LineData) (k : ℕ) → IsLine l → 0 < k → k + 1 < length l.stages → (stage l k).min ≤ 20000
inner_small l k line some lt =
    let e : k - 1 + 1 ≡ k = omega arith in
    let small = (line.times.least (k - 1) (omega arith)).1 in
    subst (λ (j : ℕ). (stage l j).min ≤ 20000) e small

least_small : (l : LineData) (k : ℕ) → IsLine l → k ≤ last_stage l → least_age l k ≤ 20000
least_small l k line le =
    ⊎_elim
    (λ here. subst (λ (b : Bool). cond b l.load (cond (k == last_stage l) l.unload (stage l k).min) ≤ 20000) (sym (eq-eqb k 0 here)) line.limits.load)
    (λ above. subst (λ (b : Bool). cond b l.load (cond (k == last_stage l) l.unload (stage l k).min) ≤ 20000) (sym (ne_eqb k 0 above))
    (⊎_elim
    (λ here. subst (λ (b : Bool). cond b l.unload (stage l k).min ≤ 20000) (sym (eq-eqb k (last_stage l) here)) line.limits.unload)
    (λ below. subst (λ (b : Bool). cond b l.unload (stage l k).min ≤ 20000) (sym (ne_eqb k (last_stage l) below))
    (inner_small l k line (omega arith) (omega arith)))
    (cases_eq k (last_stage l))))
    (cases_eq k 0)

places_once : (l : LineData) (i j : ℕ) → IsLine l → i < length l.tanks → j < length l.tanks
    → position_of l i ≡ position_of l j → i ≡ j
places_once l i j line a b same =
    ⊎_elim (λ e. e)
    (λ other. ⊎_elim
    (λ less. absurd (line.tanks.places_differ i j less b same))
    (λ more. absurd (line.tanks.places_differ j i more a (sym same)))
    other)
    (cases_order i j)

pub layout_is : (l : LineData) → IsLine l → IsLayout (layout_of l)
layout_is l line =
    let stages = line.limits.stages in
    record {
      track = line.limits.track.1;
      gap = line.limits.gap.1;
      hoists = line.limits.hoists;
      tanks = line.limits.tanks.1;
      last = (omega arith, omega arith);
      lift = λ k lt. line.times.lift k (omega arith);
      lower = λ k lt. line.times.lower k (omega arith);
      least = λ k le. least_small l k line le;
      no_end_first = line.times.first.no_greatest;
      no_end_last = line.times.last.no_greatest;
      on_track = λ i lt. line.tanks.on_track i lt;
      places = λ i j a b same. places_once l i j line a b same;
      there = λ i k e. line.stages.there k i (contains_from i (stage l k).tanks e);
      stage = λ i k e. let lt = stage_there l i k e in omega arith;
      load = one_among (stage l 0).tanks line.times.first.one_tank;
      load_only = λ i e. one_only (stage l 0).tanks i line.times.first.one_tank e;
      unload = one_among (stage l (last_stage l)).tanks line.times.last.one_tank;
      unload_only = λ i e. one_only (stage l (last_stage l)).tanks i line.times.last.one_tank e;
      moves_away = λ i k from to.
          let lt = stage_there l i (k + 1) to in
          line.stages.moves_away k i i lt (contains_from i (stage l k).tanks from) (contains_from i (stage l (k + 1)).tanks to) refl;
    }

-- a stage that is there has at least one tank, and its tanks are there
pub first_tank_there : (l : LineData) (k : ℕ) → IsLine l → k < length l.stages → only_tank l k < length l.tanks
first_tank_there l k line lt =
    line.stages.there k (only_tank l k) (
      0,
      omega (arith, line.stages.count k lt),
      get_or_default (stage l k).tanks 0 (only_tank l k) 0 (omega (arith, line.stages.count k lt)),
    )
