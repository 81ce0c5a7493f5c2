-- The one route of a line whose stages have one tank each.
use Rattle.std.proofs.Common.{◌≡◌, ℕ, suc, ◌+◌, ◌*◌, ◌%◌, ◌<◌, ◌≤◌, List, length, get_or, sym, ap, subst, ◌∙◌, arith}
use Rattle.std.specs.List.{Contains}
use Rattle.std.proofs.lemmas.List.Elements.{Contains-get_or}
use Rattle.std.proofs.lemmas.Nat.{mul-le}
use Rattle.std.proofs.Math.Nat.{add-mul-mod_self_right, mod-eq_of_lt}
use Rattle.hoist_base.specs.LineData.{LineData, stage, IsSingle}
use Rattle.hoist_base.specs.Limits.{max_degree}
use Rattle.hoist_base.specs.Valid.{IsLine}
use Rattle.hoist_base.specs.Routes.{IsRoute}

-- which stage a place in a list by visit belongs to
pub stage_of_place : (c k n : ℕ) → k < n → (c * n + k) % n ≡ k
stage_of_place c k n lt =
    let turned : (c * n + k) % n ≡ (k + c * n) % n = ap (λ m. m % n) (omega arith) in
    turned ∙ add-mul-mod_self_right k c n ∙ mod-eq_of_lt lt

-- the first tank of every stage, visit by visit
pub first_tanks : (l : LineData) (numbers : List ℕ) (count : ℕ) → IsSingle l → length numbers ≡ count
    → count ≡ l.degree * length l.stages
    → ((j : ℕ) → j < count → get_or numbers j 0 ≡ get_or (stage l (j % length l.stages)).tanks 0 0) → IsRoute l numbers
first_tanks l numbers count single long is firsts = record {
  count = long ∙ is;
  serves = λ c k visit.
      let n = length l.stages in
      let below = mul-le (suc c) n l.degree n (omega (arith, visit.0)) (omega arith) in
      let at = firsts (c * n + k) (omega (arith, is, below, visit.1)) in
      let here : get_or numbers (c * n + k) 0 ≡ get_or (stage l k).tanks 0 0 = at ∙ ap (λ j. get_or (stage l j).tanks 0 0) (stage_of_place c k n visit.1) in
      let some : 0 < length (stage l k).tanks = omega (arith, single k visit.1) in
      subst (Contains (stage l k).tanks) (sym here) (Contains-get_or (stage l k).tanks 0 0 some);
}

-- the degree may be any
pub of_degree_line : (l : LineData) (d : ℕ) → IsLine l → (1 ≤ d) × (d ≤ max_degree) → IsLine (record l { degree = d })
of_degree_line l d line within = record {
  limits = record {
    track = line.limits.track;
    gap = line.limits.gap;
    hoists = line.limits.hoists;
    degree = within;
    max_period = line.limits.max_period;
    load = line.limits.load;
    unload = line.limits.unload;
    tanks = line.limits.tanks;
    stages = line.limits.stages;
  };
  tanks = record {
    names = line.tanks.names;
    names_differ = line.tanks.names_differ;
    on_track = line.tanks.on_track;
    places_differ = line.tanks.places_differ;
  };
  stages = record {
    count = line.stages.count;
    there = line.stages.there;
    once = line.stages.once;
    moves_away = line.stages.moves_away;
  };
  times = record {
    first = line.times.first;
    last = line.times.last;
    no_lower = line.times.no_lower;
    no_lift = line.times.no_lift;
    lift = line.times.lift;
    lower = line.times.lower;
    least = line.times.least;
    greatest = line.times.greatest;
  };
  room = line.room;
}
