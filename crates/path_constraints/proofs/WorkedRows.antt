-- Worked lines under the definitions, by computation: the constraints of a line with one bath, a decided constraint on
-- two hoists, a stage with two tanks, and the holds of a tank that is visited twice.
use Rattle.std.proofs.Common.{◌≡◌, ℕ, List, [], ◌∷◌, refl, Some, None, pos, negsuc, ℤ, get_or}
use Rattle.hoist_base.specs.LineData.{LineData}
use Rattle.hoist_base.specs.declared.stage.Stage.{Stage}
use Rattle.hoist_base.specs.declared.tank.Tank.{Tank}
use Rattle.longest_path.specs.declared.systems.Arc.{Arc}
use Rattle.collision_pairs.specs.Clash.{clash_of}
use Rattle.choice_tree.specs.declared.question.Question.TheVariants.{HoistOrder, Choose}
use Rattle.choice_tree.specs.declared.question.Decision.{Decision}
use Rattle.choice_tree.specs.declared.constraint.Constraint.TheVariants.{Min, Max, Entry, Visit, Repeat, Decided}
use Rattle.path_constraints.specs.Tanks.{low, high, back, tank_below}
use Rattle.path_constraints.specs.Hoists.{hoist_below, hoists_below}
use Rattle.path_constraints.specs.Holds.{begin_of, end_of, tick_of}
use Rattle.path_constraints.specs.Constraints.{constraint_list, arcs_of, arc_of}

abbrev between : ℕ → ℕ → ℤ → ℤ → Arc
between from to w q = record { from = from; to = to; w = w; q = q }

abbrev tank_at : ℕ → Tank
tank_at at = record { name = []; at = at }

abbrev first_stage : Stage
first_stage = record { tanks = 0 ∷ []; min = 0; max = None; lift = 1; lower = 0 }

abbrev out_stage : ℕ → Stage
out_stage tank = record { tanks = tank ∷ []; min = 0; max = None; lift = 0; lower = 1 }

abbrev one_bath : LineData
one_bath = record {
  track = 6;
  gap = 2;
  hoists = 1;
  degree = 1;
  max_period = 100;
  load = 0;
  unload = 0;
  tanks = tank_at 0 ∷ tank_at 3 ∷ tank_at 6 ∷ [];
  stages = first_stage ∷ (record { tanks = 1 ∷ []; min = 5; max = Some 10; lift = 1; lower = 1 }) ∷ out_stage 2 ∷ [];
}

one_bath_names : constraint_list one_bath [] ≡ Min 0 1 ∷ Max 0 1 ∷ Entry 0 ∷ Visit 0 1 ∷ Visit 0 2 ∷ Repeat 0 0 ∷ Repeat 0 1 ∷ []
one_bath_names = refl

one_bath_arcs : arcs_of one_bath []
    ≡ between 0 1 (pos 10) (pos 0) ∷ between 1 0 (negsuc 14) (pos 0) ∷ between 0 0 (pos 1) (negsuc 0) ∷ between 1 0 (negsuc 2) (negsuc 0)
    ∷ between 1 1 (pos 1) (negsuc 0) ∷ between 0 0 (pos 8) (negsuc 0) ∷ between 1 1 (pos 8) (negsuc 0) ∷ []
one_bath_arcs = refl

abbrev two_hoists : LineData
two_hoists = record one_bath { hoists = 2 }

abbrev second_first : List Decision
second_first = (record { question = HoistOrder (record { carrier = 0; step = 0 }) (record { carrier = 0; step = 1 }) (negsuc 0); child = 1 }) ∷ []

two_hoists_decided : arc_of two_hoists second_first (Decided 0) ≡ between 1 0 (negsuc 0) (negsuc 0)
unfolding clash_of
two_hoists_decided = refl

abbrev far_tank : LineData
far_tank = record two_hoists {
  tanks = tank_at 0 ∷ tank_at 3 ∷ tank_at 6 ∷ tank_at 5 ∷ [];
  stages = first_stage ∷ (record { tanks = 3 ∷ 1 ∷ []; min = 5; max = Some 10; lift = 1; lower = 1 }) ∷ out_stage 2 ∷ [];
}

abbrev in_far : List Decision
in_far = (record { question = Choose (record { carrier = 0; stage = 1 }); child = 0 }) ∷ []

-- no hoist reaches both load and far
far_tank_choices : (low far_tank [] 0 0 ≡ 5) × (high far_tank [] 0 0 ≡ 7) × (back far_tank [] 0 1 ≡ 4) × (tank_below far_tank [] 0 1 ≡ None)
    × (hoists_below far_tank in_far 0 0 ≡ []) × (hoist_below far_tank in_far 0 1 ≡ Some 1)
far_tank_choices = (refl, refl, refl, refl, refl, refl)

abbrev short_bath : ℕ → Stage
short_bath tank = record { tanks = tank ∷ []; min = 1; max = None; lift = 1; lower = 1 }

abbrev rinse_twice : LineData
rinse_twice = record {
  track = 3;
  gap = 1;
  hoists = 1;
  degree = 1;
  max_period = 100;
  load = 0;
  unload = 0;
  tanks = tank_at 0 ∷ tank_at 1 ∷ tank_at 2 ∷ tank_at 3 ∷ [];
  stages = first_stage ∷ short_bath 1 ∷ short_bath 2 ∷ short_bath 1 ∷ out_stage 3 ∷ [];
}

abbrev rinse_ticks : ℕ → ℤ
rinse_ticks i = get_or (pos 0 ∷ pos 4 ∷ pos 8 ∷ pos 12 ∷ []) i (pos 0)

-- the rinse is held in [2, 5) and in [10, 13)
rinse_holds : (tick_of rinse_twice rinse_ticks (begin_of rinse_twice (low rinse_twice []) 0 1) ≡ pos 2)
    × (tick_of rinse_twice rinse_ticks (end_of rinse_twice (low rinse_twice []) 0 1) ≡ pos 5)
    × (tick_of rinse_twice rinse_ticks (begin_of rinse_twice (low rinse_twice []) 0 3) ≡ pos 10)
    × (tick_of rinse_twice rinse_ticks (end_of rinse_twice (low rinse_twice []) 0 3) ≡ pos 13)
rinse_holds = (refl, refl, refl, refl)
