-- What the climb over a path's system says of the path.
use Rattle.std.proofs.Common.{⊎_elim, inl, inr, ◌⊎◌, ◌≡◌, ℕ, ◌<◌, ◌≤◌, List, ◌++◌, length, get_or, map, refl, sym, ◌∙◌, ap, subst, arith, ℤ, Some, None}
use Rattle.std.specs.Prelude.{Option, option_map, option_to_list, IfSome, IsSome}
use Rattle.hoist_base.specs.LineData.{LineData, move_count}
use Rattle.hoist_base.specs.Valid.{IsLine}
use Rattle.hoist_base.specs.Routes.{IsRoute}
use Rattle.longest_path.specs.System.{SystemData, IsLeastSolution}
use Rattle.cycle_walk.specs.Closed.{WalkData, IsFeasible}
use Rattle.cycle_walk.specs.Closed as closed
use Rattle.cycle_walk.specs.Climb.{IsLeastFeasible, Gives, AreRefuted, AllWalks}
use Rattle.cycle_walk.specs.declared.climbing.Climbed.{Climbed}
use Rattle.cycle_walk.specs.declared.climbing.Climbed.TheVariants.{Floor, Shut}
use Rattle.choice_tree.specs.declared.question.Decision.{Decision}
use Rattle.choice_tree.specs.declared.constraint.Constraint.{Constraint}
use Rattle.choice_tree.specs.declared.constraint.Constraint.TheVariants.{Entry}
use Rattle.path_constraints.specs.Constraints.{constraint_list, arc_of}
use Rattle.path_constraints.specs.Places.{system_below}
use Rattle.path_constraints.specs.Proves.{RefuteBelow}
use Rattle.path_constraints.specs.Questions.{FitsPath}
use Rattle.period_constraints.specs.Order.{IsFirstQuestion}
use Rattle.path_constraints.specs.Ticks.{tick_at}
use Rattle.std.proofs.lemmas.List.{length-map}
use Rattle.path_constraints.proofs.SpreadLemmas.{keeps_all}
use Rattle.node_expand.specs.Expansion.{named}
use Rattle.node_expand.specs.Plannable.{Settles, IsPlannable}
use Rattle.node_expand.specs.Shown.{IsShortWalk}
use Rattle.node_expand.specs.declared.solved.Solved.{Solved}
use Rattle.node_expand.proofs.WalkLemmas.{names_of, walk_there, short_named, refute_two}
use Rattle.node_expand.proofs.FloorLemmas.{not_one}

-- ---- names

-- a walk's constraints have names
pub names_there : (l : LineData) (path : List Decision) (names : List Constraint) (walk : WalkData)
    → names ≡ constraint_list l path
    → closed.IsClosedWalk (system_below l path) walk
    → (k : ℕ) → k < length walk.arcs → get_or walk.arcs k 0 < length names
names_there l path names walk is h k lt =
    omega (
      arith,
      walk_there (system_below l path) h.node walk.arcs h.node h.leads k lt,
      ap (λ (ts : List Constraint). length ts) is,
      length-map
          (constraint_list l path) (arc_of l path),
    )

pub some_names_there : (l : LineData) (path : List Decision) (names : List Constraint) (walk : Option WalkData)
    → names ≡ constraint_list l path
    → IfSome walk (closed.IsClosedWalk (system_below l path))
    → IfSome walk (λ w. (k : ℕ) → k < length w.arcs → get_or w.arcs k 0 < length names)
some_names_there l path names None is h = tt
some_names_there l path names (Some walk) is h = names_there l path names walk is h

pub names_are : (l : LineData) (path : List Decision) (names : List Constraint) (walk : WalkData) (proof : List Constraint)
    → names ≡ constraint_list l path
    → proof ≡ map (λ k. get_or names k (Entry 0)) walk.arcs → proof ≡ named l path walk
names_are l path names walk proof is made = made ∙ ap (λ (ts : List Constraint). map (λ k. get_or ts k (Entry 0)) walk.arcs) is

pub some_names_are : (l : LineData) (path : List Decision) (names : List Constraint) (walk : Option WalkData) (proof : Option (List Constraint))
    → names ≡ constraint_list l path
    → proof ≡ option_map (λ w. map (λ k. get_or names k (Entry 0)) w.arcs) walk → proof ≡ names_of l path walk
some_names_are l path names walk proof is made =
    made ∙ ap (λ (ts : List Constraint). option_map (λ (w : WalkData). map (λ k. get_or ts k (Entry 0)) w.arcs) walk) is

-- ---- shut

pub record IsShutAt (l : LineData) (path : List Decision) (cap : ℕ) (low high : Option WalkData) : Type 0 where
  pub low_closed : IfSome low (closed.IsClosedWalk (system_below l path))
  pub high_closed : IfSome high (closed.IsClosedWalk (system_below l path))
  pub gives : (t : ℕ) → 1 ≤ t → t < cap → Gives low t ⊎ Gives high t

pub shut_at : (l : LineData) (path : List Decision) (cap : ℕ) (s : SystemData) (x : Climbed) (low high : Option WalkData)
    → s ≡ system_below l path
    → x ≡ Shut low high → AreRefuted cap x → AllWalks (closed.IsClosedWalk s) x
    → IsShutAt l path cap low high
shut_at l path cap s x low high e is refuted walks =
    let P : SystemData → Type 0 = λ y. AllWalks (closed.IsClosedWalk y) x in
    let Q : Climbed → Type 0 = λ y. AllWalks (closed.IsClosedWalk (system_below l path)) y in
    let R : Climbed → Type 0 = λ y. AreRefuted cap y in
    let both = subst Q is (subst P e walks) in
    record { low_closed = both.0; high_closed = both.1; gives = subst R is refuted }

pub shut_shows : (l : LineData) (path : List Decision) (cap : ℕ) (low high : Option WalkData) (low_names high_names : Option (List Constraint))
    → IsShutAt l path cap low high → low_names ≡ names_of l path low → high_names ≡ names_of l path high
    → RefuteBelow l path (option_to_list low_names ++ option_to_list high_names) cap
shut_shows l path cap low high low_names high_names h is_low is_high =
    let P : Option (List Constraint) → Type 0 = λ o. RefuteBelow l path (option_to_list o ++ option_to_list (names_of l path high)) cap in
    let Q : Option (List Constraint) → Type 0 = λ o. RefuteBelow l path (option_to_list low_names ++ option_to_list o) cap in
    subst Q (sym is_high) (subst P (sym is_low) (refute_two l path low high cap h.low_closed h.high_closed h.gives))

short_names : (l : LineData) (path : List Decision) (walk : Option WalkData)
    → IfSome walk (closed.IsClosedWalk (system_below l path))
    → IfSome (names_of l path walk) IsShortWalk
short_names l path None h = tt
short_names l path (Some walk) h = short_named l path walk h

given : (l : LineData) (path : List Decision) (walk : Option WalkData) (t : ℕ) → Gives walk t
    → IsSome (names_of l path walk)
given l path None t h = absurd h
given l path (Some walk) t h = refl

pub shut_few : (l : LineData) (path : List Decision) (cap : ℕ) (low high : Option WalkData) (low_names high_names : Option (List Constraint))
    → 2 ≤ cap
    → IsShutAt l path cap low high → low_names ≡ names_of l path low → high_names ≡ names_of l path high
    → (IsSome low_names ⊎ IsSome high_names) × IfSome low_names IsShortWalk × IfSome high_names IsShortWalk
shut_few l path cap low high low_names high_names some h is_low is_high =
    let P : Option (List Constraint) → Type 0 = λ o. IfSome o IsShortWalk in
    let Q : Option (List Constraint) → Type 0 = λ o. IsSome o in (
      ⊎_elim (λ g. inl (subst Q (sym is_low) (given l path low 1 g))) (λ g. inr (subst Q (sym is_high) (given l path high 1 g)))
          (h.gives 1 (omega arith) (omega (arith, some))),
      subst P (sym is_low) (short_names l path low h.low_closed),
      subst P (sym is_high) (short_names l path high h.high_closed),
    )

-- ---- floor

pub record IsFloorAt (l : LineData) (path : List Decision) (cap period : ℕ) (low : Option WalkData) : Type 0 where
  pub some : 1 ≤ period
  pub below : period < cap
  pub feasible : IsFeasible (system_below l path) period
  pub walk_closed : IfSome low (closed.IsClosedWalk (system_below l path))
  pub gives : (t : ℕ) → 1 ≤ t → t < period → Gives low t

pub floor_at : (l : LineData) (path : List Decision) (cap : ℕ) (s : SystemData) (x : Climbed) (period : ℕ) (low : Option WalkData)
    → s ≡ system_below l path
    → x ≡ Floor period low
    → IsLeastFeasible s cap x → AreRefuted cap x → AllWalks (closed.IsClosedWalk s) x → IsFloorAt l path cap period low
floor_at l path cap s x period low e is least refuted walks =
    let P : SystemData → Type 0 = λ y. AllWalks (closed.IsClosedWalk y) x in
    let Q : Climbed → Type 0 = λ y. AllWalks (closed.IsClosedWalk (system_below l path)) y in
    let R : Climbed → Type 0 = λ y. AreRefuted cap y in
    let S : SystemData → Type 0 = λ y. IsLeastFeasible y cap x in
    let T : Climbed → Type 0 = λ y. IsLeastFeasible (system_below l path) cap y in
    let f = subst T is (subst S e least) in
    record { some = f.0; below = f.1; feasible = f.2; walk_closed = subst Q is (subst P e walks); gives = subst R is refuted }

-- the last walk is there
pub walk_is_there : (l : LineData) (path : List Decision) (cap period : ℕ) (low : Option WalkData) → IsLine l
    → IsFloorAt l path cap period low → low ≡ None → ⊥
walk_is_there l path cap period low line h none =
    let P : Option WalkData → Type 0 = λ o. (t : ℕ) → 1 ≤ t → t < period → Gives o t in
    let gives = subst P none h.gives in
    let one : period ≡ 1 = omega (arith, h.some, gives 1 (omega arith)) in
    let Q : ℕ → Type 0 = λ t. IsFeasible (system_below l path) t in
    not_one l path line (subst Q one h.feasible)

pub floor_closed : (l : LineData) (path : List Decision) (cap period : ℕ) (low : Option WalkData) (walk : WalkData)
    → IsFloorAt l path cap period low
    → low ≡ Some walk → closed.IsClosedWalk (system_below l path) walk
floor_closed l path cap period low walk h is =
    let P : Option WalkData → Type 0 = λ o. IfSome o (closed.IsClosedWalk (system_below l path)) in subst P is h.walk_closed

-- ---- solved

pub plannable : (l : LineData) (path : List Decision) (period : ℕ) (ticks : List ℤ) (s : Solved) → IsLine l
    → FitsPath l path → 1 ≤ period → period ≤ 20000
    → IsLeastSolution (system_below l path) period ticks
    → IsFirstQuestion l path (tick_at ticks) period None → s.period ≡ period → s.ticks ≡ ticks → Settles l path s
    → IsRoute l s.tanks
    → length s.hoists ≡ move_count l → IsPlannable l s
plannable l path period ticks s line fits some small least none is_period is_ticks settles route count =
    let P : ℕ → Type 0 = λ t. IsLeastSolution (system_below l path) t s.ticks × IsFirstQuestion l path (tick_at s.ticks) t None in
    let Q : List ℤ → Type 0 = λ ts. IsLeastSolution (system_below l path) period ts × IsFirstQuestion l path (tick_at ts) period None in
    let here = subst P (sym is_period) (subst Q (sym is_ticks) (least, none)) in
    record {
      ticks = here.0.count;
      hoists = count;
      route = route;
      period = (omega (arith, some, is_period), omega (arith, small, is_period));
      origin = here.0.at_start;
      path = path;
      fits = fits;
      settles = settles;
      constraints = λ t undecided is. keeps_all l path (tick_at s.ticks) s.period line here.0.solves t is;
      orders = λ x order stands fails. here.1 x (record { stands = stands; fails = fails });
    }
