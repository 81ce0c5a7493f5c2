-- The lists of a plan: they are a timetable of the line, which is legal.
use Rattle.std.proofs.Common.{⊎_elim, ◌≡◌, ℕ, ◌+◌, ◌*◌, ◌%◌, ◌<◌, ◌≤◌, List, [], ◌∷◌, length, get_or, Bool, true, sym, ◌∙◌, ap, subst, ℤ, pos, ◌+ℤ◌, ◌≤ℤ◌, arith, Some, None}
use Rattle.std.specs.Prelude.{Option, Contains, filter}
use Rattle.std.proofs.lemmas.Bool.{cases_lt}
use Rattle.std.proofs.lemmas.Int.{ints}
use Rattle.std.proofs.lemmas.List.{get_or_past}
use Rattle.std.proofs.lemmas.List.Elements.{All-filter, Contains-get_or, filter_passes}
use Rattle.list_facts.proofs.Elements.{contains_first, contains_at}
use Rattle.hoist_base.specs.declared.ids.MoveId.{MoveId}
use Rattle.hoist_base.specs.LineData.{LineData, last_stage, last_step, move_number, move_at, IsMove, Serves}
use Rattle.hoist_base.specs.Routes.{IsRoute, route_tank}
use Rattle.hoist_base.specs.Valid.{IsLine}
use Rattle.hoist_base.proofs.NumberLemmas.{move_there, move_below, number_of_move}
use Rattle.line_model.specs.declared.motion.Motion.{Motion}
use Rattle.line_model.specs.Motion.{duration, place, motion_between, ReachesMotion}
use Rattle.line_model.specs.Timetable.{Timetable, position, motion}
use Rattle.line_model.specs.Legal.{IsLegal, IsTrack}
use Rattle.timetable.specs.TimetableData.{TimetableData, timetable_of, last_tick, IsTimetableOf}
use Rattle.choice_tree.specs.declared.question.Decision.{Decision}
use Rattle.choice_tree.specs.Nodes.{numbers_from}
use Rattle.choice_tree.proofs.NodeLemmas.{length-numbers_from, get_or-numbers_from}
use Rattle.path_constraints.specs.Hoists.{reaches_motion, hoists_reaching, assigned_of, hoist_by}
use Rattle.path_constraints.specs.Ticks.{tick_at}
use Rattle.path_constraints.proofs.RideLemmas.{reaches_is}
use Rattle.path_constraints.proofs.Settled.{settled_ride}
use Rattle.node_expand.specs.declared.solved.Solved.{Solved}
use Rattle.node_expand.specs.Plannable.{IsPlannable}
use Rattle.path_envelope.specs.Duties.{duties, HaveReach, Agree}
use Rattle.path_envelope.specs.Envelope.{AreLowest, on_paths}
use Rattle.planning.specs.Lists.{HasSmallTicks, AreStarts, AreLoaded, ArePuts, AreOffs}
use Rattle.planning.specs.Planned.{IsPlan}
use Rattle.planning.proofs.Choices.{Settled, ride_own, lasts_little}
use Rattle.planning.proofs.Rows.{Timed}
use Rattle.planning.proofs.Bounds.{ticks_small}
use Rattle.planning.proofs.Rides.{start_apart}
use Rattle.planning.proofs.Agreement.{all_agree}
use Rattle.planning.proofs.Holding.{Starts}
use Rattle.planning.proofs.Legality.{Follows, is_legal}

-- ---- what a solved path says of its moves, wherever they start

pub timed : (l : LineData) (s : Solved) (x : IsPlannable l s) → Timed l x.path (tick_at s.ticks) s.period
timed l s x = record { constraints = x.constraints; orders = x.orders }

pub settled : (l : LineData) (s : Solved) (starts : List ℕ) (x : IsPlannable l s)
    → Settled l x.path (duties l s.tanks s.period starts s.hoists)
settled l s starts x = record { routed = x.route.serves; tank = x.settles.tank; hoist = x.settles.hoist }

small_at : (l : LineData) (s : Solved) (i : ℕ) → IsLine l → IsPlannable l s → i < length s.ticks
    → (pos 0 ≤ℤ tick_at s.ticks i) × (tick_at s.ticks i ≤ℤ pos 1000000)
small_at l s i line x lt =
    let m : MoveId = move_at l i in
    let move : IsMove l m.carrier m.step = move_there l i line (omega (arith, lt, x.ticks)) in
    subst (λ j. (pos 0 ≤ℤ tick_at s.ticks j) × (tick_at s.ticks j ≤ℤ pos 1000000)) (number_of_move l i)
    (ticks_small l x.path (duties l s.tanks s.period [] s.hoists) (tick_at s.ticks) s.period m.carrier m.step line (settled l s [] x)
    (timed l s x) x.period.1 x.origin move)

pub small_ticks : (l : LineData) (s : Solved) → IsLine l → IsPlannable l s → HasSmallTicks s.ticks
small_ticks l s line x i lt = small_at l s i line x lt

-- ---- starts

pub start_low : (l : LineData) (s : Solved) (starts : List ℕ) (i : ℕ) → IsLine l → IsPlannable l s
    → AreStarts l.load s.ticks starts
    → get_or starts i 0 ≤ 1020000
start_low l s starts i line x are =
    ⊎_elim
    (λ lt. low (get_or starts i 0) (tick_at s.ticks i) l.load (are.at i lt) (small_at l s i line x lt).1 line.limits.load)
    (λ past. omega (arith, get_or_past starts i 0 (omega (arith, past, are.count))))
    (cases_lt i (length s.ticks))
  where
    low : (a : ℕ) (t : ℤ) (load : ℕ) → pos a ≡ t +ℤ pos load → t ≤ℤ pos 1000000 → load ≤ 20000 → a ≤ 1020000
    low a t load e le le' = omega (arith, ints, e, le, le')

there : (l : LineData) (s : Solved) (c k : ℕ) → IsPlannable l s → IsMove l c k → move_number l c k < length s.ticks
there l s c k x move = omega (arith, move_below l c k move, x.ticks)

pub start_is : (l : LineData) (s : Solved) (starts : List ℕ) (c k : ℕ) → IsPlannable l s
    → AreStarts l.load s.ticks starts → IsMove l c k
    → pos (get_or starts (move_number l c k) 0) ≡ tick_at s.ticks (move_number l c k) +ℤ pos l.load
start_is l s starts c k x are move = are.at (move_number l c k) (there l s c k x move)

pub are_loaded : (l : LineData) (s : Solved) (starts : List ℕ) → IsLine l → IsPlannable l s
    → AreStarts l.load s.ticks starts → AreLoaded l starts
are_loaded l s starts line x are c lt =
    let move : IsMove l c 0 = (lt, omega (arith, line.limits.stages.0)) in
    loaded (get_or starts (move_number l c 0) 0) (tick_at s.ticks (move_number l c 0)) l.load (start_is l s starts c 0 x are move)
    (small_at l s (move_number l c 0) line x (there l s c 0 x move)).0
  where
    loaded : (a : ℕ) (t : ℤ) (load : ℕ) → pos a ≡ t +ℤ pos load → pos 0 ≤ℤ t → load ≤ a
    loaded a t load e le = omega (arith, ints, e, le)

-- ---- hoists

-- what is left of a list passes the test and was in it
left_over : (test : ℕ → Bool) (xs : List ℕ) (y : ℕ) → Contains (filter test xs) y → (test y ≡ true) × Contains xs y
left_over test xs y (k, lt, e) =
    let there : Contains xs (get_or (filter test xs) k y) =
    All-filter test (λ z. Contains xs z) xs (λ i d within. Contains-get_or xs i d within) k y lt in
    (subst (λ z. test z ≡ true) e (filter_passes test xs k y lt), subst (λ z. Contains xs z) e there)

below_count : (n h : ℕ) → Contains (numbers_from 0 n) h → h < n
below_count n h (i, lt, e) = omega (arith, length-numbers_from 0 n, lt, e, get_or-numbers_from 0 n i h (omega (arith, length-numbers_from 0 n, lt)))

-- the hoist of a move is one of those that reach it
one_of_them : (hs : List ℕ) (o : Option ℕ) (h : ℕ) → hoist_by hs o ≡ Some h → Contains hs h
one_of_them [] o h e = cc
one_of_them (x ∷ []) o h e = let same : x ≡ h = cc in subst (λ z. Contains (x ∷ []) z) same (contains_first x [])
one_of_them (x ∷ y ∷ ys) None h e = cc
one_of_them (x ∷ y ∷ ys) (Some n) h e = contains_at (x ∷ y ∷ ys) h n e

pub reach_of : (l : LineData) (path : List Decision) (p : Timetable) (c k : ℕ) → Settled l path p → IsMove l c k
    → (p.hoist c k < l.hoists) × ReachesMotion l (p.hoist c k) (motion l p c k)
reach_of l path p c k s move =
    let ride = settled_ride l path c k _ (ride_own l path p c k s move) in
    let m = motion l p c k in
    let h = p.hoist c k in
    let found = left_over (λ g. reaches_motion l g m) (numbers_from 0 l.hoists) h (one_of_them (hoists_reaching l m) (assigned_of path c k) h ride.hoist) in
    (below_count l.hoists h found.1, reaches_is l h m found.0)

pub have_reach : (l : LineData) (s : Solved) (starts : List ℕ) → IsPlannable l s
    → HaveReach l (duties l s.tanks s.period starts s.hoists)
have_reach l s starts x =
    let p = duties l s.tanks s.period starts s.hoists in
    let fixed = settled l s starts x in
    record { hoist = λ c k move. (reach_of l x.path p c k fixed move).0; reach = λ c k move. (reach_of l x.path p c k fixed move).1 }

-- no two points that the plan fixes contradict one another
pub they_agree : (l : LineData) (s : Solved) (starts : List ℕ) → IsLine l → IsPlannable l s
    → AreStarts l.load s.ticks starts
    → Agree l (duties l s.tanks s.period starts s.hoists)
they_agree l s starts line x are =
    let p = duties l s.tanks s.period starts s.hoists in
    all_agree l p (start_apart l x.path p (tick_at s.ticks) line (settled l s starts x) (timed l s x) (λ c k move. start_is l s starts c k x are move))

-- ---- the lists as a timetable

tank_at : (l : LineData) (tanks : List ℕ) (c k steps : ℕ) → IsLine l → steps ≡ last_stage l
    → get_or tanks (c * (steps + 1) + k) 0 ≡ route_tank l tanks c k
tank_at l tanks c k steps line e = ap (λ (n : ℕ). get_or tanks (c * n + k) 0) (omega (arith, e, line.limits.stages.0))

move_is : (l : LineData) (xs : List ℕ) (c k steps : ℕ) → steps ≡ last_stage l
    → get_or xs (c * steps + k) 0 ≡ get_or xs (move_number l c k) 0
move_is l xs c k steps e = ap (λ (n : ℕ). get_or xs (c * n + k) 0) e

first_is : (xs : List ℕ) (c n : ℕ) → get_or xs (c * n + 0) 0 ≡ get_or xs (c * n) 0
first_is xs c n = ap (λ (i : ℕ). get_or xs i 0) (omega arith)

motion_is : (l : LineData) (k i j i' j' : ℕ) → i ≡ i' → j ≡ j' → motion_between l k i j ≡ motion_between l k i' j'
motion_is l k i j i' j' e f = ap (λ (x : ℕ). motion_between l k x j) e ∙ ap (λ (y : ℕ). motion_between l k i' y) f

-- what the lists of a plan are made of
pub record AreParts (l : LineData) (s : Solved) (d : TimetableData) : Type 0 where
  pub period : d.period ≡ s.period
  pub steps : d.steps ≡ last_stage l
  pub start : AreStarts l.load s.ticks d.start
  pub put : ArePuts l d.start d.put
  pub off : AreOffs l s.tanks d.start d.off
  pub hoist : d.hoist ≡ s.hoists
  pub tank : d.tank ≡ s.tanks
  pub path : AreLowest l (duties l s.tanks s.period d.start s.hoists) d.path

own_tank : (l : LineData) (s : Solved) (d : TimetableData) (c k : ℕ) → IsLine l → d.steps ≡ last_stage l
    → d.tank ≡ s.tanks
    → (timetable_of d).tank c k ≡ route_tank l s.tanks c k
own_tank l s d c k line steps e = tank_at l d.tank c k d.steps line steps ∙ ap (λ (tanks : List ℕ). route_tank l tanks c k) e

own_motion : (l : LineData) (s : Solved) (d : TimetableData) (c k : ℕ) → IsLine l → d.steps ≡ last_stage l
    → d.tank ≡ s.tanks
    → motion l (timetable_of d) c k ≡ motion l (duties l s.tanks s.period d.start s.hoists) c k
own_motion l s d c k line steps e =
    let p = timetable_of d in
    motion_is l k (p.tank c k) (p.tank c (k + 1)) (route_tank l s.tanks c k) (route_tank l s.tanks c (k + 1)) (own_tank l s d c k line steps e)
    (own_tank l s d c (k + 1) line steps e)

pub is_plan : (l : LineData) (s : Solved) (d : TimetableData) → IsLine l → IsPlannable l s → AreParts l s d
    → IsPlan l s d
is_plan l s d line x parts =
    let p = timetable_of d in
    let n : ℕ = last_step l in
    record {
      period = parts.period;
      tanks = parts.tank;
      hoists = parts.hoist;
      start = λ c k move. ap (λ (a : ℕ). pos a) (move_is l d.start c k d.steps parts.steps) ∙ start_is l s d.start c k x parts.start move;
      put = λ c lt. parts.put.at c lt ∙ sym (move_is l d.start c 0 d.steps parts.steps);
      off = λ c lt.
          let e : duration (motion l p c n) ≡ duration (motion l (duties l s.tanks s.period d.start s.hoists) c n) =
          ap duration (own_motion l s d c n line parts.steps parts.tank) in
          omega (arith, parts.off.at c lt, move_is l d.start c n d.steps parts.steps, e);
      paths = parts.path;
    }

-- a list by carrier whose entries are small
small_list : (xs : List ℕ) (count bound i : ℕ) → length xs ≡ count → ((c : ℕ) → c < count → get_or xs c 0 ≤ bound)
    → get_or xs i 0 ≤ bound
small_list xs count bound i long small =
    ⊎_elim (λ lt. small i lt) (λ past. omega (arith, get_or_past xs i 0 (omega (arith, past, long)))) (cases_lt i count)

pub is_timetable : (l : LineData) (s : Solved) (d : TimetableData) → IsLine l → IsPlannable l s → AreParts l s d
    → IsTimetableOf l d
is_timetable l s d line x parts =
    let q = duties l s.tanks s.period d.start s.hoists in
    let n : ℕ = last_step l in
    let fixed = settled l s d.start x in
    let low : (i : ℕ) → get_or d.start i 0 ≤ 1020000 = λ i. start_low l s d.start i line x parts.start in
    record {
      fits = record {
        steps = parts.steps;
        put_count = parts.put.count;
        off_count = parts.off.count;
        start_count = parts.start.count ∙ x.ticks;
        hoist_count = ap (λ (hs : List ℕ). length hs) parts.hoist ∙ x.hoists;
        path_count = parts.path.count ∙ ap (λ (m : ℕ). l.hoists * m) (sym parts.period);
        route = subst (λ tanks. IsRoute l tanks) (sym parts.tank) x.route;
      };
      period = (omega (arith, parts.period, x.period.0), omega (arith, parts.period, x.period.1));
      put_ticks = λ i. small_list d.put l.degree last_tick i parts.put.count (λ c lt. omega (arith, parts.put.at c lt, low (move_number l c 0)));
      off_ticks = λ i. small_list d.off l.degree last_tick i parts.off.count
          (λ c lt. omega (
            arith,
            parts.off.at c lt,
            low (move_number l c n),
            lasts_little l q c n line fixed.routed (lt, omega (arith, line.limits.stages.0)),
            line.limits.unload,
          ));
      start_ticks = λ i. omega (arith, low i);
      hoists = λ i lt.
          let m : MoveId = move_at l i in
          let move : IsMove l m.carrier m.step =
          move_there l i line (omega (arith, lt, ap (λ (hs : List ℕ). length hs) parts.hoist, x.hoists)) in
          let there = (reach_of l x.path q m.carrier m.step fixed move).0 in
          let e : get_or d.hoist i 0 ≡ get_or s.hoists (move_number l m.carrier m.step) 0 =
          ap (λ (hs : List ℕ). get_or hs i 0) parts.hoist ∙ ap (λ (j : ℕ). get_or s.hoists j 0) (sym (number_of_move l i)) in
          omega (arith, e, there);
    }

-- ---- the plan is legal

pub plan_is_legal : (l : LineData) (s : Solved) (d : TimetableData) → IsLine l → IsPlannable l s
    → d.steps ≡ last_stage l → IsPlan l s d
    → IsLegal l (timetable_of d)
plan_is_legal l s d line x steps plan =
    let p = timetable_of d in
    let q = duties l s.tanks s.period d.start s.hoists in
    let rows = on_paths q d.path in
    let fixed = settled l s d.start x in
    let tank : (c k : ℕ) → p.tank c k ≡ q.tank c k = λ c k. own_tank l s d c k line steps plan.tanks in
    let hoist : (c k : ℕ) → p.hoist c k ≡ q.hoist c k =
    λ c k. move_is l d.hoist c k d.steps steps ∙ ap (λ (hs : List ℕ). get_or hs (move_number l c k) 0) plan.hoists in
    let start : (c k : ℕ) → p.start c k ≡ q.start c k = λ c k. move_is l d.start c k d.steps steps in
    let moves : (c k : ℕ) → motion l p c k ≡ motion l q c k = λ c k. own_motion l s d c k line steps plan.tanks in
    let at : (h t : ℕ) → position p h t ≡ position rows h t = λ h t. ap (λ (n : ℕ). get_or d.path (h * n + t % n) 0) plan.period in
    let own : Settled l x.path p = record {
      routed = λ c k visit. subst (λ i. Serves l i k) (sym (tank c k)) (fixed.routed c k visit);
      tank = λ c k visit. fixed.tank c k visit ∙ ap (λ (i : ℕ). Some i) (sym (tank c k));
      hoist = λ c k move. fixed.hoist c k move ∙ ap (λ (i : ℕ). Some i) (sym (hoist c k));
    } in
    let track : IsTrack l rows = plan.paths.track in
    let follows : Follows l p = record {
      track = record {
        spaced = λ t. record {
          within = λ h lt. omega (arith, at h t, (track.spaced t).within h lt);
          apart = λ h lt. omega (arith, at h t, at (h + 1) t, (track.spaced t).apart h lt);
        };
        up = λ h t lt. omega (arith, at h t, at h (t + 1), track.up h t lt);
        down = λ h t lt. omega (arith, at h t, at h (t + 1), track.down h t lt);
      };
      hoist = λ c k move. omega (arith, hoist c k, (reach_of l x.path q c k fixed move).0);
      along = λ c k u move le.
          let lasts : duration (motion l p c k) ≡ duration (motion l q c k) = ap duration (moves c k) in
          let here : position p (p.hoist c k) (p.start c k + u) ≡ position rows (q.hoist c k) (q.start c k + u) =
          at (p.hoist c k) (p.start c k + u) ∙ ap (λ (h : ℕ). position rows h (p.start c k + u)) (hoist c k) ∙ ap
          (λ (a : ℕ). position rows (q.hoist c k) (a + u)) (start c k) in
          here ∙ plan.paths.through c k u move (omega (arith, le, lasts)) ∙ ap (λ (m : Motion). place m u) (sym (moves c k));
    } in
    let clock : Timed l x.path (tick_at s.ticks) p.period = subst (λ n. Timed l x.path (tick_at s.ticks) n) (sym plan.period) (timed l s x) in
    let starts : Starts l p (tick_at s.ticks) = record { start = plan.start; put = plan.put; off = plan.off } in
    is_legal l x.path p (tick_at s.ticks) line (omega (arith, plan.period, x.period.0)) own clock starts follows

pub small_path : (l : LineData) (s : Solved) (d : TimetableData) (i : ℕ) → IsLine l → IsPlan l s d
    → get_or d.path i 0 ≤ 1000
small_path l s d i line plan = omega (arith, plan.paths.small i, line.limits.track.1)
