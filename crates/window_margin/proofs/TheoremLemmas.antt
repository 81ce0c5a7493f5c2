-- The margin of a timetable: what its constraints leave is what its siblings have.
use Rattle.std.proofs.Common.{◌≡◌, ℕ, zero, suc, ◌+◌, ◌-◌, ◌*◌, ◌<◌, ◌≤◌, List, [], ◌∷◌, ◌++◌, length, get_or, map, All, refl, sym, ◌∙◌, ap, subst, arith, ℤ, pos, negsuc, ◌+ℤ◌, ◌-ℤ◌, ◌*ℤ◌, neg_ℤ, ◌≤ℤ◌, ◌<ℤ◌, Some, Bool, cond}
use Rattle.std.specs.Prelude.{unsigned_abs}
use Rattle.std.proofs.lemmas.Int.{ints}
use Rattle.std.proofs.lemmas.Bool.{ne_eqb}
use Rattle.std.proofs.lemmas.List.{length-append, length-map, get_or-map, get_or_append_left, ext_get_or}
use Rattle.list_facts.proofs.Products.{times_add}
use Rattle.hoist_base.specs.LineData.{LineData, stage, last_stage, last_step, move_number, move_count, move_at, IsMove}
use Rattle.hoist_base.specs.Routes.{IsRoute, route_tank}
use Rattle.hoist_base.specs.Valid.{IsLine}
use Rattle.line_model.specs.Timetable.{Timetable}
use Rattle.line_model.specs.Legal.{IsLegal}
use Rattle.timetable.specs.TimetableData.{TimetableData, timetable_of, FitsLine}
use Rattle.longest_path.specs.declared.systems.Arc.{Arc}
use Rattle.longest_path.specs.System.{SystemData, arc, weight, Leads, IsReached, sum_w, sum_q, Refutes, IsLeastSolution}
use Rattle.cycle_walk.specs.Closed.{WalkData, Walks, IsClosedWalk, closed_walk_of}
use Rattle.choice_tree.specs.declared.question.Decision.{Decision}
use Rattle.choice_tree.specs.declared.constraint.Constraint.{Constraint}
use Rattle.choice_tree.specs.declared.constraint.Constraint.TheVariants.{Min, Entry, Visit}
use Rattle.path_constraints.specs.Tanks.{low, high}
use Rattle.path_constraints.specs.Constraints.{no_arc, arc_of, arcs_of, visit_arc, undecided_list, Keeps}
use Rattle.path_constraints.specs.Places.{system_below}
use Rattle.path_constraints.specs.Questions.{Fails}
use Rattle.path_constraints.specs.Ticks.{tick_at}
use Rattle.path_constraints.specs.Meets.{ticks_of}
use Rattle.node_expand.specs.declared.solved.Solved.{Solved}
use Rattle.node_expand.specs.Plannable.{IsPlannable}
use Rattle.node_expand.proofs.FloorLemmas.{all_reached}
use Rattle.planning.specs.Planned.{IsPlan}
use Rattle.window_margin.specs.declared.reads.MarginArc.{MarginArc}
use Rattle.window_margin.specs.Margins.{IsSibling, HasMargin}
use Rattle.window_margin.specs.Chosen.{IsChosen}
use Rattle.window_margin.specs.Arcs.{share_of, at_period, from_one, undecided_arcs, visit_arcs, move_arcs, margin_arcs, margin_system}
use Rattle.window_margin.specs.Systems.{arc_at, AreMarginArcs}
use Rattle.window_margin.specs.declared.limits.Limit.{Limit}
use Rattle.window_margin.specs.Limits.{AreBounded, IsGreatest, IsLimit}
use Rattle.window_margin.specs.Found.{StartsBy, named_arc, named_walk, Joined, IsClosedChain, asked_at, IsFound}
use Rattle.window_margin.proofs.UndecidedLemmas.{names_are}
use Rattle.window_margin.proofs.SiblingLemmas.{SameMoves, low_own, high_own, sibling_keeps}
use Rattle.window_margin.proofs.SolutionLemmas.{shared_kept, undecided_met, none_fails, is_sibling, has_margin}
use Rattle.window_margin.proofs.LimitLemmas.{allows_kept, kept_allows, from_one_weight}
use Rattle.window_margin.proofs.BoundLemmas.{own_keeps, each_fits}
use Rattle.window_margin.proofs.CountLemmas.{few_arcs}

-- ---- the margins that are allowed

pub are_margin_arcs : (l : LineData) (path : List Decision) (p : Timetable) (arcs : List Arc) → IsLine l → IsLegal l p
    → IsChosen l p path → p.period ≤ 20000
    → arcs ≡ margin_arcs l p path → AreMarginArcs l arcs
are_margin_arcs l path p arcs line legal chosen few is =
    subst (λ (xs : List Arc). AreMarginArcs l xs) (sym is) (record { few = few_arcs l path p line legal; each = each_fits l path p line legal chosen few })

visit_inner : (l : LineData) (path : List Decision) (c k : ℕ) → (k ≡ last_stage l → ⊥) → visit_arc l path c k ≡ record {
  from = move_number l c k;
  to = move_number l c (k - 1);
  w = pos ((stage l k).lift + (stage l k).lower) -ℤ pos (high l path c (k - 1));
  q = negsuc 0;
}
visit_inner l path c k other =
    let last : Arc = record {
      from = move_number l c (last_step l);
      to = move_number l c (last_step l);
      w = pos ((stage l k).lower + l.unload);
      q = negsuc 0;
    } in
    let inner : Arc = record {
      from = move_number l c k;
      to = move_number l c (k - 1);
      w = pos ((stage l k).lift + (stage l k).lower) -ℤ pos (high l path c (k - 1));
      q = negsuc 0;
    } in
    ap (λ (b : Bool). cond b last inner) (ne_eqb k (last_stage l) other)

-- no carrier can rest in a tank for a whole period
few_ticks : (l : LineData) (path : List Decision) (p : Timetable) (t : ℕ → ℤ) (h : ℕ) → IsLine l → IsChosen l p path
    → 3 ≤ length l.stages
    → All (Keeps t h) (margin_arcs l p path) → h + 3 ≤ p.period
few_ticks l path p t h line chosen three all =
    let deg = line.limits.degree.0 in
    let first : IsMove l 0 0 = (deg, omega (arith, three)) in
    let inner : 1 ≤ last_step l = omega (arith, three) in
    let rests = shared_kept l path p t h (Min 0 1) line chosen all (deg, omega arith, inner) in
    let leaves = undecided_met l path p t h (Visit 0 1) line chosen all (deg, omega arith, omega (arith, three)) in
    let arc_is = visit_inner l path 0 1 (λ e. omega (arith, e, three)) in
    let leaves' = subst (λ (a : Arc). Keeps t p.period a) arc_is leaves in
    let lasts : low l path 0 0 ≡ high l path 0 0 = low_own l path p 0 0 chosen first ∙ sym (high_own l path p 0 0 chosen first) in
    there (t (move_number l 0 0)) (t (move_number l 0 1)) (low l path 0 0) (high l path 0 0) (stage l 1).min (stage l 1).lift (stage l 1).lower h p.period
    (pos 0 *ℤ pos p.period) (pos 1 *ℤ pos h) (negsuc 0 *ℤ pos p.period) lasts (omega (arith, ints)) (omega (arith, ints)) (omega (arith, ints))
    (line.times.least 0 (omega (arith, three))).0 (line.times.lift 1 (omega (arith, three))).0 (line.times.lower 0 (omega (arith, three))).0 rests leaves'
  where
    there : (a b : ℤ) (d d' m lift lower h n : ℕ) (none share turn : ℤ) → d ≡ d' → none ≡ pos 0 → share ≡ pos h
        → turn ≡ neg_ℤ (pos n) → 1 ≤ m → 1 ≤ lift → 1 ≤ lower
        → (a +ℤ ((pos (d + m) +ℤ none) +ℤ share)) ≤ℤ b → (b +ℤ ((pos (lift + lower) -ℤ pos d') +ℤ turn)) ≤ℤ a
        → h + 3 ≤ n
    there a b d d' m lift lower h n none share turn e f g i some some' some'' le le' = omega (arith, ints, e, f, g, i, some, some', some'', le, le')

pub are_bounded : (l : LineData) (path : List Decision) (p : Timetable) (arcs : List Arc) → IsLine l → IsLegal l p
    → IsChosen l p path → 3 ≤ length l.stages
    → arcs ≡ margin_arcs l p path → AreBounded l p.period arcs
are_bounded l path p arcs line legal chosen three is =
    subst (λ (xs : List Arc). AreBounded l p.period xs) (sym is) (record {
      none = (ticks_of l p, allows_kept l (margin_arcs l p path) (ticks_of l p) 0 (own_keeps l path p line legal chosen));
      below = λ h allows. few_ticks l path p allows.0 h line chosen three (kept_allows l (margin_arcs l p path) allows.0 h allows.1);
    })

-- ---- node 0 reaches all

leads_on : (s b : SystemData) (i : ℕ) (ks : List ℕ) (j : ℕ)
    → ((k : ℕ) → k < length s.arcs → (k < length b.arcs) × ((arc b k).from ≡ (arc s k).from) × ((arc b k).to ≡ (arc s k).to))
    → Leads s i ks j → Leads b i ks j
leads_on s b i [] j same h = h
leads_on s b i (k ∷ ks) j same (lt, to, rest) =
    let e = same k lt in
    (e.0, e.2 ∙ to, subst (λ (n : ℕ). Leads b i ks n) (sym e.1) (leads_on s b i ks (arc s k).from same rest))

pub margins_reached : (l : LineData) (path : List Decision) (p : Timetable) (arcs : List Arc) → IsLine l
    → IsChosen l p path → arcs ≡ margin_arcs l p path
    → (i : ℕ) → i < move_count l → IsReached (margin_system l arcs) i
margins_reached l path p arcs line chosen is i lt =
    let r = all_reached l path i line lt in
    let u = undecided_list l in
    let f : Constraint → Arc = λ x. at_period p.period (share_of x) (arc_of l path x) in
    let U = undecided_arcs l path p.period in
    let R = visit_arcs l p ++ move_arcs l p in
    let names = names_are l path chosen.free in
    let same : (k : ℕ) → k < length (arcs_of l path) → (k < length (map from_one (margin_arcs l p path)))
    × ((arc (margin_system l (margin_arcs l p path)) k).from ≡ (arc (system_below l path) k).from)
    × ((arc (margin_system l (margin_arcs l p path)) k).to ≡ (arc (system_below l path) k).to) =
    λ k below.
    let below' : k < length u = omega (arith, below, ap (λ (xs : List Arc). length xs) names, length-map u (arc_of l path)) in
    let long : length U ≡ length u = length-map u f in
    let here : k < length (margin_arcs l p path) = omega (arith, below', long, length-append U R) in
    let old : arc (system_below l path) k ≡ arc_of l path (get_or u k (Entry 0)) =
    ap (λ (xs : List Arc). get_or xs k no_arc) names ∙ get_or-map (arc_of l path) u k (Entry 0) no_arc below' in
    let at : arc_at (margin_arcs l p path) k ≡ f (get_or u k (Entry 0)) =
    get_or_append_left U R no_arc k (omega (arith, below', long)) ∙ get_or-map f u k (Entry 0) no_arc below' in
    let new : arc (margin_system l (margin_arcs l p path)) k ≡ from_one (f (get_or u k (Entry 0))) =
    get_or-map from_one (margin_arcs l p path) k no_arc no_arc here ∙ ap from_one at in (
      omega (arith, here, length-map (margin_arcs l p path) from_one),
      ap (λ (a : Arc). a.from) new ∙ sym (ap (λ (a : Arc). a.from) old),
      ap (λ (a : Arc). a.to) new ∙ sym (ap (λ (a : Arc). a.to) old),
    ) in
    subst (λ (xs : List Arc). IsReached (margin_system l xs) i) (sym is)
    (r.0, leads_on (system_below l path) (margin_system l (margin_arcs l p path)) 0 r.0 i same r.1)

-- ---- the plan of the starts

-- what a timetable of the line has by its lists
pub tank_is : (l : LineData) (d : TimetableData) (c k : ℕ) → IsLine l → d.steps ≡ last_stage l
    → (timetable_of d).tank c k ≡ route_tank l d.tank c k
tank_is l d c k line steps =
    let e : d.steps + 1 ≡ length l.stages = omega (arith, steps, line.limits.stages.0) in
    ap (λ (n : ℕ). get_or d.tank (c * n + k) 0) e

pub hoist_is : (l : LineData) (d : TimetableData) (c k : ℕ) → d.steps ≡ last_stage l
    → (timetable_of d).hoist c k ≡ get_or d.hoist (move_number l c k) 0
hoist_is l d c k steps = ap (λ (n : ℕ). get_or d.hoist (c * n + k) 0) steps

-- the ticks with the tanks and the hoists of the timetable
pub record IsSolved (l : LineData) (d : TimetableData) (path : List Decision) (ticks : ℕ) (s : Solved) : Type 0 where
  pub period : s.period ≡ d.period
  pub tanks : s.tanks ≡ d.tank
  pub hoists : s.hoists ≡ d.hoist
  pub starts : IsLeastSolution (margin_system l (margin_arcs l (timetable_of d) path)) (ticks + 1) s.ticks

pub plannable : (l : LineData) (d : TimetableData) (path : List Decision) (ticks : ℕ) (s : Solved) → IsLine l
    → FitsLine l d → (1 ≤ d.period) × (d.period ≤ 20000)
    → IsLegal l (timetable_of d) → IsChosen l (timetable_of d) path → IsSolved l d path ticks s → IsPlannable l s
plannable l d path ticks s line fits period legal chosen x =
    let p = timetable_of d in
    let all = kept_allows l (margin_arcs l p path) (tick_at s.ticks) ticks x.starts.solves in
    record {
      ticks = x.starts.count;
      hoists = ap (λ (xs : List ℕ). length xs) x.hoists ∙ fits.hoist_count;
      route = subst (λ (xs : List ℕ). IsRoute l xs) (sym x.tanks) fits.route;
      period = (omega (arith, x.period, period.0), omega (arith, x.period, period.1));
      origin = x.starts.at_start;
      path = path;
      fits = chosen.fits;
      settles = record {
        tank = λ c k visit. chosen.tanks c k visit ∙ ap (λ (i : ℕ). Some i)
            (tank_is l d c k line fits.steps ∙ ap (λ (xs : List ℕ). route_tank l xs c k) (sym x.tanks));
        hoist = λ c k move. chosen.hoists c k move ∙ ap (λ (h : ℕ). Some h)
            (hoist_is l d c k fits.steps ∙ ap (λ (xs : List ℕ). get_or xs (move_number l c k) 0) (sym x.hoists));
      };
      constraints = λ t u is. subst (λ (n : ℕ). Keeps (tick_at s.ticks) n (arc_of l path t)) (sym x.period)
          (undecided_met l path p (tick_at s.ticks) ticks t line chosen all is);
      orders = λ q order stands. subst (λ (n : ℕ). Fails l path (tick_at s.ticks) n q → ⊥) (sym x.period)
          (none_fails l path p (tick_at s.ticks) ticks q line legal chosen all order stands);
    }

plan_same : (l : LineData) (d d' : TimetableData) (s : Solved) → IsLine l → FitsLine l d → FitsLine l d'
    → s.period ≡ d.period → s.tanks ≡ d.tank → s.hoists ≡ d.hoist
    → IsPlan l s d' → SameMoves l (timetable_of d) (timetable_of d')
plan_same l d d' s line fits fits' period tanks hoists plan = record {
  period = plan.period ∙ period;
  hoists = λ c k move.
      hoist_is l d' c k fits'.steps ∙ ap (λ (xs : List ℕ). get_or xs (move_number l c k) 0) (plan.hoists ∙ hoists) ∙ sym (hoist_is l d c k fits.steps);
  tanks = λ c k visit.
      tank_is l d' c k line fits'.steps ∙ ap (λ (xs : List ℕ). route_tank l xs c k) (plan.tanks ∙ tanks) ∙ sym (tank_is l d c k line fits.steps);
}

-- the sibling that has the margin
abbrev pub HasSibling : LineData → Timetable → ℕ → List ℤ → Type 0
HasSibling l p ticks starts = (s : Timetable) × IsSibling l p s × HasMargin l s ticks × StartsBy l s (tick_at starts)

pub planned_sibling : (l : LineData) (d d' : TimetableData) (path : List Decision) (ticks : ℕ) (s : Solved) → IsLine l
    → FitsLine l d → FitsLine l d'
    → IsLegal l (timetable_of d) → IsLegal l (timetable_of d') → IsChosen l (timetable_of d) path
    → IsSolved l d path ticks s → IsPlan l s d'
    → HasSibling l (timetable_of d) ticks s.ticks
planned_sibling l d d' path ticks s line fits fits' legal legal' chosen x plan =
    let p = timetable_of d in
    let p' = timetable_of d' in
    let t = tick_at s.ticks in
    let all = kept_allows l (margin_arcs l p path) t ticks x.starts.solves in
    let same = plan_same l d d' s line fits fits' x.period x.tanks x.hoists plan in (
      p',
      is_sibling l path p p' t ticks line legal legal' chosen same plan.start all,
      has_margin l path p p' t ticks line chosen same plan.start all,
      plan.start,
    )

-- no sibling has more
pub none_has_more : (l : LineData) (path : List Decision) (p : Timetable) (ticks : ℕ) → IsLine l → IsLegal l p
    → IsChosen l p path
    → IsGreatest l p.period (margin_arcs l p path) ticks → (s : Timetable) (more : ℕ) → IsSibling l p s
    → HasMargin l s more → more ≤ ticks
none_has_more l path p ticks line legal chosen greatest s more sib margin =
    greatest.none_more more
    (ticks_of l s, allows_kept l (margin_arcs l p path) (ticks_of l s) more (sibling_keeps l path p s more line legal.period legal chosen sib margin))

-- ---- the walk

-- the constraints of a walk are there
pub walk_there : (s : SystemData) (i : ℕ) (ks : List ℕ) (j : ℕ) → Walks s i ks j → (n : ℕ) → n < length ks
    → get_or ks n 0 < length s.arcs
walk_there s i [] j h n lt = absurd (omega (arith, lt))
walk_there s i (k ∷ ks) j h zero lt = h.0
walk_there s i (k ∷ ks) j h (suc n) lt = walk_there s (arc s k).to ks j h.2 n (omega (arith, lt))

arc_is : (l : LineData) (arcs : List Arc) (k : ℕ) → k < length (map from_one arcs)
    → arc (margin_system l arcs) k ≡ from_one (arc_at arcs k)
arc_is l arcs k lt = get_or-map from_one arcs k no_arc no_arc (omega (arith, lt, length-map arcs from_one))

walk_joined : (l : LineData) (arcs : List Arc) (i : ℕ) (ks : List ℕ) (j : ℕ) → Walks (margin_system l arcs) i ks j
    → Joined (move_at l i) (named_walk l arcs ks) (move_at l j)
walk_joined l arcs i [] j h = ap (λ (n : ℕ). move_at l n) h
walk_joined l arcs i (k ∷ ks) j (lt, from, rest) =
    let e = arc_is l arcs k lt in (
      ap (λ (n : ℕ). move_at l n) (sym (ap (λ (a : Arc). a.from) e) ∙ from),
      subst (λ (n : ℕ). Joined (move_at l n) (named_walk l arcs ks) (move_at l j)) (ap (λ (a : Arc). a.to) e)
          (walk_joined l arcs (arc (margin_system l arcs) k).to ks j rest),
    )

pub walk_closed : (l : LineData) (arcs : List Arc) (w : WalkData) (walk : List MarginArc)
    → IsClosedWalk (margin_system l arcs) w → walk ≡ named_walk l arcs w.arcs
    → IsClosedChain walk
walk_closed l arcs w walk h is =
    subst (λ (xs : List MarginArc). IsClosedChain xs) (sym is)
    (omega (arith, h.some, length-map w.arcs (λ (k : ℕ). named_arc l (arc_at arcs k))), (move_at l h.node, walk_joined l arcs h.node w.arcs h.node h.leads))

-- what it asks
walk_sums : (l : LineData) (arcs : List Arc) (h i : ℕ) (ks : List ℕ) (j : ℕ) → AreMarginArcs l arcs
    → Walks (margin_system l arcs) i ks j
    → asked_at h (named_walk l arcs ks) ≡ sum_w (margin_system l arcs) ks +ℤ sum_q (margin_system l arcs) ks *ℤ pos (h + 1)
walk_sums l arcs h i [] j fits walk = omega (arith, ints)
walk_sums l arcs h i (k ∷ ks) j fits (lt, from, rest) =
    let s = margin_system l arcs in
    let a = arc_at arcs k in
    let e = arc_is l arcs k lt in
    let q = (fits.each k (omega (arith, lt, length-map arcs from_one))).q in
    let share : pos (unsigned_abs a.q) ≡ a.q = omega (arith, ints, q) in
    let times : pos (unsigned_abs a.q) *ℤ pos h ≡ a.q *ℤ pos h = ap (λ (z : ℤ). z *ℤ pos h) share in
    let w : (arc s k).w +ℤ (arc s k).q *ℤ pos (h + 1) ≡ a.w +ℤ a.q *ℤ pos h = ap (λ (b : Arc). weight b (h + 1)) e ∙ from_one_weight a h in
    there (asked_at h (named_walk l arcs ks)) (sum_w s ks) (sum_q s ks *ℤ pos (h + 1)) ((arc s k).w) ((arc s k).q *ℤ pos (h + 1))
    ((sum_q s ks +ℤ (arc s k).q) *ℤ pos (h + 1)) a.w (a.q *ℤ pos h) (pos (unsigned_abs a.q) *ℤ pos h)
    (walk_sums l arcs h (arc s k).to ks j fits rest) (times_add (sum_q s ks) (arc s k).q (h + 1)) w times
  where
    there : (asked sw sq w q all w' q' q'' : ℤ) → asked ≡ sw +ℤ sq → all ≡ sq +ℤ q → w +ℤ q ≡ w' +ℤ q' → q'' ≡ q'
        → asked +ℤ (w' +ℤ q'') ≡ (sw +ℤ w) +ℤ all
    there asked sw sq w q all w' q' q'' e f g h = omega (arith, ints, e, f, g, h)

pub walk_gains : (l : LineData) (arcs : List Arc) (ticks : ℕ) (w : WalkData) (walk : List MarginArc)
    → AreMarginArcs l arcs → IsClosedWalk (margin_system l arcs) w
    → Refutes w.w w.q (ticks + 1 + 1) → walk ≡ named_walk l arcs w.arcs → pos 0 <ℤ asked_at (ticks + 1) walk
walk_gains l arcs ticks w walk fits h refutes is =
    let s = margin_system l arcs in
    let n : ℕ = ticks + 1 + 1 in
    let sums = walk_sums l arcs (ticks + 1) h.node w.arcs h.node fits h.leads in
    let asked : asked_at (ticks + 1) walk ≡ asked_at (ticks + 1) (named_walk l arcs w.arcs) = ap (λ (xs : List MarginArc). asked_at (ticks + 1) xs) is in
    let times : w.q *ℤ pos n ≡ sum_q s w.arcs *ℤ pos n = ap (λ (z : ℤ). z *ℤ pos n) h.q in
    there (asked_at (ticks + 1) walk) (asked_at (ticks + 1) (named_walk l arcs w.arcs)) w.w (sum_w s w.arcs)
    (w.q *ℤ pos n) (sum_q s w.arcs *ℤ pos n) asked sums h.w times refutes
  where
    there : (x y w w' q q' : ℤ) → x ≡ y → y ≡ w' +ℤ q' → w ≡ w' → q ≡ q' → pos 0 <ℤ (w +ℤ q) → pos 0 <ℤ x
    there x y w w' q q' e f g h gains = omega (arith, ints, e, f, g, h, gains)

-- ---- what is found

-- the parts of the solved path
pub record AreParts (l : LineData) (d : TimetableData) (limit : Limit) (s : Solved) : Type 0 where
  pub period : s.period ≡ d.period
  pub tanks : s.tanks ≡ d.tank
  pub hoists : s.hoists ≡ d.hoist
  pub ticks : s.ticks ≡ limit.starts.items

pub limit_on : (l : LineData) (path : List Decision) (p : Timetable) (n : ℕ) (arcs : List Arc) (limit : Limit)
    → n ≡ p.period → arcs ≡ margin_arcs l p path
    → IsLimit l n arcs limit → IsLimit l p.period (margin_arcs l p path) limit
limit_on l path p n arcs limit e is h =
    subst (λ (xs : List Arc). IsLimit l p.period xs limit) is (subst (λ (m : ℕ). IsLimit l m arcs limit) e h)

pub solved_by : (l : LineData) (d : TimetableData) (path : List Decision) (limit : Limit) (s : Solved)
    → IsLimit l d.period (margin_arcs l (timetable_of d) path) limit → AreParts l d limit s
    → IsSolved l d path limit.ticks s
solved_by l d path limit s h parts = record {
  period = parts.period;
  tanks = parts.tanks;
  hoists = parts.hoists;
  starts = subst (λ (xs : List ℤ). IsLeastSolution (margin_system l (margin_arcs l (timetable_of d) path)) (limit.ticks + 1) xs) (sym parts.ticks) h.starts;
}

pub is_found : (l : LineData) (d d' : TimetableData) (path : List Decision) (limit : Limit) (s : Solved) (walk : List MarginArc)
    → IsLine l → FitsLine l d
    → (1 ≤ d.period) × (d.period ≤ 20000) → FitsLine l d' → IsLegal l (timetable_of d) → IsLegal l (timetable_of d')
    → IsChosen l (timetable_of d) path
    → IsLimit l d.period (margin_arcs l (timetable_of d) path) limit → AreParts l d limit s → IsPlan l s d'
    → walk ≡ named_walk l (margin_arcs l (timetable_of d) path) limit.walk.arcs
    → IsFound l (timetable_of d) limit.ticks s.ticks walk
is_found l d d' path limit s walk line fits period fits' legal legal' chosen h parts plan names =
    let p = timetable_of d in
    let arcs = margin_arcs l p path in
    let x = solved_by l d path limit s h parts in
    let sib = planned_sibling l d d' path limit.ticks s line fits fits' legal legal' chosen x plan in
    let are = are_margin_arcs l path p arcs line legal chosen period.1 refl in
    let next : limit.ticks + 2 ≡ limit.ticks + 1 + 1 = omega arith in
    record {
      margin = record {
        some = (sib.0, sib.1, sib.2);
        none_more = none_has_more l path p limit.ticks line legal chosen h.greatest;
      };
      sibling = sib;
      path = path;
      chosen = chosen;
      least = x.starts;
      canonical = record {
        canonical = limit.walk;
        is = subst (λ (n : ℕ). closed_walk_of (margin_system l arcs) n ≡ Some limit.walk) next h.walk;
        names = names;
      };
      closed = walk_closed l arcs limit.walk walk h.closed names;
      gains = walk_gains l arcs limit.ticks limit.walk walk are h.closed (subst (λ (n : ℕ). Refutes limit.walk.w limit.walk.q n) next h.refutes) names;
    }

-- the hoists as they are read
pub hoists_are : (l : LineData) (d : TimetableData) (n : ℕ) (xs ys : List ℕ) → FitsLine l d → n ≡ move_count l
    → length xs ≡ n
    → ((j : ℕ) → j < n → get_or xs j 0 ≡ get_or d.hoist j 0) → ys ≡ xs → ys ≡ d.hoist
hoists_are l d n xs ys fits all count each is =
    is ∙ ext_get_or 0 xs d.hoist (count ∙ all ∙ sym fits.hoist_count) (λ j lt. each j (omega (arith, lt, count)))
