-- What a legal timetable's siblings meet is so many small constraints that systems hold them.
use Rattle.std.proofs.Common.{⊎_elim, ◌≡◌, ℕ, ◌+◌, ◌-◌, ◌<◌, ◌≤◌, List, [], ◌++◌, length, get_or, All, refl, sym, ap, subst, arith, ℤ, pos, negsuc, ◌+ℤ◌, ◌-ℤ◌, ◌*ℤ◌, neg_ℤ, ◌≤ℤ◌, ◌<ℤ◌, Some, None, Bool, cond, eq-eqb}
use Rattle.std.specs.Prelude.{Option, IfSome, unwrap_or, unsigned_abs}
use Rattle.std.proofs.lemmas.Int.{ints}
use Rattle.std.proofs.lemmas.Bool.{cases_eq, ne_eqb}
use Rattle.std.proofs.lemmas.List.Elements.{All-append, All-map, All-get_or, All-from_get_or}
use Rattle.hoist_base.specs.LineData.{LineData, stage, last_stage, last_step, move_number, move_count, IsMove, IsVisit, IsStep}
use Rattle.hoist_base.specs.declared.ids.MoveId.{MoveId}
use Rattle.hoist_base.specs.declared.ids.VisitId.{VisitId}
use Rattle.hoist_base.specs.Valid.{IsLine}
use Rattle.line_model.specs.Timetable.{Timetable}
use Rattle.line_model.specs.Legal.{IsLegal}
use Rattle.longest_path.specs.declared.systems.Arc.{Arc}
use Rattle.collision_pairs.specs.declared.span.Span.{Span}
use Rattle.choice_tree.specs.declared.question.Decision.{Decision}
use Rattle.choice_tree.specs.declared.constraint.Constraint.{Constraint}
use Rattle.choice_tree.specs.declared.constraint.Constraint.TheVariants.{Min, Max, Entry, Visit, Repeat, Decided}
use Rattle.path_constraints.specs.Tanks.{high, back}
use Rattle.path_constraints.specs.declared.holds.Moment.{Moment}
use Rattle.path_constraints.specs.Holds.{begin_of, end_of, node_of}
use Rattle.path_constraints.specs.Constraints.{no_arc, moment_arc, span_arc, arc_of, undecided_list, IsConstraint, Keeps}
use Rattle.path_constraints.specs.Places.{IsUndecided}
use Rattle.path_constraints.specs.Meets.{ticks_of, durations_of}
use Rattle.path_constraints.proofs.NameLemmas.{from_undecided, in_at}
use Rattle.path_constraints.proofs.GrowLemmas.{not_decided}
use Rattle.path_constraints.proofs.SpreadLemmas.{high_small, spread}
use Rattle.path_constraints.proofs.CoverTrackLemmas.{times_back}
use Rattle.path_constraints.proofs.CoverLemmas.{cover}
use Rattle.window_margin.specs.Orders.{UseOneTank, begin_tick, end_tick, start_tick, visit_order, move_order}
use Rattle.window_margin.specs.Margins.{IsSibling, HasMargin}
use Rattle.window_margin.specs.Chosen.{IsChosen}
use Rattle.window_margin.specs.Arcs.{share_of, at_period, ordered_visits, ordered_moves, undecided_arcs, visit_arcs, move_arcs, margin_arcs}
use Rattle.window_margin.specs.Systems.{arc_at, IsMarginArc}
use Rattle.window_margin.proofs.OrderLemmas.{one_fewer, reached}
use Rattle.window_margin.proofs.KeepLemmas.{Collide, two, number_below, visit_arcs_all, move_arcs_all}
use Rattle.window_margin.proofs.SiblingLemmas.{high_own, sibling_keeps}
use Rattle.window_margin.proofs.SolutionLemmas.{begin_move, end_move, own_tight}

-- ---- a timetable is its own sibling

pub own_sibling : (l : LineData) (p : Timetable) → IsLegal l p → IsSibling l p p
own_sibling l p legal = record {
  legal = legal;
  period = refl;
  hoists = λ c k move. refl;
  tanks = λ c k visit. refl;
  visits = λ a b q pair order. order;
  moves = λ a b q pair order. order;
}

no_more : (o : Option ℕ) (a b : ℕ) → IfSome o (λ m. a ≤ b + m) → IfSome o (λ m. a + 0 ≤ b + m)
no_more None a b h = tt
no_more (Some m) a b h = omega (arith, h)

pub own_margin : (l : LineData) (p : Timetable) → IsLegal l p → HasMargin l p 0
own_margin l p legal = record {
  least = λ c k move. omega (arith, legal.windows.least c k move);
  greatest = λ c k move. no_more (stage l (k + 1)).max (p.start c (k + 1)) (p.start c k + durations_of l p c k) (legal.windows.greatest c k move);
}

pub own_keeps : (l : LineData) (path : List Decision) (p : Timetable) → IsLine l → IsLegal l p → IsChosen l p path
    → All (Keeps (ticks_of l p) 0) (margin_arcs l p path)
own_keeps l path p line legal chosen = sibling_keeps l path p p 0 line legal.period legal chosen (own_sibling l p legal) (own_margin l p legal)

-- ---- constraints between moves that don't ask very little

-- a constraint between two moves
pub record Joins (l : LineData) (a : Arc) : Type 0 where
  pub c : ℕ
  pub k : ℕ
  pub c' : ℕ
  pub k' : ℕ
  pub first : IsMove l c k
  pub second : IsMove l c' k'
  pub from : a.from ≡ move_number l c k
  pub to : a.to ≡ move_number l c' k'
  pub low : negsuc 899999 ≤ℤ a.w
  pub q : (pos 0 ≤ℤ a.q) × (a.q ≤ℤ pos 1)

-- the starts of a legal timetable are near
near : (l : LineData) (path : List Decision) (p : Timetable) (c k c' k' : ℕ) → IsLine l → IsLegal l p
    → IsChosen l p path → p.period ≤ 20000 → IsMove l c k
    → IsMove l c' k' → ticks_of l p (move_number l c k) ≤ℤ (ticks_of l p (move_number l c' k') +ℤ pos 702000)
near l path p c k c' k' line legal chosen few move move' =
    let keeps = (cover l path p line chosen.fits legal chosen.meets).constraints in
    omega (arith, ints, spread l path (ticks_of l p) p.period c k c' k' line keeps move move', few)

joined_fits : (l : LineData) (path : List Decision) (p : Timetable) (a : Arc) → IsLine l → IsLegal l p
    → IsChosen l p path → p.period ≤ 20000
    → Keeps (ticks_of l p) 0 a → Joins l a → IsMarginArc l a
joined_fits l path p a line legal chosen few kept j =
    let t = ticks_of l p in
    let there : (c k : ℕ) → IsMove l c k → move_number l c k < move_count l = λ c k m. number_below c k l.degree (last_stage l) m.0 (omega (arith, m.1)) in
    record {
      from = omega (arith, j.from, there j.c j.k j.first);
      to = omega (arith, j.to, there j.c' j.k' j.second);
      w = small (t a.from) (t a.to) (t (move_number l j.c j.k)) (t (move_number l j.c' j.k')) a.w (a.q *ℤ pos 0)
          (ap t j.from) (ap t j.to) (omega (arith, ints)) kept
          (near l path p j.c' j.k' j.c j.k line legal chosen few j.second j.first) j.low;
      q = j.q;
    }
  where
    small : (s s' x y w none : ℤ) → s ≡ x → s' ≡ y → none ≡ pos 0 → (s +ℤ (w +ℤ none)) ≤ℤ s' → y ≤ℤ (x +ℤ pos 702000)
        → negsuc 899999 ≤ℤ w → unsigned_abs w ≤ 9000000
    small s s' x y w none e f n kept le low = omega (arith, ints, e, f, n, kept, le, low)

-- ---- those that stand on every path

max_small : (l : LineData) (k : ℕ) → IsLine l → 1 ≤ k → k ≤ last_step l → unwrap_or (stage l k).max 0 ≤ 20000
max_small l k line some few =
    let at : k - 1 + 1 ≡ k = omega (arith, some) in
    let P : ℕ → Type 0 = λ j. IfSome (stage l j).max (λ m. ((stage l j).min ≤ m) × (m ≤ 20000)) in
    least_or (stage l k).max (stage l k).min (subst P at (line.times.greatest (k - 1) (omega (arith, few, some, line.limits.stages.0))))
  where
    least_or : (o : Option ℕ) (m : ℕ) → IfSome o (λ x. (m ≤ x) × (x ≤ 20000)) → unwrap_or o 0 ≤ 20000
    least_or None m h = omega arith
    least_or (Some x) m h = h.1

undecided_joins : (l : LineData) (path : List Decision) (n : ℕ) (t : Constraint) → IsLine l → n ≤ 20000 → IsUndecided t
    → IsConstraint l path t
    → Joins l (at_period n (share_of t) (arc_of l path t))
undecided_joins l path n (Min c k) line few u is = record {
  c = c;
  k = k - 1;
  c' = c;
  k' = k;
  first = (is.0, omega (arith, is.1, is.2, line.limits.stages.0));
  second = (is.0, omega (arith, is.2, line.limits.stages.0));
  from = refl;
  to = refl;
  low = omega (arith, ints);
  q = (omega (arith, ints), omega (arith, ints));
}
undecided_joins l path n (Max c k) line few u is =
    let step : IsStep l (k - 1) = omega (arith, is.1, is.2, line.limits.stages.0) in
    record {
      c = c;
      k = k;
      c' = c;
      k' = k - 1;
      first = (is.0, omega (arith, is.2, line.limits.stages.0));
      second = (is.0, step);
      from = refl;
      to = refl;
      low = omega (arith, ints, high_small l path c (k - 1) line step, max_small l k line is.1 is.2);
      q = (omega (arith, ints), omega (arith, ints));
    }
undecided_joins l path n (Entry c) line few u is =
    let last : Arc = record { from = move_number l c 0; to = 0; w = pos (l.load + (stage l 0).lift); q = negsuc 0 } in
    let next : Arc = record { from = move_number l c 0; to = move_number l (c + 1) 0; w = pos (l.load + (stage l 0).lift); q = pos 0 } in
    let P : Bool → Type 0 = λ b. Joins l (at_period n (pos 0) (cond b last next)) in
    let move : (d : ℕ) → d < l.degree → IsMove l d 0 = λ d lt. (lt, omega (arith, line.limits.stages.0)) in
    ⊎_elim
    (λ e. subst P (sym (eq-eqb (c + 1) l.degree e)) (record {
      c = c;
      k = 0;
      c' = 0;
      k' = 0;
      first = move c is;
      second = move 0 (omega (arith, line.limits.degree.0));
      from = refl;
      to = omega arith;
      low = omega (arith, ints, few);
      q = (omega (arith, ints), omega (arith, ints));
    }))
    (λ ne. subst P (sym (ne_eqb (c + 1) l.degree ne)) (record {
      c = c;
      k = 0;
      c' = c + 1;
      k' = 0;
      first = move c is;
      second = move (c + 1) (omega (arith, is, ne));
      from = refl;
      to = refl;
      low = omega (arith, ints);
      q = (omega (arith, ints), omega (arith, ints));
    }))
    (cases_eq (c + 1) l.degree)
undecided_joins l path n (Visit c k) line few u is =
    let s = last_step l in
    let last : Arc = record { from = move_number l c s; to = move_number l c s; w = pos ((stage l k).lower + l.unload); q = negsuc 0 } in
    let earlier : Arc = record {
      from = move_number l c k;
      to = move_number l c (k - 1);
      w = pos ((stage l k).lift + (stage l k).lower) -ℤ pos (high l path c (k - 1));
      q = negsuc 0;
    } in
    let P : Bool → Type 0 = λ b. Joins l (at_period n (pos 0) (cond b last earlier)) in
    let end : IsMove l c s = (is.0, omega (arith, line.limits.stages.0)) in
    ⊎_elim
    (λ e. subst P (sym (eq-eqb k (last_stage l) e)) (record {
      c = c;
      k = s;
      c' = c;
      k' = s;
      first = end;
      second = end;
      from = refl;
      to = refl;
      low = omega (arith, ints, few);
      q = (omega (arith, ints), omega (arith, ints));
    }))
    (λ ne.
    let step : IsStep l (k - 1) = omega (arith, is.1, is.2, line.limits.stages.0) in
    subst P (sym (ne_eqb k (last_stage l) ne)) (record {
      c = c;
      k = k;
      c' = c;
      k' = k - 1;
      first = (is.0, omega (arith, is.2, ne, line.limits.stages.0));
      second = (is.0, step);
      from = refl;
      to = refl;
      low = omega (arith, ints, few, high_small l path c (k - 1) line step);
      q = (omega (arith, ints), omega (arith, ints));
    }))
    (cases_eq k (last_stage l))
undecided_joins l path n (Repeat c k) line few u is =
    let move : IsMove l c k = (is.0, omega (arith, is.1, line.limits.stages.0)) in
    record {
      c = c;
      k = k;
      c' = c;
      k' = k;
      first = move;
      second = move;
      from = refl;
      to = refl;
      low = omega (arith, ints, few);
      q = (omega (arith, ints), omega (arith, ints));
    }
undecided_joins l path n (Decided i) line few u is = absurd u

-- ---- those of orders

begin_small : (l : LineData) (d : ℕ → ℕ → ℕ) (v : VisitId) → IsLine l → IsVisit l v.carrier v.stage
    → ((c k : ℕ) → IsMove l c k → d c k ≤ 2000)
    → unsigned_abs (begin_of l d v.carrier v.stage).fixed ≤ 22000
begin_small l d v line visit short =
    let c = v.carrier in
    let k = v.stage in
    let first : Moment = record { carrier = c; step = 0; fixed = neg_ℤ (pos l.load) } in
    let later : Moment = record { carrier = c; step = k - 1; fixed = pos (d c (k - 1)) -ℤ pos (stage l k).lower } in
    let P : Bool → Type 0 = λ b. unsigned_abs (cond b first later).fixed ≤ 22000 in
    ⊎_elim (λ e. subst P (sym (eq-eqb k 0 e)) (omega (arith, ints, line.limits.load)))
    (λ ne.
    let at : k - 1 + 1 ≡ k = omega (arith, ne) in
    let step : IsStep l (k - 1) = omega (arith, ne, visit.1) in
    let lower : (stage l k).lower ≤ 500 = subst (λ (j : ℕ). (stage l j).lower ≤ 500) at (line.times.lower (k - 1) step).1 in
    subst P (sym (ne_eqb k 0 ne)) (omega (arith, ints, short c (k - 1) (visit.0, step), lower)))
    (cases_eq k 0)

end_small : (l : LineData) (d : ℕ → ℕ → ℕ) (v : VisitId) → IsLine l → IsVisit l v.carrier v.stage
    → ((c k : ℕ) → IsMove l c k → d c k ≤ 2000)
    → unsigned_abs (end_of l d v.carrier v.stage).fixed ≤ 22000
end_small l d v line visit short =
    let c = v.carrier in
    let k = v.stage in
    let last : Moment = record { carrier = c; step = last_step l; fixed = pos (d c (last_step l) + l.unload) } in
    let earlier : Moment = record { carrier = c; step = k; fixed = pos (stage l k).lift } in
    let P : Bool → Type 0 = λ b. unsigned_abs (cond b last earlier).fixed ≤ 22000 in
    ⊎_elim
    (λ e. subst P (sym (eq-eqb k (last_stage l) e)) (omega (
      arith,
      ints,
      line.limits.unload,
      short c (last_step l) (visit.0, omega (arith, line.limits.stages.0)),
    )))
    (λ ne. subst P (sym (ne_eqb k (last_stage l) ne)) (omega (arith, ints, (line.times.lift k (omega (arith, ne, visit.1))).1)))
    (cases_eq k (last_stage l))

lasts_short : (l : LineData) (path : List Decision) (p : Timetable) (c k : ℕ) → IsLine l → IsChosen l p path
    → IsMove l c k → durations_of l p c k ≤ 2000
lasts_short l path p c k line chosen move = omega (arith, high_own l path p c k chosen move, high_small l path c k line move.1)

moment_joins : (l : LineData) (x y : Moment) (q : ℤ) (n : ℕ) → IsMove l x.carrier x.step → IsMove l y.carrier y.step
    → negsuc 899999 ≤ℤ ((x.fixed -ℤ y.fixed) +ℤ neg_ℤ q *ℤ pos n) → Joins l (at_period n (pos 0) (moment_arc l x y q))
moment_joins l x y q n move move' low = record {
  c = x.carrier;
  k = x.step;
  c' = y.carrier;
  k' = y.step;
  first = move;
  second = move';
  from = refl;
  to = refl;
  low = low;
  q = (omega (arith, ints), omega (arith, ints));
}

visits_join : (l : LineData) (path : List Decision) (p : Timetable) (a b : VisitId) → IsLine l → IsLegal l p
    → IsChosen l p path → p.period ≤ 20000
    → UseOneTank l p a b → All (Joins l) (ordered_visits l p a b (visit_order l p a b))
visits_join l path p a b line legal chosen few pair =
    let t = ticks_of l p in
    let d = durations_of l p in
    let n = p.period in
    let q = visit_order l p a b in
    let short : (c k : ℕ) → IsMove l c k → d c k ≤ 2000 = λ c k move. lasts_short l path p c k line chosen move in
    let ea = end_of l d a.carrier a.stage in
    let eb = end_of l d b.carrier b.stage in
    let ba = begin_of l d a.carrier a.stage in
    let bb = begin_of l d b.carrier b.stage in
    let mea = end_move l d a line pair.first in
    let meb = end_move l d b line pair.second in
    let mba = begin_move l d a line pair.first in
    let mbb = begin_move l d b line pair.second in
    let r = reached (end_tick l p a -ℤ begin_tick l p b) n legal.period in
    let close = near l path p ea.carrier ea.step bb.carrier bb.step line legal chosen few mea mbb in
    let close' = near l path p bb.carrier bb.step ea.carrier ea.step line legal chosen few mbb mea in
    two (Joins l) (at_period n (pos 0) (moment_arc l ea bb q)) (at_period n (pos 0) (moment_arc l eb ba (neg_ℤ (q -ℤ pos 1))))
    (moment_joins l ea bb q n mea mbb
    (first (t (node_of l ea)) (t (node_of l bb)) ea.fixed bb.fixed (q *ℤ pos n) (neg_ℤ q *ℤ pos n) n (times_back q n) few r.1 close))
    (moment_joins l eb ba (neg_ℤ (q -ℤ pos 1)) n meb mba
    (second (t (node_of l ea)) (t (node_of l bb)) ea.fixed bb.fixed eb.fixed ba.fixed (q *ℤ pos n) ((q -ℤ pos 1) *ℤ pos n) (neg_ℤ (q -ℤ pos 1) *ℤ pos n)
    (neg_ℤ (neg_ℤ (q -ℤ pos 1)) *ℤ pos n) n (one_fewer q n) (times_back (q -ℤ pos 1) n) (times_back (neg_ℤ (q -ℤ pos 1)) n) few r.0 close'
    (end_small l d a line pair.first short) (begin_small l d b line pair.second short)
    (end_small l d b line pair.second short) (begin_small l d a line pair.first short)))
  where
    first : (s s' f f' u back : ℤ) (n : ℕ) → back ≡ neg_ℤ u → n ≤ 20000 → (u -ℤ pos n) <ℤ ((s +ℤ f) -ℤ (s' +ℤ f'))
        → s ≤ℤ (s' +ℤ pos 702000)
        → negsuc 899999 ≤ℤ ((f -ℤ f') +ℤ back)
    first s s' f f' u back n e few lt near = omega (arith, ints, e, few, lt, near)

    second : (s s' f f' g g' u v back ahead : ℤ) (n : ℕ) → v ≡ u -ℤ pos n → back ≡ neg_ℤ v → ahead ≡ neg_ℤ back
        → n ≤ 20000 → ((s +ℤ f) -ℤ (s' +ℤ f')) ≤ℤ u
        → s' ≤ℤ (s +ℤ pos 702000) → unsigned_abs f ≤ 22000 → unsigned_abs f' ≤ 22000 → unsigned_abs g ≤ 22000
        → unsigned_abs g' ≤ 22000
        → negsuc 899999 ≤ℤ ((g -ℤ g') +ℤ ahead)
    second s s' f f' g g' u v back ahead n ev eb ea few le near f1 f2 f3 f4 = omega (arith, ints, ev, eb, ea, few, le, near, f1, f2, f3, f4)

moves_join : (l : LineData) (path : List Decision) (p : Timetable) (a b : MoveId) (span : Span) → IsLine l → IsLegal l p
    → IsChosen l p path → p.period ≤ 20000
    → Collide l p a b span → All (Joins l) (ordered_moves l p a b (move_order l p a b span) (Some span))
moves_join l path p a b span line legal chosen few pair =
    let n = p.period in
    let q = move_order l p a b span in
    let s = start_tick l p a in
    let s' = start_tick l p b in
    let r = reached (span.after -ℤ (s' -ℤ s)) n legal.period in
    let tight = own_tight l p a b span line legal pair in
    let close = near l path p a.carrier a.step b.carrier b.step line legal chosen few pair.first pair.second in
    let close' = near l path p b.carrier b.step a.carrier a.step line legal chosen few pair.second pair.first in
    two (Joins l) (at_period n (pos 0) (span_arc l a b q 0 (Some span))) (at_period n (pos 0) (span_arc l a b (q -ℤ pos 1) 1 (Some span)))
    (record {
      c = a.carrier;
      k = a.step;
      c' = b.carrier;
      k' = b.step;
      first = pair.first;
      second = pair.second;
      from = refl;
      to = refl;
      low = first s s' span.after (q *ℤ pos n) (neg_ℤ q *ℤ pos n) n (times_back q n) few r.1 close;
      q = (omega (arith, ints), omega (arith, ints));
    })
    (record {
      c = b.carrier;
      k = b.step;
      c' = a.carrier;
      k' = a.step;
      first = pair.second;
      second = pair.first;
      from = refl;
      to = refl;
      low = second s s' span.after span.before (q *ℤ pos n) ((q -ℤ pos 1) *ℤ pos n) n (one_fewer q n) few r.0 close' tight.after tight.before;
      q = (omega (arith, ints), omega (arith, ints));
    })
  where
    first : (s s' w u back : ℤ) (n : ℕ) → back ≡ neg_ℤ u → n ≤ 20000 → (u -ℤ pos n) <ℤ (w -ℤ (s' -ℤ s))
        → s ≤ℤ (s' +ℤ pos 702000) → negsuc 899999 ≤ℤ (w +ℤ back)
    first s s' w u back n e few lt near = omega (arith, ints, e, few, lt, near)

    second : (s s' w w' u v : ℤ) (n : ℕ) → v ≡ u -ℤ pos n → n ≤ 20000 → (w -ℤ (s' -ℤ s)) ≤ℤ u → s' ≤ℤ (s +ℤ pos 702000)
        → unsigned_abs w ≤ 3500
        → unsigned_abs w' ≤ 3500 → negsuc 899999 ≤ℤ (w' +ℤ v)
    second s s' w w' u v n e few le near a b = omega (arith, ints, e, few, le, near, a, b)

-- ---- all

all_join : (l : LineData) (path : List Decision) (p : Timetable) → IsLine l → IsLegal l p → IsChosen l p path
    → p.period ≤ 20000
    → All (Joins l) (margin_arcs l p path)
all_join l path p line legal chosen few =
    let J : Arc → Type 0 = Joins l in
    let u = undecided_list l in
    let f : Constraint → Arc = λ x. at_period p.period (share_of x) (arc_of l path x) in
    let first : All J (undecided_arcs l path p.period) =
    All-map J f u
    (All-from_get_or (λ x. J (f x)) u (Entry 0)
    (λ i lt.
    let x = get_or u i (Entry 0) in
    let there = in_at u i (Entry 0) lt in
    undecided_joins l path p.period x line few (not_decided l x (from_undecided l [] x there)) (from_undecided l path x there))) in
    All-append J (undecided_arcs l path p.period) (visit_arcs l p ++ move_arcs l p) first
    (All-append J (visit_arcs l p) (move_arcs l p)
    (visit_arcs_all l p J (omega (arith, line.limits.stages.0)) (λ a b pair. visits_join l path p a b line legal chosen few pair))
    (move_arcs_all l p J (omega (arith, line.limits.stages.0)) (λ a b span pair. moves_join l path p a b span line legal chosen few pair)))

pub each_fits : (l : LineData) (path : List Decision) (p : Timetable) → IsLine l → IsLegal l p → IsChosen l p path
    → p.period ≤ 20000
    → (k : ℕ) → k < length (margin_arcs l p path) → IsMarginArc l (arc_at (margin_arcs l p path) k)
each_fits l path p line legal chosen few k lt =
    let arcs = margin_arcs l p path in
    joined_fits l path p (arc_at arcs k) line legal chosen few
    (All-get_or (Keeps (ticks_of l p) 0) arcs k no_arc lt (own_keeps l path p line legal chosen))
    (All-get_or (Joins l) arcs k no_arc lt (all_join l path p line legal chosen few))
