-- A path of decisions on the tanks of visits, and then on the hoists of moves, as it grows.
use Rattle.std.proofs.Common.{⊎_elim, ◌≡◌, ℕ, ◌+◌, ◌*◌, ◌/◌, ◌%◌, ◌<◌, ◌≤◌, List, [], ◌∷◌, ◌++◌, length, get_or, refl, sym, ◌∙◌, ap, subst, arith, Some, None, Bool, true, false, cond, eq-eqb, ◌&&◌}
use Rattle.std.specs.Prelude.{Option, Contains, IsSome, slice_get, ◌==◌, option_map}
use Rattle.std.specs.Option.{option_or}
use Rattle.std.proofs.lemmas.Bool.{cases_lt, cases_eq, ne_eqb}
use Rattle.std.proofs.lemmas.Nat.{div-add-mod', div-mul-add, mod-mul-add, mul-le}
use Rattle.std.proofs.lemmas.List.{length-append}
use Rattle.std.proofs.lemmas.List.Elements.{All-push, All-nil, All-head, All-tail}
use Rattle.std.proofs.Math.Seq.{take-append_seam}
use Rattle.hoist_base.specs.LineData.{LineData, stage, last_stage, visit_at, move_at, visit_count, visit_number, IsMove, IsVisit}
use Rattle.hoist_base.specs.declared.ids.MoveId.{MoveId}
use Rattle.hoist_base.specs.declared.ids.VisitId.{VisitId}
use Rattle.hoist_base.specs.Valid.{IsLine}
use Rattle.line_model.specs.declared.motion.Motion.{Motion}
use Rattle.line_model.specs.Timetable.{Timetable, motion}
use Rattle.line_model.specs.Legal.{IsLegal}
use Rattle.choice_tree.specs.declared.question.Question.{Question}
use Rattle.choice_tree.specs.declared.question.Question.TheVariants.{Assign, TankOrder, HoistOrder, Choose}
use Rattle.choice_tree.specs.declared.question.Decision.{Decision}
use Rattle.path_constraints.specs.Tanks.{choice_by, choice_of, tanks_by, one_of, tank_below, motion_below, decision_at}
use Rattle.path_constraints.specs.Hoists.{assigned_by, assigned_of, hoists_reaching, hoist_by, hoists_by, hoists_below}
use Rattle.path_constraints.specs.declared.rides.Ride.{Ride}
use Rattle.path_constraints.specs.Constraints.{IsOrder, decided_by, decided_list}
use Rattle.path_constraints.specs.Questions.{FitsPath, FitsDecision}
use Rattle.path_constraints.specs.Meets.{Meets, MeetsPath}
use Rattle.path_constraints.proofs.Choices.{choice-append, assigned-append, assigned}
use Rattle.path_constraints.proofs.Settled.{tank_stays, motion_is, ride_is, SettledRide}
use Rattle.path_constraints.proofs.CoverTankLemmas.{tank_settled, visit_before, visit_after}
use Rattle.path_constraints.proofs.TankLemmas.{one_by}
use Rattle.path_constraints.proofs.CoverRideLemmas.{hoist_open, ride_settled}
use Rattle.path_constraints.proofs.CoverTreeLemmas.{fits_more, meets_more}
use Rattle.window_margin.specs.Chosen.{DecidesNoOrder, IsChosen, ChoosesBelow, AssignsBelow}

-- ---- what stands first

or_first : (a b : Option ℕ) → option_or a b ≡ None → a ≡ None
or_first None b e = refl
or_first (Some x) b e = cc

or_none : (a b : Option ℕ) → a ≡ None → b ≡ None → option_or a b ≡ None
or_none None b e f = f
or_none (Some x) b e f = cc

or_some : (a b : Option ℕ) (n : ℕ) → a ≡ None → b ≡ Some n → option_or a b ≡ Some n
or_some None b n e f = f
or_some (Some x) b n e f = cc

abbrev pub choose : VisitId → ℕ → Decision
choose v child = record { question = Choose v; child = child }

abbrev pub assign : MoveId → ℕ → Decision
assign m child = record { question = Assign m; child = child }

choice_made : (v : VisitId) (child : ℕ) → choice_by v.carrier v.stage (Choose v) child ≡ Some child
choice_made v child =
    ap (λ (b : Bool). cond (b && (v.stage == v.stage)) (Some child) None) (eq-eqb v.carrier v.carrier refl)
    ∙ ap (λ (b : Bool). cond b (Some child) None) (eq-eqb v.stage v.stage refl)

assign_made : (m : MoveId) (child : ℕ) → assigned_by m.carrier m.step (Assign m) child ≡ Some child
assign_made m child =
    ap (λ (b : Bool). cond (b && (m.step == m.step)) (Some child) None) (eq-eqb m.carrier m.carrier refl)
    ∙ ap (λ (b : Bool). cond b (Some child) None) (eq-eqb m.step m.step refl)

and_no : (a b : Bool) → (a ≡ true → b ≡ true → ⊥) → (a && b) ≡ false
and_no true true h = absurd (h refl refl)
and_no true false h = refl
and_no false b h = refl

eqb_eq : (a b : ℕ) → (a == b) ≡ true → a ≡ b
eqb_eq a b e = ⊎_elim (λ same. same) (λ ne. let f = ne_eqb a b ne in cc) (cases_eq a b)

other_choice : (v : VisitId) (child c k : ℕ) → ((v.carrier ≡ c) × (v.stage ≡ k) → ⊥)
    → choice_by c k (Choose v) child ≡ None
other_choice v child c k other =
    ap (λ (b : Bool). cond b (Some child) None)
    (and_no (v.carrier == c) (v.stage == k) (λ e f. other (eqb_eq v.carrier c e, eqb_eq v.stage k f)))

other_assign : (m : MoveId) (child c k : ℕ) → ((m.carrier ≡ c) × (m.step ≡ k) → ⊥)
    → assigned_by c k (Assign m) child ≡ None
other_assign m child c k other =
    ap (λ (b : Bool). cond b (Some child) None)
    (and_no (m.carrier == c) (m.step == k) (λ e f. other (eqb_eq m.carrier c e, eqb_eq m.step k f)))

-- two numbers with one row and one place are one
same_number : (n i j : ℕ) → i / n ≡ j / n → i % n ≡ j % n → i ≡ j
same_number n i j e f =
    let rows : i / n * n ≡ j / n * n = ap (λ (x : ℕ). x * n) e in
    omega (arith, div-add-mod' i n, div-add-mod' j n, rows, f)

-- a tank that is below a path stays below a longer one
tank_on : (l : LineData) (path : List Decision) (d : Decision) (c k t : ℕ) → FitsPath l (path ++ d ∷ [])
    → tank_below l path c k ≡ Some t
    → tank_below l (path ++ d ∷ []) c k ≡ Some t
tank_on l path d c k t fits e =
    let P : List Decision → Type 0 = λ ds. tank_below l ds c k ≡ Some t in
    tank_stays l (path ++ d ∷ []) (length path) c k t fits (subst P (sym (take-append_seam path (d ∷ []))) e)

-- ---- tanks

pub none_chosen : (l : LineData) (p : Timetable) → ChoosesBelow l p [] 0
none_chosen l p = record {
  fits = λ i lt. absurd (omega (arith, lt));
  meets = λ i lt. absurd (omega (arith, lt));
  short = omega arith;
  made = λ j lt. absurd (omega (arith, lt));
  open_yet = λ j le. refl;
  unassigned = λ c k. refl;
  free = All-nil (λ (d : Decision). IsOrder d.question → ⊥);
}

-- a stage with one tank needs no decision
pub one_tank : (l : LineData) (p : Timetable) (path : List Decision) (n : ℕ) → ChoosesBelow l p path n
    → length (stage l (visit_at l n).stage).tanks < 2
    → ChoosesBelow l p path (n + 1)
one_tank l p path n h few = record {
  fits = h.fits;
  meets = h.meets;
  short = omega (arith, h.short);
  made = λ j lt none.
      ⊎_elim (λ below. h.made j below none)
      (λ here. let P : ℕ → Type 0 = λ x. length (stage l (visit_at l x).stage).tanks < 2 in subst P (omega (arith, lt, here)) few)
      (cases_lt j n);
  open_yet = λ j le. h.open_yet j (omega (arith, le));
  unassigned = h.unassigned;
  free = h.free;
}

pub tank_chosen : (l : LineData) (p : Timetable) (path : List Decision) (n child : ℕ) (v : VisitId)
    → ChoosesBelow l p path n → v ≡ visit_at l n
    → IsVisit l v.carrier v.stage → 2 ≤ length (stage l v.stage).tanks → child < length (stage l v.stage).tanks
    → slice_get (stage l v.stage).tanks child ≡ Some (p.tank v.carrier v.stage)
    → ChoosesBelow l p (path ++ choose v child ∷ []) (n + 1)
tank_chosen l p path n child v h is visit several there get =
    let d : Decision = choose v child in
    let P : VisitId → Type 0 = λ x. choice_of path x.carrier x.stage ≡ None in
    let free : choice_of path v.carrier v.stage ≡ None = subst P (sym is) (h.open_yet n (omega arith)) in
    let fits : FitsDecision l path d = record {
      question = record { stands = record { visit = visit; several = several; open_yet = free }; small = omega arith };
      child = there;
    } in
    record {
      fits = fits_more l path d h.fits fits;
      meets = meets_more l p path d h.meets get;
      short = omega (arith, h.short, length-append path (d ∷ []));
      made = λ j lt none.
          let c = (visit_at l j).carrier in
          let k = (visit_at l j).stage in
          let split = choice-append path (d ∷ []) c k in
          ⊎_elim (λ below. h.made j below (or_first (choice_of path c k) (choice_of (d ∷ []) c k) (sym split ∙ none)))
          (λ here.
          let same : v ≡ visit_at l j = is ∙ ap (λ (x : ℕ). visit_at l x) (omega (arith, lt, here)) in
          let Q : VisitId → Type 0 = λ x. choice_of (path ++ d ∷ []) x.carrier x.stage ≡ Some child in
          let made : choice_of (path ++ d ∷ []) v.carrier v.stage ≡ Some child =
          choice-append path (d ∷ []) v.carrier v.stage
          ∙ or_some (choice_of path v.carrier v.stage) (choice_of (d ∷ []) v.carrier v.stage) child free
          (or_left (choice_by v.carrier v.stage (Choose v) child) child (choice_made v child)) in
          let at = subst Q same made in
          absurd (not_none (choice_of (path ++ d ∷ []) c k) child none at))
          (cases_lt j n);
      open_yet = λ j le.
          let c = (visit_at l j).carrier in
          let k = (visit_at l j).stage in
          choice-append path (d ∷ []) c k
          ∙ or_none (choice_of path c k) (choice_of (d ∷ []) c k) (h.open_yet j (omega (arith, le)))
          (or_none (choice_by c k (Choose v) child) None
          (other_choice v child c k
          (λ (e, f). let ec : (visit_at l n).carrier ≡ c = ap (λ (x : VisitId). x.carrier) (sym is) ∙ e in
          let ef : (visit_at l n).stage ≡ k = ap (λ (x : VisitId). x.stage) (sym is) ∙ f in
          let s : n ≡ j = same_number (length l.stages) n j ec ef in omega (arith, le, s))) refl);
      unassigned = λ c k. assigned-append path (d ∷ []) c k ∙ or_none (assigned_of path c k) (assigned_of (d ∷ []) c k) (h.unassigned c k) refl;
      free = All-push (λ (x : Decision). IsOrder x.question → ⊥) path d h.free (λ o. o);
    }
  where
    or_left : (a : Option ℕ) (n : ℕ) → a ≡ Some n → option_or a None ≡ Some n
    or_left None n e = cc
    or_left (Some x) n e = e

    not_none : (o : Option ℕ) (n : ℕ) → o ≡ None → o ≡ Some n → ⊥
    not_none None n e f = cc
    not_none (Some x) n e f = cc

-- the number of a visit, in its row
in_rows : (c k n d : ℕ) → c < d → k < n → c * n + k < d * n
in_rows c k n d lt lt' =
    let le : (c + 1) * n ≤ d * n = mul-le (c + 1) n d n (omega (arith, lt)) (omega arith) in
    omega (arith, le, lt')

pub all_chosen : (l : LineData) (p : Timetable) (path : List Decision) (n : ℕ) → IsLine l → IsLegal l p
    → ChoosesBelow l p path n → n ≡ visit_count l
    → AssignsBelow l p path 0
all_chosen l p path n line legal h all = record {
  fits = h.fits;
  meets = h.meets;
  short = omega (arith, h.short, all);
  tanks = λ c k visit.
      let i : ℕ = visit_number l c k in
      let at : (c * length l.stages + k) / length l.stages ≡ c = div-mul-add c (length l.stages) k visit.1 in
      let at' : (c * length l.stages + k) % length l.stages ≡ k = mod-mul-add c (length l.stages) k visit.1 in
      let below : i < n = omega (arith, all, in_rows c k (length l.stages) l.degree visit.0 visit.1) in
      let P : ℕ → Type 0 = λ x. choice_of path x (i % length l.stages) ≡ None → length (stage l (i % length l.stages)).tanks < 2 in
      let Q : ℕ → Type 0 = λ x. choice_of path c x ≡ None → length (stage l x).tanks < 2 in
      let few = subst Q at' (subst P at (h.made i below)) in
      let one = one_by (stage l k).tanks (choice_of path c k) (line.stages.count k visit.1).0 few in
      one ∙ ap (λ (t : ℕ). Some t) (tank_settled l path p c k _ legal h.meets visit one);
  made = λ j lt. absurd (omega (arith, lt));
  open_yet = λ j le. h.unassigned (move_at l j).carrier (move_at l j).step;
  free = h.free;
}

-- ---- hoists

pub one_hoist : (l : LineData) (p : Timetable) (path : List Decision) (n : ℕ) → AssignsBelow l p path n
    → length (hoists_reaching l (motion l p (move_at l n).carrier (move_at l n).step)) < 2
    → AssignsBelow l p path (n + 1)
one_hoist l p path n h few = record {
  fits = h.fits;
  meets = h.meets;
  short = omega (arith, h.short);
  tanks = h.tanks;
  made = λ j lt none.
      ⊎_elim (λ below. h.made j below none)
      (λ here. let P : ℕ → Type 0 = λ x. length (hoists_reaching l (motion l p (move_at l x).carrier (move_at l x).step)) < 2 in
      subst P (omega (arith, lt, here)) few)
      (cases_lt j n);
  open_yet = λ j le. h.open_yet j (omega (arith, le));
  free = h.free;
}

-- the motion of a move whose tanks are chosen
pub motion_chosen : (l : LineData) (p : Timetable) (path : List Decision) (c k : ℕ)
    → ((c k : ℕ) → IsVisit l c k → tank_below l path c k ≡ Some (p.tank c k))
    → IsMove l c k → motion_below l path c k ≡ Some (motion l p c k)
motion_chosen l p path c k tanks move =
    motion_is l path c k (p.tank c k) (p.tank c (k + 1)) (tanks c k (visit_before l c k move)) (tanks c (k + 1) (visit_after l c k move))

pub hoist_assigned : (l : LineData) (p : Timetable) (path : List Decision) (n child : ℕ) (m : MoveId)
    → AssignsBelow l p path n → m ≡ move_at l n
    → IsMove l m.carrier m.step → 2 ≤ length (hoists_reaching l (motion l p m.carrier m.step))
    → child < length (hoists_reaching l (motion l p m.carrier m.step))
    → slice_get (hoists_reaching l (motion l p m.carrier m.step)) child ≡ Some (p.hoist m.carrier m.step)
    → AssignsBelow l p (path ++ assign m child ∷ []) (n + 1)
hoist_assigned l p path n child m h is move several there get =
    let d : Decision = assign m child in
    let P : MoveId → Type 0 = λ x. assigned_of path x.carrier x.step ≡ None in
    let free : assigned_of path m.carrier m.step ≡ None = subst P (sym is) (h.open_yet n (omega arith)) in
    let settled = motion_chosen l p path m.carrier m.step h.tanks move in
    let hs : hoists_below l path m.carrier m.step ≡ hoists_reaching l (motion l p m.carrier m.step) = ap (λ (o : Option Motion). hoists_by l o) settled in
    let count : length (hoists_below l path m.carrier m.step) ≡ length (hoists_reaching l (motion l p m.carrier m.step)) = ap (λ (xs : List ℕ). length xs) hs in
    let fits : FitsDecision l path d = record {
      question = record {
        stands = record {
          move = move;
          motion = is_some_of (motion_below l path m.carrier m.step)
              (motion l p m.carrier m.step) settled;
          open_yet = free;
          several = λ one. omega (arith, one, count, several);
        };
        small = omega arith;
      };
      child = omega (arith, there, count);
    } in
    let all = fits_more l path d h.fits fits in
    record {
      fits = all;
      meets = meets_more l p path d h.meets get;
      short = omega (arith, h.short, length-append path (d ∷ []));
      tanks = λ c k visit. tank_on l path d c k (p.tank c k) all (h.tanks c k visit);
      made = λ j lt none.
          let c = (move_at l j).carrier in
          let k = (move_at l j).step in
          let split = assigned-append path (d ∷ []) c k in
          ⊎_elim (λ below. h.made j below (or_first (assigned_of path c k) (assigned_of (d ∷ []) c k) (sym split ∙ none)))
          (λ here.
          let same : m ≡ move_at l j = is ∙ ap (λ (x : ℕ). move_at l x) (omega (arith, lt, here)) in
          let Q : MoveId → Type 0 = λ x. assigned_of (path ++ d ∷ []) x.carrier x.step ≡ Some child in
          let made : assigned_of (path ++ d ∷ []) m.carrier m.step ≡ Some child =
          assigned-append path (d ∷ []) m.carrier m.step
          ∙ or_some (assigned_of path m.carrier m.step) (assigned_of (d ∷ []) m.carrier m.step) child free
          (or_left (assigned_by m.carrier m.step (Assign m) child) child (assign_made m child)) in
          let at = subst Q same made in
          absurd (not_none (assigned_of (path ++ d ∷ []) c k) child none at))
          (cases_lt j n);
      open_yet = λ j le.
          let c = (move_at l j).carrier in
          let k = (move_at l j).step in
          assigned-append path (d ∷ []) c k
          ∙ or_none (assigned_of path c k) (assigned_of (d ∷ []) c k) (h.open_yet j (omega (arith, le)))
          (or_none (assigned_by c k (Assign m) child) None
          (other_assign m child c k
          (λ (e, f). let ec : (move_at l n).carrier ≡ c = ap (λ (x : MoveId). x.carrier) (sym is) ∙ e in
          let ef : (move_at l n).step ≡ k = ap (λ (x : MoveId). x.step) (sym is) ∙ f in
          let s : n ≡ j = same_number (last_stage l) n j ec ef in omega (arith, le, s))) refl);
      free = All-push (λ (x : Decision). IsOrder x.question → ⊥) path d h.free (λ o. o);
    }
  where
    or_left : (a : Option ℕ) (n : ℕ) → a ≡ Some n → option_or a None ≡ Some n
    or_left None n e = cc
    or_left (Some x) n e = e

    not_none : (o : Option ℕ) (n : ℕ) → o ≡ None → o ≡ Some n → ⊥
    not_none None n e f = cc
    not_none (Some x) n e f = cc

    is_some_of : (o : Option Motion) (x : Motion) → o ≡ Some x → IsSome o
    is_some_of None x e = cc
    is_some_of (Some y) x e = refl

-- the hoist that an Assign on the path gives
assigned_get : (l : LineData) (path : List Decision) (p : Timetable) (c k n : ℕ) → MeetsPath l p path
    → assigned_of path c k ≡ Some n
    → slice_get (hoists_reaching l (motion l p c k)) n ≡ Some (p.hoist c k)
assigned_get l path p c k n meets e =
    let r = assigned path c k n e in
    let Q : Question → Type 0 = λ q. Meets l p q (decision_at path r.place).child in
    let A : ℕ → Type 0 = λ j. slice_get (hoists_reaching l (motion l p r.move.carrier r.move.step)) j ≡ Some (p.hoist r.move.carrier r.move.step) in
    let B : ℕ → Type 0 = λ j. slice_get (hoists_reaching l (motion l p r.move.carrier j)) n ≡ Some (p.hoist r.move.carrier j) in
    let C : ℕ → Type 0 = λ j. slice_get (hoists_reaching l (motion l p j k)) n ≡ Some (p.hoist j k) in
    subst C r.carrier (subst B r.step (subst A r.child (subst Q r.question (meets r.place r.there))))

hoist_one : (hs : List ℕ) (o : Option ℕ) (x : ℕ) → Contains hs x → (o ≡ None → length hs < 2)
    → ((n : ℕ) → o ≡ Some n → slice_get hs n ≡ Some x)
    → (h : ℕ) × (hoist_by hs o ≡ Some h)
hoist_one [] o x c few get = absurd (omega (arith, c.1))
hoist_one (y ∷ []) o x c few get = (y, refl)
hoist_one (y ∷ z ∷ zs) None x c few get = absurd (omega (arith, few refl))
hoist_one (y ∷ z ∷ zs) (Some n) x c few get = (x, get n refl)

pub all_assigned : (l : LineData) (p : Timetable) (path : List Decision) (n : ℕ) → IsLine l → IsLegal l p
    → AssignsBelow l p path n → n ≡ l.degree * last_stage l
    → IsChosen l p path
all_assigned l p path n line legal h all = record {
  fits = h.fits;
  meets = h.meets;
  tanks = h.tanks;
  hoists = λ c k move.
      let s : ℕ = last_stage l in
      let step : k < s = omega (arith, move.1) in
      let i : ℕ = c * s + k in
      let at : (c * s + k) / s ≡ c = div-mul-add c s k step in
      let at' : (c * s + k) % s ≡ k = mod-mul-add c s k step in
      let below : i < n = omega (arith, all, in_rows c k s l.degree move.0 step) in
      let P : ℕ → Type 0 = λ x. assigned_of path x (i % s) ≡ None → length (hoists_reaching l (motion l p x (i % s))) < 2 in
      let Q : ℕ → Type 0 = λ x. assigned_of path c x ≡ None → length (hoists_reaching l (motion l p c x)) < 2 in
      let few = subst Q at' (subst P at (h.made i below)) in
      let m = motion l p c k in
      let one = hoist_one (hoists_reaching l m) (assigned_of path c k) (p.hoist c k) (hoist_open l p c k legal move) few
      (λ x e. assigned_get l path p c k x h.meets e) in
      let r : Ride = record { motion = m; hoist = one.0 } in
      let settled : SettledRide l path c k r = record { motion = motion_chosen l p path c k h.tanks move; hoist = one.1 } in
      let ride = ride_is l path c k r settled in
      let same = ride_settled l path p c k r legal h.meets move ride in
      ap (λ (o : Option Ride). hoist_of o) ride ∙ ap (λ (x : Ride). Some x.hoist) same;
  free = h.free;
}
  where
    hoist_of : Option Ride → Option ℕ
    hoist_of o = option_map (λ (r : Ride). r.hoist) o

-- no constraint is decided
pub none_decided : (i : ℕ) (path : List Decision) → DecidesNoOrder path → decided_list i path ≡ []
none_decided i [] free = refl
none_decided i (d ∷ ds) free = cases d.question (All-head (λ (x : Decision). IsOrder x.question → ⊥) d ds free)
    (none_decided (i + 1) ds (All-tail (λ (x : Decision). IsOrder x.question → ⊥) d ds free))
  where
    cases : (q : Question) → (IsOrder q → ⊥) → decided_list (i + 1) ds ≡ []
        → decided_by q i ++ decided_list (i + 1) ds ≡ []
    cases (Assign m) not e = e
    cases (TankOrder a b q) not e = absurd (not tt)
    cases (HoistOrder a b q) not e = absurd (not tt)
    cases (Choose v) not e = e
