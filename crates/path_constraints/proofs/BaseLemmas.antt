-- The system of a line before any decision, and how many constraints a path has.
use Rattle.std.proofs.Common.{⊎_elim, inl, inr, ◌⊎◌, ◌≡◌, ℕ, zero, suc, ◌+◌, ◌-◌, ◌<◌, ◌≤◌, List, [], ◌∷◌, length, get_or, map, take, replicate, refl, sym, ◌∙◌, ap, subst, arith, pos}
use Rattle.std.proofs.lemmas.Bool.{cases_lt}
use Rattle.std.proofs.lemmas.Nat.{mul-le}
use Rattle.std.proofs.lemmas.List.{length-append, length-map, append-nil, get_or-map, ext_get_or, length-take}
use Rattle.hoist_base.specs.LineData.{LineData, stage, last_stage, last_step, move_count, IsVisit}
use Rattle.hoist_base.specs.Valid.{IsLine}
use Rattle.longest_path.specs.declared.systems.Arc.{Arc}
use Rattle.longest_path.specs.System.{SystemData, IsSystem}
use Rattle.std.specs.Prelude.{unsigned_abs}
use Rattle.choice_tree.specs.declared.question.Question.{Question}
use Rattle.choice_tree.specs.declared.question.Question.TheVariants.{Assign, TankOrder, HoistOrder, Choose}
use Rattle.choice_tree.specs.declared.question.Decision.{Decision}
use Rattle.choice_tree.specs.declared.constraint.Constraint.{Constraint}
use Rattle.choice_tree.specs.declared.constraint.Constraint.TheVariants.{Min, Max, Entry, Visit, Repeat, Decided}
use Rattle.path_constraints.specs.Questions.{FitsPath}
use Rattle.path_constraints.specs.Constraints.{IsConstraint, arc_of, arcs_of, undecided_list, decided_by, decided_list, constraint_list}
use Rattle.path_constraints.specs.Places.{system_below, maxes, place, undecided_count, IsUndecided, IsOfMove, IsOfCarrier, Rewrites, HasPlaces}
use Rattle.path_constraints.proofs.NameLemmas.{in_at, from_undecided}
use Rattle.path_constraints.proofs.PlaceLemmas.{place_at, length_undecided, few_maxes}
use Rattle.path_constraints.proofs.ArcLemmas.{few_nodes}
use Rattle.path_constraints.proofs.WriteLemmas.{rewrites_then, rewrites_as, is_undecided}

abbrev no_arc : Arc
no_arc = record { from = 0; to = 0; w = pos 0; q = pos 0 }

-- a system is its two parts
pub system_is : (s : SystemData) (n : ℕ) (xs : List Arc) → s.nodes ≡ n → s.arcs ≡ xs → s ≡ record { nodes = n; arcs = xs }
system_is s n xs e f =
    let first : s ≡ record { nodes = n; arcs = s.arcs } = ap (λ (m : ℕ). let r : SystemData = record { nodes = m; arcs = s.arcs } in r) e in
    first ∙ ap (λ (bs : List Arc). let r : SystemData = record { nodes = n; arcs = bs } in r) f

-- a path without decisions fits
pub fits_none : (l : LineData) → FitsPath l []
fits_none l i lt = absurd (omega (arith, lt))

-- ---- counts

pub undecided_small : (l : LineData) → IsLine l → undecided_count l ≤ 700
undecided_small l line =
    let d = line.limits.degree.1 in
    let s = line.limits.stages.1 in
    let a = mul-le l.degree (last_step l) 4 30 d (omega (arith, s)) in
    let b = mul-le l.degree (maxes l) 4 30 d (omega (arith, s, few_maxes l (last_stage l))) in
    let e = mul-le l.degree (last_stage l) 4 31 d (omega (arith, s)) in
    omega (arith, a, b, e, d)

few_decided : (i : ℕ) (ds : List Decision) → length (decided_list i ds) ≤ length ds
few_decided i [] = omega arith
few_decided i (d ∷ ds) = omega (arith, length-append (decided_by d.question i) (decided_list (i + 1) ds), one d.question, few_decided (i + 1) ds)
  where
    one : (q : Question) → length (decided_by q i) ≤ 1
    one (Assign m) = omega arith
    one (TankOrder a b q) = omega arith
    one (HoistOrder a b q) = omega arith
    one (Choose v) = omega arith

pub arcs_count : (l : LineData) (path : List Decision)
    → length (arcs_of l path) ≡ undecided_count l + length (decided_list 0 path)
arcs_count l path =
    omega (arith, length-map (constraint_list l path) (arc_of l path), length-append (undecided_list l) (decided_list 0 path), length_undecided l)

pub arcs_few : (l : LineData) (path : List Decision) (i : ℕ) → IsLine l → i < 20000
    → length (arcs_of l (take i path)) < 30000
arcs_few l path i line lt =
    omega (arith, arcs_count l (take i path), undecided_small l line, few_decided 0 (take i path), length-take i path, lt)

pub has_places : (l : LineData) (path : List Decision) (s : SystemData) → s ≡ system_below l path → HasPlaces l s
has_places l path s e =
    let n = ap (λ (x : SystemData). length x.arcs) e in
    (ap (λ (x : SystemData). x.nodes) e, omega (arith, n, arcs_count l path))

-- ---- the blank system

blank_at : (n k : ℕ) (a : Arc) → get_or (replicate n a) k a ≡ a
blank_at zero k a = refl
blank_at (suc n) zero a = refl
blank_at (suc n) (suc k) a = blank_at n k a

blank_length : (n : ℕ) (a : Arc) → length (replicate n a) ≡ n
blank_length zero a = refl
blank_length (suc n) a = ap (λ (m : ℕ). suc m) (blank_length n a)

pub blank_system : (l : LineData) (n m : ℕ) (xs : List Arc) → IsLine l → n ≡ move_count l → m ≡ undecided_count l
    → xs ≡ replicate m no_arc
    → IsSystem (record { nodes = n; arcs = xs })
blank_system l n m xs line e f is =
    let d = line.limits.degree in
    let s = line.limits.stages in
    let most = few_nodes l.degree (last_stage l) d.1 (omega (arith, s.1)) in
    let least = mul-le 1 1 l.degree (last_stage l) d.0 (omega (arith, s.0)) in
    let some : 1 ≤ n = omega (arith, e, least) in
    let at : (k : ℕ) → get_or xs k no_arc ≡ no_arc = λ k. ap (λ (bs : List Arc). get_or bs k no_arc) is ∙ blank_at m k no_arc in
    record {
      nodes = (some, omega (arith, e, most));
      count = omega (arith, ap (λ (bs : List Arc). length bs) is, blank_length m no_arc, f, undecided_small l line);
      ends = λ k lt. let P : Arc → Type 0 = λ a. (a.from < n) × (a.to < n) in subst P (sym (at k)) (omega (arith, some), omega (arith, some));
      sizes = λ k lt. let P : Arc → Type 0 = λ a. (unsigned_abs a.w ≤ 10000000) × (unsigned_abs a.q ≤ 1000000000) in subst P (sym (at k))
          (omega arith, omega arith);
    }

-- ---- carriers

-- the entry of a carrier, and what depends on its first moves
abbrev pub IsOfSteps : ℕ → ℕ → Constraint → Type 0
IsOfSteps c n t = (t ≡ Entry c) ⊎ ((k : ℕ) × (k < n) × IsOfMove c k t)

steps_undecided : (c n : ℕ) (t : Constraint) → IsOfSteps c n t → IsUndecided t
steps_undecided c n t h = ⊎_elim (λ e. is_undecided (Entry c) t tt e) (λ r. move_undecided c r.0 t r.2) h
  where
    move_undecided : (c k : ℕ) (t : Constraint) → IsOfMove c k t → IsUndecided t
    move_undecided c k (Min a b) h = tt
    move_undecided c k (Max a b) h = tt
    move_undecided c k (Entry a) h = tt
    move_undecided c k (Visit a b) h = tt
    move_undecided c k (Repeat a b) h = tt
    move_undecided c k (Decided i) h = absurd h

pub move_is_undecided : (c k : ℕ) (t : Constraint) → IsOfMove c k t → IsUndecided t
move_is_undecided c k t h = steps_undecided c (k + 1) t (inr (k, omega arith, h))

pub steps_none : (l : LineData) (path : List Decision) (c : ℕ) (a b : SystemData)
    → Rewrites l path (λ t. t ≡ Entry c) a b → Rewrites l path (IsOfSteps c 0) a b
steps_none l path c a b r =
    rewrites_as l path (λ t. t ≡ Entry c) (IsOfSteps c 0) a b (λ t h k. ⊎_elim (λ e. e) (λ w. absurd (omega (arith, w.1))) k) (λ t h e. inl e) r

pub steps_more : (l : LineData) (path : List Decision) (c n : ℕ) (a b d : SystemData) → 2 ≤ length l.stages
    → Rewrites l path (IsOfSteps c n) a b
    → Rewrites l path (IsOfMove c n) b d → Rewrites l path (IsOfSteps c (n + 1)) a d
steps_more l path c n a b d two r s =
    rewrites_as l path (λ t. IsOfSteps c n t ⊎ IsOfMove c n t) (IsOfSteps c (n + 1)) a d
    (λ t h k. ⊎_elim (λ e. inl (inl e)) (λ w. ⊎_elim (λ lt. inl (inr (w.0, lt, w.2)))
    (λ ge. let e : w.0 ≡ n = omega (arith, w.1, ge) in let P : ℕ → Type 0 = λ j. IsOfMove c j t in inr (subst P e w.2)) (cases_lt w.0 n)) k)
    (λ t h k. ⊎_elim (λ few. ⊎_elim (λ e. inl e) (λ w. inr (w.0, omega (arith, w.1), w.2)) few) (λ m. inr (n, omega arith, m)) k)
    (rewrites_then l path (IsOfSteps c n) (IsOfMove c n) a b d two (λ t k. steps_undecided c n t k) (λ t k. move_is_undecided c n t k) r s)

carrier_back : (l : LineData) (path : List Decision) (c : ℕ) (t : Constraint) → 2 ≤ length l.stages
    → IsConstraint l path t → IsOfCarrier c t
    → IsOfSteps c (last_stage l) t
carrier_back l path c (Min a b) two h e = inr (b - 1, omega (arith, h.1, h.2, two), (e, omega (arith, h.1)))
carrier_back l path c (Max a b) two h e = inr (b - 1, omega (arith, h.1, h.2, two), (e, omega (arith, h.1)))
carrier_back l path c (Entry a) two h e = inl (ap (λ (x : ℕ). Entry x) e)
carrier_back l path c (Visit a b) two h e = inr (b - 1, omega (arith, h.1, h.2, two), (e, omega (arith, h.1)))
carrier_back l path c (Repeat a b) two h e = inr (b, omega (arith, h.1, two), (e, refl))
carrier_back l path c (Decided i) two h e = absurd e

move_carrier : (c k : ℕ) (t : Constraint) → IsOfMove c k t → IsOfCarrier c t
move_carrier c k (Min a b) h = h.0
move_carrier c k (Max a b) h = h.0
move_carrier c k (Entry a) h = absurd h
move_carrier c k (Visit a b) h = h.0
move_carrier c k (Repeat a b) h = h.0
move_carrier c k (Decided i) h = absurd h

pub carrier_written : (l : LineData) (path : List Decision) (c n : ℕ) (a b : SystemData) → 2 ≤ length l.stages
    → n ≡ last_stage l
    → Rewrites l path (IsOfSteps c n) a b → Rewrites l path (IsOfCarrier c) a b
carrier_written l path c n a b two all r =
    let P : ℕ → Type 0 = λ m. Rewrites l path (IsOfSteps c m) a b in
    rewrites_as l path (IsOfSteps c (last_stage l)) (IsOfCarrier c) a b (λ t h k. carrier_back l path c t two h k)
    (λ t h k. ⊎_elim (λ e. let Q : Constraint → Type 0 = λ x. IsOfCarrier c x in subst Q (sym e) refl) (λ w. move_carrier c w.0 t w.2) k) (subst P all r)

-- the constraints of the first carriers
abbrev pub IsOfCarriers : ℕ → Constraint → Type 0
IsOfCarriers n t = (c : ℕ) × (c < n) × IsOfCarrier c t

carrier_undecided : (c : ℕ) (t : Constraint) → IsOfCarrier c t → IsUndecided t
carrier_undecided c (Min a b) h = tt
carrier_undecided c (Max a b) h = tt
carrier_undecided c (Entry a) h = tt
carrier_undecided c (Visit a b) h = tt
carrier_undecided c (Repeat a b) h = tt
carrier_undecided c (Decided i) h = absurd h

pub carriers_none : (l : LineData) (path : List Decision) (a : SystemData) → Rewrites l path (IsOfCarriers 0) a a
carriers_none l path a = record { nodes = refl; count = refl; changed = λ t h w. absurd (omega (arith, w.1)); others = λ j. inl refl }

pub carriers_more : (l : LineData) (path : List Decision) (n : ℕ) (a b d : SystemData) → 2 ≤ length l.stages
    → Rewrites l path (IsOfCarriers n) a b
    → Rewrites l path (IsOfCarrier n) b d → Rewrites l path (IsOfCarriers (n + 1)) a d
carriers_more l path n a b d two r s =
    rewrites_as l path (λ t. IsOfCarriers n t ⊎ IsOfCarrier n t) (IsOfCarriers (n + 1)) a d
    (λ t h w. ⊎_elim (λ lt. inl (w.0, lt, w.2)) (λ ge. let e : w.0 ≡ n = omega (arith, w.1, ge) in let P : ℕ → Type 0 = λ j. IsOfCarrier j t in inr
    (subst P e w.2)) (cases_lt w.0 n))
    (λ t h k. ⊎_elim (λ w. (w.0, omega (arith, w.1), w.2)) (λ m. (n, omega arith, m)) k)
    (rewrites_then l path (IsOfCarriers n) (IsOfCarrier n) a b d two (λ t w. carrier_undecided w.0 t w.2) (λ t k. carrier_undecided n t k) r s)

has_carrier : (l : LineData) (path : List Decision) (t : Constraint) → IsUndecided t → IsConstraint l path t
    → IsOfCarriers l.degree t
has_carrier l path (Min a b) u h = (a, h.0, refl)
has_carrier l path (Max a b) u h = (a, h.0, refl)
has_carrier l path (Entry a) u h = (a, h, refl)
has_carrier l path (Visit a b) u h = (a, h.0, refl)
has_carrier l path (Repeat a b) u h = (a, h.0, refl)
has_carrier l path (Decided i) u h = absurd u

no_decision_named : (l : LineData) (t : Constraint) → IsConstraint l [] t → IsUndecided t
no_decision_named l (Min c k) h = tt
no_decision_named l (Max c k) h = tt
no_decision_named l (Entry c) h = tt
no_decision_named l (Visit c k) h = tt
no_decision_named l (Repeat c k) h = tt
no_decision_named l (Decided i) h = absurd (omega (arith, h.0))

-- a system in which every carrier's constraints are written is the base system
pub base_is : (l : LineData) (n : ℕ) (a b : SystemData) → HasPlaces l a → length a.arcs ≡ undecided_count l
    → n ≡ l.degree → Rewrites l [] (IsOfCarriers n) a b
    → b ≡ system_below l []
base_is l n a b places count all r =
    let names : constraint_list l [] ≡ undecided_list l = append-nil (undecided_list l) in
    let u = undecided_list l in
    let same : length b.arcs ≡ length u = r.count ∙ count ∙ sym (length_undecided l) in
    let P : ℕ → Type 0 = λ m. Rewrites l [] (IsOfCarriers m) a b in
    let w = subst P all r in
    let arcs : b.arcs ≡ map (arc_of l []) u =
    ext_get_or no_arc b.arcs (map (arc_of l []) u) (same ∙ sym (length-map u (arc_of l [])))
    (λ j lt.
    let first : j < length u = omega (arith, lt, same) in
    let t = get_or u j (Entry 0) in
    let named = from_undecided l [] t (in_at u j (Entry 0) first) in
    let at : place l t ≡ j = place_at l j (Entry 0) (omega (arith, first, length_undecided l)) in
    ap (λ (n : ℕ). get_or b.arcs n no_arc) (sym at) ∙ w.changed t named (has_carrier l [] t (no_decision_named l t named) named) ∙ sym
    (get_or-map (arc_of l []) u j (Entry 0) no_arc first)) in
    system_is b (move_count l) (arcs_of l []) (r.nodes ∙ places.0) (arcs ∙ ap (λ (ts : List Constraint). map (arc_of l []) ts) (sym names))

-- ---- visits with a choice

pub inner_visit : (l : LineData) (c k : ℕ) → IsLine l → IsVisit l c k → 2 ≤ length (stage l k).tanks
    → (1 ≤ k) × (k ≤ last_step l)
inner_visit l c k line visit several =
    let not_first : k ≡ 0 → ⊥ = λ e. let P : ℕ → Type 0 = λ j. 2 ≤ length (stage l j).tanks in omega (arith, line.times.first.one_tank, subst P e several) in
    let not_last : k ≡ last_stage l → ⊥ = λ e. let P : ℕ → Type 0 = λ j. 2 ≤ length (stage l j).tanks in omega
    (arith, line.times.last.one_tank, subst P e several) in
    (omega (arith, not_first), omega (arith, not_last, visit.1, line.limits.stages.0))
