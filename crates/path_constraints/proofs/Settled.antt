-- What a path settles stays settled below it: tanks, motions, hoists, clashes and holds.
use Rattle.std.proofs.Common.{◌≡◌, ℕ, ◌+◌, ◌<◌, ◌≤◌, List, [], ◌∷◌, length, take, map, refl, sym, ◌∙◌, ap, subst, arith, Some, None}
use Rattle.std.specs.Prelude.{Option, flat_map, option_map, option_and_then}
use Rattle.std.proofs.lemmas.List.{length-take, take-take, get_or-take}
use Rattle.hoist_base.specs.LineData.{LineData, stage}
use Rattle.hoist_base.specs.declared.ids.MoveId.{MoveId}
use Rattle.collision_pairs.specs.declared.span.Span.{Span}
use Rattle.line_model.specs.declared.motion.Motion.{Motion}
use Rattle.line_model.specs.Motion.{motion_between, duration}
use Rattle.choice_tree.specs.declared.question.Question.{Question}
use Rattle.choice_tree.specs.declared.question.Decision.{Decision}
use Rattle.path_constraints.specs.Tanks.{no_decision, decision_at, choice_of, tanks_by, tanks_below, motions_below, one_of, tank_below, motion_below, low, high, least_of, greatest_of}
use Rattle.path_constraints.specs.Hoists.{Ride, assigned_of, hoist_by, hoists_reaching, ride_below, clash_between, clash_below}
use Rattle.path_constraints.specs.Questions.{Stands, FitsDecision, FitsPath, IsOpenVisit}
use Rattle.path_constraints.proofs.Choices.{choice_stays, chosen, assigned_stays}

-- a part of a path fits
pub fits-take : (l : LineData) (path : List Decision) (i : ℕ) → FitsPath l path → FitsPath l (take i path)
fits-take l path i fits j lt =
    let below : j < i = omega (arith, lt, length-take i path) in
    let inside : j < length path = omega (arith, lt, length-take i path) in
    let same : decision_at (take i path) j ≡ decision_at path j = get_or-take i path j no_decision below in
    let prefix : take j (take i path) ≡ take j path = take-take j i path (omega arith) in
    let P : List Decision → Type 0 = λ ds. FitsDecision l ds (decision_at (take i path) j) in
    let Q : Decision → Type 0 = λ d. FitsDecision l (take j path) d in
    subst P (sym prefix) (subst Q (sym same) (fits j inside))

-- where a path that fits chooses, the stage has a choice
pub choice_several : (l : LineData) (path : List Decision) (c k n : ℕ) → FitsPath l path → choice_of path c k ≡ Some n
    → 2 ≤ length (stage l k).tanks
choice_several l path c k n fits e =
    let r = chosen path c k n e in
    let P : Question → Type 0 = λ q. Stands l (take r.place path) q in
    let open_visit : IsOpenVisit l (take r.place path) r.visit = subst P r.question (fits r.place r.there).question.stands in
    let S : ℕ → Type 0 = λ j. 2 ≤ length (stage l j).tanks in
    subst S r.stage open_visit.several

one_is_one : (xs : List ℕ) (t : ℕ) → one_of xs ≡ Some t → xs ≡ t ∷ []
one_is_one [] t e = cc
one_is_one (x ∷ []) t e = let same : x ≡ t = cc in ap (λ (y : ℕ). y ∷ []) same
one_is_one (x ∷ y ∷ ys) t e = cc

pub tanks_are : (l : LineData) (path : List Decision) (c k t : ℕ) → tank_below l path c k ≡ Some t
    → tanks_below l path c k ≡ t ∷ []
tanks_are l path c k t e = one_is_one (tanks_below l path c k) t e

-- a visit's only tank stays
tank_by_stays : (tanks : List ℕ) (o o' : Option ℕ) (t : ℕ) → one_of (tanks_by tanks o) ≡ Some t
    → ((n : ℕ) → o ≡ Some n → o' ≡ Some n)
    → ((n : ℕ) → o' ≡ Some n → 2 ≤ length tanks) → one_of (tanks_by tanks o') ≡ Some t
tank_by_stays tanks (Some n) o' t e keeps several = ap (λ (o : Option ℕ). one_of (tanks_by tanks o)) (keeps n refl) ∙ e
tank_by_stays tanks None None t e keeps several = e
tank_by_stays tanks None (Some n) t e keeps several =
    absurd (omega (arith, several n refl, ap (λ (xs : List ℕ). length xs) (one_is_one tanks t e)))

pub tank_stays : (l : LineData) (path : List Decision) (i c k t : ℕ) → FitsPath l path
    → tank_below l (take i path) c k ≡ Some t
    → tank_below l path c k ≡ Some t
tank_stays l path i c k t fits e =
    tank_by_stays (stage l k).tanks (choice_of (take i path) c k) (choice_of path c k) t e
    (λ n h. choice_stays path i c k n h) (λ n h. choice_several l path c k n fits h)

-- two settled tanks settle the motion
pub motions_are : (l : LineData) (path : List Decision) (c k i j : ℕ) → tank_below l path c k ≡ Some i
    → tank_below l path c (k + 1) ≡ Some j
    → motions_below l path c k ≡ motion_between l k i j ∷ []
motions_are l path c k i j e e' =
    let from = tanks_are l path c k i e in
    let to = tanks_are l path c (k + 1) j e' in
    ap (λ (xs : List ℕ). flat_map (λ a. map (λ b. motion_between l k a b) (tanks_below l path c (k + 1))) xs) from
    ∙ ap (λ (xs : List ℕ). flat_map (λ a. map (λ b. motion_between l k a b) xs) (i ∷ [])) to

pub motion_is : (l : LineData) (path : List Decision) (c k i j : ℕ) → tank_below l path c k ≡ Some i
    → tank_below l path c (k + 1) ≡ Some j
    → motion_below l path c k ≡ Some (motion_between l k i j)
motion_is l path c k i j e e' = ap (λ (ms : List Motion). one_of ms) (motions_are l path c k i j e e')

pub low_is : (l : LineData) (path : List Decision) (c k i j : ℕ) → tank_below l path c k ≡ Some i
    → tank_below l path c (k + 1) ≡ Some j
    → low l path c k ≡ duration (motion_between l k i j)
low_is l path c k i j e e' =
    ap (λ (ms : List Motion). least_of (map duration ms)) (motions_are l path c k i j e e')

pub high_is : (l : LineData) (path : List Decision) (c k i j : ℕ) → tank_below l path c k ≡ Some i
    → tank_below l path c (k + 1) ≡ Some j
    → high l path c k ≡ duration (motion_between l k i j)
high_is l path c k i j e e' =
    ap (λ (ms : List Motion). greatest_of (map duration ms)) (motions_are l path c k i j e e')

-- and the motion settles both tanks
record Tied (l : LineData) (k : ℕ) (xs ys : List ℕ) (m : Motion) : Type 0 where
  from : ℕ
  to : ℕ
  is_from : xs ≡ from ∷ []
  is_to : ys ≡ to ∷ []
  is : m ≡ motion_between l k from to

tied : (l : LineData) (k : ℕ) (xs ys : List ℕ) (m : Motion)
    → one_of (flat_map (λ a. map (λ b. motion_between l k a b) ys) xs) ≡ Some m → Tied l k xs ys m
tied l k [] ys m e = cc
tied l k (x ∷ []) [] m e = cc
tied l k (x ∷ []) (y ∷ []) m e = let same : motion_between l k x y ≡ m = cc in record { from = x; to = y; is_from = refl; is_to = refl; is = sym same }
tied l k (x ∷ []) (y ∷ z ∷ zs) m e = cc
tied l k (x ∷ x' ∷ xs) [] m e = absurd (none xs e)
  where
    none : (xs : List ℕ) → one_of (flat_map (λ a. map (λ b. motion_between l k a b) []) xs) ≡ Some m → ⊥
    none [] e = cc
    none (x ∷ xs) e = none xs e
tied l k (x ∷ x' ∷ xs) (y ∷ []) m e = cc
tied l k (x ∷ x' ∷ xs) (y ∷ z ∷ zs) m e = cc

-- the tanks of a settled motion
pub record SettledMotion (l : LineData) (path : List Decision) (c k : ℕ) (m : Motion) : Type 0 where
  pub from : ℕ
  pub to : ℕ
  pub first : tank_below l path c k ≡ Some from
  pub second : tank_below l path c (k + 1) ≡ Some to
  pub is : m ≡ motion_between l k from to

pub settled_motion : (l : LineData) (path : List Decision) (c k : ℕ) (m : Motion) → motion_below l path c k ≡ Some m
    → SettledMotion l path c k m
settled_motion l path c k m e =
    let r = tied l k (tanks_below l path c k) (tanks_below l path c (k + 1)) m e in
    record {
      from = r.from;
      to = r.to;
      first = ap (λ (xs : List ℕ). one_of xs) r.is_from;
      second = ap (λ (xs : List ℕ). one_of xs) r.is_to;
      is = r.is;
    }

pub motion_stays : (l : LineData) (path : List Decision) (i c k : ℕ) (m : Motion) → FitsPath l path
    → motion_below l (take i path) c k ≡ Some m
    → motion_below l path c k ≡ Some m
motion_stays l path i c k m fits e =
    let r = settled_motion l (take i path) c k m e in
    motion_is l path c k r.from r.to (tank_stays l path i c k r.from fits r.first) (tank_stays l path i c (k + 1) r.to fits r.second)
    ∙ ap (λ (x : Motion). Some x) (sym r.is)

-- a move's hoist stays
hoist_by_stays : (hs : List ℕ) (o o' : Option ℕ) (h : ℕ) → hoist_by hs o ≡ Some h → ((n : ℕ) → o ≡ Some n → o' ≡ Some n)
    → hoist_by hs o' ≡ Some h
hoist_by_stays [] o o' h e keeps = cc
hoist_by_stays (x ∷ []) o o' h e keeps = e
hoist_by_stays (x ∷ y ∷ ys) None o' h e keeps = cc
hoist_by_stays (x ∷ y ∷ ys) (Some n) o' h e keeps = ap (λ (o : Option ℕ). hoist_by (x ∷ y ∷ ys) o) (keeps n refl) ∙ e

-- the two parts of a ride
abbrev ride : Motion → ℕ → Ride
ride m h = record { motion = m; hoist = h }

map_ride : (m : Motion) (x : Option ℕ) (r : Ride) → option_map (λ (h : ℕ). ride m h) x ≡ Some r
    → (m ≡ r.motion) × (x ≡ Some r.hoist)
map_ride m None r e = cc
map_ride m (Some h) r e =
    let same : ride m h ≡ r = cc in
    (ap (λ (y : Ride). y.motion) same, ap (λ (y : Ride). Some y.hoist) same)

ride_parts : (l : LineData) (a : Option ℕ) (o : Option Motion) (r : Ride)
    → option_and_then (λ (m : Motion). option_map (λ (h : ℕ). ride m h) (hoist_by (hoists_reaching l m) a)) o ≡ Some r
    → (o ≡ Some r.motion) × (hoist_by (hoists_reaching l r.motion) a ≡ Some r.hoist)
ride_parts l a None r e = cc
ride_parts l a (Some m) r e =
    let p = map_ride m (hoist_by (hoists_reaching l m) a) r e in
    let P : Motion → Type 0 = λ x. hoist_by (hoists_reaching l x) a ≡ Some r.hoist in
    (ap (λ (x : Motion). Some x) p.0, subst P p.0 p.1)

-- what settles a ride
pub record SettledRide (l : LineData) (path : List Decision) (c k : ℕ) (r : Ride) : Type 0 where
  pub motion : motion_below l path c k ≡ Some r.motion
  pub hoist : hoist_by (hoists_reaching l r.motion) (assigned_of path c k) ≡ Some r.hoist

pub settled_ride : (l : LineData) (path : List Decision) (c k : ℕ) (r : Ride) → ride_below l path c k ≡ Some r
    → SettledRide l path c k r
settled_ride l path c k r e =
    let p = ride_parts l (assigned_of path c k) (motion_below l path c k) r e in
    record { motion = p.0; hoist = p.1 }

pub ride_is : (l : LineData) (path : List Decision) (c k : ℕ) (r : Ride) → SettledRide l path c k r
    → ride_below l path c k ≡ Some r
ride_is l path c k r s =
    ap (λ (o : Option Motion). option_and_then (λ (m : Motion). option_map (λ (h : ℕ). ride m h) (hoist_by (hoists_reaching l m) (assigned_of path c k))) o)
    s.motion
    ∙ ap (λ (o : Option ℕ). option_map (λ (h : ℕ). ride r.motion h) o) s.hoist

pub ride_stays : (l : LineData) (path : List Decision) (i c k : ℕ) (r : Ride) → FitsPath l path
    → ride_below l (take i path) c k ≡ Some r
    → ride_below l path c k ≡ Some r
ride_stays l path i c k r fits e =
    let s = settled_ride l (take i path) c k r e in
    ride_is l path c k r (record {
      motion = motion_stays l path i c k r.motion fits s.motion;
      hoist = hoist_by_stays (hoists_reaching l r.motion) (assigned_of (take i path) c k) (assigned_of path c k) r.hoist s.hoist
          (λ n h. assigned_stays path i c k n h);
    })

-- the two rides of a clash
pub record SettledClash (l : LineData) (path : List Decision) (a b : MoveId) (span : Span) : Type 0 where
  pub first : Ride
  pub second : Ride
  pub is_first : ride_below l path a.carrier a.step ≡ Some first
  pub is_second : ride_below l path b.carrier b.step ≡ Some second
  pub clash : clash_between l first second ≡ Some span

clash_parts : (l : LineData) (x y : Option Ride) (span : Span)
    → option_and_then (λ (r : Ride). option_and_then (λ (s : Ride). clash_between l r s) y) x ≡ Some span
    → (r : Ride) × (s : Ride) × (x ≡ Some r) × (y ≡ Some s) × (clash_between l r s ≡ Some span)
clash_parts l None y span e = cc
clash_parts l (Some r) None span e = cc
clash_parts l (Some r) (Some s) span e = (r, s, refl, refl, e)

pub settled_clash : (l : LineData) (path : List Decision) (a b : MoveId) (span : Span)
    → clash_below l path a b ≡ Some span → SettledClash l path a b span
settled_clash l path a b span e =
    let p = clash_parts l (ride_below l path a.carrier a.step) (ride_below l path b.carrier b.step) span e in
    record { first = p.0; second = p.1; is_first = p.2; is_second = p.3; clash = p.4 }

pub clash_is : (l : LineData) (path : List Decision) (a b : MoveId) (span : Span) → SettledClash l path a b span
    → clash_below l path a b ≡ Some span
clash_is l path a b span s =
    ap (λ (o : Option Ride). option_and_then (λ (x : Ride). option_and_then (λ (y : Ride). clash_between l x y) (ride_below l path b.carrier b.step)) o)
    s.is_first
    ∙ ap (λ (o : Option Ride). option_and_then (λ (y : Ride). clash_between l s.first y) o) s.is_second
    ∙ s.clash

pub clash_stays : (l : LineData) (path : List Decision) (i : ℕ) (a b : MoveId) (span : Span) → FitsPath l path
    → clash_below l (take i path) a b ≡ Some span
    → clash_below l path a b ≡ Some span
clash_stays l path i a b span fits e =
    let s = settled_clash l (take i path) a b span e in
    clash_is l path a b span (record {
      first = s.first;
      second = s.second;
      is_first = ride_stays l path i a.carrier a.step s.first fits s.is_first;
      is_second = ride_stays l path i b.carrier b.step s.second fits s.is_second;
      clash = s.clash;
    })
