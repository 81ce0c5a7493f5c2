-- The first fixed point of a kind, by moves and hoists; and partners by their nearest copies.
use Rattle.std.proofs.Common.{◌≡◌, ℕ, ◌+◌, ◌-◌, ◌*◌, ◌/◌, ◌%◌, ◌≤◌, ◌<◌, inl, inr, ⊎_elim, ◌∙◌, List, get_or, refl, sym, ap, subst, arith, ℤ, pos, ◌+ℤ◌, ◌-ℤ◌, ◌*ℤ◌}
use Rattle.std.specs.Prelude.{unsigned_abs}
use Rattle.std.proofs.lemmas.Int.{ints}
use Rattle.std.proofs.lemmas.Bool.{cases_lt}
use Rattle.hoist_base.specs.LineData.{LineData, IsMove, last_stage, move_count}
use Rattle.hoist_base.specs.Routes.{route_tank}
use Rattle.hoist_base.proofs.NumberLemmas.{move_below}
use Rattle.line_model.specs.declared.motion.Motion.{Motion}
use Rattle.line_model.specs.Motion.{duration, place, motion_by}
use Rattle.line_model.specs.Timetable.{Timetable, motion}
use Rattle.path_envelope.specs.declared.point.Point.{Point}
use Rattle.path_envelope.specs.Duties.{duties, HaveReach, IsFixed, apart, Contradict, Agree}
use Rattle.path_envelope.specs.FirstClash.{Given, IsGiven, copy, hoist_of, number_of, IsFirst, IsPartner, HasPartner, IsFirstPartner, IsFirstClash, IsNearestTick, NoneOfMove, NoneOfHoist, NoneOfHoists, IsFirstOfMove, IsFirstOfHoist, IsNearestCopy, AreClash}
use Rattle.list_facts.proofs.Products.{times_add}
use Rattle.path_envelope.proofs.TableLemmas.{numbered, same_move}

-- a given point is its move's at the ticks
same_given : (l : LineData) (p : Timetable) (IsOfKind : Given → Type 0) (g h : Given) → IsGiven l p g → IsGiven l p h
    → number_of l g ≡ number_of l h → g.ticks ≡ h.ticks → IsOfKind g → IsOfKind h
same_given l p IsOfKind g h a b n t kind =
    let e = same_move l g.carrier g.step h.carrier h.step a.move b.move n in
    subst (λ (u : ℕ). IsOfKind (record { carrier = h.carrier; step = h.step; ticks = u })) t
    (subst (λ (k : ℕ). IsOfKind (record { carrier = h.carrier; step = k; ticks = g.ticks })) e.1
    (subst (λ (c : ℕ). IsOfKind (record { carrier = c; step = g.step; ticks = g.ticks })) e.0 kind))

pub first_of_hoist : (l : LineData) (p : Timetable) (IsOfKind : Given → Type 0) (h n : ℕ) (g : Given)
    → NoneOfHoist l p IsOfKind h n → hoist_of p g ≡ h → IsFirstOfMove l p IsOfKind n g → IsFirstOfHoist l p IsOfKind h g
first_of_hoist l p IsOfKind h n g none own first = record {
  given = first.given;
  hoist = own;
  kind = first.kind;
  none_before = λ other given is before kind.
      ⊎_elim
      (λ lower. omega (arith, lower, own, is))
      (λ (same, rest).
      ⊎_elim
      (λ fewer. none other given is (omega (arith, fewer, first.number)) kind)
      (λ (number, ticks). first.none_before other given (number ∙ first.number) ticks kind)
      rest)
      before;
}

pub first_of_all : (l : LineData) (p : Timetable) (IsOfKind : Given → Type 0) (h : ℕ) (g : Given)
    → NoneOfHoists l p IsOfKind h → IsFirstOfHoist l p IsOfKind h g → IsFirst l p IsOfKind g
first_of_all l p IsOfKind h g none first = record {
  given = first.given;
  kind = first.kind;
  none_before = λ other given before kind.
      ⊎_elim
      (λ lower. none other given (omega (arith, lower, first.hoist)) kind)
      (λ (same, rest). first.none_before other given (same ∙ first.hoist) (inr (same, rest)) kind)
      before;
}

pub none_more : (l : LineData) (p : Timetable) (IsOfKind : Given → Type 0) (h n : ℕ) → NoneOfHoist l p IsOfKind h n
    → NoneOfMove l p IsOfKind n → NoneOfHoist l p IsOfKind h (n + 1)
none_more l p IsOfKind h n none here g given own lt kind =
    ⊎_elim (λ below. none g given own below kind) (λ past. here g given (omega (arith, lt, past)) kind) (cases_lt (number_of l g) n)

pub none_skip : (l : LineData) (p : Timetable) (IsOfKind : Given → Type 0) (h n x : ℕ) → NoneOfHoist l p IsOfKind h n
    → ((g : Given) → number_of l g ≡ n → hoist_of p g ≡ x) → (x ≡ h → ⊥) → NoneOfHoist l p IsOfKind h (n + 1)
none_skip l p IsOfKind h n x none is other g given own lt kind =
    ⊎_elim (λ below. none g given own below kind) (λ past. other (sym (is g (omega (arith, lt, past))) ∙ own)) (cases_lt (number_of l g) n)

pub none_of_more_hoists : (l : LineData) (p : Timetable) (IsOfKind : Given → Type 0) (h : ℕ)
    → NoneOfHoists l p IsOfKind h → NoneOfHoist l p IsOfKind h (move_count l) → NoneOfHoists l p IsOfKind (h + 1)
none_of_more_hoists l p IsOfKind h none here g given lt kind =
    ⊎_elim (λ below. none g given below kind) (λ past. here g given (omega (arith, lt, past))
    (move_below l g.carrier g.step given.move) kind) (cases_lt (hoist_of p g) h)

pub none_at_all : (l : LineData) (p : Timetable) (IsOfKind : Given → Type 0) (h : ℕ) → HaveReach l p
    → NoneOfHoists l p IsOfKind h → l.hoists ≤ h → (g : Given) → IsGiven l p g → IsOfKind g → ⊥
none_at_all l p IsOfKind h have none le g given kind = none g given (omega (arith, le, have.hoist g.carrier g.step given.move)) kind

-- a point that is nearer contradicts too
contradict_nearer : (l : LineData) (x y z : Point) → y.hoist ≡ z.hoist → y.at ≡ z.at → apart x y ≤ apart x z
    → Contradict l x z → Contradict l x y
contradict_nearer l x y z h a near c =
    let room : (y.hoist - x.hoist) * l.gap ≡ (z.hoist - x.hoist) * l.gap = ap (λ n. (n - x.hoist) * l.gap) h in
    let room' : (x.hoist - y.hoist) * l.gap ≡ (x.hoist - z.hoist) * l.gap = ap (λ n. (x.hoist - n) * l.gap) h in
    let d : apart y x ≡ apart x y = omega (arith, ints) in
    let d' : apart z x ≡ apart x z = omega (arith, ints) in
    ⊎_elim
    (λ (same, far). inl (same ∙ sym h, omega (arith, near, far, a)))
    (λ lack.
    ⊎_elim
    (λ (lt, much). inr (inl (omega (arith, lt, h), omega (arith, much, near, a, room))))
    (λ (lt, much). inr (inr (omega (arith, lt, h), omega (arith, much, near, a, room', d, d'))))
    lack)
    c

-- what code sees of a numbered move: its motion
pub record Seen (l : LineData) (route : List ℕ) (n : ℕ) (m : Motion) : Type 0 where
  pub inside : n < move_count l
  pub some : 1 ≤ last_stage l
  pub motion : m ≡ motion_by l (route_tank l route (n / last_stage l)) (n % last_stage l)

-- the motion of a numbered move
pub motion_at : (l : LineData) (route starts hoists : List ℕ) (period n : ℕ) (m : Motion) (g : Given) → Seen l route n m
    → IsMove l g.carrier g.step → number_of l g ≡ n
    → m ≡ motion l (duties l route period starts hoists) g.carrier g.step
motion_at l route starts hoists period n m g seen move number =
    let r = numbered l n seen.inside seen.some in
    let q = same_move l (n / last_stage l) (n % last_stage l) g.carrier g.step r.0 move (r.1 ∙ sym number) in
    subst (λ (k : ℕ). m ≡ motion_by l (route_tank l route g.carrier) k) q.1
    (subst (λ (c : ℕ). m ≡ motion_by l (route_tank l route c) (n % last_stage l)) q.0 seen.motion)

same_point : (h h' a a' : ℕ) (t t' : ℤ) → h ≡ h' → a ≡ a' → t ≡ t' → (x y : Point) → x ≡ record {
  hoist = h;
  tick = t;
  at = a;
} → y ≡ record { hoist = h'; tick = t'; at = a' } → x ≡ y
same_point h h' a a' t t' e f g x y i j = cc

-- the point that is the nearest copy of a numbered move's
pub nearest_copy : (l : LineData) (route starts hoists : List ℕ) (period n u : ℕ) (m : Motion) (x y : Point) (g : Given)
    → Seen l route n m
    → IsNearestTick period x.tick (get_or starts n 0 + u) y.tick → y.hoist ≡ get_or hoists n 0 → y.at ≡ place m u
    → IsGiven l (duties l route period starts hoists) g → number_of l g ≡ n → g.ticks ≡ u
    → IsNearestCopy l (duties l route period starts hoists) x g y
nearest_copy l route starts hoists period n u m x y g seen near own at given number ticks =
    let p = duties l route period starts hoists in
    let mi : m ≡ motion l p g.carrier g.step = motion_at l route starts hoists period n m g seen given.move number in
    let s : get_or starts n 0 + u ≡ p.start g.carrier g.step + g.ticks = omega (arith, ap (λ j. get_or starts j 0) (sym number), ticks) in
    let near' : IsNearestTick period x.tick (p.start g.carrier g.step + g.ticks) y.tick = subst (λ (t : ℕ). IsNearestTick period x.tick t y.tick) s near in
    let h : y.hoist ≡ p.hoist g.carrier g.step = own ∙ ap (λ j. get_or hoists j 0) (sym number) in
    let a : y.at ≡ place (motion l p g.carrier g.step) g.ticks = at
    ∙ (ap (λ (j : Motion). place j u) mi ∙ ap (place (motion l p g.carrier g.step)) (sym ticks)) in
    let z : ℤ = near'.0 in
    let far : apart x y ≡ apart x (copy l p g z) = ap (λ (t : ℤ). unsigned_abs (x.tick -ℤ t)) near'.1 in (
      z,
      (λ w. let r = near'.2 w in (omega (arith, far, r.0), λ same. r.1 (same ∙ sym far))),
      same_point y.hoist (p.hoist g.carrier g.step) y.at (place (motion l p g.carrier g.step) g.ticks) y.tick
          (pos (p.start g.carrier g.step + g.ticks) +ℤ z *ℤ pos p.period) h a near'.1 y (copy l p g z) refl refl,
    )

-- a point whose nearest copy doesn't contradict is no partner
pub no_partner : (l : LineData) (p : Timetable) (x y : Point) (g : Given) → IsNearestCopy l p x g y
    → (Contradict l x y → ⊥) → IsPartner l p x g → ⊥
no_partner l p x y g (z, near, is) none (w, c) =
    none (subst (λ (v : Point). Contradict l x v) (sym is) (contradict_nearer l x (copy l p g z) (copy l p g w) refl refl (near w).0 c))

pub is_partner : (l : LineData) (p : Timetable) (x y : Point) (g : Given) → IsNearestCopy l p x g y → Contradict l x y
    → IsPartner l p x g
is_partner l p x y g (z, near, is) c = (z, subst (λ (v : Point). Contradict l x v) is c)

-- the fixed point of a numbered move at a tick
pub record At (l : LineData) (route starts hoists : List ℕ) (period n u : ℕ) : Type 0 where
  pub point : Given
  pub given : IsGiven l (duties l route period starts hoists) point
  pub number : number_of l point ≡ n
  pub ticks : point.ticks ≡ u

pub point_at : (l : LineData) (route starts hoists : List ℕ) (period n u : ℕ) (m : Motion) → Seen l route n m
    → u ≤ duration m → At l route starts hoists period n u
point_at l route starts hoists period n u m seen le =
    let r = numbered l n seen.inside seen.some in
    let le' : u ≤ duration (motion l (duties l route period starts hoists) (n / last_stage l) (n % last_stage l)) = subst (λ (j : Motion). u ≤ duration j) seen.motion le in
    record {
      point = record { carrier = n / last_stage l; step = n % last_stage l; ticks = u };
      given = record { move = r.0; within = le' };
      number = r.1;
      ticks = refl;
    }

-- none of the first u ticks of a numbered move is of a kind
abbrev pub NoneSoFar : LineData → Timetable → (Given → Type 0) → ℕ → ℕ → Type 0
NoneSoFar l p IsOfKind n u = (g : Given) → IsGiven l p g → number_of l g ≡ n → g.ticks < u → IsOfKind g → ⊥

pub so_far_more : (l : LineData) (p : Timetable) (IsOfKind : Given → Type 0) (n u : ℕ) → NoneSoFar l p IsOfKind n u
    → ((g : Given) → IsGiven l p g → number_of l g ≡ n → g.ticks ≡ u → IsOfKind g → ⊥)
    → NoneSoFar l p IsOfKind n (u + 1)
so_far_more l p IsOfKind n u none here g given number lt kind =
    ⊎_elim (λ below. none g given number below kind) (λ past. here g given number (omega (arith, lt, past)) kind) (cases_lt g.ticks u)

-- the first partner in the order of all fixed points
pub as_first_partner : (l : LineData) (p : Timetable) (x y : Point) (g : Given) → IsFirst l p (IsPartner l p x) g
    → IsNearestCopy l p x g y → IsFirstPartner l p x y
as_first_partner l p x y g first (z, near, is) = record { partner = g; z = z; first = first; nearest = near; is = is }

-- a fixed point whose first partner was found has one
pub has_partner : (l : LineData) (p : Timetable) (x y : Point) (g : Given) → x ≡ copy l p g (pos 0)
    → IsFirstPartner l p x y → HasPartner l p g
has_partner l p x y g is f = (f.partner, f.first.given, subst (λ (v : Point). IsPartner l p v f.partner) is f.first.kind)

-- and where no partner was found, none
pub no_partners : (l : LineData) (p : Timetable) (x : Point) (g : Given) → x ≡ copy l p g (pos 0)
    → ((h : Given) → IsGiven l p h → IsPartner l p x h → ⊥) → HasPartner l p g → ⊥
no_partners l p x g is none (h, given, partner) = none h given (subst (λ (v : Point). IsPartner l p v h) (sym is) partner)

pub as_first_clash : (l : LineData) (p : Timetable) (x y : Point) (g : Given) → IsFirst l p (HasPartner l p) g
    → (x ≡ copy l p g (pos 0)) × IsFirstPartner l p x y → IsFirstClash l p x y
as_first_clash l p x y g first (is, partner) = record { point = g; first = first; is = is; partner = partner }

-- a numbered move's own point
pub own_copy : (l : LineData) (route starts hoists : List ℕ) (period n u : ℕ) (m : Motion) (x : Point) (g : Given)
    → Seen l route n m
    → x.tick ≡ pos (get_or starts n 0 + u) → x.hoist ≡ get_or hoists n 0 → x.at ≡ place m u
    → IsGiven l (duties l route period starts hoists) g → number_of l g ≡ n → g.ticks ≡ u
    → x ≡ copy l (duties l route period starts hoists) g (pos 0)
own_copy l route starts hoists period n u m x g seen tick own at given number ticks =
    let p = duties l route period starts hoists in
    let mi : m ≡ motion l p g.carrier g.step = motion_at l route starts hoists period n m g seen given.move number in
    let s : get_or starts n 0 + u ≡ p.start g.carrier g.step + g.ticks = omega (arith, ap (λ j. get_or starts j 0) (sym number), ticks) in
    let h : x.hoist ≡ p.hoist g.carrier g.step = own ∙ ap (λ j. get_or hoists j 0) (sym number) in
    let a : x.at ≡ place (motion l p g.carrier g.step) g.ticks = at
    ∙ (ap (λ (j : Motion). place j u) mi ∙ ap (place (motion l p g.carrier g.step)) (sym ticks)) in
    let t : x.tick ≡ pos (p.start g.carrier g.step + g.ticks) +ℤ pos 0 *ℤ pos period = omega (arith, ints, tick, s) in
    same_point x.hoist (p.hoist g.carrier g.step) x.at (place (motion l p g.carrier g.step) g.ticks) x.tick
    (pos (p.start g.carrier g.step + g.ticks) +ℤ pos 0 *ℤ pos period) h a t x (copy l p g (pos 0)) refl refl

-- a copy is fixed, and a fixed point is a copy
copy_fixed : (l : LineData) (p : Timetable) (g : Given) (z : ℤ) → IsGiven l p g → IsFixed l p (copy l p g z)
copy_fixed l p g z given = (g.carrier, g.step, g.ticks, z, record { move = given.move; within = given.within; hoist = refl; tick = refl; at = refl })

pub clash_fixed : (l : LineData) (p : Timetable) (x y : Point) → IsFirstClash l p x y
    → IsFixed l p x × IsFixed l p y × Contradict l x y
clash_fixed l p x y f =
    let q = f.partner in (
      subst (λ (v : Point). IsFixed l p v) (sym f.is) (copy_fixed l p f.point (pos 0) f.first.given),
      subst (λ (v : Point). IsFixed l p v) (sym q.is) (copy_fixed l p q.partner q.z q.first.given),
      let (w, c) = q.first.kind in
          subst (λ (v : Point). Contradict l x v) (sym q.is)
          (contradict_nearer l x (copy l p q.partner q.z) (copy l p q.partner w) refl refl (q.nearest w).0 c),
    )

-- two fixed points contradict as their copies do
pub agree_by_given : (l : LineData) (p : Timetable) → ((g : Given) → IsGiven l p g → HasPartner l p g → ⊥) → Agree l p
agree_by_given l p none x y (c, k, u, z, f) (c', k', u', z', f') contradict =
    let g : Given = record { carrier = c; step = k; ticks = u } in
    let h : Given = record { carrier = c'; step = k'; ticks = u' } in
    let e : z +ℤ (z' -ℤ z) ≡ z' = omega (arith, ints) in
    let d : (z +ℤ (z' -ℤ z)) *ℤ pos p.period ≡ z' *ℤ pos p.period = ap (λ (v : ℤ). v *ℤ pos p.period) e in
    let t = times_add z (z' -ℤ z) p.period in
    let far : apart (copy l p g (pos 0)) (copy l p h (z' -ℤ z)) ≡ apart x y = omega (arith, ints, d, t, f.tick, f'.tick) in
    let back : apart (copy l p h (z' -ℤ z)) (copy l p g (pos 0)) ≡ apart y x = omega (arith, ints, d, t, f.tick, f'.tick) in
    let turned : apart x y ≡ apart y x = omega (arith, ints) in
    let x_hoist : x.hoist ≡ p.hoist c k = f.hoist in
    let y_hoist : y.hoist ≡ p.hoist c' k' = f'.hoist in
    let x_at : x.at ≡ place (motion l p c k) u = f.at in
    let y_at : y.at ≡ place (motion l p c' k') u' = f'.at in
    let room : (y.hoist - x.hoist) * l.gap ≡ (p.hoist c' k' - p.hoist c k) * l.gap = ap (λ n. n * l.gap) (omega (arith, x_hoist, y_hoist)) in
    let room' : (x.hoist - y.hoist) * l.gap ≡ (p.hoist c k - p.hoist c' k') * l.gap = ap (λ n. n * l.gap) (omega (arith, x_hoist, y_hoist)) in
    let both : Contradict l (copy l p g (pos 0)) (copy l p h (z' -ℤ z)) =
    ⊎_elim
    (λ (same, near). inl (omega (arith, same, x_hoist, y_hoist), omega (arith, near, far, x_at, y_at)))
    (λ lack.
    ⊎_elim
    (λ (lt, near). inr (inl (omega (arith, lt, x_hoist, y_hoist), omega (arith, near, far, x_at, y_at, room))))
    (λ (lt, near). inr (inr (omega (arith, lt, x_hoist, y_hoist), omega (arith, near, back, x_at, y_at, room'))))
    lack)
    contradict in
    none g (record { move = f.move; within = f.within }) (h, record { move = f'.move; within = f'.within }, (z' -ℤ z, both))

-- the first of a kind at a tick of a move
pub first_at : (l : LineData) (route starts hoists : List ℕ) (period n u : ℕ) (IsOfKind : Given → Type 0)
    → (a : At l route starts hoists period n u) → NoneSoFar l (duties l route period starts hoists) IsOfKind n u
    → IsOfKind a.point → IsFirstOfMove l (duties l route period starts hoists) IsOfKind n a.point
first_at l route starts hoists period n u IsOfKind a none kind = record {
  given = a.given;
  number = a.number;
  kind = kind;
  none_before = λ other given number lt. none other given number (omega (arith, lt, a.ticks));
}

-- a move all of whose ticks were seen
pub none_of_move : (l : LineData) (route starts hoists : List ℕ) (period n u : ℕ) (m : Motion) (IsOfKind : Given → Type 0)
    → Seen l route n m → duration m < u
    → NoneSoFar l (duties l route period starts hoists) IsOfKind n u
    → NoneOfMove l (duties l route period starts hoists) IsOfKind n
none_of_move l route starts hoists period n u m IsOfKind seen lt none g given number kind =
    let mi : m ≡ motion l (duties l route period starts hoists) g.carrier g.step = motion_at l route starts hoists period n m g seen given.move number in
    let d : duration m ≡ duration (motion l (duties l route period starts hoists) g.carrier g.step) = ap (λ (j : Motion). duration j) mi in
    none g given number (omega (arith, lt, d, given.within)) kind

-- one tick of a move whose nearest copy doesn't contradict a point, or does
pub tick_passes : (l : LineData) (route starts hoists : List ℕ) (period n u : ℕ) (m : Motion) (x y : Point)
    → Seen l route n m
    → IsNearestTick period x.tick (get_or starts n 0 + u) y.tick → y.hoist ≡ get_or hoists n 0 → y.at ≡ place m u
    → (Contradict l x y → ⊥)
    → NoneSoFar l (duties l route period starts hoists) (IsPartner l (duties l route period starts hoists) x) n u
    → NoneSoFar l (duties l route period starts hoists) (IsPartner l (duties l route period starts hoists) x) n (u + 1)
tick_passes l route starts hoists period n u m x y seen near own at none sofar =
    let p = duties l route period starts hoists in
    so_far_more l p (IsPartner l p x) n u sofar (λ g given number ticks. no_partner l p x y g
    (nearest_copy l route starts hoists period n u m x y g seen near own at given number ticks) none)

pub tick_found : (l : LineData) (route starts hoists : List ℕ) (period n u : ℕ) (m : Motion) (x y : Point)
    → Seen l route n m → u ≤ duration m
    → IsNearestTick period x.tick (get_or starts n 0 + u) y.tick → y.hoist ≡ get_or hoists n 0 → y.at ≡ place m u
    → Contradict l x y
    → NoneSoFar l (duties l route period starts hoists) (IsPartner l (duties l route period starts hoists) x) n u
    → (g : Given) × IsFirstOfMove l (duties l route period starts hoists)
    (IsPartner l (duties l route period starts hoists) x) n g
    × IsNearestCopy l (duties l route period starts hoists) x g y
tick_found l route starts hoists period n u m x y seen le near own at contradict sofar =
    let p = duties l route period starts hoists in
    let a = point_at l route starts hoists period n u m seen le in
    let copied = nearest_copy l route starts hoists period n u m x y a.point seen near own at a.given a.number a.ticks in
    (a.point, first_at l route starts hoists period n u (IsPartner l p x) a sofar (is_partner l p x y a.point copied contradict), copied)

-- one tick of a move whose point has no partner, or one
pub point_passes : (l : LineData) (route starts hoists : List ℕ) (period n u : ℕ) (m : Motion) (x : Point)
    → Seen l route n m
    → x.tick ≡ pos (get_or starts n 0 + u) → x.hoist ≡ get_or hoists n 0 → x.at ≡ place m u
    → ((g : Given) → IsGiven l (duties l route period starts hoists) g → IsPartner l (duties l route period starts hoists) x g → ⊥)
    → NoneSoFar l (duties l route period starts hoists) (HasPartner l (duties l route period starts hoists)) n u
    → NoneSoFar l (duties l route period starts hoists) (HasPartner l (duties l route period starts hoists)) n (u + 1)
point_passes l route starts hoists period n u m x seen tick own at none sofar =
    let p = duties l route period starts hoists in
    so_far_more l p (HasPartner l p) n u sofar (λ g given number ticks. no_partners l p x g
    (own_copy l route starts hoists period n u m x g seen tick own at given number ticks) none)

pub point_found : (l : LineData) (route starts hoists : List ℕ) (period n u : ℕ) (m : Motion) (x y : Point)
    → Seen l route n m → u ≤ duration m
    → x.tick ≡ pos (get_or starts n 0 + u) → x.hoist ≡ get_or hoists n 0 → x.at ≡ place m u
    → IsFirstPartner l (duties l route period starts hoists) x y
    → NoneSoFar l (duties l route period starts hoists) (HasPartner l (duties l route period starts hoists)) n u
    → (g : Given) × IsFirstOfMove l (duties l route period starts hoists)
    (HasPartner l (duties l route period starts hoists)) n g
    × AreClash l (duties l route period starts hoists) g (x, y)
point_found l route starts hoists period n u m x y seen le tick own at partner sofar =
    let p = duties l route period starts hoists in
    let a = point_at l route starts hoists period n u m seen le in
    let is = own_copy l route starts hoists period n u m x a.point seen tick own at a.given a.number a.ticks in
    (a.point, first_at l route starts hoists period n u (HasPartner l p) a sofar (has_partner l p x y a.point is partner), (is, partner))

-- the hoist of a numbered move's points
pub own_hoist : (l : LineData) (route starts hoists : List ℕ) (period n h : ℕ) (g : Given) → number_of l g ≡ n
    → get_or hoists n 0 ≡ h → hoist_of (duties l route period starts hoists) g ≡ h
own_hoist l route starts hoists period n h g number is = ap (λ j. get_or hoists j 0) number ∙ is
