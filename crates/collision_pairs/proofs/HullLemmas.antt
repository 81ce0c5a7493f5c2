-- The least span round what the pairs of ticks of a set forbid, and what it says of all ticks.
use Rattle.std.proofs.Common.{◌≡◌, ℕ, ◌+◌, ◌<◌, ◌≤◌, Bool, true, false, cond, ◌⊎◌, ⊎_elim, refl, ap, ℤ, pos, ◌+ℤ◌, ◌-ℤ◌, neg_ℤ, ◌<ℤ◌, ◌≤ℤ◌, Option, Some, None, IfSome, arith}
use Rattle.std.specs.Int.{int_max}
use Rattle.std.proofs.lemmas.Int.{ints, clamps, by_lt_z}
use Rattle.collision_pairs.specs.declared.span.Span.{Span}
use Rattle.collision_pairs.specs.Forbidden.{IsSpanOf}
use Rattle.collision_pairs.specs.Clash.{joined, IsTight}
use Rattle.collision_pairs.proofs.TickLemmas.{Rises, Falls, HasNoHill, Meet, centre}

-- a pair where the first is above the second, whose offsets end at `after`
pub record HasAfter (A B : ℕ → ℕ) (Seen : ℕ → ℕ → Type 0) (after : ℤ) : Type 0 where
  pub u : ℕ
  pub v : ℕ
  pub seen : Seen u v
  pub above : B v < A u
  pub is : after +ℤ pos (v + B v) ≡ pos (u + A u)

pub record HasBefore (A B : ℕ → ℕ) (Seen : ℕ → ℕ → Type 0) (before : ℤ) : Type 0 where
  pub u : ℕ
  pub v : ℕ
  pub seen : Seen u v
  pub above : B v < A u
  pub is : before +ℤ pos (u + B v) ≡ pos (v + A u)

-- the least span round all that was seen
pub record IsHull (A B : ℕ → ℕ) (Seen : ℕ → ℕ → Type 0) (after before : ℤ) : Type 0 where
  pub has_after : HasAfter A B Seen after
  pub has_before : HasBefore A B Seen before
  pub after_most : (u v : ℕ) → Seen u v → B v < A u → pos (u + A u) ≤ℤ (after +ℤ pos (v + B v))
  pub before_most : (u v : ℕ) → Seen u v → B v < A u → pos (v + A u) ≤ℤ (before +ℤ pos (u + B v))

-- the same for an answer: with no span, nowhere is the first above
abbrev pub IsHullOf : (ℕ → ℕ) → (ℕ → ℕ) → (ℕ → ℕ → Type 0) → Option Span → Type 0
IsHullOf A B Seen None = (u v : ℕ) → Seen u v → A u ≤ B v
IsHullOf A B Seen (Some s) = IsHull A B Seen s.after s.before

after_wider : (A B : ℕ → ℕ) (S U : ℕ → ℕ → Type 0) (a c : ℤ) → ((u v : ℕ) → S u v → U u v) → a ≡ c → HasAfter A B S a
    → HasAfter A B U c
after_wider A B S U a c wider e h = record { u = h.u; v = h.v; seen = wider h.u h.v h.seen; above = h.above; is = omega (arith, ints) }

before_wider : (A B : ℕ → ℕ) (S U : ℕ → ℕ → Type 0) (a c : ℤ) → ((u v : ℕ) → S u v → U u v) → a ≡ c → HasBefore A B S a
    → HasBefore A B U c
before_wider A B S U a c wider e h = record { u = h.u; v = h.v; seen = wider h.u h.v h.seen; above = h.above; is = omega (arith, ints) }

pub hull_join : (A B : ℕ → ℕ) (S T U : ℕ → ℕ → Type 0) (x y : Option Span) → IsHullOf A B S x → IsHullOf A B T y
    → ((u v : ℕ) → S u v → U u v) → ((u v : ℕ) → T u v → U u v) → ((u v : ℕ) → U u v → S u v ⊎ T u v)
    → IsHullOf A B U (joined x y)
hull_join A B S T U None None h k s t parts = λ u v w. ⊎_elim (λ p. h u v p) (λ q. k u v q) (parts u v w)
hull_join A B S T U None (Some y) h k s t parts = record {
  has_after = after_wider A B T U y.after y.after t (omega (arith, ints)) k.has_after;
  has_before = before_wider A B T U y.before y.before t (omega (arith, ints)) k.has_before;
  after_most = λ u v w above. ⊎_elim (λ p. absurd (omega (arith, h u v p))) (λ q. k.after_most u v q above) (parts u v w);
  before_most = λ u v w above. ⊎_elim (λ p. absurd (omega (arith, h u v p))) (λ q. k.before_most u v q above) (parts u v w);
}
hull_join A B S T U (Some x) None h k s t parts = record {
  has_after = after_wider A B S U x.after x.after s (omega (arith, ints)) h.has_after;
  has_before = before_wider A B S U x.before x.before s (omega (arith, ints)) h.has_before;
  after_most = λ u v w above. ⊎_elim (λ p. h.after_most u v p above) (λ q. absurd (omega (arith, k u v q))) (parts u v w);
  before_most = λ u v w above. ⊎_elim (λ p. h.before_most u v p above) (λ q. absurd (omega (arith, k u v q))) (parts u v w);
}
hull_join A B S T U (Some x) (Some y) h k s t parts = record {
  has_after =
      by_lt_z x.after y.after
      (λ lt. after_wider A B T U y.after (int_max x.after y.after) t (omega (arith, ints, clamps)) k.has_after)
      (λ le. after_wider A B S U x.after (int_max x.after y.after) s (omega (arith, ints, clamps)) h.has_after);
  has_before =
      by_lt_z x.before y.before
      (λ lt. before_wider A B T U y.before (int_max x.before y.before) t (omega (arith, ints, clamps)) k.has_before)
      (λ le. before_wider A B S U x.before (int_max x.before y.before) s (omega (arith, ints, clamps)) h.has_before);
  after_most = λ u v w above. ⊎_elim (λ p. omega (arith, ints, clamps, h.after_most u v p above))
      (λ q. omega (arith, ints, clamps, k.after_most u v q above)) (parts u v w);
  before_most = λ u v w above. ⊎_elim (λ p. omega (arith, ints, clamps, h.before_most u v p above))
      (λ q. omega (arith, ints, clamps, k.before_most u v q above)) (parts u v w);
}

-- the least span round what one pair forbids
pub hull_of_pair : (A B : ℕ → ℕ) (u v above below : ℕ) (b : Bool) → A u ≡ above → B v ≡ below → (b ≡ true → below < above) → (b ≡ false → above ≤ below) → IsHullOf A B (λ p q. (p ≡ u) × (q ≡ v)) (cond b (Some (record { after = (pos u -ℤ pos v) +ℤ (pos above -ℤ pos below); before = (pos above -ℤ pos below) -ℤ (pos u -ℤ pos v) })) None)
hull_of_pair A B u v above below true at_u at_v is_above is_under = record {
  has_after = record { u = u; v = v; seen = (refl, refl); above = omega (arith, at_u, at_v, is_above refl); is = omega (arith, ints, at_u, at_v) };
  has_before = record { u = u; v = v; seen = (refl, refl); above = omega (arith, at_u, at_v, is_above refl); is = omega (arith, ints, at_u, at_v) };
  after_most = λ p q s over. let e : A p ≡ A u = ap A s.0 in let f : B q ≡ B v = ap B s.1 in omega (arith, ints, s.0, s.1, at_u, at_v);
  before_most = λ p q s over. let e : A p ≡ A u = ap A s.0 in let f : B q ≡ B v = ap B s.1 in omega (arith, ints, s.0, s.1, at_u, at_v);
}
hull_of_pair A B u v above below false at_u at_v is_above is_under =
    λ p q s. let e : A p ≡ A u = ap A s.0 in let f : B q ≡ B v = ap B s.1 in omega (arith, at_u, at_v, is_under refl)

-- all pairs of ticks of two motions
abbrev pub InBox : ℕ → ℕ → ℕ → ℕ → Type 0
InBox da db u v = (u ≤ da) × (v ≤ db)

-- for each tick one that was seen, where it is as high, and the offsets that it forbids end as late
abbrev pub HasLateTop : (ℕ → ℕ) → (ℕ → Type 0) → ℕ → Type 0
HasLateTop A S d = (u : ℕ) → u ≤ d → (c : ℕ) × S c × (A u ≤ A c) × (u + A u ≤ c + A c)

-- .. and begin as early
abbrev pub HasEarlyTop : (ℕ → ℕ) → (ℕ → Type 0) → ℕ → Type 0
HasEarlyTop A S d = (u : ℕ) → u ≤ d → (c : ℕ) × S c × (A u ≤ A c) × (c + A u ≤ u + A c)

-- the same for the upper hoist, which forbids more where it is lower
abbrev pub HasEarlyBottom : (ℕ → ℕ) → (ℕ → Type 0) → ℕ → Type 0
HasEarlyBottom B T d = (v : ℕ) → v ≤ d → (c : ℕ) × T c × (B c ≤ B v) × (c + B c ≤ v + B v)

abbrev pub HasLateBottom : (ℕ → ℕ) → (ℕ → Type 0) → ℕ → Type 0
HasLateBottom B T d = (v : ℕ) → v ≤ d → (c : ℕ) × T c × (B c ≤ B v) × (v + B c ≤ c + B v)

-- then the span round what was seen is the span round all pairs of ticks
pub hull_spreads : (A B : ℕ → ℕ) (S T : ℕ → Type 0) (da db : ℕ) (x : Option Span) → ((u : ℕ) → S u → u ≤ da)
    → ((v : ℕ) → T v → v ≤ db) → HasLateTop A S da → HasEarlyTop A S da → HasEarlyBottom B T db → HasLateBottom B T db
    → IsHullOf A B (λ u v. S u × T v) x → IsHullOf A B (InBox da db) x
hull_spreads A B S T da db None in_a in_b late_top early_top early_bottom late_bottom h = λ u v box.
    let c = late_top u box.0 in
    let e = early_bottom v box.1 in
    omega (arith, c.2, e.2, h c.0 e.0 (c.1, e.1))
hull_spreads A B S T da db (Some s) in_a in_b late_top early_top early_bottom late_bottom h = record {
  has_after = after_wider A B (λ u v. S u × T v) (InBox da db) s.after s.after (λ u v seen. (in_a u seen.0, in_b v seen.1)) refl h.has_after;
  has_before = before_wider A B (λ u v. S u × T v) (InBox da db) s.before s.before (λ u v seen. (in_a u seen.0, in_b v seen.1)) refl h.has_before;
  after_most = λ u v box above.
      let c = late_top u box.0 in
      let e = early_bottom v box.1 in
      omega (arith, ints, c.3, e.3, h.after_most c.0 e.0 (c.1, e.1) (omega (arith, c.2, e.2, above)));
  before_most = λ u v box above.
      let c = early_top u box.0 in
      let e = late_bottom v box.1 in
      omega (arith, ints, c.3, e.3, h.before_most c.0 e.0 (c.1, e.1) (omega (arith, c.2, e.2, above)));
}

-- every offset inside it is forbidden: there are no holes
no_holes : (A B : ℕ → ℕ) (da db : ℕ) (after before o : ℤ) → Rises A ⊎ Falls A → HasNoHill B
    → IsHull A B (InBox da db) after before → neg_ℤ before <ℤ o → o <ℤ after → Meet A B da db o
no_holes A B da db after before o m hill h low high =
    let a = h.has_after in
    let b = h.has_before in
    by_lt_z (o +ℤ pos b.v) (pos b.u)
    (λ under. (b.u, b.v, b.seen.0, b.seen.1, omega (arith, ints, b.is, b.above)))
    (λ from.
    by_lt_z (pos a.u) (o +ℤ pos a.v)
    (λ over. (a.u, a.v, a.seen.0, a.seen.1, omega (arith, ints, a.is, a.above)))
    (λ to.
    let c = centre A B da db b.u b.v a.u a.v o m hill b.seen.0 b.seen.1 a.seen.0 a.seen.1 b.above a.above from to in
    (c.0, c.1, c.2, c.3, omega (arith, ints, c.4, c.5))))

-- and every forbidden offset is inside
inside : (A B : ℕ → ℕ) (da db : ℕ) (after before o : ℤ) → IsHull A B (InBox da db) after before → Meet A B da db o
    → (neg_ℤ before <ℤ o) × (o <ℤ after)
inside A B da db after before o h (u, v, p, q, near) =
    let above : B v < A u = omega arith in
    let top = h.after_most u v (p, q) above in
    let bottom = h.before_most u v (p, q) above in
    (omega (arith, ints), omega (arith, ints))

-- the span round all pairs of ticks is exactly the set of forbidden offsets
pub span_of_hull : (A B : ℕ → ℕ) (da db : ℕ) (answer : Option Span) → Rises A ⊎ Falls A → HasNoHill B
    → IsHullOf A B (InBox da db) answer → IsSpanOf answer (Meet A B da db)
span_of_hull A B da db None m hill h = λ o (u, v, p, q, near). let under : A u ≤ B v = h u v (p, q) in omega arith
span_of_hull A B da db (Some s) m hill h =
    λ o. (λ meet. inside A B da db s.after s.before o h meet, λ w. no_holes A B da db s.after s.before o m hill h w.0 w.1)

-- its ends are small where ticks and heights are, and it holds an offset
pub tight_hull : (A B : ℕ → ℕ) (da db : ℕ) (answer : Option Span) → da ≤ 2000 → db ≤ 2000 → ((u : ℕ) → A u ≤ 1500)
    → ((v : ℕ) → B v ≤ 1000) → IsHullOf A B (InBox da db) answer → IfSome answer IsTight
tight_hull A B da db None p q low high h = tt
tight_hull A B da db (Some s) p q low high h =
    let a = h.has_after in
    let b = h.has_before in
    record {
      after = omega (arith, ints, a.is, a.seen.0, a.seen.1, a.above, low a.u, high a.v);
      before = omega (arith, ints, b.is, b.seen.0, b.seen.1, b.above, low b.u, high b.v);
      holds = omega (arith, ints, h.after_most b.u b.v b.seen b.above, b.is, b.above);
    }
