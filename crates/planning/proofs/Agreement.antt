-- Where moves start apart enough, no hoist carries by two moves at one tick, and all that moves fix agrees.
use Rattle.std.proofs.Common.{⊎_elim, ◌⊎◌, inl, inr, ◌≡◌, ℕ, ◌+◌, ◌-◌, ◌*◌, ◌<◌, ◌≤◌, sym, ◌∙◌, ap, subst, ℤ, pos, ◌+ℤ◌, ◌-ℤ◌, ◌*ℤ◌, neg_ℤ, ◌≤ℤ◌, arith}
use Rattle.std.specs.Prelude.{unsigned_abs}
use Rattle.std.specs.Int.{abs_diff}
use Rattle.std.proofs.lemmas.Bool.{cases_lt}
use Rattle.std.proofs.lemmas.Int.{ints, by_lt_z}
use Rattle.hoist_base.specs.LineData.{LineData}
use Rattle.line_model.specs.declared.motion.Motion.{Motion}
use Rattle.line_model.specs.Motion.{duration, place}
use Rattle.line_model.specs.Timetable.{Timetable, later, motion}
use Rattle.line_model.specs.Legal.{CarriesAt}
use Rattle.collision_pairs.specs.Forbidden.{ticks_between}
use Rattle.path_constraints.specs.Tanks.{there_and_back}
use Rattle.path_constraints.specs.Questions.{IsBefore}
use Rattle.path_envelope.specs.declared.point.Point.{Point}
use Rattle.path_envelope.specs.Duties.{FixedBy, apart, Contradict, Agree}
use Rattle.planning.proofs.Rides.{between, StartApart, times_less, some_periods, no_copy, Slow, slow_self, slow_copy}

-- two numbers each, in their order
pub order_cases : (c k c' k' : ℕ) → IsBefore c k c' k' ⊎ (IsBefore c' k' c k ⊎ ((c ≡ c') × (k ≡ k')))
order_cases c k c' k' =
    ⊎_elim (λ lt. inl (inl lt))
    (λ ge.
    ⊎_elim (λ gt. inr (inl (inl gt)))
    (λ le.
    let e : c ≡ c' = omega (arith, ge, le) in
    ⊎_elim (λ lt. inl (inr (e, lt)))
    (λ ge'.
    ⊎_elim (λ gt. inr (inl (inr (sym e, gt)))) (λ le'. inr (inr (e, omega (arith, ge', le')))) (cases_lt k' k))
    (cases_lt k k'))
    (cases_lt c' c))
    (cases_lt c c')

-- ---- carrying alone

-- a tick of two stretches that are z and z' periods later
carry_offset : (p : Timetable) (c k c' k' z z' t u v : ℕ) → u + later p z (p.start c k) ≡ t
    → v + later p z' (p.start c' k') ≡ t
    → between p c k c' k' (pos z' -ℤ pos z) +ℤ pos v ≡ pos u
carry_offset p c k c' k' z z' t u v e f =
    at (p.start c k) (p.start c' k') (z * p.period) (z' * p.period) t u v ((pos z' -ℤ pos z) *ℤ pos p.period) (times_less (pos z') (pos z) p.period) e f
  where
    at : (s s' turns turns' t u v : ℕ) (ahead : ℤ) → ahead ≡ pos turns' -ℤ pos turns → u + (s + turns) ≡ t
        → v + (s' + turns') ≡ t
        → ((pos s' +ℤ ahead) -ℤ pos s) +ℤ pos v ≡ pos u
    at s s' turns turns' t u v ahead e f g = omega (arith, ints, e, f, g)

never_twice : (l : LineData) (p : Timetable) (h t c k z c' k' z' : ℕ) → StartApart l p → IsBefore c k c' k'
    → CarriesAt l p h c k z t
    → CarriesAt l p h c' k' z' t → ⊥
never_twice l p h t c k z c' k' z' s before a b =
    let u : ℕ = t - later p z (p.start c k) in
    let v : ℕ = t - later p z' (p.start c' k') in
    let e : u + later p z (p.start c k) ≡ t = omega (arith, a.from) in
    let f : v + later p z' (p.start c' k') ≡ t = omega (arith, b.from) in
    let on : u < duration (motion l p c k) = omega (arith, e, a.before) in
    let on' : v < duration (motion l p c' k') = omega (arith, f, b.before) in
    s.apart c k c' k' (pos z' -ℤ pos z) a.move b.move before (inr (inl (a.hoist ∙ sym b.hoist, inl (u, v, on, on', carry_offset p c k c' k' z z' t u v e f))))

pub carried_alone : (l : LineData) (p : Timetable) → StartApart l p → (h t c k z c' k' z' : ℕ) → CarriesAt l p h c k z t
    → CarriesAt l p h c' k' z' t
    → (c ≡ c') × (k ≡ k') × (z ≡ z')
carried_alone l p s h t c k z c' k' z' a b =
    ⊎_elim (λ before. absurd (never_twice l p h t c k z c' k' z' s before a b))
    (λ rest.
    ⊎_elim (λ after. absurd (never_twice l p h t c' k' z' c k z s after b a))
    (λ (e, f).
    let d : ℕ = duration (motion l p c k) in
    let same : CarriesAt l p h c k z' t = subst (λ y. CarriesAt l p h c y z' t) (sym f) (subst (λ x. CarriesAt l p h x k' z' t) (sym e) b) in
    let fits : p.start c k + d ≤ p.start c k + p.period = omega (arith, s.repeat c k a.move) in
    (e, f, no_copy (p.start c k) (p.start c k + d) p.period z z' t fits a.from a.before same.from same.before))
    rest)
    (order_cases c k c' k')

-- ---- points of two moves

-- the ticks between two points
tick_offset : (p : Timetable) (c k c' k' u v : ℕ) (z z' x y : ℤ) → x ≡ pos (p.start c k + u) +ℤ z *ℤ pos p.period
    → y ≡ pos (p.start c' k' + v) +ℤ z' *ℤ pos p.period
    → (between p c k c' k' (z' -ℤ z) +ℤ pos v) -ℤ pos u ≡ y -ℤ x
tick_offset p c k c' k' u v z z' x y e f =
    at (p.start c k) (p.start c' k') u v (z *ℤ pos p.period) (z' *ℤ pos p.period) ((z' -ℤ z) *ℤ pos p.period) x y (times_less z' z p.period) e f
  where
    at : (s s' u v : ℕ) (turns turns' ahead x y : ℤ) → ahead ≡ turns' -ℤ turns → x ≡ pos (s + u) +ℤ turns
        → y ≡ pos (s' + v) +ℤ turns'
        → (((pos s' +ℤ ahead) -ℤ pos s) +ℤ pos v) -ℤ pos u ≡ y -ℤ x
    at s s' u v turns turns' ahead x y e f g = omega (arith, ints, e, f, g)

abs_back : (o x y : ℤ) (u v : ℕ) → (o +ℤ pos v) -ℤ pos u ≡ y -ℤ x → ticks_between o u v ≡ unsigned_abs (x -ℤ y)
abs_back o x y u v e = omega (arith, ints, e)

abs_turned : (o x y : ℤ) (u v : ℕ) → (o +ℤ pos v) -ℤ pos u ≡ y -ℤ x
    → ticks_between (neg_ℤ o) v u ≡ unsigned_abs (y -ℤ x)
abs_turned o x y u v e = omega (arith, ints, e)

at_hoists : (h h' g g' gap : ℕ) → h ≡ g → h' ≡ g' → (h' - h) * gap ≡ (g' - g) * gap
at_hoists h h' g g' gap e f = ap (λ (n : ℕ). (h' - n) * gap) e ∙ ap (λ (n : ℕ). (n - g) * gap) f

moves_agree : (l : LineData) (p : Timetable) (c k u c' k' v : ℕ) (z z' : ℤ) (x y : Point) → StartApart l p
    → IsBefore c k c' k' → FixedBy l p c k u z x
    → FixedBy l p c' k' v z' y → Contradict l x y → ⊥
moves_agree l p c k u c' k' v z z' x y s before f g bad =
    let m = motion l p c k in
    let m' = motion l p c' k' in
    let h = p.hoist c k in
    let h' = p.hoist c' k' in
    let o : ℤ = between p c k c' k' (z' -ℤ z) in
    let e : (o +ℤ pos v) -ℤ pos u ≡ y.tick -ℤ x.tick = tick_offset p c k c' k' u v z z' x.tick y.tick f.tick g.tick in
    let w : ticks_between o u v ≡ apart x y = abs_back o x.tick y.tick u v e in
    let w' : ticks_between (neg_ℤ o) v u ≡ apart y x = abs_turned o x.tick y.tick u v e in
    s.apart c k c' k' (z' -ℤ z) f.move g.move before
    (⊎_elim
    (λ (same, slow). inr (inl (
      sym f.hoist ∙ same ∙ g.hoist,
      inr
          (u, v, f.within, g.within, slower (apart x y) (ticks_between o u v) x.at y.at (place m u) (place m' v) w f.at g.at slow),
    )))
    (λ rest.
    ⊎_elim
    (λ (lt, near). inl (
      omega (arith, lt, f.hoist, g.hoist),
      (
        u,
        v,
        f.within,
        g.within,
        nearer (apart x y) (ticks_between o u v) x.at y.at (place m u) (place m' v) ((y.hoist - x.hoist) * l.gap) ((h' - h) * l.gap) w f.at g.at
            (at_hoists x.hoist y.hoist h h' l.gap f.hoist g.hoist) near,
      ),
    ))
    (λ (lt, near). inr (inr (
      omega (arith, lt, f.hoist, g.hoist),
      (
        v,
        u,
        g.within,
        f.within,
        nearer (apart y x) (ticks_between (neg_ℤ o) v u) y.at x.at (place m' v) (place m u) ((x.hoist - y.hoist) * l.gap) ((h - h') * l.gap) w' g.at f.at
            (at_hoists y.hoist x.hoist h' h l.gap g.hoist f.hoist) near,
      ),
    )))
    rest)
    bad)
  where
    slower : (w n a b c d : ℕ) → n ≡ w → a ≡ c → b ≡ d → w < abs_diff a b → n < abs_diff c d
    slower w n a b c d e f g lt = omega (arith, e, f, g, lt)

    nearer : (w n a b c d room room' : ℕ) → n ≡ w → a ≡ c → b ≡ d → room ≡ room' → b + w < a + room → d + n < c + room'
    nearer w n a b c d room room' e f g i lt = omega (arith, e, f, g, i, lt)

-- ---- points of one move

same_agrees : (m : Motion) (s u v period w : ℕ) (z z' : ℤ) → u ≤ duration m → v ≤ duration m → there_and_back m ≤ period
    → w ≡ unsigned_abs ((pos (s + u) +ℤ z *ℤ pos period) -ℤ (pos (s + v) +ℤ z' *ℤ pos period)) → Slow m u v w
same_agrees m s u v period w z z' on on' fits e =
    let lasts : duration m ≤ period = omega (arith, fits) in
    by_lt_z z z'
    (λ lt. slow_copy m u v period w on on' fits
    (later_is s u v period w (z *ℤ pos period) (z' *ℤ pos period) ((z' -ℤ z) *ℤ pos period) (times_less z' z period)
    (some_periods (z' -ℤ z) period (omega (arith, ints, lt))) e))
    (λ ge.
    by_lt_z z' z
    (λ gt.
    let r : Slow m v u w =
    slow_copy m v u period w on' on fits
    (earlier_is s u v period w (z *ℤ pos period) (z' *ℤ pos period) ((z -ℤ z') *ℤ pos period) (duration m) (times_less z z' period)
    (some_periods (z -ℤ z') period (omega (arith, ints, gt))) on on' lasts e) in
    turned (place m v) (place m u) w r)
    (λ le.
    let same : z ≡ z' = omega (arith, ints, ge, le) in
    slow_self m u v w (within s u v w (z *ℤ pos period) (z' *ℤ pos period) (ap (λ (y : ℤ). y *ℤ pos period) same) e)))
  where
    later_is : (s u v period w : ℕ) (turns turns' ahead : ℤ) → ahead ≡ turns' -ℤ turns → pos period ≤ℤ ahead
        → w ≡ unsigned_abs ((pos (s + u) +ℤ turns) -ℤ (pos (s + v) +ℤ turns')) → period + v ≤ w + u
    later_is s u v period w turns turns' ahead e f g = omega (arith, ints, e, f, g)

    earlier_is : (s u v period w : ℕ) (turns turns' ahead : ℤ) (d : ℕ) → ahead ≡ turns -ℤ turns' → pos period ≤ℤ ahead
        → u ≤ d → v ≤ d → d ≤ period
        → w ≡ unsigned_abs ((pos (s + u) +ℤ turns) -ℤ (pos (s + v) +ℤ turns')) → period + u ≤ w + v
    earlier_is s u v period w turns turns' ahead d e f on on' lasts g = omega (arith, ints, e, f, g)

    turned : (a b w : ℕ) → abs_diff a b ≤ w → abs_diff b a ≤ w
    turned a b w h = omega (arith, h)

    within : (s u v w : ℕ) (turns turns' : ℤ) → turns ≡ turns'
        → w ≡ unsigned_abs ((pos (s + u) +ℤ turns) -ℤ (pos (s + v) +ℤ turns')) → abs_diff u v ≤ w
    within s u v w turns turns' e f = omega (arith, ints, e, f)

move_agrees : (l : LineData) (p : Timetable) (c k u v : ℕ) (z z' : ℤ) (x y : Point) → StartApart l p
    → FixedBy l p c k u z x → FixedBy l p c k v z' y
    → Contradict l x y → ⊥
move_agrees l p c k u v z z' x y s f g bad =
    let m = motion l p c k in
    let e : apart x y ≡ unsigned_abs ((pos (p.start c k + u) +ℤ z *ℤ pos p.period) -ℤ (pos (p.start c k + v) +ℤ z' *ℤ pos p.period)) =
    ap (λ (a : ℤ). unsigned_abs (a -ℤ y.tick)) f.tick ∙ ap (λ (b : ℤ). unsigned_abs ((pos (p.start c k + u) +ℤ z *ℤ pos p.period) -ℤ b)) g.tick in
    ⊎_elim
    (λ (same, slow). never (apart x y) x.at y.at (place m u) (place m v) f.at g.at slow
    (same_agrees m (p.start c k) u v p.period (apart x y) z z' f.within g.within (s.repeat c k f.move) e))
    (λ rest. ⊎_elim (λ (lt, near). absurd (omega (arith, lt, f.hoist, g.hoist))) (λ (lt, near). absurd (omega (arith, lt, f.hoist, g.hoist))) rest)
    bad
  where
    never : (w a b c d : ℕ) → a ≡ c → b ≡ d → w < abs_diff a b → abs_diff c d ≤ w → ⊥
    never w a b c d e f lt le = omega (arith, e, f, lt, le)

turned_round : (l : LineData) (x y : Point) → Contradict l x y → Contradict l y x
turned_round l x y bad =
    ⊎_elim
    (λ (same, slow). inl (sym same, turned x.tick y.tick x.at y.at slow))
    (λ rest. ⊎_elim (λ a. inr (inr a)) (λ b. inr (inl b)) rest)
    bad
  where
    turned : (s t : ℤ) (a b : ℕ) → unsigned_abs (s -ℤ t) < abs_diff a b → unsigned_abs (t -ℤ s) < abs_diff b a
    turned s t a b lt = omega (arith, ints, lt)

pub all_agree : (l : LineData) (p : Timetable) → StartApart l p → Agree l p
all_agree l p s x y (c, k, u, z, f) (c', k', v, z', g) bad =
    ⊎_elim (λ before. moves_agree l p c k u c' k' v z z' x y s before f g bad)
    (λ rest.
    ⊎_elim (λ after. moves_agree l p c' k' v c k u z' z y x s after g f (turned_round l x y bad))
    (λ (e, e').
    let same : FixedBy l p c k v z' y = subst (λ j. FixedBy l p c j v z' y) (sym e') (subst (λ i. FixedBy l p i k' v z' y) (sym e) g) in
    move_agrees l p c k u v z z' x y s f same bad)
    rest)
    (order_cases c k c' k')
