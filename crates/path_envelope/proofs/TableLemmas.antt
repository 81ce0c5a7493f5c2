-- A table of a hoist's fixed positions, move by move.
use Rattle.std.proofs.Common.{◌≡◌, ℕ, ◌+◌, ◌/◌, ◌%◌, ◌≤◌, ◌<◌, ⊎_elim, ◌∙◌, List, Option, Some, get_or, refl, sym, ap, subst, arith}
use Rattle.std.proofs.lemmas.Bool.{cases_lt}
use Rattle.std.proofs.lemmas.Nat.{mod_below, same_from_place}
use Rattle.hoist_base.specs.LineData.{LineData, IsMove, last_stage, move_number, move_count}
use Rattle.hoist_base.specs.Routes.{route_tank}
use Rattle.hoist_base.proofs.NumberLemmas.{row_below, number_of_move}
use Rattle.line_model.specs.declared.motion.Motion.{Motion}
use Rattle.line_model.specs.Motion.{duration, place, motion_by}
use Rattle.line_model.specs.Timetable.{Timetable, motion}
use Rattle.path_envelope.specs.Duties.{duties, HaveReach, Agree}
use Rattle.path_envelope.specs.Slots.{FixesSlot, held, IsWritten, IsDouble, IsTable}
use Rattle.path_envelope.proofs.FinishLemmas.{two_positions}

-- the move with a number
pub numbered : (l : LineData) (n : ℕ) → n < move_count l → 0 < last_stage l
    → IsMove l (n / last_stage l) (n % last_stage l) × (move_number l (n / last_stage l) (n % last_stage l) ≡ n)
numbered l n lt some = ((row_below n l.degree (last_stage l) some lt, omega (arith, mod_below n (last_stage l) some)), number_of_move l n)

-- two moves with one number are one
pub same_move : (l : LineData) (c k c' k' : ℕ) → IsMove l c k → IsMove l c' k' → move_number l c k ≡ move_number l c' k'
    → (c ≡ c') × (k ≡ k')
same_move l c k c' k' m m' e = same_from_place c k c' k' (last_stage l) (omega (arith, m.1)) (omega (arith, m'.1)) e

-- what one motion fixes
pub of_motion : (l : LineData) (p : Timetable) (h c k u s at : ℕ) → IsMove l c k → p.hoist c k ≡ h
    → u ≤ duration (motion l p c k) → (p.start c k + u) % p.period ≡ s → at ≡ place (motion l p c k) u
    → FixesSlot l p h s at
of_motion l p h c k u s at m is le slot e = record { c = c; k = k; u = u; move = m; within = le; hoist = is; slot = slot; at = e }

written_sound : (l : LineData) (p : Timetable) (h n c k d : ℕ) (old new : List (Option ℕ)) → IsTable l p h n old
    → IsMove l c k → p.hoist c k ≡ h → d ≤ duration (motion l p c k) + 1
    → IsWritten (motion l p c k) (p.start c k) p.period d old new → (s at : ℕ) → held new s ≡ Some at
    → FixesSlot l p h s at
written_sound l p h n c k d old new t m is le w s at e =
    ⊎_elim
    (λ before. t.sound s at before)
    (λ v. of_motion l p h c k v.0 s at m is (omega (arith, v.1, le)) v.2 v.3)
    (w.sound s at e)

pub table_more : (l : LineData) (p : Timetable) (h n c k : ℕ) (old new : List (Option ℕ)) → IsTable l p h n old
    → IsMove l c k → move_number l c k ≡ n → p.hoist c k ≡ h
    → IsWritten (motion l p c k) (p.start c k) p.period (duration (motion l p c k) + 1) old new
    → IsTable l p h (n + 1) new
table_more l p h n c k old new t m number is w = record {
  count = w.count ∙ t.count;
  sound = written_sound l p h n c k (duration (motion l p c k) + 1) old new t m is (omega arith) w;
  written = λ c' k' u m' lt is' le.
      ⊎_elim
      (λ before. w.kept ((p.start c' k' + u) % p.period) (place (motion l p c' k') u) (t.written c' k' u m' before is' le))
      (λ past.
      let e = same_move l c k c' k' m m' (omega (arith, number, lt, past)) in
      let P : ℕ → ℕ → Type 0 = λ i j. u ≤ duration (motion l p i j) → held new ((p.start i j + u) % p.period) ≡ Some (place (motion l p i j) u) in
      let here : P c k = λ le'. w.written u (omega (arith, le')) in
      let there : P c' k' = subst (λ (j : ℕ). P c' j) e.1 (subst (λ (i : ℕ). P i k) e.0 here) in
      there le)
      (cases_lt (move_number l c' k') n);
}

pub table_skip : (l : LineData) (p : Timetable) (h n c k : ℕ) (old : List (Option ℕ)) → IsTable l p h n old
    → IsMove l c k → move_number l c k ≡ n → (p.hoist c k ≡ h → ⊥) → IsTable l p h (n + 1) old
table_skip l p h n c k old t m number other = record {
  count = t.count;
  sound = t.sound;
  written = λ c' k' u m' lt is' le.
      ⊎_elim
      (λ before. t.written c' k' u m' before is' le)
      (λ past.
      let e = same_move l c k c' k' m m' (omega (arith, number, lt, past)) in
      absurd (other (ap (λ i. p.hoist i k) e.0 ∙ (ap (λ j. p.hoist c' j) e.1 ∙ is'))))
      (cases_lt (move_number l c' k') n);
}

pub double_clashes : (l : LineData) (p : Timetable) (h n c k : ℕ) (old new : List (Option ℕ)) → IsTable l p h n old
    → IsMove l c k → p.hoist c k ≡ h
    → IsDouble (motion l p c k) (p.start c k) p.period old new → Agree l p → ⊥
double_clashes l p h n c k old new t m is d agree =
    let s : ℕ = (p.start c k + d.u) % p.period in
    let other = written_sound l p h n c k d.u old new t m is (omega (arith, d.within)) d.so_far s d.other d.there in
    let own = of_motion l p h c k d.u s (place (motion l p c k) d.u) m is d.within refl refl in
    two_positions l p h s d.other (place (motion l p c k) d.u) other own d.differs agree

-- the same by the number of the move
record IsNumbered (l : LineData) (route starts hoists : List ℕ) (period h n c k : ℕ) (m : Motion) : Type 0 where
  move : IsMove l c k
  number : move_number l c k ≡ n
  start : get_or starts n 0 ≡ (duties l route period starts hoists).start c k
  hoist : get_or hoists n 0 ≡ (duties l route period starts hoists).hoist c k
  motion_is : m ≡ motion l (duties l route period starts hoists) c k

is_numbered : (l : LineData) (route starts hoists : List ℕ) (period h n : ℕ) (m : Motion) → n < move_count l
    → 0 < last_stage l
    → m ≡ motion_by l (route_tank l route (n / last_stage l)) (n % last_stage l)
    → IsNumbered l route starts hoists period h n (n / last_stage l) (n % last_stage l) m
is_numbered l route starts hoists period h n m lt some is =
    let r = numbered l n lt some in
    record {
      move = r.0;
      number = r.1;
      start = ap (λ j. get_or starts j 0) (sym r.1);
      hoist = ap (λ j. get_or hoists j 0) (sym r.1);
      motion_is = is;
    }

pub hoist_more : (l : LineData) (route starts hoists : List ℕ) (period h n : ℕ) (m : Motion) (old new : List (Option ℕ))
    → n < move_count l → 0 < last_stage l
    → m ≡ motion_by l (route_tank l route (n / last_stage l)) (n % last_stage l) → get_or hoists n 0 ≡ h
    → IsTable l (duties l route period starts hoists) h n old
    → IsWritten m (get_or starts n 0) period (duration m + 1) old new
    → IsTable l (duties l route period starts hoists) h (n + 1) new
hoist_more l route starts hoists period h n m old new lt some is own t w =
    let p = duties l route period starts hoists in
    let c : ℕ = n / last_stage l in
    let k : ℕ = n % last_stage l in
    let r = is_numbered l route starts hoists period h n m lt some is in
    let w1 : IsWritten m (p.start c k) period (duration m + 1) old new = subst (λ (s : ℕ). IsWritten m s period (duration m + 1) old new) r.start w in
    let w2 : IsWritten (motion l p c k) (p.start c k) period (duration (motion l p c k) + 1) old new = subst
    (λ (j : Motion). IsWritten j (p.start c k) period (duration j + 1) old new) r.motion_is w1 in
    table_more l p h n c k old new t r.move r.number (sym r.hoist ∙ own) w2

pub hoist_skip : (l : LineData) (route starts hoists : List ℕ) (period h n : ℕ) (old : List (Option ℕ))
    → n < move_count l → 0 < last_stage l → (get_or hoists n 0 ≡ h → ⊥)
    → IsTable l (duties l route period starts hoists) h n old
    → IsTable l (duties l route period starts hoists) h (n + 1) old
hoist_skip l route starts hoists period h n old lt some other t =
    let r = is_numbered l route starts hoists period h n (motion_by l (route_tank l route (n / last_stage l)) (n % last_stage l)) lt some refl in
    table_skip l (duties l route period starts hoists) h n (n / last_stage l) (n % last_stage l) old t r.move r.number (λ is. other (r.hoist ∙ is))

pub hoist_double : (l : LineData) (route starts hoists : List ℕ) (period h n : ℕ) (m : Motion) (old new : List (Option ℕ))
    → n < move_count l → 0 < last_stage l
    → m ≡ motion_by l (route_tank l route (n / last_stage l)) (n % last_stage l) → get_or hoists n 0 ≡ h
    → IsTable l (duties l route period starts hoists) h n old → IsDouble m (get_or starts n 0) period old new
    → Agree l (duties l route period starts hoists) → ⊥
hoist_double l route starts hoists period h n m old new lt some is own t w =
    let p = duties l route period starts hoists in
    let c : ℕ = n / last_stage l in
    let k : ℕ = n % last_stage l in
    let r = is_numbered l route starts hoists period h n m lt some is in
    let w1 : IsDouble m (p.start c k) period old new = subst (λ (s : ℕ). IsDouble m s period old new) r.start w in
    let w2 : IsDouble (motion l p c k) (p.start c k) period old new = subst (λ (j : Motion). IsDouble j (p.start c k) period old new) r.motion_is w1 in
    double_clashes l p h n c k old new t r.move (sym r.hoist ∙ own) w2

-- the hoist of a numbered move is one of the line
pub hoist_there : (l : LineData) (route starts hoists : List ℕ) (period n : ℕ) → n < move_count l → 1 ≤ last_stage l
    → HaveReach l (duties l route period starts hoists) → get_or hoists n 0 < l.hoists
hoist_there l route starts hoists period n lt some have =
    let r = numbered l n lt some in
    let e : get_or hoists (move_number l (n / last_stage l) (n % last_stage l)) 0 ≡ get_or hoists n 0 = ap (λ j. get_or hoists j 0) r.1 in
    omega (arith, e, have.hoist (n / last_stage l) (n % last_stage l) r.0)
