-- Moves that start apart enough: no hoist carries twice, and no two of the points that moves fix contradict one
-- another.
use Rattle.std.proofs.Common.{⊎_elim, ◌≡◌, ℕ, suc, ◌+◌, ◌-◌, ◌*◌, ◌<◌, ◌≤◌, List, refl, sym, ap, subst, ℤ, pos, ◌+ℤ◌, ◌-ℤ◌, ◌*ℤ◌, neg_ℤ, ◌<ℤ◌, ◌≤ℤ◌, arith, Some, None}
use Rattle.std.specs.Prelude.{Option, IsSome, IsSomeAnd, unsigned_abs}
use Rattle.std.specs.Int.{abs_diff}
use Rattle.std.proofs.lemmas.Bool.{cases_lt}
use Rattle.std.proofs.lemmas.Int.{ints}
use Rattle.std.proofs.lemmas.Nat.{mul-le}
use borrow.Author.Differences.{sum_is_lem}
use Rattle.hoist_base.specs.LineData.{LineData, move_number, IsMove}
use Rattle.hoist_base.specs.Valid.{IsLine}
use Rattle.hoist_base.specs.declared.ids.MoveId.{MoveId}
use Rattle.line_model.specs.declared.motion.Motion.{Motion}
use Rattle.line_model.specs.Motion.{duration, place}
use Rattle.line_model.specs.Timetable.{Timetable, motion}
use Rattle.collision_pairs.specs.declared.span.Span.{Span}
use Rattle.collision_pairs.specs.Clash.{clash_of}
use Rattle.collision_pairs.specs.Forbidden.{IsForbidden, IsSpanOf}
use Rattle.collision_pairs.proofs.MotionLemmas.{goes_slowly, at_start, at_end}
use Rattle.collision_pairs.proofs.ClashLemmas.{has_no_holes}
use Rattle.choice_tree.specs.declared.question.Question.TheVariants.{HoistOrder}
use Rattle.choice_tree.specs.declared.question.Decision.{Decision}
use Rattle.path_constraints.specs.Tanks.{there_and_back}
use Rattle.path_constraints.specs.Hoists.{clash_below}
use Rattle.path_constraints.specs.Questions.{IsBefore, offset_of}
use Rattle.planning.proofs.Choices.{Settled, is_motion, clash_own}
use Rattle.planning.proofs.Rows.{Timed, repeat_row}

-- move b, q periods later, after move a
abbrev pub between : Timetable → ℕ → ℕ → ℕ → ℕ → ℤ → ℤ
between p c k c' k' q = (pos (p.start c' k') +ℤ q *ℤ pos p.period) -ℤ pos (p.start c k)

-- no hoist has to be back too soon, and no move starts at an offset from an earlier one that is forbidden
pub record StartApart (l : LineData) (p : Timetable) : Type 0 where
  pub repeat : (c k : ℕ) → IsMove l c k → there_and_back (motion l p c k) ≤ p.period
  pub apart : (c k c' k' : ℕ) (q : ℤ) → IsMove l c k → IsMove l c' k' → IsBefore c k c' k'
      → IsForbidden l (motion l p c k) (p.hoist c k) (motion l p c' k') (p.hoist c' k') (between p c k c' k' q) → ⊥

-- ---- from the orders of moves

-- an offset that holds is one of the clash
forbidden_fails : (o : Option Span) (Holds : ℤ → Type 0) (z : ℤ) → IsSpanOf o Holds → Holds z
    → IsSome o × IsSomeAnd o (λ s. (neg_ℤ s.before <ℤ z) × (z <ℤ s.after))
forbidden_fails None Holds z span h = absurd (span z h)
forbidden_fails (Some s) Holds z span h = (refl, (span z).0 h)

pub start_apart : (l : LineData) (path : List Decision) (p : Timetable) (ticks : ℕ → ℤ) → IsLine l → Settled l path p
    → Timed l path ticks p.period
    → ((c k : ℕ) → IsMove l c k → pos (p.start c k) ≡ ticks (move_number l c k) +ℤ pos l.load) → StartApart l p
start_apart l path p ticks line s t starts = record {
  repeat = λ c k move. repeat_row l path p ticks p.period c k s t move;
  apart = λ c k c' k' q move move' before bad.
      let a : MoveId = record { carrier = c; step = k } in
      let b : MoveId = record { carrier = c'; step = k' } in
      let m = motion l p c k in
      let m' = motion l p c' k' in
      let h = p.hoist c k in
      let h' = p.hoist c' k' in
      let z : ℤ = offset_of l ticks p.period a b q in
      let Holds : ℤ → Type 0 = λ o. IsForbidden l m h m' h' o in
      let e : between p c k c' k' q ≡ z =
      same (p.start c k) (p.start c' k') (ticks (move_number l c k)) (ticks (move_number l c' k')) (q *ℤ pos p.period) l.load (starts c k move)
      (starts c' k' move') in
      let span : IsSpanOf (clash_of l m h m' h') Holds =
      has_no_holes l m h m' h' (is_motion l p c k line s.routed move) (is_motion l p c' k' line s.routed move') in
      let P : Option Span → Type 0 = λ o. IsSome o × IsSomeAnd o (λ x. (neg_ℤ x.before <ℤ z) × (z <ℤ x.after)) in
      let found : P (clash_below l path a b) =
      subst P (sym (clash_own l path p a b s move move')) (forbidden_fails (clash_of l m h m' h') Holds z span (subst Holds e bad)) in
      t.orders (HoistOrder a b q) tt (record { first = move; second = move'; before = before; clash = found.0 }) found.1;
}
  where
    same : (s s' : ℕ) (t t' ahead : ℤ) (load : ℕ) → pos s ≡ t +ℤ pos load → pos s' ≡ t' +ℤ pos load
        → (pos s' +ℤ ahead) -ℤ pos s ≡ (t' +ℤ ahead) -ℤ t
    same s s' t t' ahead load e f = omega (arith, ints, e, f)

-- ---- one move, again and again

-- a difference of whole numbers, times a natural one
pub times_less : (a b : ℤ) (n : ℕ) → (a -ℤ b) *ℤ pos n ≡ a *ℤ pos n -ℤ b *ℤ pos n
times_less a b n =
    let whole : (a -ℤ b) +ℤ b ≡ a = omega (arith, ints) in
    let sum : ((a -ℤ b) +ℤ b) *ℤ pos n ≡ (a -ℤ b) *ℤ pos n +ℤ b *ℤ pos n = omega (arith, ints, ap (λ (m : ℕ). m * n) (sum_is_lem (a -ℤ b) b)) in
    let at : ((a -ℤ b) +ℤ b) *ℤ pos n ≡ a *ℤ pos n = ap (λ (y : ℤ). y *ℤ pos n) whole in
    omega (arith, ints, sum, at)

-- so many whole periods are one at least
pub some_periods : (q : ℤ) (n : ℕ) → pos 0 <ℤ q → pos n ≤ℤ (q *ℤ pos n)
some_periods q n some =
    let m : ℕ = unsigned_abs q in
    let e : q ≡ pos m = omega (arith, ints, some) in
    let f : q *ℤ pos n ≡ pos (m * n) = ap (λ (y : ℤ). y *ℤ pos n) e in
    omega (arith, ints, f, mul-le 1 n m n (omega (arith, ints, e, some)) (omega arith))

-- a stretch that is no longer than a period never meets its copies
pub no_copy : (b e n z z' t : ℕ) → e ≤ b + n → b + z * n ≤ t → t < e + z * n → b + z' * n ≤ t → t < e + z' * n → z ≡ z'
no_copy b e n z z' t short p1 p2 p3 p4 =
    ⊎_elim
    (λ lt. let far = mul-le (suc z) n z' n (omega (arith, lt)) (omega arith) in absurd (omega (arith, far, short, p2, p3)))
    (λ ge.
    ⊎_elim
    (λ gt. let far = mul-le (suc z') n z n (omega (arith, gt)) (omega arith) in absurd (omega (arith, far, short, p1, p4)))
    (λ le. omega (arith, ge, le))
    (cases_lt z' z))
    (cases_lt z z')

-- two ticks of a motion and of its copy a period later or more
abbrev pub Slow : Motion → ℕ → ℕ → ℕ → Type 0
Slow m u v w = abs_diff (place m u) (place m v) ≤ w

pub slow_self : (m : Motion) (u v w : ℕ) → abs_diff u v ≤ w → Slow m u v w
slow_self m u v w le =
    ⊎_elim
    (λ lt. let e = goes_slowly m u v (omega (arith, lt)) in omega (arith, e, le, lt))
    (λ ge. let e = goes_slowly m v u ge in omega (arith, e, le, ge))
    (cases_lt u v)

-- from tick u of a motion to tick v of the same motion a period later
pub slow_copy : (m : Motion) (u v period w : ℕ) → u ≤ duration m → v ≤ duration m → there_and_back m ≤ period
    → period + v ≤ w + u → Slow m u v w
slow_copy m u v period w le le' fits far =
    let a = goes_slowly m u (duration m) le in
    let b = goes_slowly m 0 v (omega arith) in
    slow (place m u) (place m v) m.from m.to u v (duration m) (place m 0) (place m (duration m)) period w (at_start m) (at_end m) a.0 a.1 b.0 b.1 fits far le
  where
    slow : (x y from to u v d first last period w : ℕ) → first ≡ from → last ≡ to → last ≤ x + (d - u)
        → x ≤ last + (d - u) → y ≤ first + (v - 0)
        → first ≤ y + (v - 0)
        → d + abs_diff to from ≤ period → period + v ≤ w + u → u ≤ d → abs_diff x y ≤ w
    slow x y from to u v d first last period w e f a a' b b' fits far le = omega (arith, e, f, a, a', b, b', fits, far, le)
