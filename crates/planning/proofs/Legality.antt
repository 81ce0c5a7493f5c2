-- A timetable with the ticks, tanks and hoists of a solved path, and the lowest paths through all that its moves fix,
-- is legal.
use Rattle.std.proofs.Common.{◌≡◌, ℕ, ◌+◌, ◌-◌, ◌<◌, ◌≤◌, List, length, ap, ℤ, pos, ◌+ℤ◌, ◌≤ℤ◌, arith, Some, None}
use Rattle.std.specs.Prelude.{Option, IfSome}
use Rattle.std.proofs.lemmas.Int.{ints}
use Rattle.hoist_base.specs.LineData.{LineData, stage, move_number, IsMove}
use Rattle.hoist_base.specs.Valid.{IsLine}
use Rattle.line_model.specs.Motion.{duration, place}
use Rattle.line_model.specs.Timetable.{Timetable, position, motion}
use Rattle.line_model.specs.Legal.{IsLegal, IsTrack, HasWindows, AreNumbered}
use Rattle.choice_tree.specs.declared.question.Decision.{Decision}
use Rattle.planning.proofs.Choices.{Settled}
use Rattle.planning.proofs.Rows.{Timed, least_row, greatest_row, entry_row, around_row}
use Rattle.planning.proofs.Rides.{start_apart}
use Rattle.planning.proofs.Agreement.{carried_alone}
use Rattle.planning.proofs.Holding.{Starts, held_alone}

most : (o : Option ℕ) (a b : ℤ) (s s' d load : ℕ) → pos s ≡ a +ℤ pos load → pos s' ≡ b +ℤ pos load
    → IfSome o (λ m. b ≤ℤ (a +ℤ pos (d + m)))
    → IfSome o (λ m. s' ≤ s + d + m)
most None a b s s' d load e f h = tt
most (Some m) a b s s' d load e f h = omega (arith, ints, e, f, h)

windows : (l : LineData) (path : List Decision) (p : Timetable) (ticks : ℕ → ℤ) → Settled l path p
    → Timed l path ticks p.period → Starts l p ticks
    → HasWindows l p
windows l path p ticks s t starts = record {
  least = λ c k move.
      late_enough (ticks (move_number l c k)) (ticks (move_number l c (k + 1))) (p.start c k) (p.start c (k + 1)) (duration (motion l p c k))
      (stage l (k + 1)).min l.load
      (starts.start c k (before c k move)) (starts.start c (k + 1) move) (least_row l path p ticks p.period c k s t move);
  greatest = λ c k move.
      most (stage l (k + 1)).max (ticks (move_number l c k)) (ticks (move_number l c (k + 1))) (p.start c k) (p.start c (k + 1))
      (duration (motion l p c k)) l.load
      (starts.start c k (before c k move)) (starts.start c (k + 1) move) (greatest_row l path p ticks p.period c k s t move);
  load = λ c lt. omega (arith, starts.put c lt);
  unload = λ c lt. omega (arith, starts.off c lt);
}
  where
    before : (c k : ℕ) → IsMove l c (k + 1) → IsMove l c k
    before c k move = (move.0, omega (arith, move.1))

    late_enough : (a b : ℤ) (s s' d least load : ℕ) → pos s ≡ a +ℤ pos load → pos s' ≡ b +ℤ pos load
        → (a +ℤ pos (d + least)) ≤ℤ b → s + d + least ≤ s'
    late_enough a b s s' d least load e f h = omega (arith, ints, e, f, h)

numbered : (l : LineData) (path : List Decision) (p : Timetable) (ticks : ℕ → ℤ) → IsLine l
    → Timed l path ticks p.period → Starts l p ticks → AreNumbered l p
numbered l path p ticks line t starts = record {
  rising = λ c lt.
      let here : c < l.degree = omega (arith, lt) in
      after (ticks (move_number l c 0)) (ticks (move_number l (c + 1) 0)) (p.start c 0) (p.start (c + 1) 0) (p.put c) (p.put (c + 1)) l.load (stage l 0).lift
      (starts.start c 0 (here, first)) (starts.start (c + 1) 0 (lt, first)) (starts.put c here) (starts.put (c + 1) lt)
      (entry_row l path ticks p.period c t lt) some;
  around =
      let last : ℕ = l.degree - 1 in
      let there : last < l.degree = omega (arith, line.limits.degree.0) in
      let zero_is : ticks 0 ≡ ticks (move_number l 0 0) = ap ticks (omega arith) in
      next (ticks (move_number l last 0)) (ticks 0) (ticks (move_number l 0 0)) (p.start last 0) (p.start 0 0) (p.put last) (p.put 0) l.load
      (stage l 0).lift p.period zero_is
      (starts.start last 0 (there, first)) (starts.start 0 0 (line.limits.degree.0, first)) (starts.put last there) (starts.put 0 line.limits.degree.0)
      (around_row l path ticks p.period last t (omega (arith, line.limits.degree.0))) some;
}
  where
    first : 0 + 1 < length l.stages
    first = omega (arith, line.limits.stages.0)

    some : 1 ≤ (stage l 0).lift
    some = (line.times.lift 0 first).0

    after : (a b : ℤ) (s s' put put' load lift : ℕ) → pos s ≡ a +ℤ pos load → pos s' ≡ b +ℤ pos load → put + load ≡ s
        → put' + load ≡ s'
        → (a +ℤ pos (load + lift)) ≤ℤ b → 1 ≤ lift → put < put'
    after a b s s' put put' load lift e f g h row some = omega (arith, ints, e, f, g, h, row, some)

    next : (a b b' : ℤ) (s s' put put' load lift period : ℕ) → b ≡ b' → pos s ≡ a +ℤ pos load → pos s' ≡ b' +ℤ pos load
        → put + load ≡ s → put' + load ≡ s'
        → (a +ℤ pos (load + lift)) ≤ℤ (b +ℤ pos period) → 1 ≤ lift → put < put' + period
    next a b b' s s' put put' load lift period z e f g h row some = omega (arith, ints, z, e, f, g, h, row, some)

-- the paths keep to the track and follow all motions
pub record Follows (l : LineData) (p : Timetable) : Type 0 where
  pub track : IsTrack l p
  pub hoist : (c k : ℕ) → IsMove l c k → p.hoist c k < l.hoists
  pub along : (c k u : ℕ) → IsMove l c k → u ≤ duration (motion l p c k)
      → position p (p.hoist c k) (p.start c k + u) ≡ place (motion l p c k) u

pub is_legal : (l : LineData) (path : List Decision) (p : Timetable) (ticks : ℕ → ℤ) → IsLine l → 1 ≤ p.period
    → Settled l path p → Timed l path ticks p.period
    → Starts l p ticks → Follows l p → IsLegal l p
is_legal l path p ticks line some s t starts follows = record {
  period = some;
  routed = s.routed;
  track = follows.track;
  carried = record {
    hoist = follows.hoist;
    along = follows.along;
    alone = carried_alone l p (start_apart l path p ticks line s t starts.start);
  };
  held = held_alone l path p ticks line s t starts;
  windows = windows l path p ticks s t starts;
  numbered = numbered l path p ticks line t starts;
}
