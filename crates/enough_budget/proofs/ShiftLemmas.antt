-- By how many periods the second of an order is moved that ticks leave open.
use Rattle.std.proofs.Common.{◌≡◌, ℕ, ◌+◌, ◌*◌, ◌<◌, ◌≤◌, List, arith, ℤ, pos}
use Rattle.std.specs.Prelude.{◌*ℤ◌, ◌<ℤ◌, neg_ℤ, unsigned_abs}
use Rattle.std.proofs.lemmas.Int.{ints, by_lt_z}
use Rattle.std.proofs.lemmas.Nat.{mul-le}
use Rattle.list_facts.proofs.Products.{times_mono}
use Rattle.hoist_base.specs.LineData.{LineData, last_step, IsMove, IsVisit}
use Rattle.hoist_base.specs.Valid.{IsLine}
use Rattle.hoist_base.specs.declared.ids.MoveId.{MoveId}
use Rattle.hoist_base.specs.declared.ids.VisitId.{VisitId}
use Rattle.collision_pairs.specs.declared.span.Span.{Span}
use Rattle.choice_tree.specs.declared.question.Decision.{Decision}
use Rattle.path_constraints.specs.Tanks.{low}
use Rattle.path_constraints.specs.Questions.{HoldTogether, offset_of}
use Rattle.path_constraints.proofs.SpreadLemmas.{KeepsAll}
use Rattle.path_constraints.proofs.CoverTrackLemmas.{times_back}
use Rattle.node_expand.specs.Settled.{HasTanks}
use Rattle.enough_budget.proofs.NearLemmas.{move_near, begin_near, end_near}

-- fewer ticks than so many periods are fewer periods
few_periods : (q : ℤ) (period most : ℕ) → (q *ℤ pos period) <ℤ pos (most * period)
    → neg_ℤ (pos (most * period)) <ℤ (q *ℤ pos period)
    → unsigned_abs q < most
few_periods q period most below above =
    let all : pos most *ℤ pos period ≡ pos (most * period) = omega (arith, ints) in
    by_lt_z {P = unsigned_abs q < most} q (pos most)
    (λ less.
    by_lt_z {P = unsigned_abs q < most} (neg_ℤ (pos most)) q
    (λ more. omega (arith, ints, less, more))
    (λ le. absurd (omega (arith, ints, above, all, times_back (pos most) period, times_mono q (neg_ℤ (pos most)) period le))))
    (λ ge. absurd (omega (arith, ints, below, all, times_mono (pos most) q period ge)))

-- two visits that hold their tank at one tick
pub tank_shift : (l : LineData) (path : List Decision) (s : ℕ → ℤ) (period : ℕ) (a b : VisitId) (q : ℤ) → IsLine l
    → HasTanks l path
    → KeepsAll l path s period
    → IsVisit l a.carrier a.stage → IsVisit l b.carrier b.stage → HoldTogether l (low l path) s period a b q
    → unsigned_abs q ≤ 2 * last_step l + 3
tank_shift l path s period a b q line tanks keeps first second fails =
    let begin_a = begin_near l path s period a.carrier a.stage line tanks keeps first in
    let begin_b = begin_near l path s period b.carrier b.stage line tanks keeps second in
    let end_a = end_near l path s period a.carrier a.stage line tanks keeps first in
    let end_b = end_near l path s period b.carrier b.stage line tanks keeps second in
    let all : (2 * last_step l + 4) * period ≡ last_step l * (2 * period) + 4 * period = omega arith in
    let few = few_periods q period (2 * last_step l + 4) (omega (arith, ints, fails.0, begin_b, end_a, all))
    (omega (arith, ints, fails.1, begin_a, end_b, all)) in
    omega (arith, few)

-- two moves that clash
pub hoist_shift : (l : LineData) (path : List Decision) (s : ℕ → ℤ) (period : ℕ) (a b : MoveId) (q : ℤ) (span : Span) (size : ℕ)
    → IsLine l → HasTanks l path
    → KeepsAll l path s period
    → 1 ≤ period → IsMove l a.carrier a.step → IsMove l b.carrier b.step → unsigned_abs span.after ≤ size
    → unsigned_abs span.before ≤ size
    → neg_ℤ span.before <ℤ offset_of l s period a b q → offset_of l s period a b q <ℤ span.after
    → unsigned_abs q ≤ 2 * last_step l + 3 + size
hoist_shift l path s period a b q span size line tanks keeps some first second after before above below =
    let start_a = move_near l path s period a.carrier a.step line tanks keeps first in
    let start_b = move_near l path s period b.carrier b.step line tanks keeps second in
    let each = mul-le size 1 size period (omega arith) some in
    let all : (2 * last_step l + 4 + size) * period ≡ last_step l * (2 * period) + 4 * period + size * period = omega arith in
    let few =
    few_periods q period (2 * last_step l + 4 + size) (omega (arith, ints, below, after, start_a.1, start_b.0, each, all))
    (omega (arith, ints, above, before, start_a.0, start_b.1, each, all)) in
    omega (arith, few)
