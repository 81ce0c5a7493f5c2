-- Siblings of a timetable, and by how many ticks they could have all windows narrowed.
use Rattle.std.specs.Prelude.{◌≡◌, ℕ, ◌+◌, ◌≤◌, ℤ, IfSome}
use Rattle.hoist_base.specs.LineData.{LineData, stage, IsMove, IsVisit}
use Rattle.hoist_base.specs.declared.ids.MoveId.{MoveId}
use Rattle.hoist_base.specs.declared.ids.VisitId.{VisitId}
use Rattle.line_model.specs.Motion.{duration}
use Rattle.line_model.specs.Timetable.{Timetable, motion}
use Rattle.line_model.specs.Legal.{IsLegal}
use Rattle.window_margin.specs.Orders.{UseOneTank, CanCollide, IsVisitOrder, IsMoveOrder}

-- A sibling of a legal timetable is one with its period, hoists and tanks in which each two visits of one tank and each
-- two moves that can collide come in the same order. Such a pair has exactly one order in every legal timetable.
pub record IsSibling (l : LineData) (p s : Timetable) : Type 0 where
  pub legal : IsLegal l s
  pub period : s.period ≡ p.period
  pub hoists : (c k : ℕ) → IsMove l c k → s.hoist c k ≡ p.hoist c k
  pub tanks : (c k : ℕ) → IsVisit l c k → s.tank c k ≡ p.tank c k
  pub visits : (a b : VisitId) (q : ℤ) → UseOneTank l p a b → IsVisitOrder l p a b q → IsVisitOrder l s a b q
  pub moves : (a b : MoveId) (q : ℤ) → CanCollide l p a b → IsMoveOrder l p a b q → IsMoveOrder l s a b q

-- every dwell at an inner stage is at least so many ticks above the least one, and below the greatest one where there
-- is one
pub record HasMargin (l : LineData) (s : Timetable) (ticks : ℕ) : Type 0 where
  pub least : (c k : ℕ) → IsMove l c (k + 1)
      → s.start c k + duration (motion l s c k) + ((stage l (k + 1)).min + ticks) ≤ s.start c (k + 1)
  pub greatest : (c k : ℕ) → IsMove l c (k + 1)
      → IfSome (stage l (k + 1)).max (λ m. s.start c (k + 1) + ticks ≤ s.start c k + duration (motion l s c k) + m)

-- the greatest margin that siblings of the timetable have
pub record IsMargin (l : LineData) (p : Timetable) (ticks : ℕ) : Type 0 where
  pub some : (s : Timetable) × IsSibling l p s × HasMargin l s ticks
  pub none_more : (s : Timetable) (more : ℕ) → IsSibling l p s → HasMargin l s more → more ≤ ticks
