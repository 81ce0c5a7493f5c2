-- That each pair has one order.
use Rattle.std.specs.Prelude.{◌≡◌, ℤ}
use Rattle.hoist_base.specs.LineData.{LineData}
use Rattle.hoist_base.specs.declared.ids.MoveId.{MoveId}
use Rattle.hoist_base.specs.declared.ids.VisitId.{VisitId}
use Rattle.line_model.specs.Timetable.{Timetable}
use Rattle.line_model.specs.Legal.{IsLegal}
use Rattle.window_margin.specs.Orders.{UseOneTank, CanCollide, IsVisitOrder, IsMoveOrder}

-- one number has the property, and no other has it
abbrev pub IsOnly : (ℤ → Type 0) → Type 0
IsOnly P = (q : ℤ) × P q × ((r : ℤ) → P r → r ≡ q)

abbrev pub OneVisitOrder : Type 0
OneVisitOrder =
    (l : LineData) (p : Timetable) (a b : VisitId) → IsLegal l p → UseOneTank l p a b → IsOnly (IsVisitOrder l p a b)

abbrev pub OneMoveOrder : Type 0
OneMoveOrder =
    (l : LineData) (p : Timetable) (a b : MoveId) → IsLegal l p → CanCollide l p a b → IsOnly (IsMoveOrder l p a b)
