-- A path of one decision on an order.
use Rattle.std.proofs.Common.{ℕ, zero, suc, ◌<◌, [], ◌∷◌, arith}
use Rattle.hoist_base.specs.LineData.{LineData}
use Rattle.choice_tree.specs.declared.question.Question.{Question}
use Rattle.choice_tree.specs.declared.question.Question.TheVariants.{Assign, TankOrder, HoistOrder, Choose}
use Rattle.choice_tree.specs.declared.question.Decision.{Decision}
use Rattle.path_constraints.specs.Constraints.{IsOrder}
use Rattle.path_constraints.specs.Questions.{Fits, FitsPath, child_count}

child_of_order : (l : LineData) (q : Question) (child : ℕ) → IsOrder q → child < 2 → child < child_count l [] q
child_of_order l (Assign m) child h lt = absurd h
child_of_order l (TankOrder a b q) child h lt = lt
child_of_order l (HoistOrder a b q) child h lt = lt
child_of_order l (Choose v) child h lt = absurd h

pub fits_one : (l : LineData) (d : Decision) → Fits l [] d.question → IsOrder d.question → d.child < 2
    → FitsPath l (d ∷ [])
fits_one l d f order lt zero there = record { question = f; child = child_of_order l d.question d.child order lt }
fits_one l d f order lt (suc i) there = absurd (omega (arith, there))
