-- The decisions of a path in words.
use Rattle.std.specs.Prelude.{
  ℕ,
  ◌+◌,
  ◌<◌,
  ◌==◌,
  if◌then◌else◌,
  List,
  [],
  ◌++◌,
  codes,
  decimal,
  get_or,
  length,
  map,
  Option,
  Some,
  None,
  ℤ,
  pos,
  negsuc,
}
use Rattle.hoist_base.specs.LineData.{LineData, stage, tank, IsMove, IsStageOf}
use Rattle.hoist_base.specs.declared.ids.MoveId.{MoveId}
use Rattle.hoist_base.specs.declared.ids.VisitId.{VisitId}
use Rattle.choice_tree.specs.declared.question.Question.{Question}
use Rattle.choice_tree.specs.declared.question.Question.TheVariants.{Assign, TankOrder, HoistOrder, Choose}
use Rattle.choice_tree.specs.declared.question.Decision.{Decision}
use Rattle.path_constraints.specs.Hoists.{hoist_below}
use Rattle.markup.specs.declared.words.Tag.TheVariants as tags
use Rattle.markup.specs.declared.words.Key.TheVariants as keys
use Rattle.markup.specs.Forms.{Form, fresh, having, saying, holding_all}

-- a choice of a hoist is of a move of the line, a choice of a tank is one of its stage's
abbrev pub IsAnswer : LineData → Question → ℕ → Type 0
IsAnswer l (Assign m) child = IsMove l m.carrier m.step
IsAnswer l (TankOrder a b q) child = Unit {0}
IsAnswer l (HoistOrder a b q) child = Unit {0}
IsAnswer l (Choose v) child = IsStageOf l v.stage × (child < length (stage l v.stage).tanks)

-- a word, a carrier, another word and a stage
abbrev pub carrier_words : List ℕ → ℕ → List ℕ → ℕ → List ℕ
carrier_words word c between k = word ++ (decimal c ++ (between ++ decimal k))

-- a visit by its carrier and its stage, a move by its carrier and the stage to which it is brought
abbrev pub visit_words : VisitId → List ℕ
visit_words v = carrier_words (codes "carrier ") v.carrier (codes " at stage ") v.stage

abbrev pub move_words : MoveId → List ℕ
move_words m = carrier_words (codes "carrier ") m.carrier (codes " to stage ") (m.step + 1)

-- by how many periods the carrier of the second one comes later
abbrev pub shift_words : ℤ → List ℕ
shift_words (pos n) = if n == 0 then [] else codes ", periods later: " ++ decimal n
shift_words (negsuc n) = codes ", periods earlier: " ++ decimal (n + 1)

-- child 0 of an order has the first one first, child 1 the second
abbrev pub order_words : ℕ → List ℕ → List ℕ → List ℕ
order_words child first second =
    if child == 0 then first ++ (codes "; then " ++ second) else second ++ (codes "; then " ++ first)

-- the hoist that makes a move
abbrev pub hoist_words : Option ℕ → List ℕ
hoist_words None = codes "a hoist"
hoist_words (Some h) = codes "hoist " ++ decimal h

-- the tank with a number in its stage's list
abbrev pub tank_name : LineData → ℕ → ℕ → List ℕ
tank_name l k number = (tank l (get_or (stage l k).tanks number 0)).name

-- what a child of a question says, where this path leads to it
abbrev pub child_words : LineData → List Decision → Question → ℕ → List ℕ
child_words l path (Assign m) child =
    hoist_words (hoist_below l path m.carrier m.step) ++ (codes " brings " ++ move_words m)
child_words l path (TankOrder a b q) child =
    codes "in the tank: " ++ order_words child (visit_words a) (visit_words b ++ shift_words q)
child_words l path (HoistOrder a b q) child =
    codes "on the track: " ++ order_words child (move_words a) (move_words b ++ shift_words q)
child_words l path (Choose v) child = tank_name l v.stage child ++ (codes " takes " ++ visit_words v)

-- a decision of a path
abbrev pub decision_words : LineData → List Decision → Decision → List ℕ
decision_words l path d = child_words l path d.question d.child

abbrev pub decision_item : LineData → List Decision → Decision → Form
decision_item l path d = saying (fresh tags.Item) (decision_words l path d)

-- all decisions of a path, in their order
abbrev pub decision_list : LineData → List Decision → Form
decision_list l path = holding_all (having (fresh tags.List) keys.Class (codes "choices")) (map (decision_item l path) path)
