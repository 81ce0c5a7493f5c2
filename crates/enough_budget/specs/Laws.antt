-- How long the paths of a search can be.
use Rattle.std.specs.Prelude.{◌≡◌, ℕ, ◌<◌, ◌≤◌, List, length}
use Rattle.hoist_base.specs.LineData.{LineData}
use Rattle.hoist_base.specs.Valid.{IsLine}
use Rattle.choice_tree.specs.declared.question.Question.{Question}
use Rattle.choice_tree.specs.declared.question.Decision.{Decision}
use Rattle.path_constraints.specs.Tanks.{decision_at}
use Rattle.path_constraints.specs.Questions.{child_count}
use Rattle.enough_budget.specs.Asked.{IsAskedBelow, IsAskedPath}
use Rattle.enough_budget.specs.Depth.{depth, most_children}

-- a question that is asked below a path isn't asked on it
abbrev pub NeverAgain : Type 0
NeverAgain =
    (l : LineData) (path : List Decision) (question : Question) (i : ℕ) → IsLine l → IsAskedPath l path → IsAskedBelow l path question → i < length path
    → (decision_at path i).question ≡ question → ⊥

-- it has two children at least, and no more than a question of the line can have
abbrev pub HasFewChildren : Type 0
HasFewChildren =
    (l : LineData) (path : List Decision) (question : Question) → IsLine l → IsAskedPath l path → IsAskedBelow l path question
    → (2 ≤ child_count l path question) × (child_count l path question ≤ most_children l)

-- a path below which a question is asked is shorter than the depth
abbrev pub StaysAbove : Type 0
StaysAbove =
    (l : LineData) (path : List Decision) (question : Question) → IsLine l → IsAskedPath l path → IsAskedBelow l path question
    → length path < depth l
