-- The section of a report that says why there is no shorter period.
use Rattle.std.specs.Prelude.{
  ◌≡◌,
  ◌⊎◌,
  ℕ,
  nat_le,
  if◌then◌else◌,
  List,
  [],
  ◌∷◌,
  ◌++◌,
  codes,
  decimal,
  Option,
  option_map,
}
use Rattle.hoist_base.specs.LineData.{LineData}
use Rattle.choice_tree.specs.declared.question.Decision.{Decision}
use Rattle.choice_tree.specs.declared.constraint.Constraint.{Constraint}
use Rattle.choice_tree.specs.Nodes.{node_at, IsPathTo}
use Rattle.answer_text.specs.declared.answer.Answer.{Answer}
use Rattle.markup.specs.declared.words.Tag.TheVariants as tags
use Rattle.markup.specs.declared.words.Key.TheVariants as keys
use Rattle.markup.specs.Forms.{Form, fresh, having, saying, holding}
use Rattle.walk_words.specs.Walks.{walk_table}
use Rattle.report_reason.specs.Decisions.{decision_list}
use Rattle.report_reason.specs.Nearest.{setting_walk, IsNearest, NoneSets}

abbrev pub paragraph : List ℕ → Form
paragraph words = saying (fresh tags.Paragraph) words

unfoldable pub heading : Form
heading = saying (fresh tags.Subheading) (codes "Why not faster")

-- what the whole tree proves
unfoldable pub proved : ℕ → Form
proved bound = paragraph (codes "No timetable of this line has a period below " ++ (decimal bound ++ codes " ticks."))

-- the heading of the section and what the tree proves
abbrev pub opening : ℕ → Form
opening bound = holding (holding (having (fresh tags.Division) keys.Class (codes "reason")) heading) (proved bound)

-- that a branch sets the bound
unfoldable pub branch_words : ℕ → Form
branch_words bound =
    paragraph
    (codes "Every branch of the tree of choices refutes all shorter periods, and this is the first one that leaves "
    ++ (decimal bound ++ codes " ticks open:"))

abbrev pub branch_opening : ℕ → Form
branch_opening bound = holding (opening bound) (branch_words bound)

-- that no decision leads to the branch
unfoldable pub no_choice : Form
no_choice = paragraph (codes "No choice has to be made for that.")

-- the decisions that lead to the branch, or that there is none
abbrev pub choices : LineData → List Decision → Form
choices l [] = no_choice
choices l (d ∷ ds) = decision_list l (d ∷ ds)

-- that the branch's walk follows
unfoldable pub walk_intro : Form
walk_intro = paragraph (codes "There these constraints lead from the start of a move back to it:")

-- the section of an answer with a branch that sets the bound: the branch's decisions and its walk
abbrev pub branch_section : LineData → ℕ → List Decision → List Constraint → Form
branch_section l bound path walk =
    holding (holding (holding (branch_opening bound) (choices l path)) walk_intro) (walk_table l path walk)

-- why no branch is shown: every period is at least one tick; or else each branch refutes the bound too
unfoldable pub none_words : ℕ → Form
none_words bound =
    if nat_le bound 1 then paragraph (codes "No period is below one tick, so there is no more to show.")
    else paragraph
    (codes "Every branch of the tree of choices refutes "
    ++ (decimal bound ++ codes " ticks too, or has a move that no hoist can make; so none of them sets the bound."))

abbrev pub none_section : ℕ → Form
none_section bound = holding (opening bound) (none_words bound)

-- what is shown of a node: the walk that sets the bound, below the node's path
abbrev pub IsSectionAt : LineData → Answer → ℕ → Option Form → Type 0
IsSectionAt l a node section =
    (path : List Decision) × IsPathTo a.tree node path
    × (section ≡ option_map (branch_section l a.bound path) (setting_walk l path a.bound (node_at a.tree node)))

-- the section shows the first branch that sets the bound
pub record ShowsBranch (l : LineData) (a : Answer) (e : Form) : Type 0 where
  pub number : ℕ
  pub path : List Decision
  pub walk : List Constraint
  pub nearest : IsNearest l a number path walk
  pub is : e ≡ branch_section l a.bound path walk

-- or it says that there is none
abbrev pub IsReason : LineData → Answer → Form → Type 0
IsReason l a e = ShowsBranch l a e ⊎ (NoneSets l a × (e ≡ none_section a.bound))
