-- The lines of the tree.
use Rattle.std.specs.Prelude.{◌≡◌, ℕ, ◌≤◌, List, ◌++◌, codes, decimal, length, flat_map, Bool, true, false, Option, Some, None, unsigned_abs}
use Rattle.std.specs.Fmt.{signed_decimal}
use Rattle.choice_tree.specs.declared.constraint.Constraint.{Constraint}
use Rattle.choice_tree.specs.declared.question.Question.{Question}
use Rattle.choice_tree.specs.declared.question.Question.TheVariants.{Assign, TankOrder, HoistOrder, Choose}
use Rattle.choice_tree.specs.declared.node.Node.{Node}
use Rattle.choice_tree.specs.declared.node.Node.TheVariants.{Split, Closed, Stuck, Solved, Left}
use Rattle.choice_tree.specs.Nodes.{node_at}
use Rattle.choice_tree.specs.Trees.{preorder}
use Rattle.text_writing.specs.Texts.{end, pair_text}
use Rattle.answer_text.specs.Limits.{most_stage, most_children, most_shift}
use Rattle.answer_text.specs.Fields.{walk_text, IsPair, IsWalk}

-- a question, and how many children follow where that isn't always two
abbrev pub question_text : Question → ℕ → List ℕ
question_text (Choose v) children = codes "choose " ++ (pair_text v.carrier v.stage ++ (codes " " ++ (decimal children ++ end)))
question_text (TankOrder a b q) children =
    codes "tank " ++ (pair_text a.carrier a.stage ++ (codes " " ++ (pair_text b.carrier b.stage ++ (codes " " ++ (signed_decimal q ++ end)))))
question_text (HoistOrder a b q) children =
    codes "hoist " ++ (pair_text a.carrier a.step ++ (codes " " ++ (pair_text b.carrier b.step ++ (codes " " ++ (signed_decimal q ++ end)))))
question_text (Assign m) children = codes "assign " ++ (pair_text m.carrier m.step ++ (codes " " ++ (decimal children ++ end)))

-- the second walk of a closed leaf, where it has one
abbrev pub high_text : Option (List Constraint) → List ℕ
high_text None = end
high_text (Some high) = codes " high " ++ (walk_text high ++ end)

abbrev pub closed_text : Option (List Constraint) → Option (List Constraint) → List ℕ
closed_text None high = high_text high
closed_text (Some low) high = codes " low " ++ (walk_text low ++ high_text high)

-- a stuck move; where every stage has one tank, only carrier 0 is named, and its number is left out
abbrev pub stuck_text : Bool → ℕ → ℕ → List ℕ
stuck_text true c k = decimal k ++ end
stuck_text false c k = pair_text c k ++ end

abbrev pub left_text : Option (List Constraint) → List ℕ
left_text None = codes "none\n"
left_text (Some low) = walk_text low ++ end

abbrev pub node_text : Bool → Node → List ℕ
node_text single (Split question children) = codes "split " ++ question_text question (length children)
node_text single (Closed low high) = codes "closed" ++ closed_text low high
node_text single (Stuck m) = codes "closed stuck " ++ stuck_text single m.carrier m.step
node_text single (Solved low) = codes "solved " ++ (walk_text low ++ end)
node_text single (Left low) = codes "left " ++ left_text low

-- the nodes in preorder, a line each
abbrev pub tree_text : Bool → List Node → List ℕ
tree_text single nodes = flat_map (λ i. node_text single (node_at nodes i)) (preorder nodes)

-- ---- the nodes that have a line

abbrev pub IsWalkOr : Option (List Constraint) → Type 0
IsWalkOr None = Unit {0}
IsWalkOr (Some walk) = IsWalk walk

abbrev pub IsQuestionText : Bool → Question → ℕ → Type 0
IsQuestionText single (Choose v) children = (single ≡ false) × IsPair v.carrier v.stage × (children ≤ most_children)
IsQuestionText single (TankOrder a b q) children =
    IsPair a.carrier a.stage × IsPair b.carrier b.stage × (unsigned_abs q ≤ most_shift) × (children ≡ 2)
IsQuestionText single (HoistOrder a b q) children =
    IsPair a.carrier a.step × IsPair b.carrier b.step × (unsigned_abs q ≤ most_shift) × (children ≡ 2)
IsQuestionText single (Assign m) children = IsPair m.carrier m.step × (children ≤ most_children)

-- a closed leaf has a walk at least
abbrev pub AreWalks : Option (List Constraint) → Option (List Constraint) → Type 0
AreWalks None None = ⊥
AreWalks None (Some high) = IsWalk high
AreWalks (Some low) high = IsWalk low × IsWalkOr high

abbrev pub IsStuckText : Bool → ℕ → ℕ → Type 0
IsStuckText true c k = (c ≡ 0) × (k ≤ most_stage)
IsStuckText false c k = IsPair c k

abbrev pub IsNodeText : Bool → Node → Type 0
IsNodeText single (Split question children) = IsQuestionText single question (length children)
IsNodeText single (Closed low high) = AreWalks low high
IsNodeText single (Stuck m) = IsStuckText single m.carrier m.step
IsNodeText single (Solved low) = IsWalk low
IsNodeText single (Left low) = IsWalkOr low
