-- The answer of an outcome keeps the checker's rules.
use Rattle.std.proofs.Common.{◌≡◌, ℕ, zero, suc, ◌+◌, ◌≤◌, ◌<◌, refl, sym, ap, ◌∙◌, arith, List, [], ◌∷◌, Option, Some, None, IfSome, Bool, cond}
use Rattle.hoist_base.specs.LineData.{LineData}
use Rattle.line_model.specs.Legal.{IsLegal}
use Rattle.timetable.specs.TimetableData.{TimetableData, timetable_of}
use Rattle.choice_tree.specs.declared.node.Node.{Node}
use Rattle.choice_tree.specs.declared.node.Node.TheVariants as nodes
use Rattle.path_constraints.specs.Proves.{Proves}
use Rattle.node_expand.specs.declared.solved.Solved.{Solved}
use Rattle.branch_rounds.specs.Grown.{cap_of}
use Rattle.branch_rounds.specs.Counted as search
use Rattle.cert_checker.specs.Reasons as checker
use Rattle.cert_checker.specs.Rules.{KeepsRules}
use Rattle.solve_line.specs.AnswerOf.{IsPlanOr}
use Rattle.solve_line.proofs.Claimed.{answer_with}

-- the search and the checker count the same splits
same_split : (n : Node) → search.is_split n ≡ checker.is_split n
same_split (nodes.Split question children) = refl
same_split (nodes.Closed low high) = refl
same_split (nodes.Stuck m) = refl
same_split (nodes.Solved low) = refl
same_split (nodes.Left low) = refl

same_count : (tree : List Node) → search.split_nodes tree ≡ checker.split_count tree
same_count [] = refl
same_count (n ∷ ns) =
    let one : cond (search.is_split n) 1 0 + search.split_nodes ns ≡ cond (checker.is_split n) 1 0 + search.split_nodes ns =
    ap (λ (b : Bool). cond b 1 0 + search.split_nodes ns) (same_split n) in
    omega (arith, one, same_count ns)

pub keeps_rules : (l : LineData) (left splits bound : ℕ) (best : Option Solved) (tree : List Node) (t : Option TimetableData)
    → (left ≡ 0 → bound ≡ cap_of l best) → bound ≤ cap_of l best → search.split_nodes tree ≡ splits
    → (left ≡ 0 → search.NoneLeft tree) → (0 < left → search.SomeLeft tree) → Proves l tree bound → IsPlanOr l best t
    → IfSome t (λ d. IsLegal l (timetable_of d))
    → KeepsRules l (answer_with (record { tree = tree; best = best; bound = bound; splits = splits; left = left }) t)
keeps_rules l (suc left) splits bound None tree None whole most counted none some proves plan legal =
    record { claim = most; splits = sym counted ∙ same_count tree; left = some (omega arith); legal = legal; proves = proves }
keeps_rules l (suc left) splits bound (Some s) tree (Some d) whole most counted none some proves plan legal =
    record { claim = omega (arith, most, plan.period); splits = sym counted ∙ same_count tree; left = some (omega arith); legal = legal; proves = proves }
keeps_rules l zero splits bound None tree None whole most counted none some proves plan legal =
    record { claim = whole refl; splits = sym counted ∙ same_count tree; left = none refl; legal = legal; proves = proves }
keeps_rules l zero splits bound (Some s) tree (Some d) whole most counted none some proves plan legal =
    record { claim = whole refl ∙ sym plan.period; splits = sym counted ∙ same_count tree; left = none refl; legal = legal; proves = proves }
keeps_rules l left splits bound None tree (Some d) whole most counted none some proves plan legal = absurd plan
keeps_rules l left splits bound (Some s) tree None whole most counted none some proves plan legal = absurd plan
