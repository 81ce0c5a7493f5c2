-- The answer of a search without a split to spend.
use Rattle.std.proofs.Common.{◌≡◌, ℕ, zero, suc, ◌<◌, ◌≤◌, ◌^◌, ◌∙◌, refl, sym, ap, subst, arith, List, [], ◌∷◌, length, None}
use Rattle.hoist_base.specs.LineData.{LineData}
use Rattle.hoist_base.specs.Valid.{IsLine}
use Rattle.line_model.specs.Legal.{NoneBelow}
use Rattle.choice_tree.specs.declared.node.Node.TheVariants.{Left}
use Rattle.choice_tree.specs.Nodes.{node_at, children_of, IsChild}
use Rattle.choice_tree.specs.Trees.{IsTree}
use Rattle.choice_tree.proofs.SplitLemmas.{root_tree}
use Rattle.branch_rounds.specs.declared.outcome.Outcome.{Outcome}
use Rattle.branch_rounds.specs.Grown.{IsReached, IsGrown}
use Rattle.answer_text.specs.declared.answer.Verdict.{Verdict}
use Rattle.answer_text.specs.declared.answer.Verdict.TheVariants.{Unfinished}
use Rattle.answer_text.specs.declared.answer.Answer.{Answer}
use Rattle.answer_text.specs.Answers.{answer_text, IsWritable}
use Rattle.answer_read.specs.Answers.{IsAnswer, IsNumbered}
use Rattle.cert_checker.specs.Reasons.{split_count}
use Rattle.cert_checker.specs.Rules.{KeepsRules}
use Rattle.read_back.proofs.Lengths.{text_is_short}
use Rattle.solve_line.specs.AnswerOf.{IsSolution, verdict_by}
use Rattle.solve_line.specs.Claims.{KeepsClaim, ClaimOf}
use Rattle.prove_cli.specs.Proved.{IsKept}

-- ---- the search

-- without a split to spend no round is made: the root alone is left
none_reached : (l : LineData) (o : Outcome) (grown : IsGrown l 0 o) (rounds : ℕ) → IsReached l 0 rounds grown.end
    → (grown.end.tree ≡ Left None ∷ []) × (length grown.end.frontier ≡ 1)
none_reached l o grown zero reached = rw reached (refl, refl)
none_reached l o grown (suc rounds) (before, xs, more, round, is) = absurd (omega (arith, round.unspent))

root_alone : (l : LineData) (a : Answer) → IsSolution l 0 a → a.tree ≡ Left None ∷ []
root_alone l a (o, grown, is) = is.tree ∙ grown.tree ∙ (none_reached l o grown grown.rounds grown.reached).0

-- so the answer is open
pub is_open : (l : LineData) (a : Answer) → IsSolution l 0 a → a.verdict ≡ Unfinished
is_open l a (o, grown, is) =
    let one : o.left ≡ 1 = grown.left ∙ (none_reached l o grown grown.rounds grown.reached).1 in
    is.verdict ∙ ap (λ (n : ℕ). verdict_by n o.best) one

-- its text can be read, and it keeps all rules
pub unsearched_kept : (l : LineData) (a : Answer) (text : List ℕ) → IsLine l → IsSolution l 0 a → IsWritable l a
    → KeepsRules l a
    → text ≡ answer_text l a → IsKept l text a
unsearched_kept l a text line solution writable rules is =
    let root = root_alone l a solution in
    let answer : IsAnswer l a = record { tree = subst IsTree (sym root) root_tree; writable = writable } in
    let few : split_count a.tree ≡ 0 = ap split_count root in
    let short = text_is_short l a line answer (omega (arith, few)) in
    record {
      small = subst (λ (xs : List ℕ). length xs ≤ 2 ^ 30) (sym is) short;
      text = record { answer = answer; numbered = subst IsNumbered (sym root) refl; text = is };
      rules = rules;
    }

pub none_below : (l : LineData) (a : Answer) → IsSolution l 0 a → KeepsClaim l 0 a → NoneBelow l a.bound
none_below l a solution keeps =
    let claim : ClaimOf l 0 Unfinished a = subst (λ (v : Verdict). ClaimOf l 0 v a) (is_open l a solution) keeps in
    claim.none_below
