-- The answer of an outcome keeps its claim.
use Rattle.std.proofs.Common.{⊎_elim, ◌≡◌, ℕ, zero, suc, ◌<◌, ◌≤◌, refl, sym, ◌∙◌, arith, List, Option, Some, None, IfSome}
use Rattle.std.proofs.lemmas.Bool.{cases_lt}
use Rattle.hoist_base.specs.LineData.{LineData}
use Rattle.hoist_base.specs.Valid.{IsLine}
use Rattle.line_model.specs.Legal.{IsLegal, NoneBelow}
use Rattle.line_laws.proofs.RunLemmas.{runs_keep_windows}
use Rattle.timetable.specs.TimetableData.{TimetableData, timetable_of}
use Rattle.choice_tree.specs.declared.node.Node.{Node}
use Rattle.path_constraints.specs.Proves.{Proves}
use Rattle.node_expand.specs.declared.solved.Solved.{Solved}
use Rattle.enough_budget.specs.Depth.{enough_budget}
use Rattle.branch_rounds.specs.declared.outcome.Outcome.{Outcome}
use Rattle.branch_rounds.specs.Grown.{cap_of}
use Rattle.answer_text.specs.declared.answer.Answer.{Answer}
use Rattle.solve_line.specs.AnswerOf.{verdict_of, IsPlanOr}
use Rattle.solve_line.specs.Claims.{KeepsClaim}

-- the answer with these parts
abbrev pub answer_with : Outcome → Option TimetableData → Answer
answer_with o t = record { verdict = verdict_of o; bound = o.bound; splits = o.splits; timetable = t; tree = o.tree }

pub keeps_claim : (l : LineData) (budget left splits bound : ℕ) (best : Option Solved) (tree : List Node) (t : Option TimetableData)
    → IsLine l
    → (left ≡ 0 → bound ≡ cap_of l best) → (0 < left → splits ≡ budget) → (enough_budget l ≤ budget → left ≡ 0)
    → Proves l tree bound → NoneBelow l bound → IsPlanOr l best t
    → IfSome t (λ d. IsLegal l (timetable_of d))
    → KeepsClaim l budget (answer_with (record { tree = tree; best = best; bound = bound; splits = splits; left = left }) t)
keeps_claim l budget (suc left) splits bound best tree t line whole spent enough proves none plan legal =
    let small : budget < enough_budget l =
    ⊎_elim (λ lt. lt) (λ le. absurd (omega (arith, enough le))) (cases_lt budget (enough_budget l)) in
    record { splits = spent (omega arith); too_small = small; legal = legal; none_below = none; proves = proves }
keeps_claim l budget zero splits bound None tree None line whole spent enough proves none plan legal =
    record { timetable = refl; bound = whole refl; none_below = none; proves = proves }
keeps_claim l budget zero splits bound None tree (Some d) line whole spent enough proves none plan legal = absurd plan
keeps_claim l budget zero splits bound (Some s) tree None line whole spent enough proves none plan legal = absurd plan
keeps_claim l budget zero splits bound (Some s) tree (Some d) line whole spent enough proves none plan legal =
    let period : d.period ≡ bound = plan.period ∙ sym (whole refl) in
    record {
      timetable = d;
      is = refl;
      period = period;
      legal = legal;
      runs = λ n. runs_keep_windows l (timetable_of d) n line legal;
      least = record { some = (timetable_of d, legal, period); none_below = none };
      proves = proves;
    }
