-- What an answer that keeps the checker's rules claims by its verdict.
use Rattle.std.proofs.Common.{ℕ, refl, sym, List, Option, Some, None, IfSome}
use Rattle.hoist_base.specs.LineData.{LineData}
use Rattle.hoist_base.specs.Valid.{IsLine}
use Rattle.line_model.specs.Legal.{IsLegal, NoneBelow}
use Rattle.line_laws.proofs.RunLemmas.{runs_keep_windows}
use Rattle.timetable.specs.TimetableData.{TimetableData, timetable_of}
use Rattle.choice_tree.specs.declared.node.Node.{Node}
use Rattle.path_constraints.specs.Proves.{Proves}
use Rattle.answer_text.specs.declared.answer.Verdict.{Verdict}
use Rattle.answer_text.specs.declared.answer.Verdict.TheVariants.{Optimal, Nothing, Unfinished}
use Rattle.answer_text.specs.declared.answer.Answer.{Answer}
use Rattle.cert_checker.specs.Rules.{KeepsRules, IsClaim}
use Rattle.prove_cli.specs.Proved.{ClaimBy}

-- the answer with these parts
abbrev answer_with : Verdict → ℕ → ℕ → Option TimetableData → List Node → Answer
answer_with verdict bound splits timetable tree =
    record { verdict = verdict; bound = bound; splits = splits; timetable = timetable; tree = tree }

claims : (l : LineData) (verdict : Verdict) (bound splits : ℕ) (timetable : Option TimetableData) (tree : List Node)
    → IsLine l
    → IsClaim l verdict timetable bound → IfSome timetable (λ t. IsLegal l (timetable_of t)) → NoneBelow l bound
    → Proves l tree bound
    → ClaimBy l verdict (answer_with verdict bound splits timetable tree)
claims l Optimal bound splits None tree line claim legal none proves = absurd claim
claims l Optimal bound splits (Some t) tree line claim legal none proves = record {
  timetable = t;
  is = refl;
  period = sym claim;
  legal = legal;
  runs = λ n. runs_keep_windows l (timetable_of t) n line legal;
  least = record { some = (timetable_of t, legal, sym claim); none_below = none };
  proves = proves;
}
claims l Nothing bound splits None tree line claim legal none proves =
    record { timetable = refl; bound = claim; none_below = none; proves = proves }
claims l Nothing bound splits (Some t) tree line claim legal none proves = absurd claim
claims l Unfinished bound splits timetable tree line claim legal none proves =
    record { legal = legal; none_below = none; proves = proves }

pub claim_kept : (l : LineData) (a : Answer) → IsLine l → KeepsRules l a → NoneBelow l a.bound → ClaimBy l a.verdict a
claim_kept l a line rules none = claims l a.verdict a.bound a.splits a.timetable a.tree line rules.claim rules.legal none rules.proves
